-- Whole commits by walks.
use Rattle.std.proofs.Common.{ℕ, List, subst}
use Rattle.places.specs.All.{Names, Ground}
use Rattle.git_objects.specs.All.{Fields}
use Rattle.git_objects.specs.declared.ids.Id.{Id}
use Rattle.object_store.specs.All.{IsCommitAt}
use Rattle.dataset.specs.Whole.{Has, IsFull, IsWhole, HasAncestor, itself, by_parent}
use Rattle.dataset.specs.Whole.{IsWholeByWalks}
use Rattle.dataset.specs.Sound.{HoldsAllIn}
use Rattle.dataset.proofs.Wholes.{commit_stays, full_stays}
use Rattle.dataset.proofs.Parents.{fields_once, ancestors_whole}

pub by_walks : (repo : Names) (c : List ℕ) (g : Ground) → IsWhole repo c g → IsWholeByWalks repo c g
by_walks repo c g whole d reaches =
    let there = ancestors_whole repo g c d reaches whole in
    let own = there.each d there.has in
    record { fields = own.fields; commit = own.commit; full = own.full }

-- a walk among more objects is one among those that were held, where these are whole
back : (repo : Names) (a b : Ground) → HoldsAllIn repo a b → (c d : List ℕ) → HasAncestor repo b c d → IsWholeByWalks repo c a → HasAncestor repo a c d
back repo a b kept c d itself whole = itself
back repo a b kept c d (by_parent fields p commit has rest) whole =
    let own = whole c itself in
    let same = fields_once repo b c fields own.fields commit (commit_stays repo a b kept c own.fields own.commit) in
    let has_own : Has own.fields.parents p = subst (λ (f : Fields). Has f.parents p) same has in
    by_parent own.fields p own.commit has_own (back repo a b kept p.0 d rest (λ e reaches. whole e (by_parent own.fields p own.commit has_own reaches)))

pub walks_stay : (repo : Names) (c : List ℕ) (a b : Ground) → HoldsAllIn repo a b → IsWholeByWalks repo c a → IsWholeByWalks repo c b
walks_stay repo c a b kept whole d reaches =
    let own = whole d (back repo a b kept c d reaches whole) in
    record { fields = own.fields; commit = commit_stays repo a b kept d own.fields own.commit; full = full_stays repo a b kept own.fields.tree.0 own.full }

pub walks_extend : (repo : Names) (c : List ℕ) (fields : Fields) (g : Ground) → IsCommitAt repo c g fields → IsFull repo fields.tree.0 g
    → ((p : Id) → Has fields.parents p → IsWholeByWalks repo p.0 g) → IsWholeByWalks repo c g
walks_extend repo c fields g commit full whole d itself = record { fields = fields; commit = commit; full = full }
walks_extend repo c fields g commit full whole d (by_parent other p found has rest) =
    whole p (subst (λ (f : Fields). Has f.parents p) (fields_once repo g c other fields found commit) has) d rest
