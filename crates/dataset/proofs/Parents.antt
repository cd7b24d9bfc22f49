-- One commit is held under an id, and whole commits have whole ancestors.
use Rattle.std.proofs.Common.{◌≡◌, ℕ, List, Some, sym, ap, ◌∙◌, subst}
use Rattle.places.specs.All.{Names, Ground}
use Rattle.git_objects.specs.All.{Fields, IsCommitText, Object}
use Rattle.git_objects.specs.declared.objects.ObjKind.TheVariants.{Commit as CommitKind}
use Rattle.git_objects.proofs.Parsing.{commit_once}
use Rattle.object_store.specs.All.{IsCommitAt}
use Rattle.dataset.specs.Whole.{Has, IsWhole, HasAncestor, itself, by_parent}

module _ (repo : Names) (g : Ground) where
  -- one commit is held under an id
  pub fields_once : (id : List ℕ) (one two : Fields) → IsCommitAt repo id g one → IsCommitAt repo id g two → one ≡ two
  fields_once id one two a b =
      let held : Some (record { kind = CommitKind; body = a.body }) ≡ Some (record { kind = CommitKind; body = b.body }) = sym a.held ∙ b.held in
      let objects : record { kind = CommitKind; body = a.body } ≡ record { kind = CommitKind; body = b.body } = cc held in
      let body : a.body ≡ b.body = ap (λ (o : Object). o.body) objects in
      commit_once b.body one two (subst (λ (z : List ℕ). IsCommitText z one) body a.text) b.text

  -- whole commits have whole ancestors
  pub ancestors_whole : (c d : List ℕ) → HasAncestor repo g c d → IsWhole repo c g → IsWhole repo d g
  ancestors_whole c d itself whole = whole
  ancestors_whole c d (by_parent fields p commit has rest) whole =
      let own = whole.each c whole.has in
      let same = fields_once c fields own.fields commit own.commit in
      ancestors_whole p.0 d rest (record { commits = whole.commits; has = own.among p (subst (λ (f : Fields). Has f.parents p) same has); each = whole.each })
