use Rattle.std.proofs.Common.{ℕ, List, refl, subst, sym}
use Rattle.places.specs.All.{is_name, is_path}
use Rattle.file_store.specs.All.{present}
use Rattle.acts.proofs.Reading.{read_gives}
use Rattle.ref_store.specs.Branches.{AreBranches, AreNames}
use Rattle.ref_store.proofs.NameLists.{are_branches, are_names, no_branches, no_names}
use Rattle.ref_store.proofs.listing.branches.Goals as goal

pub place_at-requires : goal.place_at-requires
unfolding is_path is_name
place_at-requires g c = refl

pub returns-in-Err-Refused-clause-reads : goal.returns-in-Err-Refused-clause-reads
returns-in-Err-Refused-clause-reads g c =
    let ground = present (g.F.Files.drive c.args.files.now) in
    let long = rw c.in-Err-Refused.field-0-is at c.in-Err-Refused.ensures in
    read_gives refl (λ told. (
      refl,
      subst (λ (names : List (List ℕ)). AreBranches c.args.repo.now ground names) (sym c.new.ensures.items)
          (no_branches c.args.repo.now ground (g.met.F.Files.grounded c.args.files.now told) c.in-Err-Refused.field-0-0 long),
    ))

pub returns-in-Err-Refused-clause-form : goal.returns-in-Err-Refused-clause-form
returns-in-Err-Refused-clause-form g c = subst (λ (names : List (List ℕ)). AreNames names) (sym c.new.ensures.items) no_names

pub returns-clause-reads : goal.returns-clause-reads
returns-clause-reads g c =
    let ground = present (g.F.Files.drive c.args.files.now) in
    let list = c.in_ok-as_list.ensures in
    let form : AreNames c.in_ok-as_list.field-0.items = are_names c.in_ok-as_list.field-0.items c.walk.new.names list.items list.ordered c.in_ok-walk.ensures.named in
    read_gives c.in_ok-walk.ensures.reads.later (λ told.
    let was = c.in_ok-walk.ensures.reads.told told in
    (was.same, are_branches c.args.repo.now ground c.in_ok-as_list.field-0.items c.new-names.result c.walk.new.names c.new-names.ensures.empty list.items form was.answer))

pub returns-clause-form : goal.returns-clause-form
returns-clause-form g c =
    let list = c.in_ok-as_list.ensures in
    are_names c.in_ok-as_list.field-0.items c.walk.new.names list.items list.ordered c.in_ok-walk.ensures.named
