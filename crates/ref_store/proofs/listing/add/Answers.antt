use Rattle.std.proofs.Common.{◌≡◌, ◌∙◌, ℕ, true, List, None, refl, ap, sym}
use Rattle.std.specs.Prelude.{string_bytes}
use Rattle.repository.specs.All.{is_branch}
use Rattle.repository.proofs.BranchNames.{branch_is_path}
use Rattle.places.specs.All.{pieces}
use Rattle.ref_store.specs.Listing.{heads_at}
use Rattle.ref_store.specs.Reading.{long_place}
use Rattle.ref_store.proofs.Gathering.{added, all_added}
use Rattle.ref_store.proofs.listing.add.Goals as goal

pub place_of-requires : goal.place_of-requires
place_of-requires c =
    branch_is_path c.as_str.result.now (ap is_branch (c.as_str.ensures.value ∙ sym c.as_bytes.ensures.value) ∙ sym c.is_branch.ensures ∙ c.if-not-is_branch.false)

pub returns-clause-adds : goal.returns-clause-adds
returns-clause-adds c = λ g kind.
    let named : is_branch (string_bytes c.args.name) ≡ true = ap is_branch (sym c.as_bytes.ensures.value) ∙ sym c.is_branch.ensures ∙ c.if-not-is_branch.false in
    let found = rw c.in-Some.is at c.in_ok-place_of.ensures.found in
    let fits : long_place (heads_at c.args.repo.now (pieces (string_bytes c.args.name))) ≡ None =
    ap (λ (p : List ℕ). long_place (heads_at c.args.repo.now (pieces p))) (sym c.as_str.ensures.value) ∙ ap long_place (sym found.1) ∙ found.0 in
    added c.args.repo.now g (string_bytes c.args.name) c.args.names.now c.insert.new.self c.args.name refl named fits c.in_ok-insert.ensures.updates (sym kind ∙ c.in-File.is)

pub returns-clause-named : goal.returns-clause-named
returns-clause-named c =
    let named : is_branch (string_bytes c.args.name) ≡ true = ap is_branch (sym c.as_bytes.ensures.value) ∙ sym c.is_branch.ensures ∙ c.if-not-is_branch.false in
    all_added c.args.names.now c.insert.new.self c.args.name named c.in_ok-insert.ensures.updates c.requires
