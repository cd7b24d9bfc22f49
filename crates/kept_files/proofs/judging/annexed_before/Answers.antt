use Rattle.std.proofs.Common.{◌≡◌, Bool}
use Rattle.std.specs.Prelude.{Option, Some}
use Rattle.annex_keys.specs.All.{Matches, pointer_text}
use Rattle.git_objects.specs.declared.ids.Id.{Id}
use Rattle.kept_files.specs.declared.kept.Kept.TheVariants.{Content, Pointer}
use Rattle.kept_files.specs.Kept.{IsKept}
use Rattle.kept_files.specs.Paths.{last_name}
use Rattle.kept_files.proofs.Keeping.{holds_of_it, matches_by_own, none_points, other_content, other_pointer}
use Rattle.kept_files.proofs.Keeping.{no_content, still_content, still_pointer, this_points}
use Rattle.kept_files.proofs.judging.annexed_before.Goals as goal

pub returns-then-have_one_content : goal.returns-then-have_one_content
returns-then-have_one_content c = λ blob to_git.
    still_content blob c.args.key.now c.args.path.now c.args.bytes.now to_git
    (matches_by_own c.args.key.now c.in_ok-own.own c.args.bytes.now (last_name c.args.path.now) c.in_ok-own.ensures
    (c.have_one_content.ensures.0 c.if-have_one_content.true))

pub returns-in_default : goal.returns-in_default
returns-in_default c =
    let off : Matches c.args.key.now c.args.bytes.now → ⊥ =
    no_content c.have_one_content.result c.args.key.now c.in_ok-own.own c.args.bytes.now (last_name c.args.path.now) c.in_ok-own.ensures c.have_one_content.ensures c.if-have_one_content.false in
    holds_of_it c.as_content.result (Content (pointer_text c.in_ok-own.own) c.in_ok-own.own)
    (λ kept. (blob : Option Id) → (to_git : Bool) → IsKept blob (Some c.args.key.now) c.args.path.now to_git c.args.bytes.now kept)
    c.as_content.ensures
    (λ blob to_git. other_content blob c.args.key.now c.in_ok-own.own c.args.path.now c.args.bytes.now to_git off
    (none_points c.args.bytes.now c.in_ok-found.field-0 c.in_ok-found.ensures c.in_default.is) c.in_ok-own.ensures)

pub returns-then-are_same : goal.returns-then-are_same
returns-then-are_same c =
    let off : Matches c.args.key.now c.args.bytes.now → ⊥ =
    no_content c.have_one_content.result c.args.key.now c.in_ok-own.own c.args.bytes.now (last_name c.args.path.now) c.in_ok-own.ensures c.have_one_content.ensures c.if-have_one_content.false in
    λ blob to_git. still_pointer blob c.args.key.now c.in-Some.found c.args.path.now c.args.bytes.now to_git off
    (this_points c.args.bytes.now c.in_ok-found.field-0 c.in-Some.found c.in_ok-found.ensures c.in-Some.is)
    (c.are_same.ensures.0 c.if-are_same.true)

pub returns : goal.returns
returns c =
    let off : Matches c.args.key.now c.args.bytes.now → ⊥ =
    no_content c.have_one_content.result c.args.key.now c.in_ok-own.own c.args.bytes.now (last_name c.args.path.now) c.in_ok-own.ensures c.have_one_content.ensures c.if-have_one_content.false in
    let differ : c.args.key.now ≡ c.in-Some.found → ⊥ = λ e. absurd (cc (c.are_same.ensures.1 e, c.if-are_same.false)) in
    holds_of_it c.as_pointer.result (Pointer (pointer_text c.in-Some.found))
    (λ kept. (blob : Option Id) → (to_git : Bool) → IsKept blob (Some c.args.key.now) c.args.path.now to_git c.args.bytes.now kept)
    c.as_pointer.ensures
    (λ blob to_git. other_pointer blob c.args.key.now c.in-Some.found c.args.path.now c.args.bytes.now to_git off
    (this_points c.args.bytes.now c.in_ok-found.field-0 c.in-Some.found c.in_ok-found.ensures c.in-Some.is) differ)
