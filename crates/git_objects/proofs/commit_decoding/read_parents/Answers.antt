use Rattle.std.proofs.Common.{◌≡◌, ◌++◌, ◌∷◌, [], List, sym, subst}
use Rattle.std.specs.List.{All, flat_map}
use Rattle.std.proofs.lemmas.List.Elements.{All-append, All-cons, All-nil}
use Rattle.git_objects.specs.Commits.{parent_line}
use Rattle.git_objects.specs.Ids.{IsId}
use Rattle.git_objects.specs.declared.ids.Id.{Id}
use Rattle.git_objects.proofs.HeadLines.{parent_push}
use Rattle.git_objects.proofs.commit_decoding.read_parents.Goals as goal

pub returns : goal.returns
returns c = record { ids = c.loop-parent.invariant.ids; printed = c.loop-parent.invariant.printed; last = c.in_default.ensures }

pub loop-parent-preserved : goal.loop-parent-preserved
loop-parent-preserved c =
    let parents = c.loop-parent.parents.items in
    let more : c.push.new.self.items ≡ parents ++ c.in-Some.parent ∷ [] = c.in_ok-push.ensures.items in
    let Valid : Id → Type 0 = λ parent. IsId parent.0 in
    record {
      ids = subst (All Valid) (sym more) (All-append Valid parents (c.in-Some.parent ∷ []) c.loop-parent.invariant.ids (All-cons Valid c.in-Some.parent [] c.in-Some.ensures.valid (All-nil Valid)));
      printed = subst (λ (z : List Id). c.args.text.now ≡ flat_map parent_line z ++ c.in-Some.after.now) (sym more)
          (parent_push c.args.text.now c.loop-parent.rest.now c.in-Some.after.now parents c.in-Some.parent c.loop-parent.invariant.printed c.in-Some.ensures);
    }
