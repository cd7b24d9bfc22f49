use Rattle.std.proofs.Common.{◌≡◌, Option, Some, None, take, subst, sym, ◌∙◌, arith}
use Rattle.std.specs.Prelude.{option_map}
use Rattle.file_store.specs.All.{present}
use Rattle.acts.proofs.Reading.{read_gives}
use Rattle.ref_store.specs.Forms.{IsNamed, head_given}
use Rattle.ref_store.specs.Reading.{branch_by}
use Rattle.ref_store.specs.declared.heads.Head.{Head}
use Rattle.ref_store.proofs.Fronts.{front_given, head_form, head_named}
use Rattle.ref_store.proofs.reading.head_in.Goals as goal

same_found : (o p : Option Head) → o ≡ p → option_map (λ (h : Head). h) o ≡ p
same_found None p e = e
same_found (Some head) p e = e

pub returns : goal.returns
returns g c =
    let text = take c.in_ok-count.count c.read_part.new.buffer in
    let is : c.in_ok-head_given.field-0 ≡ head_given text = c.in_ok-head_given.ensures in
    record {
      reads = read_gives c.in_ok-count.ensures.later (λ t.
          let was = c.in_ok-count.ensures.ends.1 t in
          (was.0, same_found c.in_ok-head_given.field-0 _ (is ∙ front_given head_given 217 218 head_form (omega arith) (present (g.F.Files.drive c.args.files.now)) c.args.place.now _ c.read_part.new.buffer c.in_ok-count.count was.1 was.2)));
      named = subst (λ (o : Option Head). IsNamed (branch_by o)) (sym is) (head_named text);
    }
