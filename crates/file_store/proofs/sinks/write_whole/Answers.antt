use Rattle.std.proofs.Common.{◌≡◌, ◌∙◌, ap, sym, arith, append_assoc, length-drop, ℕ, List, ◌+◌, ◌++◌, take, drop, length}
use Rattle.std.proofs.Math.Seq.{take-add}
use Rattle.file_store.proofs.sinks.write_whole.Goals as goal

-- a first part, and a first part of the rest
part_more : (bytes text rest : List ℕ) (d n : ℕ) → rest ≡ drop d text → (bytes ++ take d text) ++ take n rest ≡ bytes ++ take (d + n) text
part_more bytes text rest d n e =
    append_assoc bytes (take d text) (take n rest)
    ∙ ap (λ (x : List ℕ). bytes ++ x) (ap (λ (y : List ℕ). take d text ++ take n y) e ∙ sym (take-add d n text))

pub loop-done-preserved : goal.loop-done-preserved
loop-done-preserved g c = record {
  within = omega (arith, c.in_ok-done.ensures.ends.0, ap length c.rest.ensures, length-drop {A = ℕ});
  faults = c.in_ok-done.ensures.later.faults ∙ c.loop-done.invariant.faults;
  wants = c.in_ok-done.ensures.later.wants ∙ c.loop-done.invariant.wants;
  taken = λ told.
      c.in_ok-done.ensures.ends.2 told
      ∙ ap (λ (x : List ℕ). x ++ take c.in_ok-done.field-0 c.rest.result.now) (c.loop-done.invariant.taken told)
      ∙ part_more (g.S.Sink.tape c.args.sink.now).bytes c.args.bytes.now c.rest.result.now c.loop-done.done c.in_ok-done.field-0 c.rest.ensures;
}
