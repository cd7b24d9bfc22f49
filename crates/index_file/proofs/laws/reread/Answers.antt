use Rattle.std.proofs.Common.{List, ℕ, subst, sym}
use Rattle.index_file.specs.Index.{IsIndexText}
use Rattle.index_file.proofs.Readings.{read_again}
use Rattle.index_file.proofs.laws.reread.Goals as goal

pub returns : goal.returns
returns c =
    read_again c.as_slice.result.now c.args.list.now c.decode.result (subst (λ (z : List ℕ). IsIndexText z c.args.list.now) (sym c.as_slice.ensures.value) c.in_ok-text.ensures.reads) c.decode.ensures
