use Rattle.std.proofs.Common.{length}
use denote.Shadow.{shadow}
use denote.Text.{Utf8}
use Rattle.snapshot.specs.Order.{IsValidPath}
use Rattle.snapshot.proofs.ordering.is_valid_path.Given as goal

-- what is left is valid exactly where the path is
abbrev pub invariant-loop-name : goal.invariant-loop-name
invariant-loop-name l = record {
  text : shadow (Utf8 l.rest);
  back : IsValidPath l.rest → IsValidPath l.path;
  on : IsValidPath l.path → IsValidPath l.rest;
}

abbrev pub decreases-loop-name : goal.decreases-loop-name
decreases-loop-name l = length l.rest
