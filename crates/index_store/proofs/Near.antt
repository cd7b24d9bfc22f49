-- The place of an index that is longer than places are.
use Rattle.std.proofs.Common.{◌≡◌, codes, sym, ap, ◌∙◌}
use Rattle.places.specs.All.{Names, joined, text_of}
use Rattle.places.proofs.Cuts.{below_text}
use Rattle.repository.specs.All.{index_place}
use Rattle.repository.proofs.Parts.{index_is}

pub index_text : (root : Names) → joined root (codes ".dlrepo/index") ≡ text_of (index_place root)
index_text root = below_text root (codes ".dlrepo/index") ∙ ap text_of (sym (index_is root))
