use Rattle.std.proofs.Common.{sym, ap, ◌∙◌, Err}
use Rattle.places.specs.All.{is_text}
use Rattle.places.proofs.Grammar.{is_text-complete}
use Rattle.tree_status.proofs.Paths.{text_of_none}
use Rattle.tree_status.proofs.visiting.place_below.Goals as goal

pub returns-in-Ok : goal.returns-in-Ok
returns-in-Ok c = (ap is_text (sym c.in-Ok.ensures.ok.2) ∙ is_text-complete c.in-Ok.place c.in-Ok.ensures.ok.0, c.in-Ok.ensures.ok.1)

pub returns-in-Err-Bad : goal.returns-in-Err-Bad
returns-in-Err-Bad c = text_of_none _ (c.in-Err-Bad.ensures.bad (ap Err c.in-Err-Bad.field-0-is))
