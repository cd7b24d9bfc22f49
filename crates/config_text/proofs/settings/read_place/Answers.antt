use Rattle.std.proofs.Common.{Err, ap}
use Rattle.config_text.proofs.Given.{place_read, no_place}
use Rattle.config_text.proofs.settings.read_place.Goals as goal

pub returns-in-Ok : goal.returns-in-Ok
returns-in-Ok c = place_read c.args.text.now c.in-Ok.place c.in-Ok.ensures.ok.0 c.in-Ok.ensures.ok.1

pub returns-in-Err-Bad : goal.returns-in-Err-Bad
returns-in-Err-Bad c = no_place c.args.text.now (c.in-Err-Bad.ensures.bad (ap Err c.in-Err-Bad.field-0-is))
