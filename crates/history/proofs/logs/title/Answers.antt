use Rattle.std.proofs.Common.{sym}
use Rattle.history.proofs.Titles.{title_cut, title_whole}
use Rattle.history.proofs.logs.title.Goals as goal

pub returns-in-Some : goal.returns-in-Some
returns-in-Some c = title_cut c.args.message.now c.in-Some.end (sym c.in-Some.ensures)

pub returns-in-None : goal.returns-in-None
returns-in-None c = title_whole c.args.message.now (sym c.in-None.ensures)
