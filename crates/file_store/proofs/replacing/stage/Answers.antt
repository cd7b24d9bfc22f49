use Rattle.file_store.proofs.OneFile.{write_goes}
use Rattle.file_store.proofs.Staging.{stage_ends}
use Rattle.file_store.proofs.replacing.stage.Goals as goal

pub returns-clause-ends : goal.returns-clause-ends
returns-clause-ends g c = λ place. stage_ends g.F.Files.tells c.args.tmp.now place c.args.bytes.now (g.F.Files.drive c.args.files.now) (g.F.Files.drive c.write.new.self) c.write.result c.write.ensures.ends

pub returns-clause-crash : goal.returns-clause-crash
returns-clause-crash g c = λ place told. write_goes (c.write.ensures.steps told)
