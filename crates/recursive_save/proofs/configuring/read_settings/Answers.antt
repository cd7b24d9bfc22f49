use Rattle.acts.proofs.Reading.{read_exits}
use Rattle.config_text.specs.All.{plain_config}
use Rattle.recursive_save.proofs.Configured.{unplaced}
use Rattle.recursive_save.proofs.Persons.{has_person}
use Rattle.recursive_save.proofs.configuring.read_settings.Goals as goal

pub returns-in_err-place-clause-reads : goal.returns-in_err-place-clause-reads
returns-in_err-place-clause-reads g c =
    read_exits c.from_residual.ensures.1 (unplaced g.F.Files.tells c.args.root.now (g.F.Files.drive c.args.files.now) c.in_err-place.field-0.0 c.in_err-place.ensures)

pub returns-in-Ok-clause-person : goal.returns-in-Ok-clause-person
returns-in-Ok-clause-person g c = has_person _ (plain_config c.in-Ok.config) c.in-Ok.ensures
