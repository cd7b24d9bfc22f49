use Rattle.std.proofs.Common.{◌≡◌, ℕ, List, Ok, refl, sym, ap, subst}
use Rattle.acts.specs.All.{Gives, still}
use Rattle.dl_words.specs.declared.words.Words.{Words}
use Rattle.datalad_cli.specs.Commands.{CarriesOut, Command, Help, MaySay, command_of}
use Rattle.datalad_cli.proofs.Acting.{as_gives}
use Rattle.datalad_cli.proofs.Follows.{others_help}
use Rattle.datalad_cli.proofs.top.act.Goals as goal

pub returns-in_ok-version-in-Version-clause-acts : goal.returns-in_ok-version-in-Version-clause-acts
returns-in_ok-version-in-Version-clause-acts g c =
    let d = g.F.Files.drive c.args.files.now in
    let l = c.args.lines.now.items in
    subst (λ (w : Words). CarriesOut g.F.Files.tells (command_of c.args.cwd.now c.args.moment c.args.fresh.now w) l l d d (Ok c.in_ok-version-in-Version.field-0)) (sym c.in-Version.is)
    (as_gives refl (λ t. (refl, ap (λ (text : List ℕ). still (Gives text)) c.in_ok-version-in-Version.ensures)))

pub returns-in_ok-help-in_default-clause-says : goal.returns-in_ok-help-in_default-clause-says
returns-in_ok-help-in_default-clause-says g c =
    let none = c.in_default in
    let help : command_of c.args.cwd.now c.args.moment c.args.fresh.now c.args.asked.now ≡ Help = others_help c.args.cwd.now c.args.moment c.args.fresh.now c.args.asked.now none.not-Create none.not-Save none.not-Status none.not-Log none.not-Version in
    subst (λ (command : Command). MaySay command c.args.lines.now.items (Ok c.in_ok-help-in_default.field-0)) (sym help) (c.in_ok-help-in_default.ensures, c.requires)

pub returns-in_ok-help-in_default-clause-acts : goal.returns-in_ok-help-in_default-clause-acts
returns-in_ok-help-in_default-clause-acts g c =
    let none = c.in_default in
    let help : command_of c.args.cwd.now c.args.moment c.args.fresh.now c.args.asked.now ≡ Help = others_help c.args.cwd.now c.args.moment c.args.fresh.now c.args.asked.now none.not-Create none.not-Save none.not-Status none.not-Log none.not-Version in
    let d = g.F.Files.drive c.args.files.now in
    let l = c.args.lines.now.items in
    subst (λ (command : Command). CarriesOut g.F.Files.tells command l l d d (Ok c.in_ok-help-in_default.field-0)) (sym help)
    (as_gives refl (λ t. (refl, ap (λ (text : List ℕ). still (Gives text)) c.in_ok-help-in_default.ensures)))
