use Rattle.config_text.specs.Sections.{plain}
use Rattle.config_text.proofs.PrintedSections.{reads_more}
use Rattle.config_text.proofs.sections.append_section.Goals as goal

pub returns-clause-reads : goal.returns-clause-reads
returns-clause-reads c =
    rw (c.in_ok-append_to.ensures, c.new-text.ensures.items) (reads_more c.args.old.now (plain c.args.section.now))
