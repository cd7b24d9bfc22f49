use Rattle.std.proofs.Common.{◌∙◌, sym}
use Rattle.config_text.proofs.Configs.{config_made}
use Rattle.config_text.proofs.repository.RepoConfig.from_sections.Goals as goal

pub returns : goal.returns
returns c =
    config_made _ c.in-Some.uuid c.in-Some-numcopies.numcopies c.in-Some-2.name c.in-Some-3.email c.in-Some-4.remotes.items _
    (rw c.as_slice.ensures.value at c.in-Some.ensures)
    (rw c.as_slice-2.ensures.value at c.in-Some-numcopies.ensures)
    (rw c.as_slice-3.ensures.value at (sym c.in-Some-2.is ∙ c.in_ok-name.ensures))
    (rw c.as_slice-4.ensures.value at (sym c.in-Some-3.is ∙ c.in_ok-email.ensures))
    (rw c.as_slice-5.ensures.value at (rw c.in-Some-4.is at c.in_ok-remotes.ensures))
    c.keep_others.ensures
