use Rattle.std.proofs.Common.{◌≡◌, ◌++◌, drop}
use Rattle.std.specs.List.{flat_map}
use Rattle.config_text.specs.Repository.{remote_text}
use Rattle.config_text.proofs.repository.RepoConfig.append_remotes.Given as goal

-- what is done and what is left make the whole
abbrev pub invariant-loop-remote : goal.invariant-loop-remote
invariant-loop-remote l =
    l.text.items ++ flat_map remote_text (drop l.remote-index l.remote-items)
    ≡ l.initial.text.items ++ flat_map remote_text l.remote-items
