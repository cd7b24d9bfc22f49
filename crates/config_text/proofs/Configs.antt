-- A configuration by its parts.
use Rattle.std.proofs.Common.{◌≡◌, ℕ, List, Some, refl}
use Rattle.std.specs.Prelude.{codes, option_and_then}
use Rattle.std.specs.List.{filter}
use Rattle.config_text.specs.declared.repository.Remote.{Remote}
use Rattle.config_text.specs.Sections.{PlainSection}
use Rattle.config_text.specs.Lookups.{value_alone, uuid_of}
use Rattle.config_text.specs.Settings.{given_copies, given_person, remotes_of}
use Rattle.config_text.specs.Repository.{is_other, config_of}

pub config_made : (list : List PlainSection) (uuid : List ℕ) (numcopies : ℕ) (name email : List ℕ) (remotes : List Remote) (rest : List PlainSection)
    → Some uuid ≡ option_and_then uuid_of (value_alone (codes "annex") (codes "uuid") list)
    → Some numcopies ≡ given_copies (value_alone (codes "annex") (codes "numcopies") list)
    → Some name ≡ given_person (codes "DataLad User") (value_alone (codes "user") (codes "name") list)
    → Some email ≡ given_person (codes "user@localhost") (value_alone (codes "user") (codes "email") list)
    → Some remotes ≡ remotes_of list
    → rest ≡ filter is_other list
    → Some (record { uuid = uuid; numcopies = numcopies; name = name; email = email; remotes = remotes; rest = rest }) ≡ config_of list
unfolding config_of
config_made list uuid numcopies name email remotes rest e1 e2 e3 e4 e5 e6 =
    rw (← e1, ← e2, ← e3, ← e4, ← e5, e6) refl
