-- What a new dataset's literals pass: its person, its further lines and its names.
use Rattle.std.proofs.Common.{◌≡◌, ℕ, List, [], codes, refl}
use Rattle.std.specs.Prelude.{IsTrue}
use Rattle.places.specs.All.{Names, is_name}
use Rattle.git_objects.specs.All.{is_entry, is_extra, is_person, is_zone}
use Rattle.git_objects.specs.declared.entries.Mode.{Mode}
use Rattle.git_objects.specs.declared.ids.Id.{Id}
use Rattle.config_text.specs.All.{repo_text, made}
use Rattle.config_text.specs.declared.repository.Remote.{Remote}
use Rattle.config_text.specs.declared.sections.Section.{Section}
use Rattle.config_text.specs.declared.uuids.Role.TheVariants.{Repository}
use Rattle.recursive_save.specs.First.{settings_text, default_name, default_email}

pub user_is_person : IsTrue (is_person (codes "DataLad User") (codes "user@localhost") (codes "+0000"))
unfolding is_person is_zone
user_is_person = refl

pub nothing_is_extra : IsTrue (is_extra [])
unfolding is_extra
nothing_is_extra = refl

pub config_is_entry : (mode : Mode) (id : Id) → IsTrue (is_entry (record { mode = mode; name = codes "config"; id = id }))
unfolding is_entry is_name
config_is_entry mode id = refl

pub datalad_is_entry : (mode : Mode) (id : Id) → IsTrue (is_entry (record { mode = mode; name = codes ".datalad"; id = id }))
unfolding is_entry is_name
datalad_is_entry mode id = refl

-- the default configuration's text, from its parts
pub settings_from_parts : (fresh : List ℕ) (root : Names) (uuid name email : List ℕ) (remotes : List Remote) (rest : List Section)
    → uuid ≡ made fresh Repository root → name ≡ codes "DataLad User" → email ≡ codes "user@localhost" → remotes ≡ [] → rest ≡ []
    → repo_text uuid 1 name email remotes rest ≡ settings_text fresh root
unfolding settings_text default_name default_email
settings_from_parts fresh root uuid name email remotes rest is_made is_name is_email no_remotes no_rest =
    rw (is_made, is_name, is_email, no_remotes, no_rest) refl
