-- The text of a UUID, and the UUIDs that are made for a new dataset.
use Rattle.std.specs.Prelude.{ℕ, List, ◌++◌, take, codes}
use Rattle.sha1.specs.Sha1.{sha1}
use Rattle.uuid.specs.Text.{hyphenated_text, lower}
use Rattle.uuid.specs.Parts.{with_version, with_variant}
use Rattle.uuid.specs.declared.Variant.TheVariants.{RFC4122}
use Rattle.uuid.specs.declared.Version.TheVariants.{Random, Sha1}
use Rattle.places.specs.All.{text_of}
use Rattle.config_text.specs.declared.uuids.Role.{Role}
use Rattle.config_text.specs.declared.uuids.Role.TheVariants.{Dataset, Repository}

-- The 36 characters of a UUID, in lower case.
abbrev pub uuid_text : List ℕ → List ℕ
uuid_text uuid = hyphenated_text lower uuid

-- What stands before the place in a name.
abbrev pub role_text : Role → List ℕ
role_text Dataset = codes "dataset:"
role_text Repository = codes "repository:"

-- The namespace that random bytes give: version 4.
abbrev pub namespace_of : List ℕ → List ℕ
namespace_of fresh = with_version (with_variant fresh RFC4122) Random

-- Version 5 of a name in a namespace.
abbrev pub named : List ℕ → List ℕ → List ℕ
named namespace name = with_version (with_variant (take 16 (sha1 (namespace ++ name))) RFC4122) Sha1

-- The UUID of a place in a role: random bytes, role, and the names of the place.
unfoldable pub made : List ℕ → Role → List (List ℕ) → List ℕ
made fresh role place = named (namespace_of fresh) (role_text role ++ text_of place)
