-- `.dlrepo/config`.
use Rattle.std.specs.Prelude.{ℕ, Bool, not, ◌&&◌, List, [], ◌∷◌, ◌++◌, map, Option, Some, None}
use Rattle.std.specs.Prelude.{option_and_then, is_some, Result, Ok, Err, codes}
use Rattle.std.specs.Fmt.{decimal}
use Rattle.std.specs.List.{filter, flat_map}
use Rattle.places.specs.All.{text_of}
use Rattle.config_text.specs.declared.repository.Remote.{Remote}
use Rattle.config_text.specs.declared.repository.RepoConfig.{RepoConfig}
use Rattle.config_text.specs.declared.sections.Section.{Section}
use Rattle.config_text.specs.Sections.{PlainSection, plain, printed_section, printed}
use Rattle.config_text.specs.Lookups.{is_alone, sub_under, value_alone, uuid_of}
use Rattle.config_text.specs.Reading.{or_bad, sections_of}
use Rattle.config_text.specs.Settings.{given_copies, given_person, remotes_of}
use Rattle.config_text.specs.Uuids.{uuid_text}

-- The entry of a UUID.
abbrev pub uuid_entry : List ℕ → List ℕ × List ℕ
uuid_entry uuid = (codes "uuid", uuid_text uuid)

-- `[annex]`: the UUID and the number of copies.
abbrev pub annex_text : List ℕ → ℕ → List ℕ
annex_text uuid numcopies =
    printed_section (codes "annex") None
    (uuid_entry uuid ∷ (codes "numcopies", decimal numcopies) ∷ [])

-- `[user]`: the name and the address.
abbrev pub user_text : List ℕ → List ℕ → List ℕ
user_text name email =
    printed_section (codes "user") None
    ((codes "name", name) ∷ (codes "email", email) ∷ [])

-- `[remote "NAME"]`: the place and the UUID.
abbrev pub remote_text : Remote → List ℕ
remote_text r =
    printed_section (codes "remote") (Some r.name)
    ((codes "url", text_of r.url) ∷ uuid_entry r.uuid ∷ [])

-- UUID, number of copies, user's name and address, remotes, and the other sections.
abbrev pub repo_text : List ℕ → ℕ → List ℕ → List ℕ → List Remote → List Section → List ℕ
repo_text uuid numcopies name email remotes rest =
    annex_text uuid numcopies
    ++ (user_text name email ++ (flat_map remote_text remotes ++ printed rest))

-- The text of a repository's configuration.
abbrev pub repo_printed : RepoConfig → List ℕ
repo_printed c = repo_text c.uuid c.numcopies c.name c.email c.remotes.items c.rest.items

-- A configuration without where it lies in memory.
pub record PlainConfig : Type 0 where
  pub uuid : List ℕ
  pub numcopies : ℕ
  pub name : List ℕ
  pub email : List ℕ
  pub remotes : List Remote
  pub rest : List PlainSection

-- A configuration as contracts see it.
abbrev pub plain_config : RepoConfig → PlainConfig
plain_config c = record {
  uuid = c.uuid;
  numcopies = c.numcopies;
  name = c.name;
  email = c.email;
  remotes = c.remotes.items;
  rest = map plain c.rest.items;
}

-- A section that the program doesn't read.
unfoldable pub is_other : PlainSection → Bool
is_other s =
    not (is_alone (codes "annex") s)
    && (not (is_alone (codes "user") s) && not (is_some (sub_under (codes "remote") s)))

infixl 10 ◌>>=◌
-- What follows from a value that is there.
abbrev pub ◌>>=◌ : {A B : Type 0} → Option A → (A → Option B) → Option B
o >>= f = option_and_then f o

-- The configuration of these sections; none where a value is missing or malformed.
unfoldable pub config_of : List PlainSection → Option PlainConfig
config_of list = do
  uuid ← option_and_then uuid_of (value_alone (codes "annex") (codes "uuid") list)
  numcopies ← given_copies (value_alone (codes "annex") (codes "numcopies") list)
  name ← given_person (codes "DataLad User") (value_alone (codes "user") (codes "name") list)
  email ← given_person (codes "user@localhost") (value_alone (codes "user") (codes "email") list)
  remotes ← remotes_of list
  Some (record {
    uuid = uuid;
    numcopies = numcopies;
    name = name;
    email = email;
    remotes = remotes;
    rest = filter is_other list;
  })

-- The configuration of sections that were read; line 0 is bad where they give none.
abbrev pub config_read : Result (List PlainSection) ℕ → Result PlainConfig ℕ
config_read (Err line) = Err line
config_read (Ok list) = or_bad 0 (config_of list) (λ config. Ok config)

-- The configuration of a text, or the number of its bad line.
unfoldable pub config_in : List ℕ → Result PlainConfig ℕ
config_in text = config_read (sections_of text)
