-- What is printed, and read back.
use Rattle.std.specs.Prelude.{◌≡◌, ◌==◌, ◌-◌, ◌<◌, ◌&&◌, Bool, not, true, false, ℕ, List, [], ◌∷◌}
use Rattle.std.specs.Prelude.{◌++◌, map, length, slice_index, Ok, IfSome}
use Rattle.std.specs.List.{All, AllByRecursion, flat_map, list_any}
use Rattle.std.specs.Str.{is_utf8}
use Rattle.places.specs.All.{IsPlace, text_of}
use Rattle.config_text.specs.declared.repository.Remote.{Remote}
use Rattle.config_text.specs.declared.repository.RepoConfig.{RepoConfig}
use Rattle.config_text.specs.declared.sections.Entry.{Entry}
use Rattle.config_text.specs.Lines.{lower, is_key, is_name}
use Rattle.config_text.specs.Sections.{PlainSection, plain, section_text}
use Rattle.config_text.specs.Reading.{sections_of}
use Rattle.config_text.specs.Settings.{is_count, is_personal, is_remote_name}
use Rattle.config_text.specs.Repository.{plain_config, is_other, config_in, repo_printed}

-- An entry whose key is one, in lower case.
pub record IsPlainEntry (e : Entry) : Type 0 where
  pub key : is_key e.key ≡ true
  pub lower : lower e.key ≡ e.key
  pub value : is_utf8 e.value ≡ true

-- A second name without a newline.
pub record IsPlainSub (sub : List ℕ) : Type 0 where
  pub utf8 : is_utf8 sub ≡ true
  pub whole : list_any (λ b. b == 10) sub ≡ false

-- A section whose name is one, in lower case.
pub record IsPrintable (s : PlainSection) : Type 0 where
  pub name : is_name s.name ≡ true
  pub lower : lower s.name ≡ s.name
  pub sub : IfSome s.sub IsPlainSub
  pub entries : AllByRecursion IsPlainEntry s.entries

-- Sections that are printed are read back.
abbrev pub PrintedIsRead : Type 0
PrintedIsRead =
    (list : List PlainSection) → AllByRecursion IsPrintable list
    → sections_of (flat_map section_text list) ≡ Ok list

-- The last byte is a carriage return.
abbrev pub ends_in_return : List ℕ → Bool
ends_in_return text = not (length text == 0) && (slice_index text (length text - 1) == 13)

-- A text has the sections of another and then this one.
abbrev pub ReadsMore : List ℕ → PlainSection → List ℕ → Type 0
ReadsMore old s text =
    (list : List PlainSection) → sections_of old ≡ Ok list → ends_in_return old ≡ false
    → IsPrintable s → sections_of text ≡ Ok (list ++ s ∷ [])

-- Sixteen bytes.
pub record IsUuid (uuid : List ℕ) : Type 0 where
  pub size : length uuid ≡ 16
  pub bytes : All (λ b. b < 256) uuid

-- A remote with a name and a place.
pub record IsPlainRemote (r : Remote) : Type 0 where
  pub name : is_remote_name r.name ≡ true
  pub url : IsPlace r.url
  pub text : is_utf8 (text_of r.url) ≡ true
  pub uuid : IsUuid r.uuid

-- A section that the program doesn't read.
pub record IsPlainRest (s : PlainSection) : Type 0 where
  pub printable : IsPrintable s
  pub other : is_other s ≡ true

-- A configuration that is read back.
pub record IsPrintableConfig (c : RepoConfig) : Type 0 where
  pub uuid : IsUuid c.uuid
  pub numcopies : is_count c.numcopies ≡ true
  pub name : is_personal c.name ≡ true
  pub name_utf8 : is_utf8 c.name ≡ true
  pub email : is_personal c.email ≡ true
  pub email_utf8 : is_utf8 c.email ≡ true
  pub remotes : AllByRecursion IsPlainRemote c.remotes.items
  pub rest : AllByRecursion IsPlainRest (map plain c.rest.items)

-- A configuration that is printed is read back.
abbrev pub ConfigIsRead : Type 0
ConfigIsRead =
    (c : RepoConfig) → IsPrintableConfig c → config_in (repo_printed c) ≡ Ok (plain_config c)
