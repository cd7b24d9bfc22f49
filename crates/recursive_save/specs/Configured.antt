-- How the configuration of a dataset is read for a save.
use Rattle.std.specs.Prelude.{◌≡◌, ◌≤◌, ℕ, Bool, IsTrue, List, length, codes, Some, None, Vec}
use Rattle.std.specs.Prelude.{Result, Ok}
use Rattle.std.specs.declared.alloc.Global.{Global}
use Rattle.places.specs.All.{Names, text_of, Ground, file_at}
use Rattle.file_store.specs.All.{Drive}
use Rattle.faults.specs.declared.faults.Fault.{Fault}
use Rattle.faults.specs.declared.faults.Trouble.{Trouble}
use Rattle.faults.specs.declared.faults.Fault.TheVariants.{BadLine, TooLarge}
use Rattle.git_objects.specs.All.{is_person}
use Rattle.config_text.specs.All.{PlainConfig, plain_config, config_in}
use Rattle.config_text.specs.declared.repository.RepoConfig.{RepoConfig}
use Rattle.repository.specs.All.{repo_of, settings_place, object_limit}
use Rattle.acts.specs.All.{Reads}
use Rattle.recursive_save.specs.Saving.{settings_fault, settings_in, settings_limit}

-- The faults of reading a configuration's text, whatever the files tell.
abbrev pub MayReadText : Names → Fault → Type 0
MayReadText place (BadLine at line) = at ≡ place
MayReadText place (TooLarge path size) = path ≡ text_of place
MayReadText place fault = ⊥

-- How the reading of a configuration's text ends: it is the file's, and not too long.
abbrev pub TextReads : Bool → Names → Drive → Drive → Result (Vec ℕ Global) Trouble → Type 0
TextReads tells place old new result =
    Reads (λ fault. MayReadText place fault) tells
    (λ g text. (file_at g place ≡ Some text.items) × (length text.items ≤ settings_limit))
    (λ g fault. settings_in place (file_at g place) ≡ Some fault) old new result

-- The configuration of a dataset, which nothing refuses.
pub record IsConfigured (root : Names) (g : Ground) (config : PlainConfig) : Type 0 where
  pub text : List ℕ
  pub stands : file_at g (settings_place root) ≡ Some text
  pub configured : config_in text ≡ Ok config
  pub whole : settings_fault root g ≡ None

-- The refusal of a configuration, in a repository in which objects have places.
abbrev pub IsUnconfigured : Names → Ground → Fault → Type 0
IsUnconfigured root g fault =
    length (text_of (repo_of root)) ≤ object_limit → settings_fault root g ≡ Some fault

-- The faults of reading a configuration, whatever the files tell: its place with a bad line, or
-- its text or its place is too long.
abbrev pub MayConfigure : Names → Fault → Type 0
MayConfigure root fault = MayReadText (settings_place root) fault

-- How the reading of a dataset's configuration ends.
abbrev pub ConfigReads : Bool → Names → Drive → Drive → Result RepoConfig Trouble → Type 0
ConfigReads tells root old new result =
    Reads (λ fault. MayConfigure root fault) tells
    (λ g config. IsConfigured root g (plain_config config))
    (λ g fault. IsUnconfigured root g fault) old new result

-- The configuration's name and email make a person.
abbrev pub HasPerson : RepoConfig → Type 0
HasPerson config = IsTrue (is_person config.name config.email (codes "+0000"))
