-- What follows of a command by its acts, whichever command it is.
use Rattle.std.proofs.Common.{◌≡◌, ◌<◌, ◌^◌, ℕ, List, Option, Bool, true, refl, sym, ◌∙◌}
use Rattle.places.specs.All.{Names}
use Rattle.file_store.specs.All.{Drive, present}
use Rattle.faults.specs.declared.faults.Fault.{Fault}
use Rattle.acts.specs.All.{Act, EndsRefused, Gives, Moments, Reaches}
use Rattle.dataset.specs.All.{Sound}
use Rattle.recursive_save.specs.All.{CreateKeepsSound, SaveKeepsSound, SaveIsComplete, SaveIsOne}
use Rattle.recursive_save.specs.All.{SaveKeeps}
use Rattle.tree_status.specs.All.{IsSoundNoStatus, StatusEnds, StatusIsComplete, StatusIsOne}
use Rattle.repository.specs.All.{repo_of}
use Rattle.history.specs.All.{LogIsComplete, LogIsOne, LogOfNameIsComplete}
use Rattle.dl_words.specs.declared.words.Word.{Word}
use Rattle.dl_words.specs.declared.words.Words.{Words}
use Rattle.dl_words.specs.declared.words.Words.TheVariants as words
use Rattle.datalad_cli.specs.Commands.{Command, Help, HasOneAct, IsActOf, IsSoundFault}
use Rattle.datalad_cli.specs.Commands.{IsSoundLogFault, Log, LogComes, MayAnswer, StatusOf, Version, command_of}
use Rattle.datalad_cli.specs.Ends.{AtEachMoment, KeepsSound}
use Rattle.datalad_cli.specs.Finding.{Location, location_by}
use Rattle.datalad_cli.specs.Help.{help_text, version_text}
use Rattle.datalad_cli.specs.Messages.{source_by}
use Rattle.datalad_cli.specs.Words.{leads, revision_by}
use Rattle.datalad_cli.proofs.Kept.{create_leaves, nothing_left, save_leaves}
use Rattle.datalad_cli.proofs.ReadActs.{read_has_one, read_refused, read_still}
use Rattle.datalad_cli.proofs.Roots.{leads_clear}
use Rattle.datalad_cli.proofs.Soundly.{create_sound, save_sound, save_refused, save_is_one, still_sound}

-- what each act of a command leaves, keeps and refuses, and that there is one at most
pub record Follows (command : Command) (old new : Drive) : Type 0 where
  pub leaves : (act : Act (List ℕ)) → IsActOf command (present old) act → Moments act old new → AtEachMoment command act old new
  pub sound : (act : Act (List ℕ)) → IsActOf command (present old) act → KeepsSound command act old new
  pub refused : (act : Act (List ℕ)) (fault : Fault) → IsActOf command (present old) act → EndsRefused act.ending fault (Reaches act old new) → MayAnswer true command fault → Sound (present old) → IsSoundFault command (present old) fault
  pub one : HasOneAct command (present old)

-- the laws of all commands
pub record CommandLaws : Type 0 where
  pub made : CreateKeepsSound
  pub kept : SaveKeepsSound
  pub remains : SaveKeeps
  pub complete : SaveIsComplete
  pub single : SaveIsOne
  pub status : StatusIsOne
  pub seen : StatusIsComplete
  pub logged : LogIsOne
  pub answers : LogIsComplete
  pub named : LogOfNameIsComplete

module _ (laws : CommandLaws) (cwd : Names) (moment : ℕ) (dated : moment < 2 ^ 64) (fresh : List ℕ) (old new : Drive) where
  log_follows : (at : Location) (word : List ℕ) → Follows (Log at word) old new
  log_follows at word = record {
    leaves = λ act is m.
        let none = read_still (LogComes word) at (present old) act is in
        let left = nothing_left none.0 act old new none.1 m in
        record { along = m; stands = left.0; images = left.1 };
    sound = λ act is can sound settled.
        let none = read_still (LogComes word) at (present old) act is in
        still_sound none.0 act old new none.1 sound settled;
    refused = λ act fault is ends may sound.
        read_refused (LogComes word) (λ root g fault. IsSoundLogFault word g root fault)
        (λ root g fault sound dataset no. (laws.answers root word g fault sound dataset no, λ name. laws.named root word g fault sound dataset name no))
        at (present old) fault (Reaches act old new) act is ends sound;
    one = λ one two is other. read_has_one (LogComes word) (λ root. laws.logged (repo_of root) word) at (present old) one two is other;
  }

  status_follows : (at : Location) → Follows (StatusOf at) old new
  status_follows at = record {
    leaves = λ act is m.
        let none = read_still StatusEnds at (present old) act is in
        let left = nothing_left none.0 act old new none.1 m in
        record { along = m; stands = left.0; images = left.1 };
    sound = λ act is can sound settled.
        let none = read_still StatusEnds at (present old) act is in
        still_sound none.0 act old new none.1 sound settled;
    refused = λ act fault is ends may sound. read_refused StatusEnds (λ root g fault. IsSoundNoStatus fault) laws.seen at (present old) fault (Reaches act old new) act is ends sound;
    one = λ one two is other. read_has_one StatusEnds laws.status at (present old) one two is other;
  }

  help_follows : Follows Help old new
  help_follows = record {
    leaves = λ act is m.
        let left = nothing_left (Gives help_text) act old new is m in
        record { along = m; stands = left.0; images = left.1 };
    sound = λ act is can sound settled. still_sound (Gives help_text) act old new is sound settled;
    refused = λ act fault is ends may sound. may;
    one = λ one two is other. is ∙ sym other;
  }

  version_follows : Follows Version old new
  version_follows = record {
    leaves = λ act is m.
        let left = nothing_left (Gives version_text) act old new is m in
        record { along = m; stands = left.0; images = left.1 };
    sound = λ act is can sound settled. still_sound (Gives version_text) act old new is sound settled;
    refused = λ act fault is ends may sound. may;
    one = λ one two is other. is ∙ sym other;
  }

  pub follows : (asked : Words) → Follows (command_of cwd moment fresh asked) old new
  follows (words.Create dataset path) =
      let to = leads cwd path.text in
      let clear = leads_clear cwd path.text in
      record {
        leaves = λ act is m. create_leaves path.index moment fresh old new to clear act is m;
        sound = λ act is. create_sound laws.made path.index moment dated fresh old new to clear act is;
        refused = λ act fault is ends may sound. may;
        one = λ one two is other. is ∙ sym other;
      }
  follows (words.Save dataset message message_file recursive to_git paths) =
      let source = source_by cwd message message_file in
      let at = location_by cwd dataset in
      record {
        leaves = λ act is m. save_leaves laws.remains at source to_git moment old new act is m;
        sound = λ act is. save_sound laws.kept at source to_git moment old new act is;
        refused = λ act fault is ends may sound. save_refused laws.complete at source to_git moment (present old) fault (Reaches act old new) act is ends sound;
        one = save_is_one laws.single at source to_git moment (present old);
      }
  follows (words.Status dataset recursive) = status_follows (location_by cwd dataset)
  follows (words.Log dataset revision) = log_follows (location_by cwd dataset) (revision_by revision)
  follows words.Version = version_follows
  follows other = help_follows

-- all other words that are built ask for help
pub others_help : (cwd : Names) (moment : ℕ) (fresh : List ℕ) (w : Words) → ((d : Option Word) (p : Word) → w ≡ words.Create d p → ⊥)
    → ((d m f : Option Word) (r g : Bool) (p : List Word) → w ≡ words.Save d m f r g p → ⊥) → ((d : Option Word) (r : Bool) → w ≡ words.Status d r → ⊥) → ((d r : Option Word) → w ≡ words.Log d r → ⊥) → (w ≡ words.Version → ⊥)
    → command_of cwd moment fresh w ≡ Help
others_help cwd moment fresh (words.Create d p) c s t l v = absurd (c d p refl)
others_help cwd moment fresh (words.Save d m f r g p) c s t l v = absurd (s d m f r g p refl)
others_help cwd moment fresh (words.Status d r) c s t l v = absurd (t d r refl)
others_help cwd moment fresh (words.Log d r) c s t l v = absurd (l d r refl)
others_help cwd moment fresh words.Version c s t l v = absurd (v refl)
others_help cwd moment fresh other c s t l v = refl
