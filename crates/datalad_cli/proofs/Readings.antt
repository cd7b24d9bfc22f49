-- The reading of a call's words, and calls that end with it alone.
use Rattle.std.proofs.Common.{◌≡◌, ◌⊎◌, inl, inr, ℕ, Bool, true, false, IsTrue, [], Some, None, Err, refl, sym, ◌∙◌, ap, subst, arith, append-nil}
use Rattle.std.proofs.lemmas.Bool.{false≢true}
use Rattle.file_store.specs.All.{Drive, Tape, present}
use Rattle.faults.specs.declared.faults.Trouble.TheVariants.{NoMemory as ByMemory}
use Rattle.dl_words.specs.All.{AskFor, AskOnce, EndsAt, EndsOnce, is_built}
use Rattle.dl_words.specs.declared.words.Words.{Words}
use Rattle.datalad_cli.specs.Answer.{Call, memory_text}
use Rattle.datalad_cli.specs.Answered.{Answered}
use Rattle.datalad_cli.specs.Commands.{Asks, Command, Create, HasOneAct, HasOneReading, Help, IsReading}
use Rattle.datalad_cli.specs.Commands.{Log, MaySay, Misread, Reading, Save, StatusOf, Version, command_of}
use Rattle.datalad_cli.specs.Decides.{CommandSays}
use Rattle.datalad_cli.specs.Ends.{CommandEnds, Telling, World, world_of}
use Rattle.datalad_cli.specs.Reports.{HasCounted, OutputCounts, SaysPart, TookPart, TookText, UsageEnds}
use Rattle.datalad_cli.specs.Reports.{of_memory}
use Rattle.datalad_cli.specs.declared.status.Status.{Status}
use Rattle.datalad_cli.specs.declared.status.Status.TheVariants.{NoMemory}

-- ONE READING
module _ (asked : AskOnce) (ended : EndsOnce) (call : Call) where
  misreads : (m n : ℕ) → IsReading call (Misread m) → IsReading call (Misread n) → m ≡ n
  misreads m n (inl one) (inl two) = ended call.words m n one two
  misreads m n (inl one) (inr two) = absurd (one.unread two.0 two.1)
  misreads m n (inr one) (inl two) = absurd (two.unread one.0 one.1)
  misreads m n (inr one) (inr two) = one.3 ∙ sym two.3

  never_both : (at : ℕ) (command : Command) → IsReading call (Misread at) → IsReading call (Asks command) → ⊥
  never_both at command (inl ends) asks = ends.unread asks.0 asks.1
  never_both at command (inr none) asks =
      let same : none.0 ≡ asks.0 = asked call.words none.0 asks.0 none.1 asks.1 in
      false≢true (sym none.2 ∙ ap (λ (w : Words). is_built w) same ∙ asks.2)

  pub one_reading : HasOneReading call
  one_reading (Misread m) (Misread n) one two = ap (λ (at : ℕ). Misread at) (misreads m n one two)
  one_reading (Misread m) (Asks d) one two = absurd (never_both m d one two)
  one_reading (Asks c) (Misread n) one two = absurd (never_both n c two one)
  one_reading (Asks c) (Asks d) one two =
      let same : one.0 ≡ two.0 = asked call.words one.0 two.0 one.1 two.1 in
      ap (λ (command : Command). Asks command) (one.3 ∙ ap (λ (w : Words). command_of call.cwd call.moment call.fresh w) same ∙ sym two.3)

-- WORDS WITHOUT A READING touch the second output alone
pub misread : (telling : Telling) (call : Call) (d : Drive) (out err0 err1 : Tape) (status : Status) (at : ℕ) → HasOneReading call → IsReading call (Misread at)
    → OutputCounts status err0 err1 → UsageEnds telling.heard.err at err0 err1 status → Answered telling call (world_of d out err0) (world_of d out err1) status
misread telling call d out err0 err1 status at only is counts ends = record { reading = Misread at; is = is; one = only; ends = (refl, refl, counts, ends); words = tt }

-- A COMMAND ends as its act does
pub asks : (telling : Telling) (call : Call) (old new : World) (status : Status) (asked : Words) → HasOneReading call → AskFor call.words asked → is_built asked ≡ true
    → CommandEnds telling (command_of call.cwd call.moment call.fresh asked) old new status → CommandSays telling (command_of call.cwd call.moment call.fresh asked) old new status
    → Answered telling call old new status
asks telling call old new status asked only ask built ends says = record {
  reading = Asks (command_of call.cwd call.moment call.fresh asked);
  is = (asked, ask, built, refl);
  one = only;
  ends = ends;
  words = says;
}

-- WANT OF MEMORY before the reading is known
says_nothing : (command : Command) → MaySay command [] (Err ByMemory)
says_nothing (Create None at moment fresh) = refl
says_nothing (Create (Some root) at moment fresh) = refl
says_nothing (Save at source to_git moment) = refl
says_nothing (StatusOf at) = refl
says_nothing (Log at word) = refl
says_nothing Help = refl
says_nothing Version = refl

took_none : (t : Tape) → TookPart t t []
took_none t = (0, omega arith, sym (append-nil t.bytes))

module _ (telling : Telling) (call : Call) (d : Drive) (out err0 err1 : Tape) (only : HasOneReading call) (single : (asked : Words) → HasOneAct (command_of call.cwd call.moment call.fresh asked) (present d))
    (counted : HasCounted err0 err1) (took : IsTrue telling.heard.err → TookText err0 err1 memory_text) where
  abbrev Ends : Type 0
  Ends = Answered telling call (world_of d out err0) (world_of d out err1) NoMemory

  said : SaysPart telling.heard [] [] of_memory (world_of d out err0).tapes (world_of d out err1).tapes
  said = record { out_part = λ h. took_none out; out_whole = λ p h. absurd (false≢true p); err_part = λ h. inr (took h) }

  by_reading : (r : Reading) → IsReading call r → Ends
  by_reading (Misread at) is = misread telling call d out err0 err1 NoMemory at only is counted (λ h. inr (took h))
  by_reading (Asks command) is = record {
    reading = Asks command;
    is = is;
    one = only;
    ends = record {
      cause = tt;
      told = λ t. inl (refl, said);
      one = subst (λ (c : Command). HasOneAct c (present d)) (sym is.3) (single is.0);
    };
    words = ([], Err ByMemory, record { says = says_nothing command; fault = tt }, said);
  }

  by_built : (asked : Words) → AskFor call.words asked → (b : Bool) → is_built asked ≡ b → Ends
  by_built asked ask true built = by_reading (Asks (command_of call.cwd call.moment call.fresh asked)) (asked, ask, built, refl)
  by_built asked ask false built = by_reading (Misread 0) (inr (asked, ask, built, refl))

  pub starved_early : ((asked : Words) × AskFor call.words asked) ⊎ ((at : ℕ) × EndsAt call.words at) → Ends
  starved_early (inl asks) = by_built asks.0 asks.1 (is_built asks.0) refl
  starved_early (inr ends) = by_reading (Misread ends.0) (inl ends.1)
