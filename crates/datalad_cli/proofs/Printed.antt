-- What a sink took of a text.
use Rattle.std.proofs.Common.{◌≡◌, ◌⊎◌, ℕ, ◌++◌, Bool, List, Result, Ok, Err, inl, inr, sym, ap, ◌∙◌, subst, length, arith}
use Rattle.std.specs.Prelude.{IsTrue}
use Rattle.std.proofs.Math.Seq.{take-length}
use Rattle.file_store.specs.All.{CountsBoth, Tape, WholeEnds}
use Rattle.faults.specs.All.{fault_text}
use Rattle.faults.specs.declared.faults.Fault.{Fault}
use Rattle.faults.specs.declared.faults.Trouble.{Trouble}
use Rattle.faults.specs.declared.faults.Trouble.TheVariants.{Refused as RefusedBy}
use Rattle.faults.specs.declared.faults.Trouble.TheVariants.{Device as ByDevice}
use Rattle.file_store.specs.declared.errors.SinkErr.{SinkErr}
use Rattle.file_store.specs.declared.errors.SinkErr.TheVariants.{Failed, NoMemory}
use Rattle.datalad_cli.specs.Answer.{device_text, memory_text}
use Rattle.datalad_cli.specs.Reports.{Failure, HasCounted, Heard, OutputCounts, RefusalEnds, SaysPart}
use Rattle.datalad_cli.specs.Reports.{TextEnds, TookPart, TookText, WasCutShort, WasUnhindered}
use Rattle.datalad_cli.specs.Reports.{of_device, of_memory, outcome_text}
use Rattle.datalad_cli.specs.declared.status.Status.{Status}
use Rattle.datalad_cli.specs.declared.status.Status.TheVariants.{Done, Refused, Usage}
use Rattle.datalad_cli.specs.declared.status.Status.TheVariants.{Device, CommandFailed}
use Rattle.datalad_cli.specs.declared.status.Status.TheVariants.{NoMemory as StatusNoMemory}

-- the sink took the text whole, or a count of it rose and it took a first part
pub told_text : (tells : Bool) (text : List ℕ) (old new : Tape) (r : Result (Unit {0}) SinkErr) → CountsBoth old new r → WholeEnds tells text old new r → IsTrue tells → TookText old new text
told_text tells text old new (Ok _) counts h told = inl (h told)
told_text tells text old new (Err Failed) counts h told = inr (inl counts.faults, h told)
told_text tells text old new (Err NoMemory) counts h told = inr (inr counts.wants, h told)

-- each count stands or rose, whatever comes of a text
pub counted : (old new : Tape) (r : Result (Unit {0}) SinkErr) → CountsBoth old new r → HasCounted old new
counted old new (Ok _) counts = record { faults = inl counts.faults; wants = inl counts.wants }
counted old new (Err Failed) counts = record { faults = inr counts.faults; wants = inl counts.wants }
counted old new (Err NoMemory) counts = record { faults = inl counts.faults; wants = inr counts.wants }

-- where neither count rose, the counts fit any status
pub unhindered : (s : Status) {old new : Tape} → WasUnhindered old new → OutputCounts s old new
unhindered Done none = none
unhindered (Refused fault) none = none
unhindered (Usage at) none = none
unhindered (CommandFailed got) none = none
unhindered Device none = record { faults = inl none.faults; wants = inl none.wants }
unhindered StatusNoMemory none = record { faults = inl none.faults; wants = inl none.wants }

-- a failure's status asks no more of them
pub at_device : (s : Status) {old new : Tape} → s ≡ Device → HasCounted old new → OutputCounts s old new
at_device s {old} {new} is counts = subst (λ (t : Status). OutputCounts t old new) (sym is) counts

pub at_memory : (s : Status) {old new : Tape} → s ≡ StatusNoMemory → HasCounted old new → OutputCounts s old new
at_memory s {old} {new} is counts = subst (λ (t : Status). OutputCounts t old new) (sym is) counts

-- A TEXT THAT WAS TAKEN WHOLE, and then the ending of its outcome
module _ (heard : Heard) (text : List ℕ) (out0 out1 err0 err1 : Tape) (took : IsTrue heard.out → out1.bytes ≡ out0.bytes ++ text) where
  abbrev Ends : Result (List ℕ) Trouble → Status → Type 0
  Ends outcome s = TextEnds heard text outcome (record { out = out0; err = err0 }) (record { out = out1; err = err1 }) s

  whole : IsTrue heard.out → TookPart out0 out1 text
  whole h = (length text, omega arith, took h ∙ ap (λ (t : List ℕ). out0.bytes ++ t) (sym (take-length text)))

  parts : (outcome : Result (List ℕ) Trouble) (failure : Failure) → (IsTrue heard.err → WasCutShort failure err0 err1 (outcome_text outcome) ⊎ TookText err0 err1 failure.text)
      → SaysPart heard text (outcome_text outcome) failure (record { out = out0; err = err0 }) (record { out = out1; err = err1 })
  parts outcome failure said = record { out_part = whole; out_whole = λ p h. inr (took h); err_part = said }

  pub refused_ends : (outcome : Result (List ℕ) Trouble) (fault : Fault) → outcome ≡ Err (RefusedBy fault) → (s : Status) → RefusalEnds heard.err fault err0 err1 s → Ends outcome s
  refused_ends outcome fault is (Refused own) h = (
    is ∙ ap (λ (f : Fault). Err (RefusedBy f)) (sym h.0),
    record { out_has = took; err_has = λ t. h.1 t ∙ ap (λ (f : Fault). err0.bytes ++ fault_text f) (sym h.0) },
  )
  refused_ends outcome fault is Device h = (inr (inr h.0), parts outcome of_device (λ t. inl (h.0, subst (λ (o : Result (List ℕ) Trouble). TookPart err0 err1 (outcome_text o)) (sym is) (h.1 t))))
  refused_ends outcome fault is StatusNoMemory h =
      parts outcome of_memory (λ t. elim (h t) [
        | inl own ↦ inl (own.0, subst (λ (o : Result (List ℕ) Trouble). TookPart err0 err1 (outcome_text o)) (sym is) own.1)
        | inr other ↦ inr other
      ])
  refused_ends outcome fault is Done h = absurd h
  refused_ends outcome fault is (Usage at) h = absurd h
  refused_ends outcome fault is (CommandFailed got) h = absurd h

  pub device_ends : (outcome : Result (List ℕ) Trouble) → outcome ≡ Err ByDevice → (s : Status) → s ≡ Device → (IsTrue heard.err → TookText err0 err1 device_text) → Ends outcome s
  device_ends outcome is s at told = subst (λ (s : Status). Ends outcome s) (sym at) (inl is, parts outcome of_device (λ t. inr (told t)))

  pub memory_ends : (outcome : Result (List ℕ) Trouble) (s : Status) → s ≡ StatusNoMemory → (IsTrue heard.err → TookText err0 err1 memory_text) → Ends outcome s
  memory_ends outcome s at told = subst (λ (s : Status). Ends outcome s) (sym at) (parts outcome of_memory (λ t. inr (told t)))
