-- A command's act, printed.
use Rattle.std.proofs.Common.{◌≡◌, inl, inr, ℕ, Bool, IsTrue, List, [], ◌++◌, Result, Ok, Err, refl, sym, ◌∙◌, ap, subst, arith, append-nil}
use Rattle.std.proofs.lemmas.List.{take-append-le}
use Rattle.file_store.specs.All.{Counts, Drive, Tape, present, still}
use Rattle.faults.specs.All.{fault_text}
use Rattle.faults.specs.declared.lines.Line.{Line}
use Rattle.faults.specs.declared.faults.Fault.{Fault}
use Rattle.faults.specs.declared.faults.Trouble.{Trouble}
use Rattle.faults.specs.declared.faults.Trouble.TheVariants.{Refused as RefusedBy}
use Rattle.faults.specs.declared.faults.Trouble.TheVariants.{Device as ByDevice}
use Rattle.faults.specs.declared.faults.Trouble.TheVariants.{NoMemory as ByMemory}
use Rattle.acts.specs.All.{Act, Ending, Gives, Refuses, Breaks, Gave, Reaches, HasCome}
use Rattle.acts.specs.All.{EndsRefused, EndsAs, HasCause, IsHalt, WasHalted, is_device, last_of}
use Rattle.acts.specs.All.{lines_in, lines_of}
use Rattle.acts.proofs.Come.{at_last}
use Rattle.datalad_cli.specs.Answer.{lines_text}
use Rattle.datalad_cli.specs.Commands.{CarriesOut, Command, IsActOf, MayAnswer}
use Rattle.datalad_cli.specs.Decides.{HasFault, MayEnd, CommandSays}
use Rattle.datalad_cli.specs.Reports.{Failure, Heard, Tapes, Says, SaysPart, TookPart, ReportEnds}
use Rattle.datalad_cli.specs.Reports.{OutputCounts, of_device, of_memory, outcome_gives}
use Rattle.datalad_cli.specs.Reports.{outcome_text, printed}
use Rattle.datalad_cli.specs.Ends.{World, Telling, ending_text, given_text, WasCutOff, StatusEnds}
use Rattle.datalad_cli.specs.Ends.{EndsHalted, CommandEnds, RefusesSoundly, StatusCause}
use Rattle.datalad_cli.specs.declared.status.Status.{Status}
use Rattle.datalad_cli.specs.declared.status.Status.TheVariants.{Done, Refused, Usage, NoMemory}
use Rattle.datalad_cli.specs.declared.status.Status.TheVariants.{Device, CommandFailed}
use Rattle.datalad_cli.proofs.Follows.{Follows}

none_more : (old new : Tape) (b : List ℕ) → TookPart old new [] → TookPart old new b
none_more old new b took = (
  took.0,
  omega (arith, took.1),
  took.2 ∙ ap (λ t. old.bytes ++ t) (sym (take-append-le took.0 [] b took.1)),
)

module _ (act : Act (List ℕ)) (lines : List Line) (d0 d1 : Drive) where
  refused_text : (e : Ending (List ℕ)) (fault : Fault) → EndsRefused e fault (Reaches act d0 d1) → fault_text fault ≡ ending_text e
  refused_text (Gives _) fault h = absurd h
  refused_text (Refuses own) fault h = ap fault_text (sym h.0)
  refused_text (Breaks own) fault h = ap fault_text (sym h)

  text_part : (r : Result (List ℕ) Trouble) (old new : Tape) → EndsAs act [] lines d0 d1 r → TookPart old new (outcome_text r) → TookPart old new (ending_text act.ending)
  text_part (Ok _) old new was took = none_more old new _ took
  text_part (Err (RefusedBy fault)) old new was took = subst (λ (t : List ℕ). TookPart old new t) (refused_text act.ending fault was.ending) took
  text_part (Err ByDevice) old new was took = none_more old new _ took
  text_part (Err ByMemory) old new was took = none_more old new _ took

  -- first parts of the texts, by the act's lines and its own text
  parts : (heard : Heard) (failure : Failure) (t0 t1 : Tapes) (r : Result (List ℕ) Trouble) (l : List Line) (text : List ℕ) → lines ≡ l → EndsAs act [] lines d0 d1 r
      → SaysPart heard (lines_text lines ++ text) (outcome_text r) failure t0 t1 → SaysPart heard (lines_text l ++ text) (ending_text act.ending) failure t0 t1
  parts heard failure t0 t1 r l text same was says = record {
    out_part = λ h. subst (λ (l : List Line). TookPart t0.out t1.out (lines_text l ++ text)) same (says.out_part h);
    out_whole = λ p h. elim (says.out_whole p h) [ inl rose ↦ inl rose | inr whole ↦ inr (subst (λ (l : List Line). t1.out.bytes ≡ t0.out.bytes ++ (lines_text l ++ text)) same whole) ];
    err_part = λ h. elim (says.err_part h) [ inl own ↦ inl (own.0, text_part r t0.err t1.err was own.1) | inr other ↦ inr other ];
  }

  -- a failure came, of the command or of the printing: all was done where the act gave its text
  cut : (heard : Heard) (failure : Failure) (t0 t1 : Tapes) (r : Result (List ℕ) Trouble) → EndsAs act [] lines d0 d1 r → HasCome act [] lines d0 d1
      → SaysPart heard (printed lines r) (outcome_text r) failure t0 t1
      → WasCutOff heard act failure (record { drive = d0; tapes = t0 }) (record { drive = d1; tapes = t1 })
  cut heard failure t0 t1 (Ok text) was came says = record {
    done = act.events;
    rest = [];
    splits = sym (append-nil act.events);
    text = text;
    given = inr (refl, ap given_text (sym was.ending));
    lies = still (at_last act.loose d0.history.latest (last_of act (present d0)) d1.history.latest was.reaches.stands was.reaches.rests);
    says = parts heard failure t0 t1 (Ok text) (lines_in act) text was.said was says;
  }
  cut heard failure t0 t1 (Err t) was came says = record {
    done = came.done;
    rest = came.rest;
    splits = came.splits;
    text = [];
    given = inl refl;
    lies = came.lies;
    says = parts heard failure t0 t1 (Err t) (lines_of came.done) [] came.said was says;
  }

module _ (heard : Heard) (act : Act (List ℕ)) (lines : List Line) (old new : World) where
  -- the act's ending, printed
  act_ends : (r : Result (List ℕ) Trouble) → EndsAs act [] lines old.drive new.drive r → HasCome act [] lines old.drive new.drive
      → (s : Status) → ReportEnds heard lines r old.tapes new.tapes s → StatusEnds heard act old new s
  act_ends r ends came Done (text, is, says) =
      let was : Gave act text [] lines old.drive new.drive = subst (λ (r : Result (List ℕ) Trouble). EndsAs act [] lines old.drive new.drive r) is ends in
      let own : Says heard (lines_text lines ++ text) [] old.tapes new.tapes = subst (λ (r : Result (List ℕ) Trouble). Says heard (printed lines r) [] old.tapes new.tapes) is says in
      (text, was.ending, was.reaches, subst (λ (l : List Line). Says heard (lines_text l ++ text) [] old.tapes new.tapes) was.said own)
  act_ends r ends came (Refused fault) (is, says) =
      let was = subst (λ (r : Result (List ℕ) Trouble). EndsAs act [] lines old.drive new.drive r) is ends in
      let own = subst (λ (r : Result (List ℕ) Trouble). Says heard (printed lines r) (fault_text fault) old.tapes new.tapes) is says in
      let plain : Says heard (lines_text lines) (fault_text fault) old.tapes new.tapes = subst (λ (t : List ℕ). Says heard t (fault_text fault) old.tapes new.tapes) (append-nil (lines_text lines)) own in
      (was.ending, subst (λ (l : List Line). Says heard (lines_text l) (fault_text fault) old.tapes new.tapes) was.said plain)
  act_ends r ends came Device (why, says) = cut act lines old.drive new.drive heard of_device old.tapes new.tapes r ends came says
  act_ends r ends came NoMemory says = cut act lines old.drive new.drive heard of_memory old.tapes new.tapes r ends came says
  act_ends r ends came (Usage at) h = h
  act_ends r ends came (CommandFailed got) h = h

no_text : (r : Result (List ℕ) Trouble) → IsHalt r → outcome_text r ≡ []
no_text (Ok _) h = absurd h
no_text (Err (RefusedBy fault)) h = absurd h
no_text (Err ByDevice) h = refl
no_text (Err ByMemory) h = refl

none_given : (r : Result (List ℕ) Trouble) → IsHalt r → outcome_gives r ≡ []
none_given (Ok _) h = absurd h
none_given (Err t) h = refl

module _ (heard : Heard) (lines : List Line) (old new : World) (r : Result (List ℕ) Trouble) (halt : WasHalted [] lines old.drive new.drive r) where
  no_part : (failure : Failure) → SaysPart heard (printed lines r) (outcome_text r) failure old.tapes new.tapes → SaysPart heard [] [] failure old.tapes new.tapes
  no_part failure says =
      subst (λ (l : List Line). SaysPart heard (lines_text l ++ []) [] failure old.tapes new.tapes) halt.said
      (subst (λ (t : List ℕ). SaysPart heard (lines_text lines ++ t) [] failure old.tapes new.tapes) (none_given r halt.why)
      (subst (λ (t : List ℕ). SaysPart heard (printed lines r) t failure old.tapes new.tapes) (no_text r halt.why) says))

  -- a command that was halted at once, printed
  halt_ends : (s : Status) → ReportEnds heard lines r old.tapes new.tapes s → EndsHalted heard old new s
  halt_ends Done (text, is, says) = subst (λ (r : Result (List ℕ) Trouble). IsHalt r) is halt.why
  halt_ends (Refused fault) (is, says) = subst (λ (r : Result (List ℕ) Trouble). IsHalt r) is halt.why
  halt_ends Device (why, says) = (halt.kept, no_part of_device says)
  halt_ends NoMemory says = (halt.kept, no_part of_memory says)
  halt_ends (Usage at) h = h
  halt_ends (CommandFailed got) h = h

module _ (telling : Telling) (command : Command) (lines : List Line) (old new : World) (r : Result (List ℕ) Trouble)
    (acts : CarriesOut telling.files command [] lines old.drive new.drive r)
    (follows : Follows command old.drive new.drive) where
  -- the count of the files, by the outcome
  counts : (outcome : Result (List ℕ) Trouble) → r ≡ outcome → Counts (is_device outcome) old.drive.faults new.drive.faults
  counts outcome is = subst (λ (r : Result (List ℕ) Trouble). Counts (is_device r) old.drive.faults new.drive.faults) is acts.later

  cause_of : (s : Status) → OutputCounts s old.tapes.out new.tapes.out → OutputCounts s old.tapes.err new.tapes.err → ReportEnds telling.heard lines r old.tapes new.tapes s → StatusCause old new s
  cause_of Done out err (text, is, says) = record { files = counts (Ok text) is; out = out; err = err }
  cause_of (Refused fault) out err (is, says) = record { files = counts (Err (RefusedBy fault)) is; out = out; err = err }
  cause_of Device out err (why, says) = elim why [ inl is ↦ inl (counts (Err ByDevice) is) | inr rose ↦ inr rose ]
  cause_of NoMemory out err h = tt
  cause_of (Usage at) out err h = h
  cause_of (CommandFailed got) out err h = h

  -- a refusal that was printed is one of the act
  soundly : IsTrue telling.files → (act : Act (List ℕ)) → IsActOf command (present old.drive) act → EndsAs act [] lines old.drive new.drive r
      → (s : Status) → ReportEnds telling.heard lines r old.tapes new.tapes s → RefusesSoundly command (present old.drive) s
  soundly t act own ends Done h = tt
  soundly t act own ends (Refused fault) (is, says) = λ sound.
      let was = subst (λ (r : Result (List ℕ) Trouble). EndsAs act [] lines old.drive new.drive r) is ends in
      let may = subst (λ (r : Result (List ℕ) Trouble). HasCause (λ fault. MayAnswer telling.files command fault) r) is acts.cause in
      follows.refused act fault own was.ending (subst (λ (b : Bool). MayAnswer b command fault) t may) sound
  soundly t act own ends Device h = tt
  soundly t act own ends NoMemory h = tt
  soundly t act own ends (Usage at) h = h
  soundly t act own ends (CommandFailed got) h = h

  -- ONE LAW for all commands
  pub prints : (s : Status) → OutputCounts s old.tapes.out new.tapes.out → OutputCounts s old.tapes.err new.tapes.err → ReportEnds telling.heard lines r old.tapes new.tapes s → CommandEnds telling command old new s
  prints s out err report = record {
    cause = cause_of s out err report;
    told = λ t. elim (acts.told t) [
      | inl halt ↦ inl (halt_ends telling.heard lines old new r halt s report)
      | inr one ↦ inr (
        one.0,
        record {
          own = one.1;
          ends = act_ends telling.heard one.0 lines old new r one.2.ends one.2.came s report;
          moments = follows.leaves one.0 one.1 one.2.moments;
          sound = follows.sound one.0 one.1;
          complete = soundly t one.0 one.1 one.2.ends s report;
        },
      )
    ];
    one = follows.one;
  }

-- the faults of an outcome
pub fault_of : (tells : Bool) (command : Command) (r : Result (List ℕ) Trouble) → HasCause (λ fault. MayAnswer tells command fault) r → HasFault tells command r
fault_of tells command (Ok _) h = tt
fault_of tells command (Err (RefusedBy fault)) h = h
fault_of tells command (Err ByDevice) h = tt
fault_of tells command (Err ByMemory) h = tt

-- what a command says, whatever the files tell
pub command_says : (t : Telling) (command : Command) (old new : World) (lines : List Line) (outcome : Result (List ℕ) Trouble) (status : Status)
    → MayEnd t.files command lines outcome → ReportEnds t.heard lines outcome old.tapes new.tapes status → CommandSays t command old new status
command_says t command old new lines outcome Done may (text, is, says) = (
  text,
  (lines, subst (λ (o : Result (List ℕ) Trouble). MayEnd t.files command lines o) is may, subst (λ (o : Result (List ℕ) Trouble). Says t.heard (printed lines o) [] old.tapes new.tapes) is says),
)
command_says t command old new lines outcome (Refused fault) may (is, says) = (
  lines,
  subst (λ (o : Result (List ℕ) Trouble). MayEnd t.files command lines o) is may,
  subst (λ (o : Result (List ℕ) Trouble). Says t.heard (printed lines o) (fault_text fault) old.tapes new.tapes) is says,
)
command_says t command old new lines outcome Device may rep = (lines, outcome, may, rep.1)
command_says t command old new lines outcome NoMemory may rep = (lines, outcome, may, rep)
command_says t command old new lines outcome (Usage at) may rep = absurd rep
command_says t command old new lines outcome (CommandFailed got) may rep = absurd rep
