use Rattle.std.proofs.Common.{◌≤◌, ◌<◌, length, List, ℕ, Option, Vec, Ok, Err, refl, subst, arith, rules}
use Rattle.std.specs.declared.alloc.Global.{Global}
use Rattle.places.specs.All.{Names, text_of}
use Rattle.repository.specs.All.{object_place}
use Rattle.object_store.specs.Files.{TextReads, IsTaken}
use Rattle.acts.proofs.Reading.{read_exits}
use Rattle.object_store.proofs.Gets.{get_no_places, get_stops, get_none, get_found, get_refused, taken_named}
use Rattle.object_store.proofs.reading.get.Goals as goal

pub returns-then-as_str-gt-OBJECT_LIMIT-clause-reads : goal.returns-then-as_str-gt-OBJECT_LIMIT-clause-reads
returns-then-as_str-gt-OBJECT_LIMIT-clause-reads g c =
    let d = g.F.Files.drive c.args.files.now in
    let long : 4046 < length (text_of c.args.repo.now) = search rules in
    get_no_places g.F.Files.tells c.args.repo.now c.args.id.now.0 d d c.in_ok-repo_too_large.field-0 (omega arith) long c.in_ok-repo_too_large.ensures (λ t. refl)

pub returns-in_err-text-clause-reads : goal.returns-in_err-text-clause-reads
returns-in_err-text-clause-reads g c =
    let drive = g.F.Files.drive in
    let old = drive c.args.files.now in
    let new = drive c.read_text.new.files in
    let fits : length (text_of c.args.repo.now) ≤ 4046 = search rules in
    let texts = subst (λ (p : Names). TextReads g.F.Files.tells p old new (Err c.in_err-text.field-0.0)) c.in_ok-place.ensures c.in_err-text.ensures in
    read_exits c.from_residual-in_err-text.ensures.1 (get_stops g.F.Files.tells c.args.repo.now c.args.id.now.0 old new fits c.in_err-text.field-0.0 texts)

pub returns-in_default-clause-reads : goal.returns-in_default-clause-reads
returns-in_default-clause-reads g c =
    let drive = g.F.Files.drive in
    let old = drive c.args.files.now in
    let new = drive c.read_text.new.files in
    let fits : length (text_of c.args.repo.now) ≤ 4046 = search rules in
    let texts = subst (λ (p : Names). TextReads g.F.Files.tells p old new (Ok c.in_ok-text.field-0)) c.in_ok-place.ensures c.in_ok-text.ensures in
    get_none g.F.Files.tells c.args.repo.now c.args.id.now.0 old new fits
    (subst (λ (v : Option (Vec ℕ Global)). TextReads g.F.Files.tells (object_place c.args.repo.now c.args.id.now.0) old new (Ok v)) c.in_default.is texts)

pub returns-in_err-found-clause-reads : goal.returns-in_err-found-clause-reads
returns-in_err-found-clause-reads g c =
    let drive = g.F.Files.drive in
    let repo = c.args.repo.now in
    let id = c.args.id.now.0 in
    let old = drive c.args.files.now in
    let new = drive c.read_text.new.files in
    let fits : length (text_of repo) ≤ 4046 = search rules in
    let texts = subst (λ (p : Names). TextReads g.F.Files.tells p old new (Ok c.in_ok-text.field-0)) c.in_ok-place.ensures c.in_ok-text.ensures in
    let some = subst (λ (v : Option (Vec ℕ Global)). TextReads g.F.Files.tells (object_place repo id) old new (Ok v)) c.in-Some.is texts in
    let placed = subst (λ (p : Names). IsTaken p id c.as_slice.result.now (Err c.in_err-found.field-0.0)) c.in_ok-place.ensures c.in_err-found.ensures in
    let taken = subst (λ (x : List ℕ). IsTaken (object_place repo id) id x (Err c.in_err-found.field-0.0)) c.as_slice.ensures.value placed in
    read_exits c.from_residual-in_err-found.ensures.1 (get_refused g.F.Files.tells repo id old new fits c.in-Some.text some c.in_err-found.field-0.0 taken)

pub returns-clause-reads : goal.returns-clause-reads
returns-clause-reads g c =
    let drive = g.F.Files.drive in
    let repo = c.args.repo.now in
    let id = c.args.id.now.0 in
    let old = drive c.args.files.now in
    let new = drive c.read_text.new.files in
    let fits : length (text_of repo) ≤ 4046 = search rules in
    let texts = subst (λ (p : Names). TextReads g.F.Files.tells p old new (Ok c.in_ok-text.field-0)) c.in_ok-place.ensures c.in_ok-text.ensures in
    let some = subst (λ (v : Option (Vec ℕ Global)). TextReads g.F.Files.tells (object_place repo id) old new (Ok v)) c.in-Some.is texts in
    let placed = subst (λ (p : Names). IsTaken p id c.as_slice.result.now (Ok c.in_ok-found.found)) c.in_ok-place.ensures c.in_ok-found.ensures in
    let taken = subst (λ (x : List ℕ). IsTaken (object_place repo id) id x (Ok c.in_ok-found.found)) c.as_slice.ensures.value placed in
    get_found g.F.Files.tells repo id old new fits c.in-Some.text some c.in_ok-found.found taken

pub returns-clause-named : goal.returns-clause-named
returns-clause-named g c = taken_named c.in_ok-place.place c.args.id.now.0 c.as_slice.result.now c.in_ok-found.found c.in_ok-found.ensures
