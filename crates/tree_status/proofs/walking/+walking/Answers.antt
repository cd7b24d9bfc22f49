use Rattle.std.proofs.Common.{◌≡◌, ◌≤◌, ◌<◌, ◌+◌, ◌++◌, ◌∷◌, ◌∙◌, [], List, ℕ, Some, length, take, drop, refl, ap, sym, subst, arith, rules}
use Rattle.std.specs.Prelude.{string_bytes}
use Rattle.std.proofs.lemmas.Grind.{common_steps}
use Rattle.std.proofs.lemmas.List.{take-append-drop}
use Rattle.places.specs.All.{Ground, slash, names_of}
use Rattle.file_store.specs.All.{History, present, kind_at}
use Rattle.file_store.specs.declared.kinds.Item.{Item}
use Rattle.acts.proofs.Reading.{read_gives, read_exits, read_after}
use Rattle.tree_status.specs.Keeping.{limit_by}
use Rattle.tree_status.specs.Working.{items, item_at, fault_along}
use Rattle.tree_status.specs.Tasks.{ArePlanned, IsTask}
use Rattle.tree_status.specs.Walks.{Went, IsFront, IsWorkingPath, IsAt, IsPlanned, part, within}
use Rattle.tree_status.specs.Walks.{one_of}
use Rattle.tree_status.proofs.Paths.{names_slash}
use Rattle.tree_status.proofs.Mapped.{read_map, err_map}
use Rattle.tree_status.proofs.Parts.{parts}
use Rattle.tree_status.proofs.Covers.{Listed}
use Rattle.tree_status.proofs.Steps.{own_went, own_fails, none_went, inside_went, inside_fails, path_short, path_longer, task_is, task_went, task_fails, all_went}
use Rattle.tree_status.proofs.TaskPaths.{key_filled, item_path, inside_front_of}
use Rattle.tree_status.proofs.walking.+walking.Goals as goal

pub take_task-visit-requires : goal.take_task-visit-requires
take_task-visit-requires g t c =
    let whole : string_bytes c.push_str.new.self ≡ c.args.front.now ++ c.args.task.now.name =
    c.in_ok-push_str.ensures.bytes ∙ (λ i. c.in_ok-path.ensures.ok i ++ c.as_str.ensures.value i) in
    let none = rw c.in_default.is at c.without_slash.ensures in
    subst IsWorkingPath (sym (c.as_str-in_default.ensures.value ∙ whole))
    (item_path c.args.front.now c.args.task.now.name c.requires.1.1.1.0 c.requires.1.1.1.1.1 (λ front e. none front (c.as_str-2.ensures.value ∙ whole ∙ e)))

pub take_task-returns-in_default : goal.take_task-returns-in_default
take_task-returns-in_default g t c =
    let ground = present (g.F.Files.drive c.args.files.now) in
    let root = c.args.root.now in
    let limits = limit_by c.args.by.now in
    let kind = c.args.task.now.kind in
    let whole : string_bytes c.push_str.new.self ≡ c.args.front.now ++ c.args.task.now.name =
    c.in_ok-push_str.ensures.bytes ∙ (λ i. c.in_ok-path.ensures.ok i ++ c.as_str.ensures.value i) in
    let path : c.as_str-in_default.result.now ≡ c.args.front.now ++ c.args.task.now.name = c.as_str-in_default.ensures.value ∙ whole in
    let none = rw c.in_default.is at c.without_slash.ensures in
    let plain : (front : List ℕ) → c.args.front.now ++ c.args.task.now.name ≡ front ++ slash ∷ [] → ⊥ = λ front e. none front (c.as_str-2.ensures.value ∙ whole ∙ e) in
    read_map c.visit.result (λ fault may _. may)
    (λ told _ went planned. own_went limits root ground (c.args.front.now ++ c.args.task.now.name) kind c.args.found.now c.visit.new.found plain
    (subst (λ (p : List ℕ). kind ≡ kind_at ground (root ++ names_of p) → Went limits root (one_of p (item_at ground (root ++ names_of p))) c.args.found.now c.visit.new.found) path went) planned)
    (λ told fault fails planned. own_fails limits root ground (c.args.front.now ++ c.args.task.now.name) kind c.args.found.now.count fault plain
    (subst (λ (p : List ℕ). kind ≡ kind_at ground (root ++ names_of p) → fault_along limits root c.args.found.now.count (one_of p (item_at ground (root ++ names_of p))) ≡ Some fault) path fails) planned)
    c.visit.ensures

pub take_task-returns-in_default-2 : goal.take_task-returns-in_default-2
take_task-returns-in_default-2 g t c =
    let ground = present (g.F.Files.drive c.args.files.now) in
    let root = c.args.root.now in
    let limits = limit_by c.args.by.now in
    let whole : string_bytes c.push_str.new.self ≡ c.args.front.now ++ c.args.task.now.name =
    c.in_ok-push_str.ensures.bytes ∙ (λ i. c.in_ok-path.ensures.ok i ++ c.as_str.ensures.value i) in
    let cut = rw c.in-Some.is at c.without_slash.ensures in
    let is : c.args.front.now ++ c.args.task.now.name ≡ c.in-Some.directory.now ++ slash ∷ [] = sym (c.as_str-2.ensures.value ∙ whole) ∙ cut in
    let text = rw c.in_default-2.is at c.in_ok-place.ensures in
    read_gives (omega arith) (λ told. (refl, λ planned. none_went limits root ground (c.args.front.now ++ c.args.task.now.name) c.args.task.now.kind c.in-Some.directory.now c.args.found.now is text planned))

pub take_task-walk-requires : goal.take_task-walk-requires
take_task-walk-requires g t c =
    let root = c.args.root.now in
    let whole : string_bytes c.push_str.new.self ≡ c.args.front.now ++ c.args.task.now.name =
    c.in_ok-push_str.ensures.bytes ∙ (λ i. c.in_ok-path.ensures.ok i ++ c.as_str.ensures.value i) in
    let cut = rw c.in-Some.is at c.without_slash.ensures in
    let at = rw c.in-Some-2.is at c.in_ok-place.ensures in
    let same : c.as_str-3.result.now ≡ c.in-Some.directory.now ++ slash ∷ [] = c.as_str-3.ensures.value ∙ sym c.as_str-2.ensures.value ∙ cut in
    let short : length c.as_str-3.result.now ≤ 4097 = path_short root c.in-Some.directory.now c.as_str-3.result.now same at.0 in
    let some = key_filled c.args.task.now.name c.requires.1.1.1.1.1 in
    let front : IsFront c.as_str-3.result.now = subst IsFront (sym (c.as_str-3.ensures.value ∙ whole)) (inside_front_of c.args.front.now c.args.task.now.name c.in-Some.directory.now c.requires.1.1.1.0 c.requires.1.1.1.1.1 (sym (c.as_str-2.ensures.value ∙ whole) ∙ cut)) in
    let more : length c.args.front.now < length c.as_str-3.result.now = path_longer c.args.front.now c.args.task.now.name c.as_str-3.result.now (c.as_str-3.ensures.value ∙ whole) some in
    search rules

pub take_task-returns : goal.take_task-returns
take_task-returns g t c =
    let ground = present (g.F.Files.drive c.args.files.now) in
    let root = c.args.root.now in
    let limits = limit_by c.args.by.now in
    let kind = c.args.task.now.kind in
    let path = c.args.front.now ++ c.args.task.now.name in
    let whole : string_bytes c.push_str.new.self ≡ path = c.in_ok-push_str.ensures.bytes ∙ (λ i. c.in_ok-path.ensures.ok i ++ c.as_str.ensures.value i) in
    let cut = rw c.in-Some.is at c.without_slash.ensures in
    let at = rw c.in-Some-2.is at c.in_ok-place.ensures in
    let is : path ≡ c.in-Some.directory.now ++ slash ∷ [] = sym (c.as_str-2.ensures.value ∙ whole) ∙ cut in
    let same : c.as_str-3.result.now ≡ path = c.as_str-3.ensures.value ∙ whole in
    let names : names_of path ≡ names_of c.in-Some.directory.now = ap names_of is ∙ names_slash c.in-Some.directory.now in
    read_map c.walk.result (λ fault may _. may)
    (λ told _ went planned. inside_went limits root ground path kind c.in-Some.directory.now c.in-Some-2.place c.args.found.now c.walk.new.found is at.0 at.1 names
    (subst (λ (p : List ℕ). IsAt root c.in-Some-2.place p → Went limits root (within p (items root ground)) c.args.found.now c.walk.new.found) same went) planned)
    (λ told fault fails planned. inside_fails limits root ground path kind c.in-Some.directory.now c.in-Some-2.place c.args.found.now.count fault is at.0 at.1 names
    (subst (λ (p : List ℕ). IsAt root c.in-Some-2.place p → fault_along limits root c.args.found.now.count (within p (items root ground)) ≡ Some fault) same fails) planned)
    c.walk.ensures

pub walk-take_task-requires : goal.walk-take_task-requires
walk-take_task-requires g t c =
    let i = c.loop-task.task-index in
    let tasks = c.deref-task-items.result.now in
    let rest : drop i tasks ≡ c.task-item.result ∷ drop (i + 1) tasks = grind (arith, common_steps) in
    let split : c.in_ok-tasks.tasks.items ≡ take i tasks ++ c.task-item.result ∷ drop (i + 1) tasks =
    sym c.deref-task-items.ensures.value ∙ sym (take-append-drop i tasks) ∙ ap (λ (z : List Item). take i tasks ++ z) rest in
    let planned : ArePlanned c.in_ok-items.items.items c.in_ok-tasks.tasks.items = subst (λ (l : List Item). ArePlanned l c.in_ok-tasks.tasks.items) c.as_slice.ensures.value c.in_ok-tasks.ensures in
    let task : IsTask c.task-item.result.name = task_is c.in_ok-items.items.items c.in_ok-tasks.tasks.items (take i tasks) (drop (i + 1) tasks) c.task-item.result c.in_ok-items.ensures.ends.0.names planned split in
    search rules

pub walk-returns-in_err-take_task : goal.walk-returns-in_err-take_task
walk-returns-in_err-take_task g t c =
    let drive = g.F.Files.drive in
    let root = c.args.root.now in
    let limits = limit_by c.args.by.now in
    let front = c.args.front.now in
    let i = c.loop-task.task-index in
    let tasks = c.deref-task-items.result.now in
    let x = c.task-item.result in
    let rest : drop i tasks ≡ x ∷ drop (i + 1) tasks = grind (arith, common_steps) in
    let split : c.in_ok-tasks.tasks.items ≡ take i tasks ++ x ∷ drop (i + 1) tasks =
    sym c.deref-task-items.ensures.value ∙ sym (take-append-drop i tasks) ∙ ap (λ (z : List Item). take i tasks ++ z) rest in
    let planned : ArePlanned c.in_ok-items.items.items c.in_ok-tasks.tasks.items = subst (λ (l : List Item). ArePlanned l c.in_ok-tasks.tasks.items) c.as_slice.ensures.value c.in_ok-tasks.ensures in
    let inv = c.loop-task.invariant in
    read_exits c.from_residual-in_err-take_task.ensures.1 (read_after inv.later inv.same (err_map c.in_err-take_task.field-0.0 (λ fault may _. may)
    (λ told fault fails at.
    let now_is : present (drive c.loop-task.files) ≡ present (drive c.args.files.now) = ap (λ (h : History). h.latest.now) (inv.same told) in
    let ends = c.in_ok-items.ensures.ends in
    let l : Listed root (present (drive c.args.files.now)) c.args.place.now front c.in_ok-items.items.items c.in_ok-tasks.tasks.items =
    record { at = at; ground = g.met.F.Files.grounded c.args.files.now told; listed = ends.0; listing = (ends.1 told).1; planned = planned } in
    ap (λ (gr : Ground). fault_along limits root c.args.found.now.count (within front (items root gr))) now_is
    ∙ task_fails limits root (present (drive c.args.files.now)) c.args.place.now front c.in_ok-items.items.items c.in_ok-tasks.tasks.items l (take i tasks) x (drop (i + 1) tasks) c.args.found.now c.loop-task.found fault split (inv.went told at)
    (subst (λ (gr : Ground). IsPlanned root gr (front ++ x.name) x.kind → fault_along limits root c.loop-task.found.count (part (front ++ x.name) (items root gr)) ≡ Some fault) now_is fails))
    c.in_err-take_task.ensures))

pub walk-loop-task-preserved : goal.walk-loop-task-preserved
walk-loop-task-preserved g t c =
    let drive = g.F.Files.drive in
    let root = c.args.root.now in
    let limits = limit_by c.args.by.now in
    let front = c.args.front.now in
    let i = c.loop-task.task-index in
    let tasks = c.deref-task-items.result.now in
    let x = c.task-item.result in
    let rest : drop i tasks ≡ x ∷ drop (i + 1) tasks = grind (arith, common_steps) in
    let split : c.in_ok-tasks.tasks.items ≡ take i tasks ++ x ∷ drop (i + 1) tasks =
    sym c.deref-task-items.ensures.value ∙ sym (take-append-drop i tasks) ∙ ap (λ (z : List Item). take i tasks ++ z) rest in
    let more : take (i + 1) tasks ≡ take i tasks ++ x ∷ [] = grind (arith, common_steps) in
    let planned : ArePlanned c.in_ok-items.items.items c.in_ok-tasks.tasks.items = subst (λ (l : List Item). ArePlanned l c.in_ok-tasks.tasks.items) c.as_slice.ensures.value c.in_ok-tasks.ensures in
    let inv = c.loop-task.invariant in
    let took = c.in_ok-take_task.ensures in
    record {
      later = omega (arith, inv.later, took.later);
      same = λ told. (took.told told).same ∙ inv.same told;
      went = λ told at.
          let now_is : present (drive c.loop-task.files) ≡ present (drive c.args.files.now) = ap (λ (h : History). h.latest.now) (inv.same told) in
          let ends = c.in_ok-items.ensures.ends in
          let l : Listed root (present (drive c.args.files.now)) c.args.place.now front c.in_ok-items.items.items c.in_ok-tasks.tasks.items =
          record { at = at; ground = g.met.F.Files.grounded c.args.files.now told; listed = ends.0; listing = (ends.1 told).1; planned = planned } in
          subst (λ (ts : List Item). Went limits root (parts front ts (items root (present (drive c.args.files.now)))) c.args.found.now c.take_task.new.found) (sym more)
          (task_went limits root (present (drive c.args.files.now)) c.args.place.now front c.in_ok-items.items.items c.in_ok-tasks.tasks.items l (take i tasks) x (drop (i + 1) tasks) c.args.found.now c.loop-task.found c.take_task.new.found split (inv.went told at)
          (subst (λ (gr : Ground). IsPlanned root gr (front ++ x.name) x.kind → Went limits root (part (front ++ x.name) (items root gr)) c.loop-task.found c.take_task.new.found) now_is (took.told told).answer));
    }

pub walk-returns : goal.walk-returns
walk-returns g t c =
    let drive = g.F.Files.drive in
    let root = c.args.root.now in
    let limits = limit_by c.args.by.now in
    let front = c.args.front.now in
    let i = c.loop-task.task-index in
    let tasks = c.deref-task-items.result.now in
    let planned : ArePlanned c.in_ok-items.items.items c.in_ok-tasks.tasks.items = subst (λ (l : List Item). ArePlanned l c.in_ok-tasks.tasks.items) c.as_slice.ensures.value c.in_ok-tasks.ensures in
    let every : take i tasks ≡ tasks = grind (arith, common_steps) in
    let inv = c.loop-task.invariant in
    read_gives inv.later (λ told. (
      inv.same told,
      λ at.
          let ends = c.in_ok-items.ensures.ends in
          let l : Listed root (present (drive c.args.files.now)) c.args.place.now front c.in_ok-items.items.items c.in_ok-tasks.tasks.items =
          record { at = at; ground = g.met.F.Files.grounded c.args.files.now told; listed = ends.0; listing = (ends.1 told).1; planned = planned } in
          all_went limits root (present (drive c.args.files.now)) c.args.place.now front c.in_ok-items.items.items c.in_ok-tasks.tasks.items l c.args.found.now c.loop-task.found
          (subst (λ (ts : List Item). Went limits root (parts front ts (items root (present (drive c.args.files.now)))) c.args.found.now c.loop-task.found) (every ∙ c.deref-task-items.ensures.value) (inv.went told at)),
    ))
