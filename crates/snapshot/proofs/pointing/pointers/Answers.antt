use Rattle.std.proofs.Common.{◌≡◌, ◌+◌, ◌++◌, ◌∷◌, ◌∙◌, [], List, Option, Vec, Ok, take, drop, ap, sym, subst, arith}
use Rattle.std.proofs.lemmas.Grind.{common_steps}
use Rattle.std.proofs.lemmas.List.{take-append-drop}
use Rattle.std.specs.Prelude.{IfSome}
use Rattle.std.specs.declared.alloc.Global.{Global}
use Rattle.annex_keys.specs.All.{PlainKey}
use Rattle.acts.proofs.Reading.{read_exits}
use Rattle.snapshot.specs.Order.{IsSorted}
use Rattle.snapshot.specs.Pointers.{AreOfFiles, IsFile}
use Rattle.snapshot.specs.declared.entries.Entry.{Entry}
use Rattle.snapshot.specs.declared.pointing.Pointer.{Pointer}
use Rattle.snapshot.proofs.Annexing.{LeafReads, PointReads, files_pass, files_taken, point_fails, point_pass, point_taken, sorted_cut}
use Rattle.snapshot.proofs.pointing.pointers.Goals.{in-Some+in_ok-from_str+in_ok-push, in_default}
use Rattle.snapshot.proofs.pointing.pointers.Goals as goal

pub returns-in_err-key-clause-reads : goal.returns-in_err-key-clause-reads
returns-in_err-key-clause-reads g c =
    let drive = g.F.Files.drive in
    let i = c.loop-entry.entry-index in
    let entries = c.entries-entry-items.result.now in
    let e = c.entry-item.result in
    let rest : drop i entries ≡ e ∷ drop (i + 1) entries = grind (arith, common_steps) in
    let split : c.args.snapshot.now ≡ take i entries ++ e ∷ drop (i + 1) entries =
    sym c.entries-entry-items.ensures.value ∙ sym (take-append-drop i entries) ∙ ap (λ (z : List Entry). take i entries ++ z) rest in
    read_exits c.from_residual.ensures.1
    (point_fails g.F.Files.tells c.args.repo.now (take i entries) e (drive c.args.files.now) (drive c.loop-entry.files) (drive c.annexed_key.new.files) c.loop-entry.found c.loop-entry.invariant.so_far
    c.args.snapshot.now (drop (i + 1) entries) c.in_err-key.field-0.0 split c.in_err-key.ensures.reads)

pub loop-entry-preserved : goal.loop-entry-preserved
loop-entry-preserved g c =
    let tells = g.F.Files.tells in
    let drive = g.F.Files.drive in
    let repo = c.args.repo.now in
    let i = c.loop-entry.entry-index in
    let entries = c.entries-entry-items.result.now in
    let e = c.entry-item.result in
    let before = c.loop-entry.found in
    let after = c.match-branch-2.found in
    let old = drive c.args.files.now in
    let mid = drive c.loop-entry.files in
    let new = drive c.annexed_key.new.files in
    let so_far = c.loop-entry.invariant.so_far in
    let files = c.loop-entry.invariant.files in
    let split : take (i + 1) entries ≡ take i entries ++ e ∷ [] = grind (arith, common_steps) in
    let whole : c.args.snapshot.now ≡ take (i + 1) entries ++ drop (i + 1) entries = sym c.entries-entry-items.ensures.value ∙ sym (take-append-drop (i + 1) entries) in
    let sorted : IsSorted (take i entries ++ e ∷ []) = subst IsSorted split (sorted_cut (take (i + 1) entries) (drop (i + 1) entries) (subst IsSorted whole c.entries-entry-items.ensures.ordered.sorted)) in
    elim c.match-branch-2.branch [
      | in-Some+in_ok-from_str+in_ok-push w ↦
          let key = w.in-Some.key in
          let pointer : Pointer = record { path = w.new-path.result; key = key } in
          let path : pointer.path ≡ e.path = w.new-path.ensures ∙ w.in_ok-from_str.ensures.ok ∙ w.as_str.ensures.value in
          let more : after.items ≡ before.items ++ pointer ∷ [] = ap (λ (v : Vec Pointer Global). v.items) w.found-is ∙ w.in_ok-push.ensures.items in
          let leaf = subst (λ (o : Option PlainKey). LeafReads tells repo e.leaf mid new (Ok o)) w.in-Some.is c.in_ok-key.ensures.reads in
          let file = subst (λ (o : Option PlainKey). IfSome o (λ _. IsFile e.leaf)) w.in-Some.is c.in_ok-key.ensures.file in
          let own = subst (λ (z : List Pointer). AreOfFiles (take i entries ++ e ∷ []) z) (sym more) (files_taken (take i entries) e before.items pointer sorted path file files) in
          record {
            so_far = subst (λ (xs : List Entry). PointReads tells repo xs old new (Ok after)) (sym split) (point_taken tells repo (take i entries) e old mid new before so_far after pointer more path own leaf);
            files = subst (λ (xs : List Entry). AreOfFiles xs after.items) (sym split) own;
          }
      | in_default w ↦
          let leaf = subst (λ (o : Option PlainKey). LeafReads tells repo e.leaf mid new (Ok o)) w.in_default.is c.in_ok-key.ensures.reads in
          let own = subst (λ (v : Vec Pointer Global). AreOfFiles (take i entries ++ e ∷ []) v.items) (sym w.found-is) (files_pass (take i entries) e before.items files) in
          record {
            so_far = subst (λ (xs : List Entry). PointReads tells repo xs old new (Ok after)) (sym split)
                (subst (λ (v : Vec Pointer Global). PointReads tells repo (take i entries ++ e ∷ []) old new (Ok v)) (sym w.found-is) (point_pass tells repo (take i entries) e old mid new before so_far leaf));
            files = subst (λ (xs : List Entry). AreOfFiles xs after.items) (sym split) own;
          }
    ]
