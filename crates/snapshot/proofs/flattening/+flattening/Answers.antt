use Rattle.std.proofs.Common.{rules, ◌≡◌, ◌≤◌, ◌<◌, ◌+◌, ◌++◌, ◌∷◌, ◌∙◌, [], List, ℕ, Ok, Err, Result, length, take, drop, refl, ap, sym, subst, arith}
use Rattle.std.proofs.lemmas.Grind.{common_steps}
use Rattle.std.proofs.lemmas.List.{take-append-drop}
use Rattle.std.specs.Prelude.{string_bytes, OnOk}
use Rattle.places.specs.All.{longest, slash}
use Rattle.faults.specs.declared.faults.Trouble.{Trouble}
use Rattle.git_objects.specs.All.{is_tree}
use Rattle.git_objects.specs.declared.entries.TreeEntry.{TreeEntry}
use Rattle.acts.proofs.Reading.{read_exits}
use Rattle.repository.specs.All.{item_limit}
use Rattle.snapshot.specs.Dirs.{inside}
use Rattle.snapshot.specs.Order.{IsEntryName}
use Rattle.snapshot.specs.Walks.{IsFront, Spells, SpellsTree, in_dir}
use Rattle.snapshot.specs.declared.flattening.Found.{Found}
use Rattle.snapshot.proofs.Flat.{leaf_spells, dir_spells, spells_more, spells_tree, entry_in}
use Rattle.snapshot.proofs.Walks.{DirReads, entry_leaf, entry_dir, tree_fails, walk_more, walk_fails, walk_done, has_read, WereRead}
use Rattle.snapshot.proofs.flattening.+flattening.Goals as goal

on_ok : (P Q : Type 0) (r : Result (Unit {0}) Trouble) → (P → Q) → OnOk r P → OnOk r Q
on_ok P Q (Ok x) f h = f h
on_ok P Q (Err e) f h = h

pub add_entry-returns-in_ok-push-in-Some-clause-reads :
    goal.add_entry-returns-in_ok-push-in-Some-clause-reads
add_entry-returns-in_ok-push-in-Some-clause-reads g t c =
    let e = c.args.entry.now in
    let path = c.args.path.now in
    let from = c.args.found.now in
    let full : string_bytes c.push_str.new.self ≡ path ++ e.name = c.in_ok-push_str.ensures.bytes ∙ ap (λ (z : List ℕ). z ++ c.as_str.result.now) c.in_ok-full.ensures.ok ∙ ap (λ (z : List ℕ). path ++ z) c.as_str.ensures.value in
    let short : length (path ++ e.name) ≤ longest = omega (arith, ap length full, c.len.ensures, c.if-len-gt-LONGEST.false) in
    let items = c.in_ok-push-in-Some.ensures.items ∙ ap (λ (z : List ℕ). from.entries.items ++ record { path = z; leaf = c.in-Some.leaf } ∷ []) (c.new-path.ensures ∙ full) in
    entry_leaf g.F.Files.tells c.args.repo.now path e c.in-Some.leaf from _ (g.F.Files.drive c.args.files.now) c.in-Some.ensures.0 c.in-Some.ensures.1 short items refl

pub add_entry-returns-in_ok-push-in-Some-clause-spells :
    goal.add_entry-returns-in_ok-push-in-Some-clause-spells
add_entry-returns-in_ok-push-in-Some-clause-spells g t c =
    let e = c.args.entry.now in
    let path = c.args.path.now in
    let from = c.args.found.now in
    let full : string_bytes c.push_str.new.self ≡ path ++ e.name = c.in_ok-push_str.ensures.bytes ∙ ap (λ (z : List ℕ). z ++ c.as_str.result.now) c.in_ok-full.ensures.ok ∙ ap (λ (z : List ℕ). path ++ z) c.as_str.ensures.value in
    let items = c.in_ok-push-in-Some.ensures.items ∙ ap (λ (z : List ℕ). from.entries.items ++ record { path = z; leaf = c.in-Some.leaf } ∷ []) (c.new-path.ensures ∙ full) in
    let few : from.count + 1 ≤ item_limit = omega (arith, c.if-found-ge-ITEM_LIMIT.false) in
    leaf_spells path e c.in-Some.leaf from _ c.in-Some.ensures.0 c.in-Some.ensures.1 items few

pub add_entry-returns-in_ok-push_str-in-None-clause-reads :
    goal.add_entry-returns-in_ok-push_str-in-None-clause-reads
add_entry-returns-in_ok-push_str-in-None-clause-reads g t c =
    let repo = c.args.repo.now in
    let e = c.args.entry.now in
    let path = c.args.path.now in
    let drive = g.F.Files.drive in
    let from = c.args.found.now in
    let mid : Found = record { entries = from.entries; count = from.count + 1 } in
    let after = c.add_tree.new.found in
    let old = drive c.args.files.now in
    let new = drive c.add_tree.new.files in
    let full : string_bytes c.push_str.new.self ≡ path ++ e.name = c.in_ok-push_str.ensures.bytes ∙ ap (λ (z : List ℕ). z ++ c.as_str.result.now) c.in_ok-full.ensures.ok ∙ ap (λ (z : List ℕ). path ++ z) c.as_str.ensures.value in
    let short : length (path ++ e.name) ≤ longest = omega (arith, ap length full, c.len.ensures, c.if-len-gt-LONGEST.false) in
    let deep : c.as_str-in-None.result.now ≡ inside path e.name = c.as_str-in-None.ensures.value ∙ c.in_ok-push_str-in-None.ensures.bytes ∙ ap (λ (z : List ℕ). z ++ slash ∷ []) full in
    let room : from.count < item_limit = omega (arith, c.if-found-ge-ITEM_LIMIT.false) in
    entry_dir g.F.Files.tells repo path e from after old new mid c.add_tree.result refl refl room short c.in-None.ensures
    (subst (λ (z : List ℕ). DirReads g.F.Files.tells repo z e.id.0 mid after old new c.add_tree.result) deep c.add_tree.ensures.reads)

pub add_entry-returns-in_ok-push_str-in-None-clause-spells :
    goal.add_entry-returns-in_ok-push_str-in-None-clause-spells
add_entry-returns-in_ok-push_str-in-None-clause-spells g t c =
    let e = c.args.entry.now in
    let path = c.args.path.now in
    let from = c.args.found.now in
    let mid : Found = record { entries = from.entries; count = from.count + 1 } in
    let after = c.add_tree.new.found in
    let full : string_bytes c.push_str.new.self ≡ path ++ e.name = c.in_ok-push_str.ensures.bytes ∙ ap (λ (z : List ℕ). z ++ c.as_str.result.now) c.in_ok-full.ensures.ok ∙ ap (λ (z : List ℕ). path ++ z) c.as_str.ensures.value in
    let deep : c.as_str-in-None.result.now ≡ inside path e.name = c.as_str-in-None.ensures.value ∙ c.in_ok-push_str-in-None.ensures.bytes ∙ ap (λ (z : List ℕ). z ++ slash ∷ []) full in
    on_ok (SpellsTree c.as_str-in-None.result.now e.id.0 mid after) (Spells path (e ∷ []) from after) c.add_tree.result
    (λ sub. dir_spells path e from mid after refl c.in-None.ensures (subst (λ (z : List ℕ). SpellsTree z e.id.0 mid after) deep sub)) c.add_tree.ensures.spells

pub add_entry-add_tree-requires : goal.add_entry-add_tree-requires
add_entry-add_tree-requires g t c =
    let e = c.args.entry.now in
    let path = c.args.path.now in
    let full : string_bytes c.push_str.new.self ≡ path ++ e.name = c.in_ok-push_str.ensures.bytes ∙ ap (λ (z : List ℕ). z ++ c.as_str.result.now) c.in_ok-full.ensures.ok ∙ ap (λ (z : List ℕ). path ++ z) c.as_str.ensures.value in
    let short : length (path ++ e.name) ≤ longest = omega (arith, ap length full, c.len.ensures, c.if-len-gt-LONGEST.false) in
    let deep : c.as_str-in-None.result.now ≡ inside path e.name = c.as_str-in-None.ensures.value ∙ c.in_ok-push_str-in-None.ensures.bytes ∙ ap (λ (z : List ℕ). z ++ slash ∷ []) full in
    let front : IsFront c.as_str-in-None.result.now = subst IsFront (sym deep) (in_dir path e.name c.requires.1.1.1.0 c.requires.1.1.1.1.1.0) in
    search rules

pub add_tree-add_entry-requires : goal.add_tree-add_entry-requires
add_tree-add_entry-requires g t c =
    let i = c.loop-entry.entry-index in
    let entries = c.deref-entry-items.result.now in
    let e = c.entry-item.result in
    let rest : drop i entries ≡ e ∷ drop (i + 1) entries = grind (arith, common_steps) in
    let split : entries ≡ take i entries ++ e ∷ drop (i + 1) entries = sym (take-append-drop i entries) ∙ ap (λ (z : List TreeEntry). take i entries ++ z) rest in
    let same : c.in_ok-tree.tree.entries.items ≡ take i entries ++ e ∷ drop (i + 1) entries = sym c.deref-entry-items.ensures.value ∙ split in
    let named : IsEntryName e.name = entry_in (take i entries) (drop (i + 1) entries) e (ap is_tree (sym same) ∙ c.in_ok-tree.ensures.named.text.valid) in
    search rules

pub add_tree-returns-in_err-tree-clause-reads : goal.add_tree-returns-in_err-tree-clause-reads
add_tree-returns-in_err-tree-clause-reads g t c =
    let drive = g.F.Files.drive in
    read_exits c.from_residual.ensures.1
    (tree_fails g.F.Files.tells c.args.repo.now c.args.path.now c.args.id.now.0 c.args.found.now (drive c.args.files.now) (drive c.read_tree.new.files) _ c.in_err-tree.field-0.0 c.in_err-tree.ensures.reads)

pub add_tree-returns-in_err-add_entry-clause-reads :
    goal.add_tree-returns-in_err-add_entry-clause-reads
add_tree-returns-in_err-add_entry-clause-reads g t c =
    let drive = g.F.Files.drive in
    let i = c.loop-entry.entry-index in
    let entries = c.deref-entry-items.result.now in
    let e = c.entry-item.result in
    let rest : drop i entries ≡ e ∷ drop (i + 1) entries = grind (arith, common_steps) in
    let split : entries ≡ take i entries ++ e ∷ drop (i + 1) entries = sym (take-append-drop i entries) ∙ ap (λ (z : List TreeEntry). take i entries ++ z) rest in
    let same : c.in_ok-tree.tree.entries.items ≡ take i entries ++ e ∷ drop (i + 1) entries = sym c.deref-entry-items.ensures.value ∙ split in
    read_exits c.from_residual-in_err-add_entry.ensures.1
    (walk_fails g.F.Files.tells c.args.repo.now c.args.path.now c.args.id.now.0 c.args.found.now (drive c.args.files.now) (take i entries) c.loop-entry.found (drive c.loop-entry.files) (drive c.add_entry.new.files)
    c.loop-entry.invariant.so_far e (drop (i + 1) entries) c.add_entry.new.found c.in_err-add_entry.field-0.0
    (has_read g.F.Files.tells c.args.repo.now c.args.id.now.0 (drive c.args.files.now) (drive c.read_tree.new.files) c.in_ok-tree.tree (take i entries ++ e ∷ drop (i + 1) entries) same c.in_ok-tree.ensures.reads) c.in_err-add_entry.ensures.reads)

pub add_tree-loop-entry-preserved : goal.add_tree-loop-entry-preserved
add_tree-loop-entry-preserved g t c =
    let drive = g.F.Files.drive in
    let repo = c.args.repo.now in
    let path = c.args.path.now in
    let id = c.args.id.now.0 in
    let from = c.args.found.now in
    let old = drive c.args.files.now in
    let i = c.loop-entry.entry-index in
    let entries = c.deref-entry-items.result.now in
    let e = c.entry-item.result in
    let after = c.add_entry.new.found in
    let new = drive c.add_entry.new.files in
    let split : take (i + 1) entries ≡ take i entries ++ e ∷ [] = grind (arith, common_steps) in
    let inv = c.loop-entry.invariant in
    record {
      so_far = subst (λ (z : List TreeEntry). WereRead g.F.Files.tells repo path id from old z after new) (sym split)
          (walk_more g.F.Files.tells repo path id from old (take i entries) c.loop-entry.found (drive c.loop-entry.files) new inv.so_far e after c.in_ok-add_entry.ensures.reads);
      spells = subst (λ (z : List TreeEntry). Spells path z from after) (sym split)
          (spells_more path (take i entries) (e ∷ []) from c.loop-entry.found after inv.spells c.in_ok-add_entry.ensures.spells);
    }

pub add_tree-returns-clause-spells : goal.add_tree-returns-clause-spells
add_tree-returns-clause-spells g t c =
    let i = c.loop-entry.entry-index in
    let entries = c.deref-entry-items.result.now in
    let whole : take i entries ≡ entries = grind (arith, common_steps) in
    let same : take i entries ≡ c.in_ok-tree.tree.entries.items = whole ∙ c.deref-entry-items.ensures.value in
    spells_tree c.args.path.now c.args.id.now.0 c.in_ok-tree.tree.entries.items c.args.found.now c.loop-entry.found c.in_ok-tree.ensures.named
    (subst (λ (z : List TreeEntry). Spells c.args.path.now z c.args.found.now c.loop-entry.found) same c.loop-entry.invariant.spells)

pub add_tree-returns-clause-reads : goal.add_tree-returns-clause-reads
add_tree-returns-clause-reads g t c =
    let drive = g.F.Files.drive in
    let i = c.loop-entry.entry-index in
    let entries = c.deref-entry-items.result.now in
    let whole : take i entries ≡ entries = grind (arith, common_steps) in
    let same : c.in_ok-tree.tree.entries.items ≡ take i entries = sym (whole ∙ c.deref-entry-items.ensures.value) in
    walk_done g.F.Files.tells c.args.repo.now c.args.path.now c.args.id.now.0 c.args.found.now (drive c.args.files.now) (take i entries) c.loop-entry.found (drive c.loop-entry.files) (drive c.loop-entry.files)
    c.loop-entry.invariant.so_far (has_read g.F.Files.tells c.args.repo.now c.args.id.now.0 (drive c.args.files.now) (drive c.read_tree.new.files) c.in_ok-tree.tree (take i entries) same c.in_ok-tree.ensures.reads)
