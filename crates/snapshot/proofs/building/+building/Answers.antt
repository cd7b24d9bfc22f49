use Rattle.std.proofs.Common.{◌≡◌, ◌<◌, ◌++◌, ◌∷◌, ◌∙◌, [], List, ℕ, false, length, get_or, sym, ap, subst, arith}
use Rattle.git_objects.specs.declared.entries.TreeEntry.{TreeEntry}
use Rattle.git_objects.specs.declared.ids.Id.{Id}
use Rattle.snapshot.specs.Leaves.{leaf_entry, dir_entry}
use Rattle.snapshot.specs.Builds.{all_seen, weight, BuildsNext, BuildsDir, BuildsFront}
use Rattle.snapshot.specs.Builds.{PutsTree}
use Rattle.snapshot.specs.Order.{IsPathList}
use Rattle.snapshot.specs.declared.building.Rest.{Rest}
use Rattle.snapshot.specs.declared.entries.Entry.{Entry}
use Rattle.snapshot.specs.declared.entries.Leaf.TheVariants.{Git}
use Rattle.snapshot.proofs.Trees.{weight-group, some_in, leaf_first, dir_next, one_more, whole_dir, rest_left, length-all_seen, none_left, left_weight, some_left, if_ok, left_list, has_tree}
use Rattle.snapshot.proofs.Valid.{part_list}
use Rattle.snapshot.proofs.building.+building.Goals as goal

-- what stands past a list's end
abbrev nothing : Rest
nothing = record { path = record { ref_ptr = (0, 0); now = [] }; leaf = Git (record { 0 = [] }) false }

pub build_dir-loop-left-preserved : goal.build_dir-loop-left-preserved
build_dir-loop-left-preserved t c =
    let inv = c.loop-left.invariant in
    let next = c.in_ok-taken.ensures in
    let more = one_more (all_seen c.args.rests.now) (all_seen c.loop-left.left.now) c.in_ok-taken.taken c.loop-left.entries.items c.build_next.new.entries.items c.args.objects.now.items c.loop-left.objects.items c.build_next.new.objects.items inv next in
    subst (λ (z : List Entry). BuildsFront (all_seen c.args.rests.now) z c.build_next.new.entries.items c.args.objects.now.items c.build_next.new.objects.items) (sym (rest_left c.in_ok-taken.taken c.loop-left.left.now)) more

pub build_dir-returns : goal.build_dir-returns
build_dir-returns t c =
    let list = all_seen c.args.rests.now in
    let old = c.args.objects.now.items in
    let mid = c.loop-left.objects.items in
    let new = c.put_tree.new.objects.items in
    let entries = c.loop-left.entries.items in
    let left : all_seen c.loop-left.left.now ≡ [] = none_left c.loop-left.left.now (sym c.is_empty.ensures ∙ c.loop-left-test.false) in
    let front = subst (λ (z : List Entry). BuildsFront list z entries old mid) left c.loop-left.invariant in
    if_ok c.put_tree.result (λ (id : Id). PutsTree entries id.0 mid new) (λ (id : Id). BuildsDir list id.0 old new) (λ id put. whole_dir list entries id.0 old mid new front put) c.put_tree.ensures

pub build_next-build_dir-requires : goal.build_next-build_dir-requires
build_next-build_dir-requires t c =
    let list = all_seen c.args.rests.now in
    let part = all_seen c.in_ok-part-in-Some.part.items in
    let name = c.in-Some.name.now in
    let group = c.in_ok-part-in-Some.ensures in
    let less : weight part < weight list = weight-group name list part group (some_in c.args.rests.now _ name _ part c.requires.some c.in-Some.ensures.2 group) in
    let same : weight (all_seen c.as_slice.result.now) ≡ weight part = ap (λ (z : List Rest). weight (all_seen z)) c.as_slice.ensures.value in (
      omega (arith, c.decreases, less, same),
      subst (λ (z : List Rest). IsPathList (all_seen z)) (sym c.as_slice.ensures.value) (part_list name list part c.in-Some.ensures.0 group c.requires.paths),
    )

pub build_next-returns-in_ok-push-in-None : goal.build_next-returns-in_ok-push-in-None
build_next-returns-in_ok-push-in-None t c =
    let old = c.args.entries.now.items in
    let objects = c.args.objects.now.items in
    let name = c.new-name.ensures ∙ c.in_ok-from_str-in-None.ensures.ok in
    let entry = c.entry.ensures ∙ ap (λ (z : List ℕ). leaf_entry z (get_or c.args.rests.now 0 nothing).leaf) name in
    let items : c.push.new.self.items ≡ old ++ leaf_entry (get_or c.args.rests.now 0 nothing).path.now (get_or c.args.rests.now 0 nothing).leaf ∷ [] = c.in_ok-push-in-None.ensures.items ∙ ap (λ (z : TreeEntry). old ++ z ∷ []) entry in
    subst (λ (z : List TreeEntry). BuildsNext (all_seen c.args.rests.now) 1 old z objects objects) (sym items) (leaf_first c.args.rests.now nothing old objects c.requires.some c.in-None.ensures)

pub build_next-returns-in_ok-push-in-Some : goal.build_next-returns-in_ok-push-in-Some
build_next-returns-in_ok-push-in-Some t c =
    let list = all_seen c.args.rests.now in
    let old = c.args.entries.now.items in
    let objects = c.args.objects.now.items in
    let stored = c.build_dir.new.objects.items in
    let part = all_seen c.in_ok-part-in-Some.part.items in
    let name = c.in-Some.name.now in
    let id = c.in_ok-id-in-Some.id.0 in
    let group = c.in_ok-part-in-Some.ensures in
    let built = subst (λ (z : List Rest). BuildsDir (all_seen z) id objects stored) c.as_slice.ensures.value c.in_ok-id-in-Some.ensures in
    let next = dir_next name list part id old objects stored c.in-Some.ensures.0 group (some_in c.args.rests.now nothing name _ part c.requires.some c.in-Some.ensures.2 group) built in
    let named = c.new-name-in-Some.ensures ∙ c.in_ok-from_str-in-Some.ensures.ok in
    let items : c.push-in-Some.new.self.items ≡ old ++ dir_entry name (record { 0 = id }) ∷ [] = c.in_ok-push-in-Some.ensures.items ∙ ap (λ (z : List ℕ). old ++ dir_entry z (record { 0 = id }) ∷ []) named in
    let size : length part ≡ c.len.result = length-all_seen c.in_ok-part-in-Some.part.items ∙ ap (λ (z : List Rest). length z) (sym c.as_slice.ensures.value) ∙ c.as_slice.ensures.len ∙ sym c.len.ensures in
    subst (λ (z : List TreeEntry). BuildsNext list c.len.result old z objects stored) (sym items)
    (subst (λ (n : ℕ). BuildsNext list n old (old ++ dir_entry name (record { 0 = id }) ∷ []) objects stored) size next)

pub build_dir-build_next-requires : goal.build_dir-build_next-requires
build_dir-build_next-requires t c =
    let list = all_seen c.args.rests.now in
    let left = all_seen c.loop-left.left.now in
    let less = left_weight list left c.loop-left.entries.items c.args.objects.now.items c.loop-left.objects.items c.loop-left.invariant in (
      omega (arith, c.decreases, less),
      (
        some_left c.loop-left.left.now (sym c.is_empty.ensures ∙ c.loop-left-test.true),
        left_list list left c.loop-left.entries.items c.args.objects.now.items c.loop-left.objects.items c.loop-left.invariant c.requires,
      ),
    )

pub build_dir-invariant_of-put_tree : goal.build_dir-invariant_of-put_tree
build_dir-invariant_of-put_tree t c =
    let list = all_seen c.args.rests.now in
    let old = c.args.objects.now.items in
    let mid = c.loop-left.objects.items in
    let entries = c.loop-left.entries.items in
    let left : all_seen c.loop-left.left.now ≡ [] = none_left c.loop-left.left.now (sym c.is_empty.ensures ∙ c.loop-left-test.false) in
    let front = subst (λ (z : List Entry). BuildsFront list z entries old mid) left c.loop-left.invariant in
    record { valid = has_tree list entries old mid front c.requires }
