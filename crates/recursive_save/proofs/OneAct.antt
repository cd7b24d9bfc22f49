-- A save has one act, by the ground at which it starts.
use Rattle.std.proofs.Common.{◌≡◌, ℕ, Bool, true, false, List, [], ◌∷◌, ◌++◌, Option, Some, None, refl, sym, ap, ◌∙◌, subst}
use Rattle.std.specs.Prelude.{◌||◌, codes, map, not}
use Rattle.std.proofs.lemmas.Bool.{false≢true}
use Rattle.places.specs.All.{Names, Ground}
use Rattle.faults.specs.declared.faults.Fault.{Fault}
use Rattle.git_objects.specs.All.{oid}
use Rattle.git_objects.specs.declared.ids.Id.{Id}
use Rattle.git_objects.specs.declared.objects.ObjKind.TheVariants.{Commit}
use Rattle.config_text.specs.All.{config_in}
use Rattle.acts.specs.All.{Act, Refuses, Step, bind, ending_of, go_on, still, unless}
use Rattle.index_store.specs.All.{HasIndex, has, keeps_index, lacks}
use Rattle.snapshot.specs.All.{root_id, tree_objects}
use Rattle.snapshot.specs.declared.entries.Entry.{Entry}
use Rattle.snapshot.proofs.Once.{paths_once}
use Rattle.tree_status.specs.All.{IsRead, IsUnread, KeepBy, is_changed, is_nothing, is_other}
use Rattle.tree_status.specs.All.{lacking, new_entries}
use Rattle.tree_status.specs.declared.found.WorkingFile.{WorkingFile}
use Rattle.tree_status.proofs.OneLook.{SameRead, not_none, read_once, some_once, unread_once, unread_or_read}
use Rattle.recursive_save.specs.Contents.{IsKeepingOf}
use Rattle.recursive_save.specs.Saved.{SaveIsOne}
use Rattle.recursive_save.specs.Saving.{IsSave, IsSavePlan, SavePlan, blob_of, clash_fault, clashing, clean, dataset_line, kept, new_blobs}
use Rattle.recursive_save.specs.Saving.{plan_fault, save_commit, save_lines, saved, saves}
use Rattle.recursive_save.specs.Saving.{saves_contents, saves_lines, unplanned, unread, writes}
use Rattle.recursive_save.specs.declared.wishes.SaveWish.{SaveWish}
use Rattle.recursive_save.proofs.KeepOnce.{keeping_once}

-- Where two objects of a plan collide, the planned save does nothing.
saves_clash : (root : Names) (index : Step (Unit {0})) (plan : SavePlan) (keeps : Act (Unit {0})) (g : Ground) (fault : Fault) → clash_fault [] plan.objects ≡ Some fault → saves root index plan keeps g ≡ still (Refuses fault)
unfolding saves bind unless
saves_clash root index plan keeps g fault why =
    ap (λ (o : Option Fault). go_on (still (ending_of o)) (ending_of o) g (λ _. bind (λ _. keeps) (λ _. writes root index plan))) why

-- An index is that of a snapshot, or isn't.
has_once : (root : Names) (list : List Entry) (g : Ground) (a b : Bool) → HasIndex root list g a → HasIndex root list g b → a ≡ b
has_once root list g true true (has is) (has also) = refl
has_once root list g true false (has is) (lacks not) = absurd (not is)
has_once root list g false true (lacks not) (has is) = absurd (not is)
has_once root list g false false (lacks not) (lacks also) = refl

module _ (root : Names) (wish : SaveWish) (g : Ground) where
  -- WHAT IS READ
  module _ {one two : List ℕ} {a b : KeepBy} {files others : List WorkingFile} (read : IsRead root wish.to_git g one a files) (other : IsRead root wish.to_git g two b others) where
    same : SameRead root wish.to_git g one two a b files others
    same = read_once root wish.to_git g one two a b files others read other

    -- and what is asked of it
    asked_once : {A : Type 0} (ask : List Entry → List WorkingFile → A) → ask a.old files ≡ ask b.old others
    asked_once ask i = ask (same.by i).old (same.kept i)

    not_both : (ask : List Entry → List WorkingFile → Bool) → ask a.old files ≡ true → ask b.old others ≡ false → ⊥
    not_both ask on off = false≢true (sym off ∙ sym (asked_once ask) ∙ on)

    fault_or_none : (fault : Fault) → plan_fault root g a.old files ≡ Some fault → plan_fault root g b.old others ≡ None → ⊥
    fault_or_none fault some none = not_none _ fault some (asked_once (plan_fault root g) ∙ none)

    fault_once : (fault more : Fault) → plan_fault root g a.old files ≡ Some fault → plan_fault root g b.old others ≡ Some more → fault ≡ more
    fault_once fault more some too = some_once _ fault more some (asked_once (plan_fault root g) ∙ too)

    -- what is made of the index of the same list
    index_once : (ask : List Entry → List WorkingFile → List Entry) (h k : Bool) → HasIndex root (ask a.old files) g h → HasIndex root (ask b.old others) g k → keeps_index h root (ask a.old files) ≡ keeps_index k root (ask b.old others)
    index_once ask h k first second =
        let alike = has_once root (ask b.old others) g h k (subst (λ (list : List Entry). HasIndex root list g h) (asked_once ask) first) second in
        λ i. keeps_index (alike i) root (asked_once ask i)

    keeps_once : (k l : Act (Unit {0})) → IsKeepingOf root wish.moment g a files k → IsKeepingOf root wish.moment g b others l → k ≡ l
    keeps_once k l first second = keeping_once root wish.moment g b others k l (subst (λ (z : KeepBy). IsKeepingOf root wish.moment g z others k) same.by (subst (λ (z : List WorkingFile). IsKeepingOf root wish.moment g a z k) same.kept first)) second

    -- WHAT IS PLANNED
    module _ {plan more : SavePlan} (p : IsSavePlan root wish g one a.old files plan) (q : IsSavePlan root wish g two b.old others more) where
      settings_once : p.settings ≡ q.settings
      settings_once = some_once _ p.settings q.settings p.stands q.stands

      config_once : p.config ≡ q.config
      config_once = cc (sym p.configured ∙ ap config_in settings_once ∙ q.configured)

      dir_once : p.built.dir ≡ q.built.dir
      dir_once = paths_once [] p.built.dir q.built.dir p.built.valid q.built.valid p.built.dense q.built.dense (sym p.built.same ∙ asked_once new_entries ∙ q.built.same)

      tree_once : p.tree ≡ q.tree
      tree_once = p.built.top ∙ ap root_id dir_once ∙ sym q.built.top

      trees_once : p.trees ≡ q.trees
      trees_once = p.built.all ∙ ap tree_objects dir_once ∙ sym q.built.all

      body_once : save_commit p.config wish p.tree one ≡ save_commit q.config wish q.tree two
      body_once i = save_commit (config_once i) wish (tree_once i) (same.parent i)

      objects_once : plan.objects ≡ more.objects
      objects_once = p.objects ∙ (λ i. map blob_of (new_blobs root g (same.by i).old (same.kept i)) ++ trees_once i ++ record { kind = Commit; body = body_once i } ∷ []) ∙ sym q.objects

      commit_once : plan.commit ≡ more.commit
      commit_once = p.commit ∙ ap (oid Commit) body_once ∙ sym q.commit

      lines_once : plan.lines ≡ more.lines
      lines_once = p.lines ∙ asked_once (λ old list. save_lines old list (codes "ok")) ∙ sym q.lines

      plan_once : plan ≡ more
      plan_once i = record { objects = objects_once i; commit = commit_once i; lines = lines_once i }

      clash_once : clash_fault [] plan.objects ≡ clash_fault [] more.objects
      clash_once = ap (clash_fault []) objects_once

  -- THE ACT
  no_read : {fault : Fault} {parent : List ℕ} {by : KeepBy} {files : List WorkingFile} → IsUnread root wish.to_git g fault → IsRead root wish.to_git g parent by files → ⊥
  no_read {fault = fault} {parent = parent} {by = by} {files = files} why read = unread_or_read root wish.to_git g fault parent by files why read

  other_changed : (old : List Entry) (files : List WorkingFile) → is_other old files ≡ true → is_changed old files ≡ true
  other_changed old files other = ap (λ (b : Bool). b || not (is_nothing (lacking files))) other

  act_once : (one two : Act (Option Id)) → IsSave root wish g one → IsSave root wish g two → one ≡ two
  act_once _ _ (unread fault why) (unread more because) = ap (λ (f : Fault). still (Refuses f)) (unread_once root wish.to_git g fault more why because)
  act_once _ _ (unread fault why) (clean q b others j other unchanged hasj) = absurd (no_read why other)
  act_once _ _ (unread fault why) (unplanned q b others more other changed because) = absurd (no_read why other)
  act_once _ _ (unread fault why) (kept q b others keeps j other changed alike none keep hasj) = absurd (no_read why other)
  act_once _ _ (unread fault why) (saved q b others plan keeps j other differs none planned keep hasj) = absurd (no_read why other)
  act_once _ _ (unread fault why) (clashing q b others plan more other differs none planned clash) = absurd (no_read why other)
  act_once _ _ (clean p a files i read unchanged hasi) (unread fault why) = absurd (no_read why read)
  act_once _ _ (clean p a files i read unchanged hasi) (clean q b others j other also hasj) =
      λ k. saves_lines (index_once read other (λ old list. old) i j hasi hasj k) (dataset_line (codes "notneeded") ∷ []) g
  act_once _ _ (clean p a files i read unchanged hasi) (unplanned q b others more other changed because) = absurd (not_both other read is_changed changed unchanged)
  act_once _ _ (clean p a files i read unchanged hasi) (kept q b others keeps j other changed alike none keep hasj) = absurd (not_both other read is_changed changed unchanged)
  act_once _ _ (clean p a files i read unchanged hasi) (saved q b others plan keeps j other differs none planned keep hasj) = absurd (not_both other read is_changed (other_changed b.old others differs) unchanged)
  act_once _ _ (clean p a files i read unchanged hasi) (clashing q b others plan more other differs none planned clash) = absurd (not_both other read is_changed (other_changed b.old others differs) unchanged)
  act_once _ _ (unplanned p a files fault read changed why) (unread more because) = absurd (no_read because read)
  act_once _ _ (unplanned p a files fault read changed why) (clean q b others j other unchanged hasj) = absurd (not_both read other is_changed changed unchanged)
  act_once _ _ (unplanned p a files fault read changed why) (unplanned q b others more other too because) = ap (λ (f : Fault). still (Refuses f)) (fault_once read other fault more why because)
  act_once _ _ (unplanned p a files fault read changed why) (kept q b others keeps j other too alike none keep hasj) = absurd (fault_or_none read other fault why none)
  act_once _ _ (unplanned p a files fault read changed why) (saved q b others plan keeps j other differs none planned keep hasj) = absurd (fault_or_none read other fault why none)
  act_once _ _ (unplanned p a files fault read changed why) (clashing q b others plan more other differs none planned clash) = absurd (fault_or_none read other fault why none)
  act_once _ _ (kept p a files keeps i read changed alike none keep hasi) (unread fault why) = absurd (no_read why read)
  act_once _ _ (kept p a files keeps i read changed alike none keep hasi) (clean q b others j other unchanged hasj) = absurd (not_both read other is_changed changed unchanged)
  act_once _ _ (kept p a files keeps i read changed alike none keep hasi) (unplanned q b others fault other too why) = absurd (fault_or_none other read fault why none)
  act_once _ _ (kept p a files keeps i read changed alike none keep hasi) (kept q b others more j other too unchanged nothing also hasj) =
      λ k. saves_contents (index_once read other (λ old list. old) i j hasi hasj k) (asked_once read other (λ old list. save_lines old list (codes "notneeded")) k) (keeps_once read other keeps more keep also k) g
  act_once _ _ (kept p a files keeps i read changed alike none keep hasi) (saved q b others plan more j other differs nothing planned also hasj) = absurd (not_both other read is_other differs alike)
  act_once _ _ (kept p a files keeps i read changed alike none keep hasi) (clashing q b others plan fault other differs nothing planned clash) = absurd (not_both other read is_other differs alike)
  act_once _ _ (saved p a files plan keeps i read differs none planned keep hasi) (unread fault why) = absurd (no_read why read)
  act_once _ _ (saved p a files plan keeps i read differs none planned keep hasi) (clean q b others j other unchanged hasj) = absurd (not_both read other is_changed (other_changed a.old files differs) unchanged)
  act_once _ _ (saved p a files plan keeps i read differs none planned keep hasi) (unplanned q b others fault other too why) = absurd (fault_or_none other read fault why none)
  act_once _ _ (saved p a files plan keeps i read differs none planned keep hasi) (kept q b others more j other too alike nothing also hasj) = absurd (not_both read other is_other differs alike)
  act_once _ _ (saved p a files plan keeps i read differs none planned keep hasi) (saved q b others next more j other too nothing also keeping hasj) =
      λ k. saves root (index_once read other new_entries i j hasi hasj k) (plan_once read other planned also k) (keeps_once read other keeps more keep keeping k) g
  act_once _ _ (saved p a files plan keeps i read differs none planned keep hasi) (clashing q b others next fault other too nothing also clash) =
      saves_clash root _ plan keeps g fault (clash_once read other planned also ∙ clash)
  act_once _ _ (clashing p a files plan fault read differs none planned clash) (unread more because) = absurd (no_read because read)
  act_once _ _ (clashing p a files plan fault read differs none planned clash) (clean q b others j other unchanged hasj) = absurd (not_both read other is_changed (other_changed a.old files differs) unchanged)
  act_once _ _ (clashing p a files plan fault read differs none planned clash) (unplanned q b others more other too why) = absurd (fault_or_none other read more why none)
  act_once _ _ (clashing p a files plan fault read differs none planned clash) (kept q b others keeps j other too alike nothing keep hasj) = absurd (not_both read other is_other differs alike)
  act_once _ _ (clashing p a files plan fault read differs none planned clash) (clashing q b others next more other too nothing also hit) =
      ap (λ (f : Fault). still (Refuses f)) (some_once _ fault more clash (clash_once read other planned also ∙ hit))
  act_once _ _ (clashing p a files plan fault read differs none planned clash) (saved q b others next keeps j other too nothing also keep hasj) =
      sym (saves_clash root _ next keeps g fault (sym (clash_once read other planned also) ∙ clash))

pub one_act : SaveIsOne
one_act root wish g one two a b = act_once root wish g one two a b
