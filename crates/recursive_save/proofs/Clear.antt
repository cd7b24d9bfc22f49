-- A ground in which nothing is in the way of a new dataset's files.
use Rattle.std.proofs.Common.{◌≡◌, ℕ, Bool, true, false, ◌||◌, cond, List, [], ◌∷◌, ◌++◌, Option, None, Some, refl, ap, ◌∙◌}
use Rattle.std.specs.List.{All}
use Rattle.std.specs.FinMap.{insert, remove}
use Rattle.std.proofs.lemmas.Bool.{false_from_ne_true}
use Rattle.std.proofs.lemmas.List.Elements.{All-nil, All-cons}
use Rattle.places.specs.All.{Names, IsAbove, is_above, Ground, file_at, stands, stands_below}
use Rattle.places.specs.All.{stands_above, is_shut}
use Rattle.places.proofs.Texts.{or_neither}
use Rattle.places.proofs.Above.{is_above-under, above-at_or_above}
use Rattle.places.proofs.Standing.{stands-none, none_stands_below, stands_above-file, is_shut-above, is_shut-insert, is_shut-remove_open, open_under}
use Rattle.file_store.specs.All.{replaced, staged, installed, stage_block, move_block, block_of}
use Rattle.file_store.specs.All.{or_next}
use Rattle.file_store.specs.declared.replacing.Replacement.{Replacement}
use Rattle.git_objects.specs.All.{oid}
use Rattle.repository.specs.All.{tmp_place, repo_of}
use Rattle.object_store.specs.All.{place_in}
use Rattle.object_store.specs.declared.objects.NewObject.{NewObject}
use Rattle.recursive_save.specs.Creating.{IsVacant}
use Rattle.repository.proofs.Parts.{Part, names_at, parts_apart, part_below, IsPart, tmp_part, object_part}
use Rattle.recursive_save.proofs.Ours.{AreOurs}

-- nothing is in the way of any part
abbrev pub IsClear : Names → Ground → Type 0
IsClear root g = (a : Part) → is_shut g (root ++ names_at a) ≡ false

pub clear_at : (root : Names) (g : Ground) (q : Names) (inside : Bool) → IsClear root g → IsPart root q inside → is_shut g q ≡ false
clear_at root g q inside clear at = ap (is_shut g) at.stands ∙ clear at.part

-- a vacant root with nothing above it
pub clear_base : (root : Names) (g : Ground) → IsVacant root g → stands_above g root ≡ false → IsClear root g
clear_base root g vacant above a =
    let free = or_neither (stands g root) (stands_below g root) vacant in
    let shut : is_shut g root ≡ false = λ i. above i || free.1 i in
    open_under g root (root ++ names_at a) shut free.0 (names_at a, refl)

pub clear_insert : (root : Names) (g : Ground) (p : Names) (bytes : List ℕ) (inside : Bool) → IsPart root p inside → IsClear root g → IsClear root (insert g p bytes)
clear_insert root g p bytes inside at clear a =
    is_shut-insert g p bytes (root ++ names_at a)
    (ap (λ (z : Names). is_above z (root ++ names_at a)) at.stands ∙ is_above-under root (names_at at.part) (names_at a) ∙ parts_apart at.part a)
    (ap (λ (z : Names). is_above (root ++ names_at a) z) at.stands ∙ is_above-under root (names_at a) (names_at at.part) ∙ parts_apart a at.part)
    ∙ clear a

pub clear_replaced : (root : Names) (g : Ground) (tmp p : Names) (bytes : List ℕ) (inside : Bool) → IsPart root p inside → IsClear root g → IsClear root (replaced tmp p bytes g)
clear_replaced root g tmp p bytes inside at clear = clear_insert root (remove g tmp) p bytes inside at (λ a. is_shut-remove_open g tmp (root ++ names_at a) (clear a))

pub clear_staged : (root : Names) (list : List Replacement) (g : Ground) → AreOurs root list → IsClear root g → IsClear root (staged list g)
clear_staged root [] g ours clear = clear
clear_staged root (r ∷ list) g ours clear = clear_staged root list (insert g r.tmp r.bytes) ours.1 (clear_insert root g r.tmp r.bytes true ours.0.tmp clear)

pub clear_installed : (root : Names) (list : List Replacement) (g : Ground) → AreOurs root list → IsClear root g → IsClear root (installed list g)
clear_installed root [] g ours clear = clear
clear_installed root (r ∷ list) g ours clear =
    clear_installed root list (replaced r.tmp r.place r.bytes g) ours.1 (clear_replaced root g r.tmp r.place r.bytes false ours.0.place clear)

-- NO WRITE IS REFUSED
stage_free : (root : Names) (list : List Replacement) (g : Ground) → AreOurs root list → IsClear root g → stage_block list g ≡ None
stage_free root [] g ours clear = refl
stage_free root (r ∷ list) g ours clear =
    ap (λ b. cond b (Some r.tmp) (stage_block list (insert g r.tmp r.bytes))) (clear_at root g r.tmp true clear ours.0.tmp)
    ∙ stage_free root list (insert g r.tmp r.bytes) ours.1 (clear_insert root g r.tmp r.bytes true ours.0.tmp clear)

move_free : (root : Names) (list : List Replacement) (g : Ground) → AreOurs root list → IsClear root g → move_block list g ≡ None
move_free root [] g ours clear = refl
move_free root (r ∷ list) g ours clear =
    ap (λ b. cond b (Some r.place) (move_block list (replaced r.tmp r.place r.bytes g))) (clear_at root g r.place false clear ours.0.place)
    ∙ move_free root list (replaced r.tmp r.place r.bytes g) ours.1 (clear_replaced root g r.tmp r.place r.bytes false ours.0.place clear)

pub none_blocked : (root : Names) (list : List Replacement) (g : Ground) → AreOurs root list → IsClear root g → block_of list g ≡ None
none_blocked root list g ours clear =
    ap (λ (o : Option Names). or_next o (move_block list (staged list g))) (stage_free root list g ours clear)
    ∙ move_free root list (staged list g) ours (clear_staged root list g ours clear)

-- A VACANT ROOT
pub free_at : (root : Names) (g : Ground) (q : Names) → IsVacant root g → IsAbove root q → file_at g q ≡ None
free_at root g q vacant below =
    let free = or_neither (stands g root) (stands_below g root) vacant in
    stands-none g q (false_from_ne_true (stands g q) (λ some. none_stands_below g root free.1 q some below))

pub free_part : (root : Names) (g : Ground) (q : Names) (inside : Bool) → IsVacant root g → IsPart root q inside → file_at g q ≡ None
free_part root g q inside vacant at = ap (file_at g) at.stands ∙ free_at root g (root ++ names_at at.part) vacant (part_below root at.part)

pub free_objects : (root : Names) (objects : List NewObject) (g : Ground) → IsVacant root g → All (λ x. file_at g (place_in (repo_of root) x) ≡ None) objects
free_objects root [] g vacant = All-nil (λ x. file_at g (place_in (repo_of root) x) ≡ None)
free_objects root (x ∷ objects) g vacant =
    All-cons (λ y. file_at g (place_in (repo_of root) y) ≡ None) x objects (free_part root g (place_in (repo_of root) x) false vacant (object_part root (oid x.kind x.body))) (free_objects root objects g vacant)

-- a file above the root is in the way of the first file
pub shut_tmp : (root : Names) (g : Ground) (i : ℕ) → stands_above g root ≡ true → is_shut g (tmp_place (repo_of root) i) ≡ true
shut_tmp root g i above =
    let file = stands_above-file g root above in
    let at = tmp_part root i in
    ap (is_shut g) at.stands ∙ is_shut-above g (root ++ names_at at.part) file.0 file.1 (above-at_or_above file.0 root (root ++ names_at at.part) file.2 (names_at at.part, refl))
