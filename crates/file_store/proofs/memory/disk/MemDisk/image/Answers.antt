use Rattle.std.proofs.Common.{◌&&◌, sym, ◌∙◌, ap, subst}
use Rattle.std.specs.List.{list_any}
use Rattle.places.specs.All.{stands, is_shut, IsGround}
use Rattle.file_store.specs.Memory.Disk.{history_in, grounded_in}
use Rattle.file_store.specs.Memory.Calls.{began, history_of}
use Rattle.file_store.specs.Memory.Moment.{disk_of}
use Rattle.file_store.proofs.Chosen.{carried, ground_chosen, image_chosen, no_ground}
use Rattle.file_store.proofs.memory.disk.MemDisk.image.Goals as goal

pub returns-then-any_clash : goal.returns-then-any_clash
returns-then-any_clash c =
    let m = c.args.self.now in
    let d = (history_in m).latest in
    let places = c.in_ok-places.places.items in
    let left = c.in_ok-left.left in
    let is = c.in_ok-moment.ensures ∙ ap (λ calls. (history_of m.first calls).latest) c.as_slice.ensures.value in
    let both = carried (disk_of c.in_ok-moment.moment) d places c.as_slice-2.result.now c.args.choices.now left is c.as_slice-2.ensures.value c.in_ok-places.ensures c.in_ok-left.ensures in
    let clash = ap (λ ps. list_any (λ p. stands left p && is_shut left p) ps) (sym c.as_slice-3.ensures.value) ∙ sym c.any_clash.ensures ∙ c.if-any_clash.true in
    (left, (places, both.0, both.1), no_ground d places c.args.choices.now left both.0 both.1 clash)

pub begin-requires-clause-clash_free : goal.begin-requires-clause-clash_free
begin-requires-clause-clash_free c =
    let m = c.args.self.now in
    let d = (history_in m).latest in
    let places = c.in_ok-places.places.items in
    let left = c.in_ok-left.left in
    let is = c.in_ok-moment.ensures ∙ ap (λ calls. (history_of m.first calls).latest) c.as_slice.ensures.value in
    let both = carried (disk_of c.in_ok-moment.moment) d places c.as_slice-2.result.now c.args.choices.now left is c.as_slice-2.ensures.value c.in_ok-places.ensures c.in_ok-left.ensures in
    let clear = ap (λ ps. list_any (λ p. stands left p && is_shut left p) ps) (sym c.as_slice-3.ensures.value) ∙ sym c.any_clash.ensures ∙ c.if-any_clash.false in
    subst IsGround (sym c.in_ok-first.ensures) (ground_chosen d places c.args.choices.now left both.0 both.1 (grounded_in m) clear)

pub returns : goal.returns
returns c =
    let m = c.args.self.now in
    let d = (history_in m).latest in
    let places = c.in_ok-places.places.items in
    let left = c.in_ok-left.left in
    let is = c.in_ok-moment.ensures ∙ ap (λ calls. (history_of m.first calls).latest) c.as_slice.ensures.value in
    let both = carried (disk_of c.in_ok-moment.moment) d places c.as_slice-2.result.now c.args.choices.now left is c.as_slice-2.ensures.value c.in_ok-places.ensures c.in_ok-left.ensures in
    let clear = ap (λ ps. list_any (λ p. stands left p && is_shut left p) ps) (sym c.as_slice-3.ensures.value) ∙ sym c.any_clash.ensures ∙ c.if-any_clash.false in
    let image = image_chosen d places c.args.choices.now left both.0 both.1 (grounded_in m) clear in
    (left, (places, both.0, both.1), (c.begin.ensures ∙ ap began c.in_ok-first.ensures, image))
