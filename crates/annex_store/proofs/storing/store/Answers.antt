use Rattle.std.proofs.Common.{ℕ, IsTrue, ◌≡◌, ◌≤◌, ◌^◌, ◌++◌, ◌∷◌, [], List, length, take, drop, ◌+◌, Err, Ok, subst, sym, ap, rules, arith}
use Rattle.acts.proofs.Laws.{exits}
use Rattle.file_store.specs.declared.replacing.Move.{Move}
use Rattle.annex_store.specs.Members.{AreOutside, shown}
use Rattle.annex_store.specs.declared.members.NewContent.{NewContent}
use Rattle.std.specs.Borrow.{Bor}
use Rattle.file_store.specs.All.{GoesAlong, IsNoTmp, only}
use Rattle.repository.specs.All.{IsOutside, tmp_place}
use Rattle.annex_store.specs.Storing.{StagedAs}
use Rattle.annex_store.proofs.Notes.{no_items}
use Rattle.annex_store.proofs.Firsts.{each_at, shown_here, shown_more, shown_whole}
use Rattle.annex_store.proofs.Stored.{Storing, none_stored, not_empty, store_moved, store_starved, store_stops, storing_more, storing_starts}
use Rattle.annex_store.proofs.storing.store.Goals as goal

pub returns-then-is_empty : goal.returns-then-is_empty
returns-then-is_empty g c = λ is outside.
    let none : length c.args.list.now ≡ 0 = search rules in
    none_stored g.F.Files.tells c.args.repo.now is (shown c.args.list.now) (g.F.Files.drive c.args.files.now) (ap (λ (l : List (Bor NewContent)). shown l) (no_items c.args.list.now none))

pub loop-content-init : goal.loop-content-init
loop-content-init g c = λ outside.
    subst (λ (moves : List Move). Storing g.F.Files.tells c.args.repo.now [] (g.F.Files.drive c.args.files.now) (g.F.Files.drive c.args.files.now) moves) (sym c.new-moves.ensures.items) (storing_starts g.F.Files.tells c.args.repo.now (g.F.Files.drive c.args.files.now))

pub returns-in_err-staged : goal.returns-in_err-staged
returns-in_err-staged g c = λ is outside.
    let drive = g.F.Files.drive in
    let tells = g.F.Files.tells in
    let repo = c.args.repo.now in
    let list = c.args.list.now in
    let i = c.loop-content.content-index in
    let r = c.content-item.result in
    let start = drive c.args.files.now in
    let now = drive c.loop-content.files in
    let new = drive c.stage_content.new.files in
    let some = shown (take i list) in
    let moves = c.loop-content.moves.items in
    let count : c.len.result ≡ length moves = search rules in
    let here = shown_here list i r c.loop-content-test.true c.content-item.is in
    let out = each_at (λ (x : NewContent). IsOutside repo x.source) some r.now (shown (drop (i + 1) list)) (subst (λ (l : List NewContent). AreOutside repo l) (sym here) outside) in
    let was = c.loop-content.invariant outside in
    let e = c.in_err-staged.field-0.0 in
    exits c.from_residual.ensures.1
    (store_stops tells repo is (shown list) start some now moves was r.now out (shown (drop (i + 1) list)) here new
    (λ place. subst (λ (n : ℕ). IsTrue tells → GoesAlong (IsNoTmp (only (tmp_place repo n) place [])) (λ g. []) now new) count (c.stage_content.ensures.crash place))
    e c.in_err-staged.ensures.later (subst (λ (n : ℕ). StagedAs tells repo n r.now now new (Err e)) count c.in_err-staged.ensures.ends))

pub returns-in_err-push : goal.returns-in_err-push
returns-in_err-push g c = λ is outside.
    let drive = g.F.Files.drive in
    let tells = g.F.Files.tells in
    let repo = c.args.repo.now in
    let list = c.args.list.now in
    let i = c.loop-content.content-index in
    let r = c.content-item.result in
    let start = drive c.args.files.now in
    let now = drive c.loop-content.files in
    let new = drive c.stage_content.new.files in
    let some = shown (take i list) in
    let moves = c.loop-content.moves.items in
    let count : c.len.result ≡ length moves = search rules in
    let here = shown_here list i r c.loop-content-test.true c.content-item.is in
    let out = each_at (λ (x : NewContent). IsOutside repo x.source) some r.now (shown (drop (i + 1) list)) (subst (λ (l : List NewContent). AreOutside repo l) (sym here) outside) in
    let was = c.loop-content.invariant outside in
    let more = storing_more tells repo some start now moves was r.now out new
    (λ place. subst (λ (n : ℕ). IsTrue tells → GoesAlong (IsNoTmp (only (tmp_place repo n) place [])) (λ g. []) now new) count (c.stage_content.ensures.crash place))
    c.in_ok-staged.staged c.in_ok-staged.ensures.later (subst (λ (n : ℕ). StagedAs tells repo n r.now now new (Ok c.in_ok-staged.staged)) count c.in_ok-staged.ensures.ends) in
    exits c.from_residual-in_err-push.ensures.1 (store_starved tells repo is (shown list) start (some ++ r.now ∷ []) new (moves ++ c.in_ok-staged.staged ∷ []) more)

pub loop-content-preserved : goal.loop-content-preserved
loop-content-preserved g c = λ outside.
    let drive = g.F.Files.drive in
    let tells = g.F.Files.tells in
    let repo = c.args.repo.now in
    let list = c.args.list.now in
    let i = c.loop-content.content-index in
    let r = c.content-item.result in
    let start = drive c.args.files.now in
    let now = drive c.loop-content.files in
    let new = drive c.stage_content.new.files in
    let some = shown (take i list) in
    let moves = c.loop-content.moves.items in
    let count : c.len.result ≡ length moves = search rules in
    let here = shown_here list i r c.loop-content-test.true c.content-item.is in
    let out = each_at (λ (x : NewContent). IsOutside repo x.source) some r.now (shown (drop (i + 1) list)) (subst (λ (l : List NewContent). AreOutside repo l) (sym here) outside) in
    let was = c.loop-content.invariant outside in
    let more = storing_more tells repo some start now moves was r.now out new
    (λ place. subst (λ (n : ℕ). IsTrue tells → GoesAlong (IsNoTmp (only (tmp_place repo n) place [])) (λ g. []) now new) count (c.stage_content.ensures.crash place))
    c.in_ok-staged.staged c.in_ok-staged.ensures.later (subst (λ (n : ℕ). StagedAs tells repo n r.now now new (Ok c.in_ok-staged.staged)) count c.in_ok-staged.ensures.ends) in
    let pushed : c.push.new.self.items ≡ moves ++ c.in_ok-staged.staged ∷ [] = search rules in
    subst (λ (l : List NewContent). Storing tells repo l start new c.push.new.self.items) (sym (shown_more list i r c.loop-content-test.true c.content-item.is))
    (subst (λ (m : List Move). Storing tells repo (some ++ r.now ∷ []) start new m) (sym pushed) more)

pub returns-in_err-move_all : goal.returns-in_err-move_all
returns-in_err-move_all g c = λ is outside.
    let drive = g.F.Files.drive in
    let tells = g.F.Files.tells in
    let repo = c.args.repo.now in
    let list = c.args.list.now in
    let start = drive c.args.files.now in
    let now = drive c.loop-content.files in
    let whole = shown_whole list c.loop-content.content-index (omega arith) in
    let items : c.loop-content.moves.items ≡ c.as_slice.result.now = search rules in
    let was = subst (λ (m : List Move). Storing tells repo (shown list) start now m) items (subst (λ (l : List NewContent). Storing tells repo l start now c.loop-content.moves.items) whole (c.loop-content.invariant outside)) in
    let few : length c.as_slice.result.now ≤ 2 ^ 64 = search rules in
    let some : length list ≡ 0 → ⊥ = search rules in
    exits c.from_residual-in_err-move_all.ensures.1
    (store_moved tells repo is (shown list) start now c.as_slice.result.now was c.requires.own few (not_empty list some) (drive c.move_all.new.files) (Err c.in_err-move_all.field-0.0) c.in_err-move_all.ensures.later c.in_err-move_all.ensures.ends c.move_all.ensures.crash)

pub returns : goal.returns
returns g c = λ is outside.
    let drive = g.F.Files.drive in
    let tells = g.F.Files.tells in
    let repo = c.args.repo.now in
    let list = c.args.list.now in
    let start = drive c.args.files.now in
    let now = drive c.loop-content.files in
    let whole = shown_whole list c.loop-content.content-index (omega arith) in
    let items : c.loop-content.moves.items ≡ c.as_slice.result.now = search rules in
    let was = subst (λ (m : List Move). Storing tells repo (shown list) start now m) items (subst (λ (l : List NewContent). Storing tells repo l start now c.loop-content.moves.items) whole (c.loop-content.invariant outside)) in
    let few : length c.as_slice.result.now ≤ 2 ^ 64 = search rules in
    let some : length list ≡ 0 → ⊥ = search rules in
    store_moved tells repo is (shown list) start now c.as_slice.result.now was c.requires.own few (not_empty list some) (drive c.move_all.new.files) (Ok tt) c.in_ok-move_all.ensures.later c.in_ok-move_all.ensures.ends c.move_all.ensures.crash
