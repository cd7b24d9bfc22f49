use Rattle.std.proofs.Common.{◌≡◌, ◌∙◌, ◌++◌, ◌∷◌, [], List, None, Vec, Bor, Ok, is_none, take, drop, ◌+◌, false, subst, sym, ap, rules}
use Rattle.std.specs.declared.alloc.Global.{Global}
use Rattle.places.specs.All.{Names}
use Rattle.annex_store.specs.Layout.{log_place}
use Rattle.annex_store.specs.Members.{shown}
use Rattle.annex_store.specs.Places.{long_place}
use Rattle.annex_store.specs.Storing.{AreShort, MatchReads}
use Rattle.annex_store.specs.declared.members.NewContent.{NewContent}
use Rattle.annex_store.proofs.Firsts.{each_at, shown_here, shown_more}
use Rattle.annex_store.proofs.Stored.{Unkept, unkept_less, unkept_one, unkept_starts}
use Rattle.annex_store.proofs.storing.unkept.Goals as goal
use Rattle.annex_store.proofs.storing.unkept.Goals.{then-is_none+in_ok-push, else-is_none}

pub loop-content-init : goal.loop-content-init
loop-content-init g c =
    let is = unkept_starts g.F.Files.tells c.args.repo.now (g.F.Files.drive c.args.files.now) c.new-found.result.items c.new-found.ensures.items in
    record { told = is.told; part = is.part; stood = is.stood }

pub near_content_place-requires : goal.near_content_place-requires
near_content_place-requires g c =
    let list = c.args.list.now in
    let i = c.loop-content.content-index in
    let r = c.content-item.result in
    each_at (λ (x : NewContent). long_place (log_place c.args.repo.now x.key) ≡ None) (shown (take i list)) r.now (shown (drop (i + 1) list))
    (subst (λ (l : List NewContent). AreShort c.args.repo.now l) (sym (shown_here list i r c.loop-content-test.true c.content-item.is)) c.requires)

pub loop-content-preserved : goal.loop-content-preserved
loop-content-preserved g c =
    let drive = g.F.Files.drive in
    let tells = g.F.Files.tells in
    let repo = c.args.repo.now in
    let list = c.args.list.now in
    let i = c.loop-content.content-index in
    let r = c.content-item.result in
    let start = drive c.args.files.now in
    let old = drive c.loop-content.files in
    let new = drive c.matching.new.files in
    let items = c.loop-content.found.items in
    let answer = c.in_ok-matching.field-0 in
    let read = subst (λ (p : Names). MatchReads tells p r.now.key old new (Ok answer)) c.in_ok-place.ensures c.in_ok-matching.ensures in
    let was : Unkept tells repo start (shown (take i list)) old items = record { told = c.loop-content.invariant.told; part = c.loop-content.invariant.part; stood = c.loop-content.invariant.stood } in
    let is : Unkept tells repo start (shown (take i list) ++ r.now ∷ []) new c.if-is_none.found.items = elim c.if-is_none.branch [
      | then-is_none+in_ok-push w ↦
          let none : answer ≡ None = search rules in
          unkept_one tells repo start old (shown (take i list)) items r was new answer read none c.if-is_none.found.items (ap (λ (v : Vec (Bor NewContent) Global). v.items) w.found-is ∙ w.in_ok-push.ensures.items)
      | else-is_none w ↦
          let there : is_none answer ≡ false = search rules in
          unkept_less tells repo start old (shown (take i list)) items r was new answer read there c.if-is_none.found.items (ap (λ (v : Vec (Bor NewContent) Global). v.items) w.found-is)
    ] in
    let all = subst (λ (l : List NewContent). Unkept tells repo start l new c.if-is_none.found.items) (sym (shown_more list i r c.loop-content-test.true c.content-item.is)) is in
    record { told = all.told; part = all.part; stood = all.stood }
