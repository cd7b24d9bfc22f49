use Rattle.std.proofs.Common.{◌≡◌, ◌∙◌, ◌++◌, ◌∷◌, [], List, refl, sym, ap, subst}
use Rattle.std.specs.List.{All}
use Rattle.std.proofs.lemmas.List.Elements.{All-append, All-cons, All-nil}
use Rattle.git_objects.specs.Entries.{is_tree, tree_text}
use Rattle.git_objects.specs.Decoding.{IsEntryStored}
use Rattle.git_objects.specs.declared.entries.TreeEntry.{TreeEntry}
use Rattle.git_objects.proofs.Cutting.{filled}
use Rattle.git_objects.proofs.EntryTexts.{shorter}
use Rattle.git_objects.proofs.TreeTexts.{bad_at, no_other, text_push}
use Rattle.git_objects.proofs.Twins.{tree_pushed}
use Rattle.git_objects.proofs.trees.Tree.decode.Goals as goal

pub returns-in_default : goal.returns-in_default
returns-in_default c =
    let inv = c.loop-rest.invariant in
    let none = rw c.in_default.is at c.in_ok-entry.ensures in
    bad_at c.args.body.now c.loop-rest.rest.now c.loop-rest.entries.items _ inv.stored inv.valid inv.text refl (filled c.loop-rest.rest.now (sym c.is_empty.ensures ∙ c.loop-rest-test.true))
    (λ e after stored tree text. none e after stored (tree_pushed c.loop-rest.entries.items e tree).named text)

pub returns-then-not-may_follow : goal.returns-then-not-may_follow
returns-then-not-may_follow c =
    let inv = c.loop-rest.invariant in
    let r = rw c.in-Some.is at c.in_ok-entry.ensures in
    let no_tree = sym (c.may_follow.ensures ∙ ap (λ (z : List TreeEntry). is_tree (z ++ c.in-Some.entry ∷ [])) c.as_slice.ensures.value) ∙ c.if-not-may_follow.true in
    bad_at c.args.body.now c.loop-rest.rest.now c.loop-rest.entries.items _ inv.stored inv.valid inv.text refl (filled c.loop-rest.rest.now (sym c.is_empty.ensures ∙ c.loop-rest-test.true))
    (no_other c.loop-rest.rest.now c.in-Some.after.now c.loop-rest.entries.items c.in-Some.entry r no_tree)

pub loop-rest-smaller : goal.loop-rest-smaller
loop-rest-smaller c =
    let r = rw c.in-Some.is at c.in_ok-entry.ensures in
    shorter c.loop-rest.rest.now c.in-Some.entry c.in-Some.after.now r.printed

pub loop-rest-preserved : goal.loop-rest-preserved
loop-rest-preserved c =
    let inv = c.loop-rest.invariant in
    let r = rw c.in-Some.is at c.in_ok-entry.ensures in
    let items : c.push.new.self.items ≡ c.loop-rest.entries.items ++ c.in-Some.entry ∷ [] = c.in_ok-push.ensures.items in
    let valid = sym (c.may_follow.ensures ∙ ap (λ (z : List TreeEntry). is_tree (z ++ c.in-Some.entry ∷ [])) c.as_slice.ensures.value) ∙ c.if-not-may_follow.false in
    record {
      stored = subst (λ (z : List TreeEntry). All IsEntryStored z) (sym items) (All-append IsEntryStored c.loop-rest.entries.items (c.in-Some.entry ∷ []) inv.stored (All-cons IsEntryStored c.in-Some.entry [] r.stored (All-nil IsEntryStored)));
      valid = ap is_tree items ∙ valid;
      text = subst (λ (z : List TreeEntry). c.args.body.now ≡ tree_text z ++ c.in-Some.after.now) (sym items) (text_push c.args.body.now c.loop-rest.rest.now c.in-Some.after.now c.loop-rest.entries.items c.in-Some.entry inv.text r.printed);
    }
