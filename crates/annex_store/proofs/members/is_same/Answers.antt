use Rattle.std.proofs.Common.{◌≡◌, ◌∙◌, sym, rules, inl, inr, ◌<◌}
use Rattle.std.specs.Prelude.{bytes_eq}
use Rattle.annex_keys.specs.All.{IsKey}
use Rattle.annex_store.proofs.Firsts.{keys_by_ext, keys_by_digest, keys_by_size}
use Rattle.annex_store.proofs.members.is_same.Goals as goal

pub returns-then-digests : goal.returns-then-digests
returns-then-digests c =
    let one = c.args.one.now in
    let other = c.args.other.now in
    let small : one.size < 18446744073709551616 = search rules in
    let small_other : other.size < 18446744073709551616 = search rules in
    let digests : c.eq-digests.result ≡ bytes_eq one.digest other.digest = search rules in
    let exts : c.eq-exts.result ≡ bytes_eq one.ext other.ext = search rules in
    keys_by_ext one other (record { size = small; digest = c.digest.ensures.stored; ext = c.ext.ensures.extended }) (record { size = small_other; digest = c.digest-2.ensures.stored; ext = c.ext-2.ensures.extended })
    (search rules) c.eq-digests.result digests (search rules) c.eq-exts.result exts

pub returns : goal.returns
returns c =
    let one = c.args.one.now in
    let other = c.args.other.now in
    let small : one.size < 18446744073709551616 = search rules in
    let small_other : other.size < 18446744073709551616 = search rules in
    let digests : c.eq-digests.result ≡ bytes_eq one.digest other.digest = search rules in
    let is_one : IsKey one = record { size = small; digest = c.digest.ensures.stored; ext = c.ext.ensures.extended } in
    let is_other : IsKey other = record { size = small_other; digest = c.digest-2.ensures.stored; ext = c.ext-2.ensures.extended } in
    elim c.else-backends.either [
      | inl h ↦ keys_by_digest one other is_one is_other c.eq-digests.result digests h.2
      | inr (inl h) ↦ keys_by_size one other is_one is_other (λ same. h.1 (c.size.ensures ∙ same ∙ sym c.size-2.ensures))
      | inr (inr h) ↦ absurd (cc (c.eq-backends.ensures, h))
    ]
