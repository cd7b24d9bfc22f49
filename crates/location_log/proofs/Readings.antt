-- Texts of lines.
use Rattle.std.proofs.Common.{◌≡◌, ℕ, List, [], ◌∷◌, ◌++◌, length, get_or, Option, Some, refl, sym, ap, ◌∙◌, subst, arith, append_assoc, length-append}
use Rattle.std.proofs.lemmas.Bool.{eqb-false}
use Rattle.std.proofs.lemmas.List.{append_cancel_right}
use Rattle.config_text.specs.All.{uuid_of}
use Rattle.location_log.specs.declared.lines.Claim.{Claim}
use Rattle.location_log.specs.declared.lines.Claim.TheVariants.{Absent, Dead, Present}
use Rattle.location_log.specs.Plain.{PlainLine}
use Rattle.location_log.specs.Steps.{IsCut, Lacks}
use Rattle.location_log.specs.Texts.{IsLineText, IsTimeText, status_text}
use Rattle.location_log.proofs.CutTexts.{cut_none, cut_once, lacks-append, once}
use Rattle.location_log.proofs.TimeTexts.{time_lacks, time_once}

-- what a line's text is at its first blank
pub record AtBlank (line : PlainLine) (stamp rest : List ℕ) : Type 0 where
  pub time : List ℕ
  pub uuid : List ℕ
  pub timed : IsTimeText line.secs line.nanos time
  pub named : uuid_of uuid ≡ Some line.uuid
  pub stamped : stamp ≡ time ++ 115 ∷ []
  pub follows : rest ≡ status_text line.claim ++ 32 ∷ uuid

stamp_lacks : (line : PlainLine) (text : List ℕ) → (l : IsLineText line text) → Lacks 32 (l.time ++ 115 ∷ [])
stamp_lacks line text l = lacks-append 32 l.time (115 ∷ []) (time_lacks 32 line.secs line.nanos l.time refl refl l.timed) refl

stamp_parts : (line : PlainLine) (text : List ℕ) → (l : IsLineText line text) → text ≡ (l.time ++ 115 ∷ []) ++ 32 ∷ (status_text line.claim ++ 32 ∷ l.uuid)
stamp_parts line text l = l.printed ∙ sym (append_assoc l.time (115 ∷ []) (32 ∷ (status_text line.claim ++ 32 ∷ l.uuid)))

pub line_blank : (line : PlainLine) (text : List ℕ) → Lacks 32 text → IsLineText line text → ⊥
line_blank line text none l = cut_none 32 text (l.time ++ 115 ∷ []) (status_text line.claim ++ 32 ∷ l.uuid) none (stamp_parts line text l)

pub at_blank : (line : PlainLine) (text stamp rest : List ℕ) → IsCut 32 text stamp rest → IsLineText line text → AtBlank line stamp rest
at_blank line text stamp rest c l =
    let same = cut_once 32 text stamp rest c (l.time ++ 115 ∷ []) (status_text line.claim ++ 32 ∷ l.uuid) (stamp_parts line text l) (stamp_lacks line text l) in
    record { time = l.time; uuid = l.uuid; timed = l.timed; named = l.named; stamped = same.0; follows = same.1 }

status_lacks : (claim : Claim) → Lacks 32 (status_text claim)
status_lacks Present = refl
status_lacks Absent = refl
status_lacks Dead = refl

pub rest_blank : (line : PlainLine) (stamp rest : List ℕ) → Lacks 32 rest → AtBlank line stamp rest → ⊥
rest_blank line stamp rest none b = cut_none 32 rest (status_text line.claim) b.uuid none b.follows

pub at_status : (line : PlainLine) (stamp rest status name : List ℕ) → IsCut 32 rest status name → (b : AtBlank line stamp rest) → (status ≡ status_text line.claim) × (name ≡ b.uuid)
at_status line stamp rest status name c b = cut_once 32 rest status name c (status_text line.claim) b.uuid b.follows (status_lacks line.claim)

pub same_time : (line : PlainLine) (stamp rest time : List ℕ) → stamp ≡ time ++ 115 ∷ [] → AtBlank line stamp rest → IsTimeText line.secs line.nanos time
same_time line stamp rest time e b =
    subst (IsTimeText line.secs line.nanos) (sym (append_cancel_right time b.time (115 ∷ []) (sym e ∙ b.stamped))) b.timed

-- the parts of a line are its text
pub whole_line : (line : PlainLine) (text stamp rest time status name : List ℕ) → IsCut 32 text stamp rest → IsCut 32 rest status name → stamp ≡ time ++ 115 ∷ []
    → IsTimeText line.secs line.nanos time → status ≡ status_text line.claim → uuid_of name ≡ Some line.uuid → IsLineText line text
whole_line line text stamp rest time status name c d stamped timed is named = record {
  time = time;
  uuid = name;
  timed = timed;
  named = named;
  printed =
      c.parts ∙ (λ i. stamped i ++ 32 ∷ (d.parts ∙ ap (λ (z : List ℕ). z ++ 32 ∷ name) is) i)
      ∙ append_assoc time (115 ∷ []) (32 ∷ (status_text line.claim ++ 32 ∷ name));
}

-- the byte of a status
apart : {m n : ℕ} (xs ys : List ℕ) → xs ≡ ys → get_or xs 0 0 ≡ m → get_or ys 0 0 ≡ n → m ≡ n
apart xs ys e p q = sym p ∙ (ap (λ (z : List ℕ). get_or z 0 0) e ∙ q)

status_same : (a b : Claim) → status_text a ≡ status_text b → a ≡ b
status_same Present Present e = refl
status_same Present Absent e =
    absurd (eqb-false 49 48 refl (apart (status_text Present) (status_text Absent) e refl refl))
status_same Present Dead e =
    absurd (eqb-false 49 88 refl (apart (status_text Present) (status_text Dead) e refl refl))
status_same Absent Present e =
    absurd (eqb-false 48 49 refl (apart (status_text Absent) (status_text Present) e refl refl))
status_same Absent Absent e = refl
status_same Absent Dead e =
    absurd (eqb-false 48 88 refl (apart (status_text Absent) (status_text Dead) e refl refl))
status_same Dead Present e =
    absurd (eqb-false 88 49 refl (apart (status_text Dead) (status_text Present) e refl refl))
status_same Dead Absent e =
    absurd (eqb-false 88 48 refl (apart (status_text Dead) (status_text Absent) e refl refl))
status_same Dead Dead e = refl

-- a text is of one line at most
pub line_once : (a b : PlainLine) (text : List ℕ) → IsLineText a text → IsLineText b text → a ≡ b
line_once a b text l m =
    let c : IsCut 32 text (l.time ++ 115 ∷ []) (status_text a.claim ++ 32 ∷ l.uuid) = record { parts = stamp_parts a text l; first = stamp_lacks a text l } in
    let at = at_blank b text (l.time ++ 115 ∷ []) (status_text a.claim ++ 32 ∷ l.uuid) c m in
    let times = time_once a.secs a.nanos b.secs b.nanos l.time l.timed (same_time b (l.time ++ 115 ∷ []) (status_text a.claim ++ 32 ∷ l.uuid) l.time refl at) in
    let ends = once 32 (status_text a.claim) (status_text b.claim) l.uuid at.uuid at.follows (status_lacks a.claim) (status_lacks b.claim) in
    let claims = status_same a.claim b.claim ends.0 in
    let named : ◌≡◌ {A = Option (List ℕ)} (Some a.uuid) (Some b.uuid) = sym l.named ∙ (ap uuid_of ends.1 ∙ at.named) in
    let uuids : a.uuid ≡ b.uuid = cc named in
    λ i. record { secs = times.0 i; nanos = times.1 i; claim = claims i; uuid = uuids i }

pub line_some : (line : PlainLine) → IsLineText line [] → ⊥
line_some line l =
    let long = ap length (stamp_parts line [] l) ∙ length-append (l.time ++ 115 ∷ []) (32 ∷ (status_text line.claim ++ 32 ∷ l.uuid)) in
    omega arith
