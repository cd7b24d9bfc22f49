-- Where the contents of keys stand and their logs: watched, apart from all else, and one key at each place.
use Rattle.std.proofs.Common.{◌≡◌, ◌≢◌, ℕ, Bool, true, false, not, ◌&&◌, List, [], ◌∷◌, ◌++◌, refl, sym, ap, ◌∙◌, append_assoc}
use Rattle.std.specs.Prelude.{codes, bytes_eq}
use Rattle.std.proofs.lemmas.List.{append_cancel_right}
use Rattle.places.specs.All.{Names, pieces}
use Rattle.annex_keys.specs.All.{IsKey, PlainKey, hash_dir, key_text}
use Rattle.annex_keys.proofs.Readings.{key_text_parts, one_reading}
use Rattle.repository.specs.All.{dlrepo, head_place, repo_of}
use Rattle.annex_store.specs.All.{content_names, content_place, log_name, log_names, log_place}
use Rattle.annex_store.proofs.Honest.{content_firm, log_firm}
use Rattle.dataset.proofs.Splits.{is_watched_name}

-- below `annex`
abbrev pub is_annex_name : Names → Bool
is_annex_name [] = false
is_annex_name (n ∷ ns) = bytes_eq n (codes "annex")

pub content_watched : (key : PlainKey) → is_watched_name (content_names key) ≡ true
content_watched key = λ i. not (content_firm (dlrepo ∷ []) key i) && true

pub log_watched : (key : PlainKey) → is_watched_name (log_names key) ≡ true
log_watched key = λ i. not (log_firm (dlrepo ∷ []) key i) && true

-- ---- the last name

last_one : (xs ys : Names) (a b : List ℕ) → xs ++ a ∷ [] ≡ ys ++ b ∷ [] → a ≡ b
last_one [] [] a b e = cc e
last_one [] (y ∷ []) a b e = absurd (cc e)
last_one [] (y ∷ z ∷ ys) a b e = absurd (cc e)
last_one (x ∷ []) [] a b e = absurd (cc e)
last_one (x ∷ z ∷ xs) [] a b e = absurd (cc e)
last_one (x ∷ xs) (y ∷ ys) a b e = last_one xs ys a b (cc e)

-- no such place is a HEAD
no_head : (s repo front : Names) (name : List ℕ) → head_place s ≡ repo ++ (front ++ name ∷ []) → codes "HEAD" ≡ name
no_head s repo front name e = last_one (repo_of s) (repo ++ front) (codes "HEAD") name (e ∙ sym (append_assoc repo front (name ∷ [])))

pub content_no_head : (s repo : Names) (key : PlainKey) → head_place s ≢ content_place repo key
content_no_head s repo key e =
    cc (no_head s repo (codes "annex" ∷ codes "objects" ∷ pieces (hash_dir key)) (key_text key) e ∙ key_text_parts key)

pub log_no_head : (s repo : Names) (key : PlainKey) → head_place s ≢ log_place repo key
log_no_head s repo key e =
    cc (no_head s repo (codes "annex" ∷ codes "logs" ∷ pieces (hash_dir key)) (log_name key) e ∙ ap (λ (z : List ℕ). z ++ codes ".log") (key_text_parts key))

-- ---- one key at each place

key_once : (one two : PlainKey) → IsKey one → IsKey two → key_text one ≡ key_text two → one ≡ two
key_once one two h k e = one_reading.key (key_text one) one two (record { stored = h; printed = refl }) (record { stored = k; printed = e })

pub content_once : (one two : PlainKey) → IsKey one → IsKey two → content_names one ≡ content_names two → one ≡ two
content_once one two h k e =
    key_once one two h k (last_one (codes "annex" ∷ codes "objects" ∷ pieces (hash_dir one)) (codes "annex" ∷ codes "objects" ∷ pieces (hash_dir two)) (key_text one) (key_text two) e)

pub log_once : (one two : PlainKey) → IsKey one → IsKey two → log_names one ≡ log_names two → one ≡ two
log_once one two h k e =
    let names : log_name one ≡ log_name two = last_one (codes "annex" ∷ codes "logs" ∷ pieces (hash_dir one)) (codes "annex" ∷ codes "logs" ∷ pieces (hash_dir two)) (log_name one) (log_name two) e in
    key_once one two h k (append_cancel_right (key_text one) (key_text two) (codes ".log") names)

pub log_no_content : (one two : PlainKey) → log_names one ≢ content_names two
log_no_content one two e = cc e
