-- A configuration that was read has a person.
use Rattle.std.proofs.Common.{◌≡◌, ℕ, Bool, true, false, cond, not, ◌&&◌, ◌||◌, List, [], ◌∷◌, Option, Some, None, Result, Ok, Err, codes, refl, sym, ap, ◌∙◌}
use Rattle.std.specs.Prelude.{◌==◌, nat_le, length, IsTrue, option_and_then, option_map}
use Rattle.std.specs.Char.{is_ascii_control}
use Rattle.std.specs.List.{list_all, filter}
use Rattle.std.proofs.lemmas.Bool.{eqb-true, false≢true}
use Rattle.places.proofs.Texts.{and_both, or_neither, not_true}
use Rattle.git_objects.specs.All.{is_plain, is_person, is_zone}
use Rattle.config_text.specs.All.{PlainSection, value_alone, uuid_of, or_bad, sections_of}
use Rattle.config_text.specs.All.{PlainConfig, config_of, config_read, config_in, is_other}
use Rattle.config_text.specs.All.{given_copies, given_person, is_personal, is_personal_byte}
use Rattle.config_text.specs.All.{remotes_of}
use Rattle.config_text.specs.declared.repository.Remote.{Remote}

-- BYTES
other_byte : (b : ℕ) (n : ℕ) (test : ℕ → Bool) → test b ≡ false → test n ≡ true → (b == n) ≡ false
other_byte b n test fails holds = by (b == n) refl
  where
    by : (t : Bool) → (b == n) ≡ t → t ≡ false
    by true e = absurd (false≢true (sym fails ∙ ap test (eqb-true b n e) ∙ holds))
    by false e = refl

plain_byte : (b : ℕ) → is_personal_byte b ≡ true → is_plain b ≡ true
unfolding is_personal_byte
plain_byte b h =
    let p = and_both (not (is_ascii_control b)) (not ((b == 60) || (b == 62))) h in
    let control = not_true (is_ascii_control b) p.0 in
    let brackets = or_neither (b == 60) (b == 62) (not_true ((b == 60) || (b == 62)) p.1) in
    let nul = other_byte b 0 is_ascii_control control refl in
    let line = other_byte b 10 is_ascii_control control refl in
    λ i. not (nul i) && not (line i) && not (brackets.0 i) && not (brackets.1 i)

plain_bytes : (text : List ℕ) → list_all is_personal_byte text ≡ true → list_all is_plain text ≡ true
plain_bytes [] h = refl
plain_bytes (b ∷ text) h =
    let p = and_both (is_personal_byte b) (list_all is_personal_byte text) h in
    λ i. plain_byte b p.0 i && plain_bytes text p.1 i

plain_text : (text : List ℕ) → is_personal text ≡ true → list_all is_plain text ≡ true
unfolding is_personal
plain_text text h =
    let p = and_both (not (length text == 0)) (nat_le (length text) 100 && list_all is_personal_byte text) h in
    plain_bytes text (and_both (nat_le (length text) 100) (list_all is_personal_byte text) p.1).1

makes_person : (name email : List ℕ) → is_personal name ≡ true → is_personal email ≡ true → IsTrue (is_person name email (codes "+0000"))
unfolding is_person is_zone
makes_person name email n e = λ i. plain_text name n i && plain_text email e i && true

-- PARTS of a configuration
name_is_personal : is_personal (codes "DataLad User") ≡ true
unfolding is_personal is_personal_byte
name_is_personal = refl

email_is_personal : is_personal (codes "user@localhost") ≡ true
unfolding is_personal is_personal_byte
email_is_personal = refl

given_is_personal : (other : List ℕ) (o : Option (List ℕ)) (text : List ℕ) → is_personal other ≡ true → given_person other o ≡ Some text → is_personal text ≡ true
unfolding given_person
given_is_personal other None text h e = ap is_personal (sym (some_is e)) ∙ h
  where
    some_is : Some other ≡ Some text → other ≡ text
    some_is e = cc e
given_is_personal other (Some given) text h e = by (is_personal given) refl e
  where
    by : (b : Bool) → is_personal given ≡ b → cond b (Some given) None ≡ Some text → is_personal text ≡ true
    by true is e = ap is_personal (sym (some_is e)) ∙ is
      where
        some_is : Some given ≡ Some text → given ≡ text
        some_is e = cc e
    by false is e = absurd (cc e)

-- a configuration of parts that are all there has their name and email
of_parts : (u : Option (List ℕ)) (n : Option ℕ) (name email : Option (List ℕ)) (remotes : Option (List Remote)) (rest : List PlainSection) (config : PlainConfig)
    → option_and_then (λ uuid. option_and_then (λ numcopies. option_and_then (λ name. option_and_then (λ email. option_and_then (λ remotes.
    Some (record { uuid = uuid; numcopies = numcopies; name = name; email = email; remotes = remotes; rest = rest })) remotes) email) name) n) u ≡ Some config
    → (name ≡ Some config.name) × (email ≡ Some config.email)
of_parts (Some u) (Some n) (Some name) (Some email) (Some remotes) rest config e =
    (ap (λ (o : Option PlainConfig). option_map (λ (c : PlainConfig). c.name) o) e, ap (λ (o : Option PlainConfig). option_map (λ (c : PlainConfig). c.email) o) e)
of_parts None n name email remotes rest config e = absurd (cc e)
of_parts (Some u) None name email remotes rest config e = absurd (cc e)
of_parts (Some u) (Some n) None email remotes rest config e = absurd (cc e)
of_parts (Some u) (Some n) (Some name) None remotes rest config e = absurd (cc e)
of_parts (Some u) (Some n) (Some name) (Some email) None rest config e = absurd (cc e)

of_sections : (list : List PlainSection) (config : PlainConfig) → config_of list ≡ Some config → IsTrue (is_person config.name config.email (codes "+0000"))
unfolding config_of
of_sections list config e =
    let name : Option (List ℕ) = value_alone (codes "user") (codes "name") list in
    let email : Option (List ℕ) = value_alone (codes "user") (codes "email") list in
    let p = of_parts (option_and_then uuid_of (value_alone (codes "annex") (codes "uuid") list)) (given_copies (value_alone (codes "annex") (codes "numcopies") list))
    (given_person (codes "DataLad User") name) (given_person (codes "user@localhost") email) (remotes_of list) (filter is_other list) config e in
    makes_person config.name config.email
    (given_is_personal (codes "DataLad User") name config.name name_is_personal p.0)
    (given_is_personal (codes "user@localhost") email config.email email_is_personal p.1)

of_read : (o : Option PlainConfig) (config : PlainConfig) → ◌≡◌ {A = Result PlainConfig ℕ} (or_bad 0 o (λ config. Ok config)) (Ok config) → o ≡ Some config
of_read None config e = absurd (cc e)
of_read (Some found) config e = cc e

pub has_person : (text : List ℕ) (config : PlainConfig) → config_in text ≡ Ok config → IsTrue (is_person config.name config.email (codes "+0000"))
unfolding config_in
has_person text config e = by (sections_of text) e
  where
    by : (read : Result (List PlainSection) ℕ) → config_read read ≡ Ok config → IsTrue (is_person config.name config.email (codes "+0000"))
    by (Err line) e = absurd (cc e)
    by (Ok list) e = of_sections list config (of_read (config_of list) config e)
