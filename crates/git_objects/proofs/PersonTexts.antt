-- A person's text has one reading, and no newline.
use Rattle.std.proofs.Common.{◌≡◌, ℕ, Bool, true, false, ◌&&◌, ◌||◌, List, [], ◌∷◌, ◌++◌, length, drop, refl, sym, ap, subst, ◌∙◌, append_assoc, arith}
use Rattle.std.specs.Prelude.{◌==◌, codes, slice_index, IsUtf8}
use Rattle.std.specs.Char.{is_ascii_digit}
use Rattle.std.specs.List.{list_any, list_all}
use Rattle.std.proofs.lemmas.Bool.{and_parts, eqb-true, false≢true}
use Rattle.std.proofs.lemmas.Bool.Decides.{nat_tests}
use Rattle.std.proofs.lemmas.List.{append_cancel_right}
use Rattle.std.proofs.lemmas.List.Folds.{list_any-append}
use Rattle.git_objects.specs.Cuts.{newline, Lacks, IsCut}
use Rattle.git_objects.specs.Numbers.{number_text, IsNumber}
use Rattle.git_objects.specs.People.{is_plain, is_zone, is_person, person_of, named_text}
use Rattle.git_objects.specs.People.{IsNamedText, NoNamedText, IsMoment, NoMoment}
use Rattle.git_objects.specs.Persons.{person_text, IsPersonStored, IsPersonText, IsNoPersonText}
use Rattle.git_objects.specs.declared.people.Person.{Person}
use Rattle.git_objects.proofs.Cutting.{cut_once, lacks_none}
use Rattle.git_objects.proofs.Decimals.{number_lacks}

-- ---- bytes that texts lack

neither : (a b : Bool) → a ≡ false → b ≡ false → (a || b) ≡ false
neither a b h k = λ i. h i || k i

pub lacks-append : (byte : ℕ) (a b : List ℕ) → Lacks byte a → Lacks byte b → Lacks byte (a ++ b)
lacks-append byte a b h k = list_any-append (λ c. c == byte) a b ∙ neither (list_any (λ c. c == byte) a) (list_any (λ c. c == byte) b) h k

pub plain_lacks : (byte : ℕ) → ((x : ℕ) → is_plain x ≡ true → (x == byte) ≡ false) → (text : List ℕ) → list_all is_plain text ≡ true → Lacks byte text
plain_lacks byte other [] h = refl
plain_lacks byte other (x ∷ text) h =
    let p = and_parts (is_plain x) (list_all is_plain text) h in
    neither (x == byte) (list_any (λ c. c == byte) text) (other x p.0) (plain_lacks byte other text p.1)

plain_newline : (x : ℕ) → is_plain x ≡ true → (x == newline) ≡ false
plain_newline x h = grind (arith, nat_tests)

plain_open : (x : ℕ) → is_plain x ≡ true → (x == 60) ≡ false
plain_open x h = grind (arith, nat_tests)

plain_close : (x : ℕ) → is_plain x ≡ true → (x == 62) ≡ false
plain_close x h = grind (arith, nat_tests)

digits_lack : (text : List ℕ) → list_all is_ascii_digit text ≡ true → Lacks newline text
digits_lack [] h = refl
digits_lack (x ∷ text) h =
    let p = and_parts (is_ascii_digit x) (list_all is_ascii_digit text) h in
    neither (x == newline) (list_any (λ c. c == newline) text) (no_newline x p.0) (digits_lack text p.1)
  where
    no_newline : (x : ℕ) → is_ascii_digit x ≡ true → (x == newline) ≡ false
    no_newline x h = grind (arith, nat_tests)

zone_lacks : (zone : List ℕ) → is_zone zone ≡ true → Lacks newline zone
unfolding is_zone
zone_lacks [] h = refl
zone_lacks (x ∷ zone) h =
    let outer = and_parts ((length (x ∷ zone) == 5) && (x == 43 || x == 45)) (list_all is_ascii_digit zone) h in
    let inner = and_parts (length (x ∷ zone) == 5) (x == 43 || x == 45) outer.0 in
    neither (x == newline) (list_any (λ c. c == newline) zone) (no_newline x inner.1) (digits_lack zone outer.1)
  where
    no_newline : (x : ℕ) → (x == 43 || x == 45) ≡ true → (x == newline) ≡ false
    no_newline x h = grind (arith, nat_tests)

pub record PersonParts (person : Person) : Type 0 where
  pub name : list_all is_plain person.name ≡ true
  pub email : list_all is_plain person.email ≡ true
  pub zone : is_zone person.zone ≡ true

pub person_parts : (person : Person) → PersonParts person
unfolding is_person
person_parts person =
    let outer = and_parts (list_all is_plain person.name && list_all is_plain person.email) (is_zone person.zone) person.valid in
    let inner = and_parts (list_all is_plain person.name) (list_all is_plain person.email) outer.0 in
    record { name = inner.0; email = inner.1; zone = outer.1 }

-- a person's text is a name, an email and a moment
pub person_named_text : (name email zone : List ℕ) (secs : ℕ) → person_of name email secs zone ≡ named_text name email (number_text secs ++ 32 ∷ zone)
unfolding person_of
person_named_text name email zone secs = simp append_assoc

-- and one line
pub person_lacks : (person : Person) → Lacks newline (person_text person)
person_lacks person =
    let parts = person_parts person in
    ap (list_any (λ b. b == newline)) (person_named_text person.name person.email person.zone person.secs)
    ∙ lacks-append newline person.name (codes " <" ++ (person.email ++ (codes "> " ++ (number_text person.secs ++ 32 ∷ person.zone)))) (plain_lacks newline plain_newline person.name parts.name)
    (lacks-append newline person.email (codes "> " ++ (number_text person.secs ++ 32 ∷ person.zone)) (plain_lacks newline plain_newline person.email parts.email)
    (lacks-append newline (number_text person.secs) (32 ∷ person.zone) (number_lacks newline person.secs (omega arith)) (zone_lacks person.zone parts.zone)))

-- ---- a name and an email at the front

pub named_once : (text a b x c d y : List ℕ) → IsNamedText text a b x → IsNamedText text c d y → (a ≡ c) × (b ≡ d) × (x ≡ y)
named_once text a b x c d y one two =
    let both : (a ++ 32 ∷ []) ++ 60 ∷ (b ++ 62 ∷ 32 ∷ x) ≡ (c ++ 32 ∷ []) ++ 60 ∷ (d ++ 62 ∷ 32 ∷ y) =
    append_assoc a (32 ∷ []) (60 ∷ (b ++ 62 ∷ 32 ∷ x)) ∙ sym one.printed ∙ two.printed ∙ sym (append_assoc c (32 ∷ []) (60 ∷ (d ++ 62 ∷ 32 ∷ y))) in
    let names = cut_once 60 (a ++ 32 ∷ []) (c ++ 32 ∷ []) _ _ (lacks-append 60 a (32 ∷ []) one.name_ends refl) (lacks-append 60 c (32 ∷ []) two.name_ends refl) both in
    let emails = cut_once 62 b d (32 ∷ x) (32 ∷ y) one.email_ends two.email_ends names.1 in
    (append_cancel_right a c (32 ∷ []) names.0, emails.0, cc emails.1)

-- what is read up to the two brackets
pub named_read : (text front name rest email after moment : List ℕ) → IsCut 60 text front rest → front ≡ name ++ 32 ∷ [] → IsCut 62 rest email after → after ≡ 32 ∷ moment → IsNamedText text name email moment
named_read text front name rest email after moment one is_front two is_after = record {
  printed = one.parts ∙ ap (λ (z : List ℕ). z ++ 60 ∷ rest) is_front ∙ append_assoc name (32 ∷ []) (60 ∷ rest) ∙ ap (λ (z : List ℕ). name ++ 32 ∷ 60 ∷ z) (two.parts ∙ ap (λ (z : List ℕ). email ++ 62 ∷ z) is_after);
  name_ends = front_lacks 60 name (32 ∷ []) (subst (Lacks 60) is_front one.first);
  email_ends = two.first;
}
  where
    front_lacks : (byte : ℕ) (a b : List ℕ) → Lacks byte (a ++ b) → Lacks byte a
    front_lacks byte a b h = by_or (list_any (λ c. c == byte) a) (list_any (λ c. c == byte) b) (sym (list_any-append (λ c. c == byte) a b) ∙ h)
      where
        by_or : (p q : Bool) → (p || q) ≡ false → p ≡ false
        by_or true q h = h
        by_or false q h = refl

-- the front up to the first bracket, of a text with a name at its front
pub before_bracket : (text front rest name email moment : List ℕ) → IsCut 60 text front rest → IsNamedText text name email moment → (front ≡ name ++ 32 ∷ []) × (rest ≡ email ++ 62 ∷ 32 ∷ moment)
before_bracket text front rest name email moment cut named =
    cut_once 60 front (name ++ 32 ∷ []) rest (email ++ 62 ∷ 32 ∷ moment) cut.first (lacks-append 60 name (32 ∷ []) named.name_ends refl)
    (sym cut.parts ∙ named.printed ∙ sym (append_assoc name (32 ∷ []) (60 ∷ (email ++ 62 ∷ 32 ∷ moment))))

pub no_name : (text front rest : List ℕ) → IsCut 60 text front rest → ((name : List ℕ) → front ≡ name ++ 32 ∷ [] → ⊥) → NoNamedText text
no_name text front rest cut none name email moment named = none name (before_bracket text front rest name email moment cut named).0

pub no_email : (text front rest : List ℕ) → IsCut 60 text front rest → Lacks 62 rest → NoNamedText text
no_email text front rest cut none name email moment named =
    lacks_none 62 email (32 ∷ moment) (subst (Lacks 62) (before_bracket text front rest name email moment cut named).1 none)

pub no_moment : (text front rest shown after : List ℕ) → IsCut 60 text front rest → IsCut 62 rest shown after → ((moment : List ℕ) → after ≡ 32 ∷ moment → ⊥) → NoNamedText text
no_moment text front rest shown after one two none name email moment named =
    none moment (cut_once 62 shown email after (32 ∷ moment) two.first named.email_ends (sym two.parts ∙ (before_bracket text front rest name email moment one named).1)).1

-- ---- a moment

pub moment_once : (text : List ℕ) (m n : ℕ) (x y : List ℕ) → IsMoment text m x → IsMoment text n y → (number_text m ≡ number_text n) × (x ≡ y)
moment_once text m n x y one two =
    cut_once 32 (number_text m) (number_text n) x y (number_lacks 32 m (omega arith)) (number_lacks 32 n (omega arith)) (sym one.printed ∙ two.printed)

pub moment_cut : (text digits rest : List ℕ) (secs : ℕ) (zone : List ℕ) → IsCut 32 text digits rest → IsMoment text secs zone → (digits ≡ number_text secs) × (rest ≡ zone)
moment_cut text digits rest secs zone cut moment =
    cut_once 32 digits (number_text secs) rest zone cut.first (number_lacks 32 secs (omega arith)) (sym cut.parts ∙ moment.printed)

pub no_number : (text digits rest : List ℕ) → IsCut 32 text digits rest → ((n : ℕ) → IsNumber digits n → ⊥) → NoMoment text
no_number text digits rest cut none secs zone moment = none secs (record { printed = (moment_cut text digits rest secs zone cut moment).0; size = moment.size })

pub other_size : (text digits rest : List ℕ) → IsCut 32 text digits rest → (length rest ≡ 5 → ⊥) → NoMoment text
other_size text digits rest cut other secs zone moment = other (ap length (moment_cut text digits rest secs zone cut moment).1 ∙ moment.whole)

-- ---- a person

pub person_named : (text : List ℕ) (person : Person) → IsPersonText text person → IsNamedText text person.name person.email (number_text person.secs ++ 32 ∷ person.zone)
person_named text person h =
    let parts = person_parts person in
    record {
      printed = h.printed ∙ person_named_text person.name person.email person.zone person.secs;
      name_ends = plain_lacks 60 plain_open person.name parts.name;
      email_ends = plain_lacks 62 plain_close person.email parts.email;
    }

pub zone_size : (zone : List ℕ) → is_zone zone ≡ true → length zone ≡ 5
unfolding is_zone
zone_size zone h =
    let outer = and_parts ((length zone == 5) && (slice_index zone 0 == 43 || slice_index zone 0 == 45)) (list_all is_ascii_digit (drop 1 zone)) h in
    eqb-true (length zone) 5 (and_parts (length zone == 5) (slice_index zone 0 == 43 || slice_index zone 0 == 45) outer.0).0

pub person_moment : (person : Person) → IsPersonStored person → IsMoment (number_text person.secs ++ 32 ∷ person.zone) person.secs person.zone
person_moment person h = record { printed = refl; size = h.size; whole = zone_size person.zone (person_parts person).zone }

pub unnamed : (text : List ℕ) → NoNamedText text → IsNoPersonText text
unnamed text none person h = none person.name person.email _ (person_named text person h)

-- what was read is what a person with this text has
pub record IsPart (person : Person) (n e m : List ℕ) : Type 0 where
  pub name : n ≡ person.name
  pub email : e ≡ person.email
  pub moment : IsMoment m person.secs person.zone

pub read_same : (text name email moment : List ℕ) (person : Person) → IsNamedText text name email moment → IsPersonText text person → IsPart person name email moment
read_same text name email moment person named h =
    let same = named_once text name email moment person.name person.email _ named (person_named text person h) in
    record { name = same.0; email = same.1; moment = subst (λ (z : List ℕ). IsMoment z person.secs person.zone) (sym same.2) (person_moment person h.stored) }

-- an invalid person's text is none
pub not_valid : (text name email moment : List ℕ) (secs : ℕ) (zone : List ℕ) → IsNamedText text name email moment → IsMoment moment secs zone → is_person name email zone ≡ false → IsNoPersonText text
not_valid text name email moment secs zone named read invalid person h =
    let part = read_same text name email moment person named h in
    let zones = (moment_once moment secs person.secs zone person.zone read part.moment).1 in
    false≢true (sym invalid ∙ (λ i. is_person (part.name i) (part.email i) (zones i)) ∙ person.valid)

pub person_read : (text name email moment : List ℕ) (person : Person) → IsNamedText text name email moment → IsMoment moment person.secs person.zone → person.name ≡ name → person.email ≡ email → IsUtf8 name → IsUtf8 email → IsPersonText text person
person_read text name email moment person named read is_name is_email name_utf8 email_utf8 = record {
  stored = record { name = subst IsUtf8 (sym is_name) name_utf8; email = subst IsUtf8 (sym is_email) email_utf8; size = read.size };
  printed = named.printed ∙ (λ i. named_text (sym is_name i) (sym is_email i) (read.printed i)) ∙ sym (person_named_text person.name person.email person.zone person.secs);
}
