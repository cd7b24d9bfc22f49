-- A configuration that is printed is read back.
use Rattle.std.proofs.Common.{◌≡◌, ℕ, ◌^◌, ◌<◌, true, false, cond, List, [], ◌∷◌, ◌++◌, map, length, get_or, Option, Some, None, Ok, inl, refl, sym, ap, ◌∙◌, arith, IsUtf8}
use Rattle.std.specs.Prelude.{◌==◌, codes, decimal, is_some, option_map, option_and_then}
use Rattle.std.specs.List.{AllByRecursion, filter, flat_map, list_all, list_any}
use Rattle.std.specs.Str.{is_utf8}
use Rattle.std.specs.Str.Parse.{digits_value}
use Rattle.std.proofs.lemmas.Bool.{and_parts, and_from, and_right, cond-true, cond-false, or_from, or_right, not-true, not_from_false, ltb-true, leb-true, ne_eqb}
use Rattle.std.proofs.lemmas.Bool.Decides.{nat_tests}
use Rattle.std.proofs.lemmas.Fmt.{IsAscii-decimal, digits_decimal, digits_value-decimal, first_decimal, decimal_nonempty}
use Rattle.std.proofs.lemmas.List.Concat.{flat_map-append}
use Rattle.std.proofs.lemmas.Str.{is_utf8-from_IsUtf8, IsUtf8-from_ascii, IsUtf8-nil}
use Rattle.uuid.specs.Text.{lower as lower_case}
use Rattle.uuid.proofs.RoundTrips.{parses_hyphenated_text}
use Rattle.uuid.proofs.TextLemmas.{hyphenated_ascii}
use Rattle.places.specs.All.{text_of}
use Rattle.config_text.specs.declared.repository.Remote.{Remote}
use Rattle.config_text.specs.declared.repository.RepoConfig.{RepoConfig}
use Rattle.config_text.specs.declared.sections.Entry.{Entry}
use Rattle.config_text.specs.declared.sections.Section.{Section}
use Rattle.config_text.specs.Values.{joined}
use Rattle.config_text.specs.Lines.{is_name, is_name_byte, is_key, is_key_byte}
use Rattle.config_text.specs.Sections.{PlainSection, plain, section_text, printed, printed_of}
use Rattle.config_text.specs.Uuids.{uuid_text}
use Rattle.config_text.specs.Lookups.{otherwise, value_in, value_alone, is_alone, sub_under}
use Rattle.config_text.specs.Lookups.{uuid_of}
use Rattle.config_text.specs.Reading.{or_bad, sections_of}
use Rattle.config_text.specs.Settings.{is_number, is_count, copies_of, given_copies, is_personal}
use Rattle.config_text.specs.Settings.{given_person, is_remote_byte, is_remote_name, place_of}
use Rattle.config_text.specs.Settings.{remote_of, remotes_under, remotes_in, remotes_of}
use Rattle.config_text.specs.Repository.{PlainConfig, plain_config, is_other, config_of}
use Rattle.config_text.specs.Repository.{config_read, config_in, remote_text, annex_text, user_text}
use Rattle.config_text.specs.Repository.{repo_printed}
use Rattle.config_text.specs.Laws.{IsPrintable, IsUuid, IsPlainRemote, IsPlainRest}
use Rattle.config_text.specs.Laws.{IsPrintableConfig, ConfigIsRead}
use Rattle.config_text.proofs.Configs.{config_made}
use Rattle.config_text.proofs.Given.{numerals, copies_are, place_read}
use Rattle.config_text.proofs.LinesOf.{Lacks}
use Rattle.config_text.proofs.Utf8.{ascii_then}
use Rattle.config_text.proofs.PrintedSections.{printed_is_read}

-- ---- the sections that are printed
abbrev entry : List ℕ → List ℕ → Entry
entry key value = record { key = key; value = value }

abbrev annex_section : List ℕ → ℕ → PlainSection
annex_section uuid n = record {
  name = codes "annex";
  sub = None;
  entries = entry (codes "uuid") (uuid_text uuid) ∷ entry (codes "numcopies") (decimal n) ∷ [];
}

abbrev user_section : List ℕ → List ℕ → PlainSection
user_section name email = record {
  name = codes "user";
  sub = None;
  entries = entry (codes "name") name ∷ entry (codes "email") email ∷ [];
}

abbrev remote_section : Remote → PlainSection
remote_section r = record {
  name = codes "remote";
  sub = Some r.name;
  entries = entry (codes "url") (text_of r.url) ∷ entry (codes "uuid") (uuid_text r.uuid) ∷ [];
}

abbrev others : List Remote → List PlainSection → List PlainSection
others remotes rest = map remote_section remotes ++ rest

abbrev sections : RepoConfig → List PlainSection
sections c = annex_section c.uuid c.numcopies ∷ user_section c.name c.email ∷ others c.remotes.items (map plain c.rest.items)

remotes_text : (remotes : List Remote) → flat_map section_text (map remote_section remotes) ≡ flat_map remote_text remotes
remotes_text [] = refl
remotes_text (r ∷ remotes) = ap (λ (z : List ℕ). remote_text r ++ z) (remotes_text remotes)

rest_text : (rest : List Section) → flat_map section_text (map plain rest) ≡ printed rest
rest_text [] = refl
rest_text (s ∷ rest) = ap (λ (z : List ℕ). printed_of s ++ z) (rest_text rest)

sections_text : (c : RepoConfig) → flat_map section_text (sections c) ≡ repo_printed c
sections_text c =
    ap (λ (z : List ℕ). annex_text c.uuid c.numcopies ++ (user_text c.name c.email ++ z))
    (flat_map-append section_text (map remote_section c.remotes.items) (map plain c.rest.items)
    ∙ ap (λ (z : List ℕ). z ++ flat_map section_text (map plain c.rest.items)) (remotes_text c.remotes.items)
    ∙ ap (λ (z : List ℕ). flat_map remote_text c.remotes.items ++ z) (rest_text c.rest.items))

-- ---- which are printable
uuid_utf8 : (uuid : List ℕ) → is_utf8 (uuid_text uuid) ≡ true
uuid_utf8 uuid = is_utf8-from_IsUtf8 (uuid_text uuid) (IsUtf8-from_ascii (uuid_text uuid) (hyphenated_ascii lower_case uuid (inl refl)))

small_count : (n : ℕ) → is_count n ≡ true → (0 < n) × (n < 2 ^ 64)
small_count n h =
    let parts = and_parts _ _ h in
    let low = ltb-true 0 n parts.0 in
    let high = leb-true n 1000 parts.1 in
    (low, omega arith)

decimal_utf8 : (n : ℕ) → is_count n ≡ true → is_utf8 (decimal n) ≡ true
decimal_utf8 n h = is_utf8-from_IsUtf8 (decimal n) (IsUtf8-from_ascii (decimal n) (IsAscii-decimal n (small_count n h).1))

annex_printable : (uuid : List ℕ) (n : ℕ) → is_count n ≡ true → IsPrintable (annex_section uuid n)
unfolding is_name is_name_byte is_key is_key_byte
annex_printable uuid n h = record {
  name = refl;
  lower = refl;
  sub = tt;
  entries = (record { key = refl; lower = refl; value = uuid_utf8 uuid }, (record { key = refl; lower = refl; value = decimal_utf8 n h }, tt));
}

user_printable : (name email : List ℕ) → is_utf8 name ≡ true → is_utf8 email ≡ true → IsPrintable (user_section name email)
unfolding is_name is_name_byte is_key is_key_byte
user_printable name email h k = record {
  name = refl;
  lower = refl;
  sub = tt;
  entries = (record { key = refl; lower = refl; value = h }, (record { key = refl; lower = refl; value = k }, tt));
}

-- a remote's name as a second name
remote_byte_low : (b : ℕ) → is_remote_byte b ≡ true → (b < 128) × ((b == 10) ≡ false)
unfolding is_remote_byte
remote_byte_low b h = (grind (arith, nat_tests), grind (arith, nat_tests))

remote_bytes : (name : List ℕ) → is_remote_name name ≡ true → list_all is_remote_byte name ≡ true
unfolding is_remote_name
remote_bytes name h = (and_parts _ _ (and_parts _ _ h).1).1

remote_utf8 : (name : List ℕ) → list_all is_remote_byte name ≡ true → IsUtf8 name
remote_utf8 [] h = IsUtf8-nil
remote_utf8 (b ∷ name) h =
    let parts = and_parts _ _ h in
    ascii_then b name (remote_byte_low b parts.0).0 (remote_utf8 name parts.1)

remote_whole : (name : List ℕ) → list_all is_remote_byte name ≡ true → Lacks 10 name
remote_whole [] h = refl
remote_whole (b ∷ name) h =
    let parts = and_parts _ _ h in
    or_from (b == 10) (list_any (λ y. y == 10) name) (remote_byte_low b parts.0).1 (remote_whole name parts.1)

remote_printable : (r : Remote) → IsPlainRemote r → IsPrintable (remote_section r)
unfolding is_name is_name_byte is_key is_key_byte
remote_printable r p = record {
  name = refl;
  lower = refl;
  sub = record { utf8 = is_utf8-from_IsUtf8 r.name (remote_utf8 r.name (remote_bytes r.name p.name)); whole = remote_whole r.name (remote_bytes r.name p.name) };
  entries = (record { key = refl; lower = refl; value = p.text }, (record { key = refl; lower = refl; value = uuid_utf8 r.uuid }, tt));
}

rest_printable : (rest : List PlainSection) → AllByRecursion IsPlainRest rest → AllByRecursion IsPrintable rest
rest_printable [] all = tt
rest_printable (s ∷ rest) all = (all.0.printable, rest_printable rest all.1)

others_printable : (remotes : List Remote) (rest : List PlainSection) → AllByRecursion IsPlainRemote remotes → AllByRecursion IsPlainRest rest → AllByRecursion IsPrintable (others remotes rest)
others_printable [] rest all more = rest_printable rest more
others_printable (r ∷ remotes) rest all more = (remote_printable r all.0, others_printable remotes rest all.1 more)

-- ---- what the lookups find
other_parts : (s : PlainSection) → is_other s ≡ true → (is_alone (codes "annex") s ≡ false) × (is_alone (codes "user") s ≡ false) × (is_some (sub_under (codes "remote") s) ≡ false)
unfolding is_other
other_parts s h =
    let first = and_parts _ _ h in
    let more = and_parts _ _ first.1 in
    (not-true _ first.0, not-true _ more.0, not-true _ more.1)

-- no section of this name
abbrev NoneAlone : List ℕ → List PlainSection → Type 0
NoneAlone name list = AllByRecursion (λ s. is_alone name s ≡ false) list

none_alone : (name key : List ℕ) (list : List PlainSection) → NoneAlone name list → value_alone name key list ≡ None
none_alone name key [] all = refl
none_alone name key (s ∷ list) all =
    ap (λ (o : Option (List ℕ)). otherwise o (cond (is_alone name s) (value_in key s.entries) None)) (none_alone name key list all.1)
    ∙ cond-false (is_alone name s) (value_in key s.entries) None all.0

remote_not_alone : (name : List ℕ) (r : Remote) → is_alone name (remote_section r) ≡ false
unfolding is_alone
remote_not_alone name r = and_right _ false refl

others_annex : (remotes : List Remote) (rest : List PlainSection) → AllByRecursion IsPlainRest rest → NoneAlone (codes "annex") (others remotes rest)
others_annex [] [] all = tt
others_annex [] (s ∷ rest) all = ((other_parts s all.0.other).0, others_annex [] rest all.1)
others_annex (r ∷ remotes) rest all = (remote_not_alone (codes "annex") r, others_annex remotes rest all)

others_user : (remotes : List Remote) (rest : List PlainSection) → AllByRecursion IsPlainRest rest → NoneAlone (codes "user") (others remotes rest)
others_user [] [] all = tt
others_user [] (s ∷ rest) all = ((other_parts s all.0.other).1, others_user [] rest all.1)
others_user (r ∷ remotes) rest all = (remote_not_alone (codes "user") r, others_user remotes rest all)

-- behind the two first sections there is no other value
abbrev found_among : List ℕ → List ℕ → PlainSection → PlainSection → Option (List ℕ) → Option (List ℕ)
found_among name key annex user more =
    otherwise (otherwise more (cond (is_alone name user) (value_in key user.entries) None)) (cond (is_alone name annex) (value_in key annex.entries) None)

annex_uuid : (uuid : List ℕ) (n : ℕ) (name email : List ℕ) (more : List PlainSection) → NoneAlone (codes "annex") more
    → value_alone (codes "annex") (codes "uuid") (annex_section uuid n ∷ user_section name email ∷ more) ≡ Some (uuid_text uuid)
unfolding is_alone
annex_uuid uuid n name email more none =
    ap (found_among (codes "annex") (codes "uuid") (annex_section uuid n) (user_section name email)) (none_alone (codes "annex") (codes "uuid") more none)

annex_copies : (uuid : List ℕ) (n : ℕ) (name email : List ℕ) (more : List PlainSection) → NoneAlone (codes "annex") more
    → value_alone (codes "annex") (codes "numcopies") (annex_section uuid n ∷ user_section name email ∷ more) ≡ Some (decimal n)
unfolding is_alone
annex_copies uuid n name email more none =
    ap (found_among (codes "annex") (codes "numcopies") (annex_section uuid n) (user_section name email)) (none_alone (codes "annex") (codes "numcopies") more none)

user_name : (uuid : List ℕ) (n : ℕ) (name email : List ℕ) (more : List PlainSection) → NoneAlone (codes "user") more
    → value_alone (codes "user") (codes "name") (annex_section uuid n ∷ user_section name email ∷ more) ≡ Some name
unfolding is_alone
user_name uuid n name email more none =
    ap (found_among (codes "user") (codes "name") (annex_section uuid n) (user_section name email)) (none_alone (codes "user") (codes "name") more none)

user_email : (uuid : List ℕ) (n : ℕ) (name email : List ℕ) (more : List PlainSection) → NoneAlone (codes "user") more
    → value_alone (codes "user") (codes "email") (annex_section uuid n ∷ user_section name email ∷ more) ≡ Some email
unfolding is_alone
user_email uuid n name email more none =
    ap (found_among (codes "user") (codes "email") (annex_section uuid n) (user_section name email)) (none_alone (codes "user") (codes "email") more none)

-- ---- what the values are
uuid_of-text : (uuid : List ℕ) → IsUuid uuid → uuid_of (uuid_text uuid) ≡ Some uuid
unfolding uuid_of
uuid_of-text uuid p = sym (parses_hyphenated_text lower_case uuid (inl refl) p.size p.bytes)

decimal_number : (n : ℕ) → is_count n ≡ true → is_number (decimal n) ≡ true
unfolding is_number
decimal_number n h =
    let small = small_count n h in
    let some = decimal_nonempty n small.1 in
    let first = first_decimal n small.0 small.1 in
    let empty : (length (decimal n) == 0) ≡ false = ne_eqb (length (decimal n)) 0 (λ e. omega arith) in
    let zero : (get_or (decimal n) 0 0 == 48) ≡ false = ne_eqb (get_or (decimal n) 0 0) 48 (λ e. omega arith) in
    and_from _ _ (not_from_false _ empty) (and_from _ _ (digits_decimal numerals n small.1) (or_right _ _ (not_from_false _ zero)))

copies_of-decimal : (n : ℕ) → is_count n ≡ true → copies_of (decimal n) ≡ Some n
copies_of-decimal n h =
    let same : digits_value 10 (decimal n) ≡ n = digits_value-decimal numerals n (small_count n h).1 in
    copies_are (decimal n) (decimal_number n h)
    ∙ ap (λ (m : ℕ). cond (is_count m) (Some m) None) same
    ∙ cond-true (is_count n) (Some n) None h

given_copies-some : (n : ℕ) → is_count n ≡ true → given_copies (Some (decimal n)) ≡ Some n
unfolding given_copies
given_copies-some n h = copies_of-decimal n h

given_person-some : (other text : List ℕ) → is_personal text ≡ true → given_person other (Some text) ≡ Some text
unfolding given_person
given_person-some other text h = cond-true (is_personal text) (Some text) None h

-- ---- the remotes
onto_none : {X : Type 0} (o : Option (List X)) → joined (Some []) o ≡ o
onto_none None = refl
onto_none (Some xs) = refl

remote_read : (r : Remote) → IsPlainRemote r → remotes_in (remote_section r) ≡ Some (r ∷ [])
unfolding remotes_in sub_under remote_of
remote_read r p =
    let url : place_of (text_of r.url) ≡ Some r.url = sym (place_read (text_of r.url) r.url p.url refl) in
    ap (option_map (λ (x : Remote). x ∷ []))
    (cond-true (is_remote_name r.name) (option_and_then (λ (place : List (List ℕ)). option_map (λ (uuid : List ℕ). made r place uuid) (uuid_of (uuid_text r.uuid))) (place_of (text_of r.url))) None p.name
    ∙ ap (option_and_then (λ (place : List (List ℕ)). option_map (λ (uuid : List ℕ). made r place uuid) (uuid_of (uuid_text r.uuid)))) url
    ∙ ap (option_map (λ (uuid : List ℕ). made r r.url uuid)) (uuid_of-text r.uuid p.uuid))
  where
    made : Remote → List (List ℕ) → List ℕ → Remote
    made r place uuid = record { name = r.name; url = place; uuid = uuid }

no_remote : (o : Option (List ℕ)) (es : List Entry) → is_some o ≡ false → remotes_under o es ≡ Some []
no_remote None es h = refl
no_remote (Some name) es h = absurd (cc h)

rest_remotes : (rest : List PlainSection) → AllByRecursion IsPlainRest rest → remotes_of rest ≡ Some []
unfolding remotes_in
rest_remotes [] all = refl
rest_remotes (s ∷ rest) all =
    ap (λ (o : Option (List Remote)). joined o (remotes_of rest)) (no_remote (sub_under (codes "remote") s) s.entries (other_parts s all.0.other).2)
    ∙ onto_none (remotes_of rest) ∙ rest_remotes rest all.1

others_remotes : (remotes : List Remote) (rest : List PlainSection) → AllByRecursion IsPlainRemote remotes → AllByRecursion IsPlainRest rest → remotes_of (others remotes rest) ≡ Some remotes
others_remotes [] rest all more = rest_remotes rest more
others_remotes (r ∷ remotes) rest all more =
    ap (λ (o : Option (List Remote)). joined o (remotes_of (others remotes rest))) (remote_read r all.0)
    ∙ ap (joined (Some (r ∷ []))) (others_remotes remotes rest all.1 more)

all_remotes : (uuid : List ℕ) (n : ℕ) (name email : List ℕ) (more : List PlainSection) → remotes_of (annex_section uuid n ∷ user_section name email ∷ more) ≡ remotes_of more
unfolding remotes_in sub_under
all_remotes uuid n name email more = onto_none (joined (Some []) (remotes_of more)) ∙ onto_none (remotes_of more)

-- ---- the other sections
rest_kept : (rest : List PlainSection) → AllByRecursion IsPlainRest rest → filter is_other rest ≡ rest
rest_kept [] all = refl
rest_kept (s ∷ rest) all =
    cond-true (is_other s) (s ∷ filter is_other rest) (filter is_other rest) all.0.other
    ∙ ap (λ (z : List PlainSection). s ∷ z) (rest_kept rest all.1)

others_kept : (remotes : List Remote) (rest : List PlainSection) → AllByRecursion IsPlainRest rest → filter is_other (others remotes rest) ≡ rest
unfolding is_other is_alone sub_under
others_kept [] rest all = rest_kept rest all
others_kept (r ∷ remotes) rest all = others_kept remotes rest all

all_kept : (uuid : List ℕ) (n : ℕ) (name email : List ℕ) (more : List PlainSection) → filter is_other (annex_section uuid n ∷ user_section name email ∷ more) ≡ filter is_other more
unfolding is_other is_alone sub_under
all_kept uuid n name email more = refl

-- ---- the whole
sections_read : (c : RepoConfig) → IsPrintableConfig c → sections_of (repo_printed c) ≡ Ok (sections c)
sections_read c p =
    ap sections_of (sym (sections_text c))
    ∙ printed_is_read (sections c) (annex_printable c.uuid c.numcopies p.numcopies, (user_printable c.name c.email p.name_utf8 p.email_utf8, others_printable c.remotes.items (map plain c.rest.items) p.remotes p.rest))

config_found : (c : RepoConfig) → IsPrintableConfig c → config_of (sections c) ≡ Some (plain_config c)
config_found c p =
    let more = others c.remotes.items (map plain c.rest.items) in
    let annex = others_annex c.remotes.items (map plain c.rest.items) p.rest in
    let user = others_user c.remotes.items (map plain c.rest.items) p.rest in
    sym (config_made (sections c) c.uuid c.numcopies c.name c.email c.remotes.items (map plain c.rest.items)
    (sym (ap (option_and_then uuid_of) (annex_uuid c.uuid c.numcopies c.name c.email (others c.remotes.items (map plain c.rest.items)) annex) ∙ uuid_of-text c.uuid p.uuid))
    (sym (ap given_copies (annex_copies c.uuid c.numcopies c.name c.email (others c.remotes.items (map plain c.rest.items)) annex) ∙ given_copies-some c.numcopies p.numcopies))
    (sym (ap (given_person (codes "DataLad User")) (user_name c.uuid c.numcopies c.name c.email (others c.remotes.items (map plain c.rest.items)) user) ∙ given_person-some (codes "DataLad User") c.name p.name))
    (sym (ap (given_person (codes "user@localhost")) (user_email c.uuid c.numcopies c.name c.email (others c.remotes.items (map plain c.rest.items)) user) ∙ given_person-some (codes "user@localhost") c.email p.email))
    (sym (all_remotes c.uuid c.numcopies c.name c.email (others c.remotes.items (map plain c.rest.items)) ∙ others_remotes c.remotes.items (map plain c.rest.items) p.remotes p.rest))
    (sym (all_kept c.uuid c.numcopies c.name c.email (others c.remotes.items (map plain c.rest.items)) ∙ others_kept c.remotes.items (map plain c.rest.items) p.rest)))

pub config_is_read : ConfigIsRead
unfolding config_in
config_is_read c p =
    ap config_read (sections_read c p) ∙ ap (λ (o : Option PlainConfig). or_bad 0 o (λ config. Ok config)) (config_found c p)
