-- Whole texts and UUIDs, computed from the definitions: a wrong one does not check.
use Rattle.std.proofs.Common.{◌≡◌, ℕ, List, [], ◌∷◌, Some, Ok, Err, replicate, refl, codes}
use Rattle.config_text.proofs.OnLiterals.{texts_on_literals, reading_on_literals, uuids_on_literals}
use Rattle.config_text.specs.Values.{printed_value}
use Rattle.config_text.specs.Sections.{printed_section}
use Rattle.config_text.specs.Repository.{repo_text, config_in}
use Rattle.config_text.specs.Uuids.{made}
use Rattle.config_text.specs.Reading.{sections_of}
use Rattle.config_text.specs.declared.uuids.Role.TheVariants.{Dataset, Repository}

-- 01234567-89ab-5cde-8f01-23456789abcd
abbrev id : List ℕ
id =
    0x01 ∷ 0x23 ∷ 0x45 ∷ 0x67 ∷ 0x89 ∷ 0xab ∷ 0x5c ∷ 0xde
    ∷ 0x8f ∷ 0x01 ∷ 0x23 ∷ 0x45 ∷ 0x67 ∷ 0x89 ∷ 0xab ∷ 0xcd ∷ []

pub dataset_section : printed_section (codes "datalad") (Some (codes "dataset"))
    ((codes "id", codes "01234567-89ab-5cde-8f01-23456789abcd") ∷ [])
    ≡ codes "[datalad \"dataset\"]\n\tid = 01234567-89ab-5cde-8f01-23456789abcd\n"
unfolding texts_on_literals
dataset_section = refl

pub second_name : printed_section (codes "a") (Some (codes "b\"c\\d")) []
    ≡ codes "[a \"b\\\"c\\\\d\"]\n"
unfolding texts_on_literals
second_name = refl

pub new_repository : repo_text id 1 (codes "DataLad User") (codes "user@localhost") [] []
    ≡ codes "[annex]\n\tuuid = 01234567-89ab-5cde-8f01-23456789abcd\n\tnumcopies = 1\n[user]\n\tname = DataLad User\n\temail = user@localhost\n"
unfolding texts_on_literals
new_repository = refl

pub empty_value : printed_value [] ≡ codes "\"\""
unfolding texts_on_literals
empty_value = refl

pub value_in_quotes : printed_value (codes "a\"b\\c\n\t#") ≡ codes "\"a\\\"b\\\\c\\n\\t#\""
unfolding texts_on_literals
value_in_quotes = refl

pub read_section : sections_of (codes "[a \"b\\\"c\"]\n\tK = \" x\" # n\n")
    ≡ Ok (record { name = codes "a"; sub = Some (codes "b\"c"); entries = record { key = codes "k"; value = codes " x" } ∷ [] } ∷ [])
unfolding reading_on_literals
read_section = refl

pub read_outside : sections_of (codes "k = v\n") ≡ Err 1
unfolding reading_on_literals
read_outside = refl

pub read_continued : sections_of (codes "[a]\nk = v\\\n w\n") ≡ Err 2
unfolding reading_on_literals
read_continued = refl

pub read_nothing : config_in [] ≡ Err 0
unfolding reading_on_literals
read_nothing = refl

pub made_dataset : made (replicate 16 7) Dataset (codes "w" ∷ codes "ds" ∷ [])
    ≡ 124 ∷ 165 ∷ 145 ∷ 69 ∷ 181 ∷ 172 ∷ 94 ∷ 243 ∷ 144 ∷ 173 ∷ 96 ∷ 6 ∷ 83 ∷ 177 ∷ 46 ∷ 13 ∷ []
unfolding uuids_on_literals
made_dataset = refl

pub made_repository : made (replicate 16 7) Repository (codes "w" ∷ codes "ds" ∷ [])
    ≡ 73 ∷ 12 ∷ 189 ∷ 194 ∷ 13 ∷ 130 ∷ 92 ∷ 189 ∷ 148 ∷ 216 ∷ 171 ∷ 165 ∷ 190 ∷ 218 ∷ 232 ∷ 208 ∷ []
unfolding uuids_on_literals
made_repository = refl
