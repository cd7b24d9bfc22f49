-- The configuration of a new dataset is read.
use Rattle.std.proofs.Common.{◌≡◌, ℕ, true, List, [], take, codes, map, refl, sym, ap, ◌∙◌, subst, arith}
use Rattle.std.specs.Prelude.{slice_index, nat_lt, ◌<◌, ◌%◌, ◌+◌, ◌*◌, Vec}
use Rattle.std.specs.List.{AllByRecursion}
use Rattle.std.specs.Str.{is_utf8}
use Rattle.std.specs.declared.alloc.Global.{Global}
use Rattle.std.proofs.lemmas.List.{length-set, length-take-le}
use Rattle.std.proofs.lemmas.List.Elements.{All-take, All-set}
use Rattle.std.specs.Str.{IsAscii}
use Rattle.std.proofs.lemmas.Bool.Decides.{nat_tests}
use Rattle.std.proofs.lemmas.List.Elements.{All-weaker}
use Rattle.std.proofs.lemmas.List.Sums.{AllPass-from_list_all}
use Rattle.std.proofs.lemmas.Str.{is_utf8-from_IsUtf8, IsUtf8-from_ascii}
use Rattle.std.proofs.lemmas.Str.Ascii.{IsAscii-from_all}
use Rattle.sha1.specs.Sha1.{sha1}
use Rattle.uuid.specs.Parts.{with_version, with_variant}
use Rattle.uuid.specs.declared.Variant.TheVariants.{RFC4122}
use Rattle.uuid.specs.declared.Version.TheVariants.{Sha1}
use Rattle.places.specs.All.{Names}
use Rattle.config_text.specs.All.{IsUuid, IsPlainRemote, IsPlainRest, IsPrintableConfig}
use Rattle.config_text.specs.All.{ConfigIsRead, plain_config, config_in, is_personal}
use Rattle.config_text.specs.All.{is_personal_byte, made, plain}
use Rattle.config_text.specs.declared.repository.Remote.{Remote}
use Rattle.config_text.specs.declared.repository.RepoConfig.{RepoConfig}
use Rattle.config_text.specs.declared.sections.Section.{Section}
use Rattle.config_text.specs.declared.uuids.Role.{Role}
use Rattle.config_text.specs.declared.uuids.Role.TheVariants.{Repository}
use Rattle.dataset.specs.All.{IsConfiguration}
use Rattle.dataset.proofs.Ids.{sha1_length, sha1_bytes}
use Rattle.recursive_save.specs.First.{settings_text}
use Rattle.recursive_save.proofs.FirstFacts.{settings_from_parts}

-- ---- a made UUID is one

small_variant : (b : ℕ) → b % 64 + 128 < 256
small_variant b = omega arith

small_version : (b : ℕ) → b % 16 + 5 * 16 < 256
small_version b = omega arith

named_is_uuid : (text : List ℕ) → IsUuid (with_version (with_variant (take 16 (sha1 text)) RFC4122) Sha1)
named_is_uuid text =
    let base = take 16 (sha1 text) in
    let varied = with_variant base RFC4122 in
    record {
      size = length-set varied 6 _ ∙ length-set base 8 _ ∙ length-take-le 16 (sha1 text) (omega (arith, sha1_length text));
      bytes = All-set (λ b. b < 256) varied 6 _ (small_version (slice_index varied 6))
          (All-set (λ b. b < 256) base 8 _ (small_variant (slice_index base 8)) (All-take (λ b. b < 256) 16 (sha1 text) (sha1_bytes text)));
    }

made_is_uuid : (fresh : List ℕ) (role : Role) (root : Names) → IsUuid (made fresh role root)
unfolding made
made_is_uuid fresh role root = named_is_uuid _

-- ---- the default person

user_is_personal : is_personal (codes "DataLad User") ≡ true
unfolding is_personal is_personal_byte
user_is_personal = refl

address_is_personal : is_personal (codes "user@localhost") ≡ true
unfolding is_personal is_personal_byte
address_is_personal = refl

-- ---- the whole

abbrev new_config : List ℕ → Names → Vec Remote Global → Vec Section Global → RepoConfig
new_config fresh root remotes rest =
    record { uuid = made fresh Repository root; numcopies = 1; name = codes "DataLad User"; email = codes "user@localhost"; remotes = remotes; rest = rest }

user_ascii : IsAscii (codes "DataLad User")
user_ascii = IsAscii-from_all (codes "DataLad User") (All-weaker (λ b. nat_lt b 128 ≡ true) (λ b. b < 128) (λ b k. grind (arith, nat_tests)) (codes "DataLad User") (AllPass-from_list_all (λ b. nat_lt b 128) (codes "DataLad User") refl))

address_ascii : IsAscii (codes "user@localhost")
address_ascii = IsAscii-from_all (codes "user@localhost") (All-weaker (λ b. nat_lt b 128 ≡ true) (λ b. b < 128) (λ b k. grind (arith, nat_tests)) (codes "user@localhost") (AllPass-from_list_all (λ b. nat_lt b 128) (codes "user@localhost") refl))

user_utf8 : is_utf8 (codes "DataLad User") ≡ true
user_utf8 = is_utf8-from_IsUtf8 (codes "DataLad User") (IsUtf8-from_ascii (codes "DataLad User") user_ascii)

address_utf8 : is_utf8 (codes "user@localhost") ≡ true
address_utf8 = is_utf8-from_IsUtf8 (codes "user@localhost") (IsUtf8-from_ascii (codes "user@localhost") address_ascii)

module _ (fresh : List ℕ) (root : Names) (remotes : Vec Remote Global) (rest : Vec Section Global) (no_remotes : remotes.items ≡ []) (no_rest : rest.items ≡ []) where
  new_printable : IsPrintableConfig (new_config fresh root remotes rest)
  new_printable = record {
    uuid = made_is_uuid fresh Repository root;
    numcopies = refl;
    name = user_is_personal;
    name_utf8 = user_utf8;
    email = address_is_personal;
    email_utf8 = address_utf8;
    remotes = subst (λ (z : List Remote). AllByRecursion IsPlainRemote z) (sym no_remotes) tt;
    rest = subst (λ (z : List Section). AllByRecursion IsPlainRest (map plain z)) (sym no_rest) tt;
  }

  pub settings_read : ConfigIsRead → IsConfiguration (settings_text fresh root)
  settings_read law = (
    plain_config (new_config fresh root remotes rest),
    ap config_in (sym (settings_from_parts fresh root (made fresh Repository root) (codes "DataLad User") (codes "user@localhost") remotes.items rest.items refl refl refl no_remotes no_rest))
        ∙ law (new_config fresh root remotes rest) new_printable,
  )
