use Rattle.std.proofs.Common.{◌≡◌, ◌∙◌, ap, arith, length, subst, sym}
use Rattle.std.specs.Prelude.{IsAscii}
use Rattle.hex.specs.Hex.{encode_lower}
use Rattle.md5.proofs.StandardFacts.{length-md5}
use Rattle.annex_keys.proofs.Directories.{digits_ascii, digits_long}
use Rattle.annex_keys.proofs.contents.hash_dir.Goals as goal

pub directories-requires-clause-long : goal.directories-requires-clause-long
directories-requires-clause-long c =
    let e : c.as_bytes.result.now ≡ encode_lower c.digest-digest.result = c.as_bytes.ensures.value ∙ c.as_str-2.ensures.value ∙ c.in_ok-digits.ensures in
    rw e (omega (arith, digits_long c.digest-digest.result, ap length c.digest-digest.ensures, length-md5 c.as_str.result.now))

pub directories-requires-clause-ascii : goal.directories-requires-clause-ascii
directories-requires-clause-ascii c =
    let e : c.as_bytes.result.now ≡ encode_lower c.digest-digest.result = c.as_bytes.ensures.value ∙ c.as_str-2.ensures.value ∙ c.in_ok-digits.ensures in
    subst IsAscii (sym e) (digits_ascii c.digest-digest.result)
