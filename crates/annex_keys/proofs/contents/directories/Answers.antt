use Rattle.std.proofs.Common.{◌≡◌, append_assoc, rules, subst, sym}
use Rattle.std.specs.Prelude.{IsAscii}
use Rattle.annex_keys.specs.Contents.{directories}
use Rattle.annex_keys.proofs.Directories.{directories_ascii}
use Rattle.annex_keys.proofs.contents.directories.Goals as goal

pub text_of-requires : goal.text_of-requires
text_of-requires c =
    let e : c.extend_from_slice.new.self.items ≡ directories c.args.digits.now = search (rules, append_assoc) in
    subst IsAscii (sym e) (directories_ascii c.args.digits.now c.requires.ascii)
