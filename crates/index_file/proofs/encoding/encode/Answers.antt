use Rattle.std.proofs.Common.{◌≡◌, ◌∙◌, ◌++◌, ap, sym, rules, length}
use Rattle.sha1.specs.Sha1.{sha1}
use Rattle.index_file.specs.Index.{body_text}
use Rattle.index_file.proofs.Written.{written}
use Rattle.index_file.proofs.encoding.encode.Goals as goal

pub returns : goal.returns
returns c =
    let body = c.in_ok-text.ensures.text in
    let sum : c.digest-sum.result ≡ sha1 (body_text c.args.list.now) = c.digest-sum.ensures ∙ ap sha1 (c.as_slice.ensures.value ∙ body) in
    let size : length c.digest-sum.result ≡ 20 = search rules in
    written c.args.list.now c.extend_from_slice.new.self.items c.requires c.in_ok-text.ensures.stored (ap length (sym sum) ∙ size) (c.in_ok-extend_from_slice.ensures.items ∙ (λ i. body i ++ sum i))
