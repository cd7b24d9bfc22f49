use Rattle.std.proofs.Common.{◌≡◌, ◌<◌, ◌≤◌, ◌∙◌, rules, ℕ, List, length, sym, ap, subst, Some}
use Rattle.std.specs.Prelude.{codes, string_bytes}
use Rattle.places.specs.All.{joined}
use Rattle.datalad_cli.proofs.Nearest.{head_text, head_names, too_long, fits}
use Rattle.datalad_cli.proofs.finding.head_within.Goals as goal

pub returns-then-len-gt-PLACE_LIMIT-clause-place : goal.returns-then-len-gt-PLACE_LIMIT-clause-place
returns-then-len-gt-PLACE_LIMIT-clause-place c =
    let text : string_bytes c.in_ok-head.head ≡ joined c.args.root.now (codes ".dlrepo/HEAD") = c.in_ok-head.ensures.ok in
    let long : 4096 < length (string_bytes c.in_ok-head.head) = search rules in
    sym (too_long c.args.root.now (string_bytes c.in_ok-head.head) (text ∙ head_text c.args.root.now) long)

pub returns-clause-place : goal.returns-clause-place
returns-clause-place c =
    let text : string_bytes c.in_ok-head.head ≡ joined c.args.root.now (codes ".dlrepo/HEAD") = c.in_ok-head.ensures.ok in
    let short : length (string_bytes c.in_ok-head.head) ≤ 4096 = search rules in
    ap Some (c.in_ok-below.ensures ∙ head_names c.args.root.now)
    ∙ sym (fits c.args.root.now (string_bytes c.in_ok-head.head) (text ∙ head_text c.args.root.now) short)

pub returns-clause-room : goal.returns-clause-room
returns-clause-room c =
    let text : string_bytes c.in_ok-head.head ≡ joined c.args.root.now (codes ".dlrepo/HEAD") = c.in_ok-head.ensures.ok in
    let short : length (string_bytes c.in_ok-head.head) ≤ 4096 = search rules in
    subst (λ (t : List ℕ). length t ≤ 4096) text short
