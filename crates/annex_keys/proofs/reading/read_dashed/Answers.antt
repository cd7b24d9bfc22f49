use Rattle.std.proofs.Common.{codes}
use Rattle.std.proofs.lemmas.Result.{MatchResult-weaker, err_from_is_err_and}
use Rattle.annex_keys.specs.Pieces.{IsDigestText}
use Rattle.annex_keys.proofs.Digests.{some_digest_text}
use Rattle.annex_keys.proofs.FrontStops.{behind_stops, front_stops}
use Rattle.annex_keys.proofs.Readings.{dashed_behind}
use Rattle.annex_keys.proofs.reading.read_dashed.Goals as goal

pub returns-in_err-rest : goal.returns-in_err-rest
returns-in_err-rest c =
    let p = err_from_is_err_and c.from_residual.result c.from_residual.ensures.1 in
    rw (p.1, p.2) (front_stops IsDigestText some_digest_text.0 some_digest_text.1 (codes "--") c.args.text.now c.in_err-rest.field-0.0 c.in_err-rest.ensures)

pub returns : goal.returns
returns c =
    MatchResult-weaker c.read_digest.result c.read_digest.ensures
    (λ read h. dashed_behind c.args.text.now c.in_ok-rest.rest.now read.0 read.1.now c.in_ok-rest.ensures h)
    (λ left s. behind_stops IsDigestText (codes "--") c.in_ok-rest.rest.now c.args.text.now left c.in_ok-rest.ensures s)
