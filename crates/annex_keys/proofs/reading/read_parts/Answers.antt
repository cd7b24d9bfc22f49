use Rattle.std.proofs.lemmas.Result.{MatchResult-weaker, err_from_is_err_and}
use Rattle.annex_keys.specs.Pieces.{IsSizeText, key_front}
use Rattle.annex_keys.proofs.FrontStops.{behind_stops, front_stops}
use Rattle.annex_keys.proofs.Readings.{key_stops, plain_behind}
use Rattle.annex_keys.proofs.Sizes.{nothing_begins}
use Rattle.annex_keys.proofs.reading.read_parts.Goals as goal

pub returns-in_err-rest : goal.returns-in_err-rest
returns-in_err-rest c =
    let p = err_from_is_err_and c.from_residual.result c.from_residual.ensures.1 in
    rw (p.1, p.2) (key_stops c.args.text.now c.in_err-rest.field-0.0
    (front_stops IsSizeText nothing_begins.rest nothing_begins.whole key_front c.args.text.now c.in_err-rest.field-0.0 c.in_err-rest.ensures))

pub returns : goal.returns
returns c =
    MatchResult-weaker c.read_sized.result c.read_sized.ensures
    (λ read h. plain_behind c.args.text.now c.in_ok-rest.rest.now read.size read.digest read.ext.now c.in_ok-rest.ensures h)
    (λ left s. key_stops c.args.text.now left (behind_stops IsSizeText key_front c.in_ok-rest.rest.now c.args.text.now left c.in_ok-rest.ensures s))
