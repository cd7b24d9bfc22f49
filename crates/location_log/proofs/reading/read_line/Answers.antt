use Rattle.std.proofs.Common.{◌≡◌, ℕ, List, Option, Some, None, sym, ap, ◌∙◌}
use Rattle.config_text.specs.All.{uuid_of}
use Rattle.location_log.proofs.Readings.{at_blank, at_status, rest_blank, same_time, whole_line}
use Rattle.location_log.proofs.reading.read_line.Goals as goal

pub returns-in_err-status : goal.returns-in_err-status
returns-in_err-status c =
    rw c.from_residual-in_err-status.ensures (λ line l.
    rest_blank line c.in_ok-stamp.stamp.now c.in_ok-stamp.rest.now c.in_err-status.ensures
    (at_blank line c.args.text.now c.in_ok-stamp.stamp.now c.in_ok-stamp.rest.now c.in_ok-stamp.ensures l))

pub returns-in_err-time : goal.returns-in_err-time
returns-in_err-time c =
    rw c.from_residual-in_err-time.ensures (λ line l.
    let b = at_blank line c.args.text.now c.in_ok-stamp.stamp.now c.in_ok-stamp.rest.now c.in_ok-stamp.ensures l in
    c.in_err-time.ensures b.time b.stamped)

pub returns-in_err-secs : goal.returns-in_err-secs
returns-in_err-secs c =
    rw c.from_residual-in_err-secs.ensures (λ line l.
    let b = at_blank line c.args.text.now c.in_ok-stamp.stamp.now c.in_ok-stamp.rest.now c.in_ok-stamp.ensures l in
    c.in_err-secs.ensures line.secs line.nanos (same_time line c.in_ok-stamp.stamp.now c.in_ok-stamp.rest.now c.in_ok-time.time.now c.in_ok-time.ensures b))

pub returns-in_err-claim : goal.returns-in_err-claim
returns-in_err-claim c =
    rw c.from_residual-in_err-claim.ensures (λ line l.
    let b = at_blank line c.args.text.now c.in_ok-stamp.stamp.now c.in_ok-stamp.rest.now c.in_ok-stamp.ensures l in
    c.in_err-claim.ensures line.claim
    (at_status line c.in_ok-stamp.stamp.now c.in_ok-stamp.rest.now c.in_ok-status.status.now c.in_ok-status.uuid.now c.in_ok-status.ensures b).0)

pub returns-in_err-uuid : goal.returns-in_err-uuid
returns-in_err-uuid c =
    rw c.from_residual-in_err-uuid.ensures (λ line l.
    let b = at_blank line c.args.text.now c.in_ok-stamp.stamp.now c.in_ok-stamp.rest.now c.in_ok-stamp.ensures l in
    let at = at_status line c.in_ok-stamp.stamp.now c.in_ok-stamp.rest.now c.in_ok-status.status.now c.in_ok-status.uuid.now c.in_ok-status.ensures b in
    let none : ◌≡◌ {A = Option (List ℕ)} None (Some line.uuid) = c.in_err-uuid.ensures ∙ (ap uuid_of at.1 ∙ b.named) in
    absurd (cc none))

pub returns : goal.returns
returns c =
    rw c.new.ensures (whole_line
    (record { secs = c.in_ok-secs.secs; nanos = c.in_ok-secs.nanos; claim = c.in_ok-claim.claim; uuid = c.in_ok-uuid.uuid })
    c.args.text.now c.in_ok-stamp.stamp.now c.in_ok-stamp.rest.now c.in_ok-time.time.now c.in_ok-status.status.now c.in_ok-status.uuid.now
    c.in_ok-stamp.ensures c.in_ok-status.ensures c.in_ok-time.ensures c.in_ok-secs.ensures.1 c.in_ok-claim.ensures (sym c.in_ok-uuid.ensures))
