use Rattle.std.proofs.Common.{refl}
use Rattle.std.proofs.lemmas.Result.{err_from_is_err_and}
use Rattle.index_file.specs.Steps.{entry_seen}
use Rattle.index_file.specs.Things.{here, later}
use Rattle.index_file.proofs.EntryTexts.{of_pieces}
use Rattle.index_file.proofs.reading.read_entry.Goals as goal

pub returns-in_default-read_mode : goal.returns-in_default-read_mode
returns-in_default-read_mode c =
    later c.in-Some.ensures.0 c.in-Some.rest.now c.in-Some.ensures.1 (here c.in_default-read_mode.ensures refl)

pub returns-in_default-pass : goal.returns-in_default-pass
returns-in_default-pass c =
    later c.in-Some.ensures.0 c.in-Some.rest.now c.in-Some.ensures.1 (later c.in-Some-read_mode.mode c.in-Some-read_mode.after_mode.now c.in-Some-read_mode.ensures (here c.in_default-pass.ensures refl))

pub returns-in_default-read_id : goal.returns-in_default-read_id
returns-in_default-read_id c =
    later c.in-Some.ensures.0 c.in-Some.rest.now c.in-Some.ensures.1 (later c.in-Some-read_mode.mode c.in-Some-read_mode.after_mode.now c.in-Some-read_mode.ensures (later c.in-Some-pass.ensures.0 c.in-Some-pass.rest.now c.in-Some-pass.ensures.1 (here c.in_default-read_id.ensures refl)))

pub returns-in_default-read_flags : goal.returns-in_default-read_flags
returns-in_default-read_flags c =
    later c.in-Some.ensures.0 c.in-Some.rest.now c.in-Some.ensures.1 (later c.in-Some-read_mode.mode c.in-Some-read_mode.after_mode.now c.in-Some-read_mode.ensures (later c.in-Some-pass.ensures.0 c.in-Some-pass.rest.now c.in-Some-pass.ensures.1 (later c.in-Some-read_id.id c.in-Some-read_id.after_id.now c.in-Some-read_id.ensures (here c.in_default-read_flags.ensures refl))))

pub returns-in_err-path : goal.returns-in_err-path
returns-in_err-path c =
    let p = err_from_is_err_and c.from_residual.result c.from_residual.ensures.1 in
    rw (p.1, p.2) (later c.in-Some.ensures.0 c.in-Some.rest.now c.in-Some.ensures.1 (later c.in-Some-read_mode.mode c.in-Some-read_mode.after_mode.now c.in-Some-read_mode.ensures (later c.in-Some-pass.ensures.0 c.in-Some-pass.rest.now c.in-Some-pass.ensures.1 (later c.in-Some-read_id.id c.in-Some-read_id.after_id.now c.in-Some-read_id.ensures (later c.in-Some-read_flags.mark c.in-Some-read_flags.rest.now c.in-Some-read_flags.ensures (c.in_err-path.ensures))))))

pub returns : goal.returns
returns c =
    of_pieces c.args.last.now (entry_seen c.in_ok-path.path.now c.in-Some-read_mode.mode c.in-Some-read_id.id) c.args.text.now c.in_ok-path.after.now (record {
      six = c.in-Some.ensures.0;
      three = c.in-Some-pass.ensures.0;
      mark = c.in-Some-read_flags.mark;
      one = c.in-Some.rest.now;
      two = c.in-Some-read_mode.after_mode.now;
      behind_three = c.in-Some-pass.rest.now;
      behind_id = c.in-Some-read_id.after_id.now;
      behind_flags = c.in-Some-read_flags.rest.now;
      behind_path = c.in_ok-path.ensures.rest;
      is_six = c.in-Some.ensures.1;
      is_mode = c.in-Some-read_mode.ensures;
      is_three = c.in-Some-pass.ensures.1;
      is_id = c.in-Some-read_id.ensures;
      is_flags = c.in-Some-read_flags.ensures;
      is_path = c.in_ok-path.ensures.stands;
      is_padding = c.in_ok-path.ensures.padded;
    })
