use Rattle.std.proofs.Common.{◌∙◌}
use Rattle.git_objects.proofs.EntryTexts.{no_mode_no_entry, no_nul_no_entry, no_utf8_no_entry, no_id_no_entry, entry_read}
use Rattle.git_objects.proofs.decoding.read_entry.Goals as goal

pub returns-in_default : goal.returns-in_default
returns-in_default c = no_mode_no_entry c.args.text.now c.in_default.ensures

pub returns-in_default-cut_at : goal.returns-in_default-cut_at
returns-in_default-cut_at c = no_nul_no_entry c.args.text.now c.in-Some.rest.now c.in-Some.mode c.in-Some.ensures c.in_default-cut_at.ensures

pub returns-in_default-from_utf8 : goal.returns-in_default-from_utf8
returns-in_default-from_utf8 c =
    no_utf8_no_entry c.args.text.now c.in-Some.rest.now c.in-Some-cut_at.name.now c.in-Some-cut_at.rest.now c.in-Some.mode c.in-Some.ensures c.in-Some-cut_at.ensures c.in_default-from_utf8.ensures.cases.0

pub returns-in_default-read_id : goal.returns-in_default-read_id
returns-in_default-read_id c =
    no_id_no_entry c.args.text.now c.in-Some.rest.now c.in-Some-cut_at.name.now c.in-Some-cut_at.rest.now c.in-Some.mode c.in-Some.ensures c.in-Some-cut_at.ensures c.in_default-read_id.ensures

pub returns : goal.returns
returns c =
    entry_read c.args.text.now c.in-Some.rest.now c.in-Some-cut_at.name.now c.in-Some-cut_at.rest.now _ c.in-Some-read_id.rest.now c.in-Some.ensures c.in-Some-cut_at.ensures
    (c.new-name.ensures ∙ c.in_ok-from_str.ensures.ok ∙ c.in-Ok.ensures.cases.0) c.in-Ok.ensures.cases.1 c.in-Some-read_id.ensures.0 c.in-Some-read_id.ensures.1
