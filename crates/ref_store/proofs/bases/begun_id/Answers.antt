use Rattle.std.proofs.Common.{rules, ◌≡◌, ◌∙◌, true, sym}
use Rattle.git_objects.specs.All.{lowered}
use Rattle.ref_store.specs.Revisions.{is_hex}
use Rattle.ref_store.proofs.Searching.{search_ids}
use Rattle.ref_store.proofs.bases.begun_id.Goals as goal

pub returns-clause-reads : goal.returns-clause-reads
returns-clause-reads g c =
    let drive = g.F.Files.drive in
    let digits : c.as_str.result.now ≡ lowered c.args.base.now = c.as_str.ensures.value ∙ c.in_ok-digits.ensures in
    let is : is_hex 4 39 c.args.base.now ≡ true = sym c.is_beginning.ensures ∙ search rules in
    search_ids g.F.Files.tells c.args.repo.now c.args.word.now c.args.base.now (drive c.args.files.now) (drive c.ids_with_prefix.new.files) (drive c.only_commit.new.files)
    is c.as_str.result.now digits c.in_ok-ids.ids c.in_ok-ids.ensures.reads c.as_slice.result.now c.as_slice.ensures.value c.only_commit.result c.only_commit.ensures.reads
