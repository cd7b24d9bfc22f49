use Rattle.std.proofs.Common.{◌≤◌, length, rules}
use Rattle.file_store.specs.All.{present}
use Rattle.places.specs.All.{text_of}
use Rattle.acts.proofs.Reading.{read_gives}
use Rattle.object_store.proofs.Prefixes.{are_ids, begin_with, short_repo}
use Rattle.object_store.proofs.searching.ids_with_prefix.Goals as goal

pub returns-clause-form : goal.returns-clause-form
returns-clause-form g c = begin_with c.args.digits.now c.in_ok-ids.ids c.in_ok-as_list.field-0.items c.in_ok-as_list.ensures.items c.in_ok-as_list.ensures.ordered c.in_ok-ids.ensures.begin c.in_ok-as_list.ensures.own

pub returns-clause-reads : goal.returns-clause-reads
returns-clause-reads g c =
    let repo = c.args.repo.now in
    let short : length (text_of repo) ≤ 4046 = search rules in
    let list = c.in_ok-as_list.field-0.items in
    let items = c.in_ok-as_list.ensures.items in
    let form = begin_with c.args.digits.now c.in_ok-ids.ids list items c.in_ok-as_list.ensures.ordered c.in_ok-ids.ensures.begin c.in_ok-as_list.ensures.own in
    read_gives c.in_ok-ids.ensures.reads.later (λ told.
    let was = c.in_ok-ids.ensures.reads.told told in
    (was.same, are_ids repo c.args.digits.now (present (g.F.Files.drive c.args.files.now)) c.in_ok-ids.ids list (short_repo repo short) items form was.answer))
