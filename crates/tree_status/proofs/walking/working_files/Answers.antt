use Rattle.std.proofs.Common.{◌≡◌, [], refl, arith, rules}
use Rattle.places.proofs.Grammar.{is_text-complete}
use Rattle.file_store.specs.All.{present}
use Rattle.acts.proofs.Reading.{read_gives, read_exits}
use Rattle.tree_status.specs.Keeping.{limit_by}
use Rattle.tree_status.specs.declared.found.Found.{Found}
use Rattle.tree_status.proofs.Mapped.{err_map}
use Rattle.tree_status.proofs.Steps.{front_nothing, root_fails, root_may, root_went}
use Rattle.tree_status.proofs.walking.working_files.Goals as goal

pub walk-requires : goal.walk-requires
walk-requires g c = record { front = front_nothing; short = omega arith }

pub returns-in_err-walk : goal.returns-in_err-walk
returns-in_err-walk g c =
    let ground = present (g.F.Files.drive c.args.files.now) in
    let root = c.args.root.now in
    let limits = limit_by c.args.by.now in
    let text = is_text-complete root c.as_str-text.ensures.place in
    read_exits c.from_residual.ensures.1 (err_map c.in_err-walk.field-0.0
    (λ fault may told. root_may limits root ground text g.F.Files.tells fault may told)
    (λ t fault fails. root_fails limits root ground text fault fails)
    c.in_err-walk.ensures)

pub returns : goal.returns
returns g c =
    let ground = present (g.F.Files.drive c.args.files.now) in
    let root = c.args.root.now in
    let limits = limit_by c.args.by.now in
    let text = is_text-complete root c.as_str-text.ensures.place in
    let none : c.new.result.items ≡ [] = search rules in
    let start : Found = record { paths = c.new.result; count = 0 } in
    read_gives c.in_ok-walk.ensures.later (λ t.
    let told = c.in_ok-walk.ensures.told t in
    (told.same, root_went limits root ground text start c.walk.new.found refl none told.answer))
