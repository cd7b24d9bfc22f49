use Rattle.std.proofs.Common.{rules, ◌≡◌, ◌≢◌, ◌≤◌, ◌++◌, ◌∷◌, ◌∙◌, [], ap, length, string_bytes}
use Rattle.places.specs.All.{text_of}
use Rattle.file_store.specs.declared.kinds.Kind.TheVariants.{Absent}
use Rattle.file_store.specs.All.{present}
use Rattle.acts.proofs.Laws.{seq, fails, exits, starved_early, stops_on, pushed, quiet, by_name, done_as, same_act, same_lines, after_reading, handed}
use Rattle.acts.proofs.Looks.{read_fails}
use Rattle.repository.specs.All.{repo_of}
use Rattle.recursive_save.specs.Creating.{dataset_step}
use Rattle.recursive_save.specs.Creating.{create_fault}
use Rattle.recursive_save.specs.First.{Parts}
use Rattle.recursive_save.proofs.Creation.{there, vacant, large_there, create_is, put_plan, large_fault}
use Rattle.recursive_save.proofs.creating.create.Goals as goal

pub returns-in_err-kind-clause-acts : goal.returns-in_err-kind-clause-acts
returns-in_err-kind-clause-acts g c = exits c.from_residual.ensures.1 (quiet (read_fails c.in_err-kind.field-0.0 c.in_err-kind.ensures.later c.in_err-kind.ensures.ends))

pub returns-in_err-place-clause-acts : goal.returns-in_err-place-clause-acts
returns-in_err-place-clause-acts g c = exits c.from_residual-in_err-place.ensures.1 (starved_early c.in_ok-kind.ensures.later (λ t. (c.in_ok-kind.ensures.ends t).0))

pub returns-then-ne-clause-acts : goal.returns-then-ne-clause-acts
returns-then-ne-clause-acts g c =
    let other : c.in_ok-kind.field-0 ≢ Absent = search rules in
    fails _ (stops_on (create_fault c.args.place.now) c.in_ok-place.ensures c.in_ok-kind.ensures.later (there g.F.Files.tells c.args.place.now (g.F.Files.drive c.args.files.now) (g.F.Files.drive c.kind.new.self) c.in_ok-kind.field-0 c.in_ok-kind.ensures.ends c.in_ok-place.place other c.in_ok-place.ensures))

pub returns-in_err-repo-clause-acts : goal.returns-in_err-repo-clause-acts
returns-in_err-repo-clause-acts g c = exits c.from_residual-in_err-repo.ensures.1 (starved_early c.in_ok-kind.ensures.later (λ t. (c.in_ok-kind.ensures.ends t).0))

pub returns-then-len-gt-REPO_LIMIT-clause-acts : goal.returns-then-len-gt-REPO_LIMIT-clause-acts
returns-then-len-gt-REPO_LIMIT-clause-acts g c =
    let absent : c.in_ok-kind.field-0 ≡ Absent = search rules in
    fails _ (stops_on (create_fault c.args.place.now)
    (large_fault g.F.Files.tells c.args.place.now c.args.moment c.args.fresh.now (string_bytes c.in_ok-repo.repo) c.too_large.result (search rules) c.in_ok-repo.ensures c.too_large.ensures)
    c.in_ok-kind.ensures.later
    (large_there g.F.Files.tells c.args.place.now (g.F.Files.drive c.args.files.now) (g.F.Files.drive c.kind.new.self) c.in_ok-kind.field-0 c.in_ok-kind.ensures.ends absent (string_bytes c.in_ok-repo.repo) c.too_large.result (search rules) c.in_ok-repo.ensures c.too_large.ensures))

pub returns-in_err-repo-2-clause-acts : goal.returns-in_err-repo-2-clause-acts
returns-in_err-repo-2-clause-acts g c = exits c.from_residual-in_err-repo-2.ensures.1 (starved_early c.in_ok-kind.ensures.later (λ t. (c.in_ok-kind.ensures.ends t).0))

pub returns-in_err-line-clause-acts : goal.returns-in_err-line-clause-acts
returns-in_err-line-clause-acts g c = exits c.from_residual-in_err-line.ensures.1 (starved_early c.in_ok-kind.ensures.later (λ t. (c.in_ok-kind.ensures.ends t).0))

pub returns-in_err-plan-clause-acts : goal.returns-in_err-plan-clause-acts
returns-in_err-plan-clause-acts g c = exits c.from_residual-in_err-plan.ensures.1 (starved_early c.in_ok-kind.ensures.later (λ t. (c.in_ok-kind.ensures.ends t).0))

pub returns-in_err-reserve-clause-acts : goal.returns-in_err-reserve-clause-acts
returns-in_err-reserve-clause-acts g c = same_lines c.reserve.ensures.items (exits c.from_residual-in_err-reserve.ensures.1 (starved_early c.in_ok-kind.ensures.later (λ t. (c.in_ok-kind.ensures.ends t).0)))

pub returns-in_err-write_dataset-clause-acts : goal.returns-in_err-write_dataset-clause-acts
returns-in_err-write_dataset-clause-acts g c =
    let absent : c.in_ok-kind.field-0 ≡ Absent = search rules in
    let fits : length (text_of (repo_of c.args.place.now)) ≤ 3584 = search rules in
    same_lines c.reserve.ensures.items (exits c.from_residual-in_err-write_dataset.ensures.1
    (same_act _ _ (λ t. create_is c.args.place.now c.args.moment c.args.fresh.now (present (g.F.Files.drive c.args.files.now)) (vacant g.F.Files.tells c.args.place.now (g.F.Files.drive c.args.files.now) (g.F.Files.drive c.kind.new.self) c.in_ok-kind.field-0 c.in_ok-kind.ensures.ends absent t) fits)
    (after_reading c.in_ok-kind.ensures.later (λ t. (c.in_ok-kind.ensures.ends t).0)
    (fails _ (handed (λ fault may. put_plan _ _ _ _ (ap (λ (parts : Parts). parts.objects) c.in_ok-plan.ensures.parts) c.in_ok-repo-2.ensures fault may) (quiet (by_name (ap (dataset_step c.args.place.now) c.in_ok-plan.ensures.parts) c.in_err-write_dataset.ensures)))))))

pub returns-clause-acts : goal.returns-clause-acts
returns-clause-acts g c =
    let absent : c.in_ok-kind.field-0 ≡ Absent = search rules in
    let fits : length (text_of (repo_of c.args.place.now)) ≤ 3584 = search rules in
    same_act _ _ (λ t. create_is c.args.place.now c.args.moment c.args.fresh.now (present (g.F.Files.drive c.args.files.now)) (vacant g.F.Files.tells c.args.place.now (g.F.Files.drive c.args.files.now) (g.F.Files.drive c.kind.new.self) c.in_ok-kind.field-0 c.in_ok-kind.ensures.ends absent t) fits)
    (after_reading c.in_ok-kind.ensures.later (λ t. (c.in_ok-kind.ensures.ends t).0)
    (seq _ (handed (λ fault may. put_plan _ _ _ _ (ap (λ (parts : Parts). parts.objects) c.in_ok-plan.ensures.parts) c.in_ok-repo-2.ensures fault may) (quiet (by_name (ap (dataset_step c.args.place.now) c.in_ok-plan.ensures.parts) c.in_ok-write_dataset.ensures)))
    (seq _ (pushed _ c.in_ok-line.line (c.in_ok-push.ensures.items ∙ ap (λ l. l ++ c.in_ok-line.line ∷ []) c.reserve.ensures.items) c.in_ok-line.ensures)
    (done_as {v = c.in_ok-plan.plan.id} (λ i. record { 0 = c.in_ok-plan.ensures.id_is i })))))
