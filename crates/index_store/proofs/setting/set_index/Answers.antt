use Rattle.std.proofs.Common.{rules, ◌<◌, ◌≤◌, ap, length, ◌∙◌}
use Rattle.std.specs.Prelude.{string_bytes}
use Rattle.places.specs.All.{Names, text_of}
use Rattle.repository.specs.All.{repo_of, tmp_place}
use Rattle.acts.proofs.Laws.{exits, starved}
use Rattle.index_store.proofs.Sets.{can_set, set_long, set_put}
use Rattle.index_store.proofs.setting.set_index.Goals as goal

pub returns-in_err-repo : goal.returns-in_err-repo
returns-in_err-repo g c = exits c.from_residual.ensures.1 starved

pub returns-then-len-gt-REPO_LIMIT : goal.returns-then-len-gt-REPO_LIMIT
returns-then-len-gt-REPO_LIMIT g c =
    let long : 3584 < length (string_bytes c.in_ok-repo.repo) = search rules in
    set_long g.F.Files.tells c.args.root.now c.args.snapshot.now (g.F.Files.drive c.args.files.now) (string_bytes c.in_ok-repo.repo) c.too_large.result long c.in_ok-repo.ensures c.too_large.ensures

pub returns-in_err-text : goal.returns-in_err-text
returns-in_err-text g c = exits c.from_residual-in_err-text.ensures.1 starved

pub returns-in_err-repo-2 : goal.returns-in_err-repo-2
returns-in_err-repo-2 g c = exits c.from_residual-in_err-repo-2.ensures.1 starved

pub returns-in_err-tmp : goal.returns-in_err-tmp
returns-in_err-tmp g c = exits c.from_residual-in_err-tmp.ensures.1 starved

pub returns-in_err-place : goal.returns-in_err-place
returns-in_err-place g c = exits c.from_residual-in_err-place.ensures.1 starved

pub put_file-requires : goal.put_file-requires
put_file-requires g c = can_set c.args.root.now _ _ _ (c.in_ok-tmp.ensures ∙ ap (λ (r : Names). tmp_place r 0) c.in_ok-repo-2.ensures) c.in_ok-place.ensures

pub returns : goal.returns
returns g c =
    let fits : length (text_of (repo_of c.args.root.now)) ≤ 3584 = search rules in
    set_put g.F.Files.tells c.args.root.now c.args.snapshot.now (g.F.Files.drive c.args.files.now) fits _ _ _ (c.in_ok-tmp.ensures ∙ ap (λ (r : Names). tmp_place r 0) c.in_ok-repo-2.ensures) c.in_ok-place.ensures (c.as_slice.ensures.value ∙ c.in_ok-text.ensures) _ _ c.put_file.ensures
