use Rattle.std.proofs.Common.{◌≡◌, ◌≤◌, ◌<◌, ◌==◌, ◌^◌, ◌∙◌, List, length, Vec, Ok, Err, true, false, refl, sym, ap, subst, arith, rules}
use Rattle.std.specs.declared.alloc.Global.{Global}
use Rattle.places.specs.All.{text_of, Names}
use Rattle.file_store.specs.All.{AreApart}
use Rattle.file_store.specs.declared.replacing.Replacement.{Replacement}
use Rattle.acts.proofs.Laws.{exits, starved, starved_early}
use Rattle.object_store.specs.Looks.{AreFiles}
use Rattle.object_store.proofs.Lists.{length-staging}
use Rattle.object_store.proofs.Staged.{staging_apart}
use Rattle.object_store.proofs.PutActs.{put_none, put_large, put_looks, put_held, put_long, put_files}
use Rattle.object_store.proofs.putting.put_all.Goals as goal

files_apart : (repo : Names) (list : Vec Replacement Global) (slice : List Replacement) → AreFiles repo list.items → slice ≡ list.items → length list.items ≤ 2 ^ 64 → AreApart slice
files_apart repo list slice (some, made, own) same within =
    let few : length some ≤ 2 ^ 64 = omega (arith, within, ap length made, length-staging repo 0 some) in
    subst (λ (l : List Replacement). AreApart l) (sym (same ∙ made)) (staging_apart repo some own few)

pub replace_all-requires : goal.replace_all-requires
replace_all-requires g c =
    let drive = g.F.Files.drive in
    let within : length c.in_ok-list.list.items ≤ 2 ^ 64 = search rules in
    files_apart c.args.repo.now c.in_ok-list.list c.as_slice.result.now c.in_ok-list.ensures.files c.as_slice.ensures.value within

-- ---- as an act

pub returns-then-is_empty : goal.returns-then-is_empty
returns-then-is_empty g c = λ is. put_none g.F.Files.tells c.args.repo.now c.args.objects.now (g.F.Files.drive c.args.files.now) (sym c.if-is_empty.ensures)

pub returns-in_err-repo_too_large : goal.returns-in_err-repo_too_large
returns-in_err-repo_too_large g c = λ is. exits c.from_residual.ensures.1 starved

pub returns-then-as_str-gt-OBJECT_LIMIT : goal.returns-then-as_str-gt-OBJECT_LIMIT
returns-then-as_str-gt-OBJECT_LIMIT g c = λ is.
    let d = g.F.Files.drive c.args.files.now in
    let long : 4046 < length (text_of c.args.repo.now) = search rules in
    put_large g.F.Files.tells c.args.repo.now c.args.objects.now d d (sym c.if-is_empty.ensures) refl c.in_ok-repo_too_large.field-0 long c.in_ok-repo_too_large.ensures (λ t. refl)

pub returns-in_err-list : goal.returns-in_err-list
returns-in_err-list g c = λ is.
    let drive = g.F.Files.drive in
    let fits : length (text_of c.args.repo.now) ≤ 4046 = search rules in
    exits c.from_residual-in_err-list.ensures.1
    (put_looks g.F.Files.tells c.args.repo.now c.args.objects.now (drive c.args.files.now) (drive c.missing.new.files) (sym c.if-is_empty.ensures) fits c.in_err-list.field-0.0 c.in_err-list.ensures.reads)

pub returns-then-is_empty-2 : goal.returns-then-is_empty-2
returns-then-is_empty-2 g c = λ is.
    let drive = g.F.Files.drive in
    let fits : length (text_of c.args.repo.now) ≤ 4046 = search rules in
    let empty : (length c.in_ok-list.list.items == 0) ≡ true = search rules in
    put_held g.F.Files.tells c.args.repo.now c.args.objects.now (drive c.args.files.now) (drive c.missing.new.files) (sym c.if-is_empty.ensures) fits c.in_ok-list.list c.in_ok-list.ensures.reads empty

pub returns-in_err-repo_too_large-2 : goal.returns-in_err-repo_too_large-2
returns-in_err-repo_too_large-2 g c = λ is. exits c.from_residual-in_err-repo_too_large-2.ensures.1 (starved_early c.in_ok-list.ensures.reads.later (λ t. (c.in_ok-list.ensures.reads.told t).same))

pub returns-then-as_str-gt-REPO_LIMIT : goal.returns-then-as_str-gt-REPO_LIMIT
returns-then-as_str-gt-REPO_LIMIT g c = λ is.
    let drive = g.F.Files.drive in
    let fits : length (text_of c.args.repo.now) ≤ 4046 = search rules in
    let filled : (length c.in_ok-list.list.items == 0) ≡ false = search rules in
    let long : 3584 < length (text_of c.args.repo.now) = search rules in
    put_long g.F.Files.tells c.args.repo.now c.args.objects.now (drive c.args.files.now) (drive c.missing.new.files) (sym c.if-is_empty.ensures) fits c.in_ok-list.list c.in_ok-list.ensures.reads filled c.in_ok-repo_too_large-2.field-0 long c.in_ok-repo_too_large-2.ensures

pub returns-in_err-replace_all : goal.returns-in_err-replace_all
returns-in_err-replace_all g c = λ is.
    let drive = g.F.Files.drive in
    let within : length c.in_ok-list.list.items ≤ 2 ^ 64 = search rules in
    let fits : length (text_of c.args.repo.now) ≤ 4046 = search rules in
    let filled : (length c.in_ok-list.list.items == 0) ≡ false = search rules in
    let short : length (text_of c.args.repo.now) ≤ 3584 = search rules in
    exits c.from_residual-in_err-replace_all.ensures.1
    (put_files g.F.Files.tells c.args.repo.now c.args.objects.now (drive c.args.files.now) (drive c.missing.new.files) (sym c.if-is_empty.ensures) fits c.in_ok-list.list c.in_ok-list.ensures.reads filled short is
    c.as_slice.result.now c.as_slice.ensures.value c.in_ok-list.ensures.files (files_apart c.args.repo.now c.in_ok-list.list c.as_slice.result.now c.in_ok-list.ensures.files c.as_slice.ensures.value within)
    (drive c.replace_all.new.files) (Err c.in_err-replace_all.field-0.0) c.in_err-replace_all.ensures.later c.in_err-replace_all.ensures.ends c.replace_all.ensures.crash)

pub returns : goal.returns
returns g c = λ is.
    let drive = g.F.Files.drive in
    let within : length c.in_ok-list.list.items ≤ 2 ^ 64 = search rules in
    let fits : length (text_of c.args.repo.now) ≤ 4046 = search rules in
    let filled : (length c.in_ok-list.list.items == 0) ≡ false = search rules in
    let short : length (text_of c.args.repo.now) ≤ 3584 = search rules in
    put_files g.F.Files.tells c.args.repo.now c.args.objects.now (drive c.args.files.now) (drive c.missing.new.files) (sym c.if-is_empty.ensures) fits c.in_ok-list.list c.in_ok-list.ensures.reads filled short is
    c.as_slice.result.now c.as_slice.ensures.value c.in_ok-list.ensures.files (files_apart c.args.repo.now c.in_ok-list.list c.as_slice.result.now c.in_ok-list.ensures.files c.as_slice.ensures.value within)
    (drive c.replace_all.new.files) (Ok tt) c.in_ok-replace_all.ensures.later c.in_ok-replace_all.ensures.ends c.replace_all.ensures.crash
