use Rattle.std.proofs.Common.{◌≡◌, ◌+◌, ◌++◌, ◌∷◌, ◌∙◌, [], List, take, drop, ap, sym, subst, Ok, arith}
use Rattle.std.proofs.lemmas.Grind.{common_steps}
use Rattle.std.proofs.lemmas.List.{take-append-drop}
use Rattle.acts.proofs.Reading.{read_exits}
use Rattle.object_store.specs.Looks.{MissingReads}
use Rattle.object_store.proofs.Looks.{look_more, look_fails, files_more}
use Rattle.object_store.specs.declared.objects.NewObject.{NewObject}
use Rattle.object_store.proofs.looking.missing.Goals as goal

pub returns-in_err-look_at-clause-reads : goal.returns-in_err-look_at-clause-reads
returns-in_err-look_at-clause-reads g c =
    let drive = g.F.Files.drive in
    let i = c.loop-object.object-index in
    let rest : drop i c.args.objects.now ≡ c.object-item.result ∷ drop (i + 1) c.args.objects.now = grind (arith, common_steps) in
    let split : c.args.objects.now ≡ take i c.args.objects.now ++ c.object-item.result ∷ drop (i + 1) c.args.objects.now =
    sym (take-append-drop i c.args.objects.now) ∙ ap (λ (z : List NewObject). take i c.args.objects.now ++ z) rest in
    read_exits c.from_residual.ensures.1 (look_fails g.F.Files.tells c.args.repo.now (take i c.args.objects.now) c.object-item.result (drive c.args.files.now) (drive c.loop-object.files) (drive c.look_at.new.files)
    c.args.objects.now (drop (i + 1) c.args.objects.now) c.loop-object.list c.look_at.new.list.items c.in_err-look_at.field-0.0 split c.loop-object.invariant.so_far c.in_err-look_at.ensures.reads)

pub loop-object-preserved : goal.loop-object-preserved
loop-object-preserved g c =
    let drive = g.F.Files.drive in
    let i = c.loop-object.object-index in
    let split : take (i + 1) c.args.objects.now ≡ take i c.args.objects.now ++ c.object-item.result ∷ [] = grind (arith, common_steps) in
    record {
      so_far = subst (λ (xs : List NewObject). MissingReads g.F.Files.tells c.args.repo.now xs (drive c.args.files.now) (drive c.look_at.new.files) (Ok c.look_at.new.list)) (sym split)
          (look_more g.F.Files.tells c.args.repo.now (take i c.args.objects.now) c.object-item.result (drive c.args.files.now) (drive c.loop-object.files) (drive c.look_at.new.files)
          c.loop-object.list c.look_at.new.list c.loop-object.invariant.so_far c.loop-object.invariant.files c.in_ok-look_at.ensures.reads);
      files = files_more c.args.repo.now c.object-item.result c.loop-object.list.items c.look_at.new.list.items c.loop-object.invariant.files c.in_ok-look_at.ensures.adds;
      known = c.in_ok-look_at.ensures.known;
    }
