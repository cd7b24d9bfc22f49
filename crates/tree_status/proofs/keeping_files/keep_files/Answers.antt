use Rattle.std.proofs.Common.{◌≡◌, ◌+◌, ◌++◌, ◌∷◌, ◌∙◌, [], ℕ, List, take, drop, ap, sym, arith}
use Rattle.std.proofs.lemmas.Grind.{common_steps}
use Rattle.std.proofs.lemmas.List.{map-append, take-append-drop}
use Rattle.acts.proofs.Reading.{read_exits}
use Rattle.tree_status.specs.Changes.{paths_of}
use Rattle.tree_status.specs.declared.found.WorkingFile.{WorkingFile}
use Rattle.tree_status.proofs.FilesKept.{keep_fails, keep_more}
use Rattle.tree_status.proofs.keeping_files.keep_files.Goals as goal

pub returns-in_err-file-clause-reads : goal.returns-in_err-file-clause-reads
returns-in_err-file-clause-reads g c =
    let drive = g.F.Files.drive in
    let i = c.loop-path.path-index in
    let list = c.args.paths.now in
    let rest : drop i list ≡ c.path-item.result ∷ drop (i + 1) list = grind (arith, common_steps) in
    let split : list ≡ take i list ++ c.path-item.result ∷ drop (i + 1) list = sym (take-append-drop i list) ∙ ap (λ (z : List (List ℕ)). take i list ++ z) rest in
    read_exits c.from_residual.ensures.1
    (keep_fails g.F.Files.tells c.args.root.now c.args.by.now (take i list) c.path-item.result c.loop-path.list.items
    (drive c.args.files.now) (drive c.loop-path.files) (drive c.keep_file.new.files) c.loop-path.invariant.reads
    list (drop (i + 1) list) c.in_err-file.field-0.0 split (rw c.as_str.ensures.value at c.in_err-file.ensures.reads))

pub loop-path-preserved : goal.loop-path-preserved
loop-path-preserved g c =
    let drive = g.F.Files.drive in
    let i = c.loop-path.path-index in
    let list = c.args.paths.now in
    let before = c.loop-path.list.items in
    let file = c.in_ok-file.file in
    let split : take (i + 1) list ≡ take i list ++ c.path-item.result ∷ [] = grind (arith, common_steps) in
    let items : c.push.new.self.items ≡ before ++ file ∷ [] = c.in_ok-push.ensures.items in
    let path : file.path ≡ c.path-item.result = c.in_ok-file.ensures.path ∙ c.as_str.ensures.value in
    let more = keep_more g.F.Files.tells c.args.root.now c.args.by.now (take i list) c.path-item.result before
    (drive c.args.files.now) (drive c.loop-path.files) (drive c.keep_file.new.files) c.loop-path.invariant.reads
    file (rw c.as_str.ensures.value at c.in_ok-file.ensures.reads) in
    record {
      reads = rw (split, items) more;
      paths = ap paths_of items ∙ map-append (λ (f : WorkingFile). f.path) before (file ∷ []) ∙ (λ j. c.loop-path.invariant.paths j ++ path j ∷ []) ∙ sym split;
    }
