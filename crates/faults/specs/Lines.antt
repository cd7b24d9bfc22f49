-- Lines of output.
use Rattle.std.specs.Prelude.{ℕ, List, ◌++◌, codes}
use Rattle.faults.specs.declared.lines.Line.{Line}

-- ACTION(STATUS): PATH (KIND) and a newline.
abbrev pub line_of : List ℕ → List ℕ → List ℕ → List ℕ → List ℕ
line_of action status path kind =
    action ++ (codes "("
    ++ (status ++ (codes "): " ++ (path ++ (codes " (" ++ (kind ++ codes ")\n"))))))

-- The text of a result line.
abbrev pub line_text : Line → List ℕ
line_text line = line_of line.action line.status line.path line.kind
