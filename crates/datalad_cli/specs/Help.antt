-- The texts of `--help` and `--version`.
use Rattle.std.specs.Prelude.{ℕ, List, ◌++◌, codes}

-- What the program is called with.
unfoldable pub help_usage : List ℕ
help_usage = codes "usage: datalad COMMAND [OPTION..] [OPERAND..]\n\n"

-- The commands that are built, each with its form and one line.
unfoldable pub help_commands : List ℕ
help_commands =
    codes "  create DIR                                 make a dataset at DIR\n"
    ++ codes "  save [-d DIR] [-m MSG|-F FILE] [--to-git]  commit the working files\n"
    ++ codes "  status [-d DIR]                            list what a save would commit\n"
    ++ codes "  log [-d DIR] [REVISION]                    list the commits of REVISION or HEAD\n"
    ++ codes "  --help                                     print this text\n"
    ++ codes "  --version                                  print the version\n\n"

-- The statuses, and where the pages are.
unfoldable pub help_end : List ℕ
help_end =
    codes "status: 0 done, 1 refused, 2 wrong words, 3 no memory, 4 a device failed\n"
    ++ codes "pages: README.md and docs/ of the source\n"

-- What `--help` prints.
unfoldable pub help_text : List ℕ
help_text = help_usage ++ help_commands ++ help_end

-- What `--version` prints.
unfoldable pub version_text : List ℕ
version_text = codes "datalad 0.1.0\n"
