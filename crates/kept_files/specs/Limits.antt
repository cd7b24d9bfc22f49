-- How many bytes a working file may have.
use Rattle.std.specs.Prelude.{ℕ, Bool, if◌then◌else◌, List, Option}
use Rattle.annex_keys.specs.All.{PlainKey}
use Rattle.git_objects.specs.declared.ids.Id.{Id}
use Rattle.kept_files.specs.Kept.{is_annexed}

-- How many bytes a file that git keeps may have.
abbrev pub git_file_limit : ℕ
git_file_limit = 16777216

-- How many bytes an annexed file may have.
abbrev pub annexed_file_limit : ℕ
annexed_file_limit = 67108864

-- How many bytes a file may have, by how it would be kept if its bytes were new.
abbrev pub size_limit : Option Id → Option PlainKey → List ℕ → Bool → ℕ
size_limit blob key path to_git =
    if is_annexed blob key path to_git then annexed_file_limit else git_file_limit
