-- The words of this crate, for those above.
pub use Rattle.kept_files.specs.Kept.{IsKept, IsNew, IsOldContent, Points, Stays, is_annexed}
pub use Rattle.kept_files.specs.Kept.{leaf_id, new_blob}
pub use Rattle.kept_files.specs.Laws.{KeptIsOne}
pub use Rattle.kept_files.specs.Limits.{annexed_file_limit, git_file_limit, size_limit}
pub use Rattle.kept_files.specs.Paths.{first_name, first_of, goes_to_git, last_name, last_of}
