-- The words of this crate, for those above.
pub use Rattle.tree_status.specs.Changed.{HasPaths, kept_changes, shown, state_at, with_states}
pub use Rattle.tree_status.specs.Changes.{AreOrdered, ArePaths, NoOtherIsSame, StateMap, added}
pub use Rattle.tree_status.specs.Changes.{added_state, change_at, deleted, is_among, is_blob}
pub use Rattle.tree_status.specs.Changes.{is_changed, is_gone, is_new, is_nothing, is_other}
pub use Rattle.tree_status.specs.Changes.{lacking, new_entries, new_entry, new_state, paths_of}
pub use Rattle.tree_status.specs.Changes.{states_by_path, was_exec}
unfoldable pub use Rattle.tree_status.specs.Changes.{changes}
pub use Rattle.tree_status.specs.Keeping.{IsKeptBy, KeepBy, blob_in, leaf_at, limit_by, old_blob}
pub use Rattle.tree_status.specs.Keeping.{old_key}
pub use Rattle.tree_status.specs.KeepingFiles.{AreKeptFiles, AreThere, BytesRead, FileKeeps}
pub use Rattle.tree_status.specs.KeepingFiles.{FilesKeep, IsKeptFile, IsThere, KeptFilesAreOne}
pub use Rattle.tree_status.specs.KeepingFiles.{LackReads, MayKeepFile, MayKeepFiles, has_content}
pub use Rattle.tree_status.specs.KeepingFiles.{lacks_content, work_of}
pub use Rattle.tree_status.specs.Looks.{IsRead, IsRepo, IsUnread, IsWalkRefused, pin_fault}
pub use Rattle.tree_status.specs.Looks.{view_fault}
pub use Rattle.tree_status.specs.Status.{CleanIsUnchanged, IsSoundNoStatus, IsStatus, IsStatusText}
pub use Rattle.tree_status.specs.Status.{StatusEnds, StatusIsComplete, StatusIsOne, state_text}
pub use Rattle.tree_status.specs.Status.{status_line, status_text}
unfoldable pub use Rattle.tree_status.specs.Status.{clean_text}
pub use Rattle.tree_status.specs.Tasks.{ArePlanned, IsTask, is_dir, kind_for, with_task}
pub use Rattle.tree_status.specs.Views.{IsOverToView, IsView, MayView}
pub use Rattle.tree_status.specs.Walks.{AddsFile, AreWorking, HasPlace, IsAt, IsBeyond, IsFront}
pub use Rattle.tree_status.specs.Walks.{IsLongItem, IsPastPlaces, IsPlanned, IsPlannedBy}
pub use Rattle.tree_status.specs.Walks.{IsWorkingPath, MayFile, MayMeet, MayNest, MayTake, MayWalk}
pub use Rattle.tree_status.specs.Walks.{RefusesItem, Takes, Went, file_fault, front_of, is_front}
pub use Rattle.tree_status.specs.Walks.{is_long_name, is_within, one_of}
unfoldable pub use Rattle.tree_status.specs.Walks.{part, within}
pub use Rattle.tree_status.specs.Working.{Directory, ItemKind, Items, Nested, WorkFile, Working}
pub use Rattle.tree_status.specs.Working.{beginnings, directory_kind, directory_of, fault_along}
pub use Rattle.tree_status.specs.Working.{files_among, is_met, is_nested, is_own, is_working}
pub use Rattle.tree_status.specs.Working.{item_fault, item_kind, item_of, kind_fault, met_of}
pub use Rattle.tree_status.specs.Working.{path_in, walk_fault, working}
unfoldable pub use Rattle.tree_status.specs.Working.{item_at, items}
