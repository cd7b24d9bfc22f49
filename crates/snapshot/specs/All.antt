-- The words of this crate, for those above.
pub use Rattle.snapshot.specs.Builds.{AreGrouped, BuildRefused, BuildsDir, BuildsFront, BuildsNext}
pub use Rattle.snapshot.specs.Builds.{IsGroup, IsMade, IsSingle, LeavesDir, PutsTree}
pub use Rattle.snapshot.specs.Builds.{all_below, all_seen, below, seen, tree_object, weight}
pub use Rattle.snapshot.specs.Dirs.{AreShort, Dir, EachSub, Empty, IsDense, IsDir, IsTreeOf, Item}
pub use Rattle.snapshot.specs.Dirs.{Sub, entries_of, inner_objects, inside, is_empty, item_count}
pub use Rattle.snapshot.specs.Dirs.{joined, leaf_in, listed, paths_of, root_id, tree_objects}
pub use Rattle.snapshot.specs.Dirs.{tree_of}
pub use Rattle.snapshot.specs.Flattens.{AreRead, CanReadSubs, GoesOn, IsEntryFault, IsFlat}
pub use Rattle.snapshot.specs.Flattens.{IsFlatTree, IsFlattenFault, IsListed, IsReadFault, Reaches}
pub use Rattle.snapshot.specs.Flattens.{here, long, many, told_path, too_long, too_many}
pub use Rattle.snapshot.specs.Flattens.{without_slash}
pub use Rattle.snapshot.specs.Laws.{AreHeld, ArePathLists, ArePathsShort, AreSmall, BuildOfFlatten}
pub use Rattle.snapshot.specs.Laws.{FlattenOfBuild, HasEntry, HasNoEmpty, HasOneEnd, IsBuilt}
pub use Rattle.snapshot.specs.Laws.{IsCommitted, IsLeafAt, IsReadBack, KeysAreOfLeaves}
pub use Rattle.snapshot.specs.Laws.{LeafInStanding, PointersHaveOneEnd}
pub use Rattle.snapshot.specs.Leaves.{dir_entry, id_of, leaf_entry, mode_of}
pub use Rattle.snapshot.specs.Order.{Below, Each, Has, HasBelow, HasLeaf, HasNoClash, IsEntryName}
pub use Rattle.snapshot.specs.Order.{IsLeastClash, IsOrdered, IsPathList, IsSorted, IsValidPath}
pub use Rattle.snapshot.specs.Order.{LacksPath, down, is_entry_name, name}
pub use Rattle.snapshot.specs.Pointers.{AreAscending, AreOfFiles, ArePointed, ArePointers}
pub use Rattle.snapshot.specs.Pointers.{EachPointer, HasAnnexed, HasFile, HasKey, IsAnnexed}
pub use Rattle.snapshot.specs.Pointers.{IsFile, IsPointed, IsPointerAt, IsSmallBlob, MayPoint}
pub use Rattle.snapshot.specs.Pointers.{MayPointAt, annex_fault, is_long, key_at}
pub use Rattle.snapshot.specs.Pointers.{pointer_file_limit, pointer_limit, pointers_fault}
unfoldable pub use Rattle.snapshot.specs.Pointers.{pointer_fault}
pub use Rattle.snapshot.specs.Stands.{Stands, SubsStand}
pub use Rattle.snapshot.specs.Walks.{IsFront, IsLongPath, IsOverLimit, MayFlatten, MayWalk, Spells}
pub use Rattle.snapshot.specs.Walks.{SpellsTree, at_root, in_dir}
