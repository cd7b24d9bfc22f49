-- The words of this crate, for those above.
pub use Rattle.object_store.specs.Files.{IsLongFile, IsTaken, TextReads}
pub use Rattle.object_store.specs.Looks.{AreFiles, AreMissing, HaveIds, HaveOwnPlaces, IsFound}
pub use Rattle.object_store.specs.Looks.{IsFoundAmong, IsLooked, LookReads, MayAdd, MissingReads}
pub use Rattle.object_store.specs.Looks.{file_of, looked}
pub use Rattle.object_store.specs.Objects.{object_text, objects_round, place_in, with_objects}
pub use Rattle.object_store.specs.Prefixes.{AreIdsWith, BeginWith, MaySearch, begins_with}
pub use Rattle.object_store.specs.Prefixes.{long_objects}
pub use Rattle.object_store.specs.PutActs.{IsTooLong, MayPut, early_fault, long_fault, puts_missing}
pub use Rattle.object_store.specs.PutActs.{puts_some}
unfoldable pub use Rattle.object_store.specs.PutActs.{puts_objects}
pub use Rattle.object_store.specs.Puts.{fault_in, first_fault, has_place, missing, one_object_more}
pub use Rattle.object_store.specs.Puts.{staging}
unfoldable pub use Rattle.object_store.specs.Puts.{found_fault}
pub use Rattle.object_store.specs.Reads.{HasBody, HasCommit, HasNoPlaces, HasTree, HeldIsRead}
pub use Rattle.object_store.specs.Reads.{IsBadCommitHeld, IsBadTreeHeld, IsCommitAt, IsCommitFault}
pub use Rattle.object_store.specs.Reads.{IsCommitWithId, IsGot, IsLargeObject, IsTreeAt}
pub use Rattle.object_store.specs.Reads.{IsTreeFault, IsTreeWithId, MayGet, MayGetBody}
pub use Rattle.object_store.specs.Reads.{MayReadCommit, MayReadTree, body_fault, file_fault}
pub use Rattle.object_store.specs.Reads.{is_kind, kind_fault, large_file, missing_fault}
pub use Rattle.object_store.specs.Reads.{object_seen, size_fault}
unfoldable pub use Rattle.object_store.specs.Reads.{get_fault}
