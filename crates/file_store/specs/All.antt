-- The words of this crate, for those above.
pub use Rattle.file_store.specs.Causes.{Counts, Rose, has_failed, one_more}
pub use Rattle.file_store.specs.Course.{Along, Arrives, GoesAlong, IsAlong, IsBetween, LiesAlong}
pub use Rattle.file_store.specs.Course.{LiesBetween, Round, WasOpen, changed, finally, here, still}
pub use Rattle.file_store.specs.Course.{there, with_file}
pub use Rattle.file_store.specs.Disk.{Disk, Drive, History, IsClosed, IsImage, IsRemoved, IsRenamed}
pub use Rattle.file_store.specs.Disk.{IsSynced, IsWritten, MayHave, MayStep, Since, appended}
pub use Rattle.file_store.specs.Disk.{at_rest, begun, is_open, later, moved, next, removed, renamed}
pub use Rattle.file_store.specs.Disk.{same_file, synced, wrote}
pub use Rattle.file_store.specs.Ends.{AppendEnds, BarrierEnds, ChangeFails, Keeps, KindEnds}
pub use Rattle.file_store.specs.Ends.{ListEnds, PartAsked, PartEnds, PutFails, ReadEnds, ReadFails}
pub use Rattle.file_store.specs.Ends.{RemoveEnds, RenameEnds, SizeEnds, WriteEnds, bytes_at}
pub use Rattle.file_store.specs.Ends.{part_at, part_of, present}
pub use Rattle.file_store.specs.Kinds.{AreListed, AreThere, IsListing, is_item_name, is_there}
pub use Rattle.file_store.specs.Kinds.{kind_at, listed_kind, names_in}
pub use Rattle.file_store.specs.Memory.Calls.{after_call, began, called, history_of, untouched}
pub use Rattle.file_store.specs.Memory.Calls.{with_change, with_change_at}
pub use Rattle.file_store.specs.Memory.Disk.{IsGround-same, IsImageBy, ground_in, grounded_in}
pub use Rattle.file_store.specs.Memory.Disk.{history_in}
pub use Rattle.file_store.specs.Memory.Files.{FromListEnds, ImageEnds, drive_of}
pub use Rattle.file_store.specs.Memory.Images.{AreOpen, IsChosen, IsLeft, left_by, torn_by}
pub use Rattle.file_store.specs.Memory.Lists.{AddEnds, GatherEnds, IsListOf, clash_after, clash_of}
pub use Rattle.file_store.specs.Memory.Lists.{clashes, ground_of, places_in, plain}
pub use Rattle.file_store.specs.Memory.Moment.{disk_of, tears}
pub use Rattle.file_store.specs.Memory.Plan.{NoneFails, counted, is_stopped, turn_at, turn_of}
pub use Rattle.file_store.specs.Memory.Plan.{with_call, with_fault}
pub use Rattle.file_store.specs.Memory.Sink.{tape_of}
pub use Rattle.file_store.specs.Memory.Turns.{ChangesByTurn, ReadsByTurn}
pub use Rattle.file_store.specs.Named.{as_items, kind_of_path, seen, seen_among}
pub use Rattle.file_store.specs.Removed.{Everywhere, RemoveAllEnds, removal_of}
pub use Rattle.file_store.specs.Replaced.{AreApart, IsNoTmp, ReplaceEnds, all_replaced, block_of}
pub use Rattle.file_store.specs.Replaced.{first_shut, installed, move_block, only, or_next}
pub use Rattle.file_store.specs.Replaced.{replaced, replacing, round_of, stage_block, staged}
pub use Rattle.file_store.specs.Rounds.{AreMovesOf, AreReady, AreStaged, MoveEnds, MovesEnd}
pub use Rattle.file_store.specs.Rounds.{MovesGo}
pub use Rattle.file_store.specs.Rounds.{RenamesEnd, RenamesGo, StageEnds, StagesEnd, moves_of}
pub use Rattle.file_store.specs.Tape.{CountsBoth, Grew, GrewBy, IsLater, PieceEnds, Tape, WholeEnds}
pub use Rattle.file_store.specs.Tape.{sink_failed, sink_starved}
pub use Rattle.file_store.specs.Troubles.{trouble_of}
