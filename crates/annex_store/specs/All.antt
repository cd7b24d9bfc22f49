-- The words of this crate, for those above.
pub use Rattle.annex_store.specs.Contents.{ContentReads, IsContent, IsContentIn, IsLargeContent}
pub use Rattle.annex_store.specs.Contents.{IsRead, LookReads, MatchesFound, MayLook, MayRead}
pub use Rattle.annex_store.specs.Contents.{bytes_of, content_fault, content_limit, size_fault}
pub use Rattle.annex_store.specs.Honest.{IsHonest, KeepIsHonest, Stands, StaysHonest, WasOpenThere}
pub use Rattle.annex_store.specs.Keeping.{IsFull, IsFullFault, IsKeep, IsKeepFault, IsNotedHere}
pub use Rattle.annex_store.specs.Keeping.{IsToNote, KeepEnds, MayKeep, has_bytes, puts_unless}
pub use Rattle.annex_store.specs.Keeping.{sets_note}
unfoldable pub use Rattle.annex_store.specs.Keeping.{keeps, sets_content}
pub use Rattle.annex_store.specs.KeepingAll.{AreNotes, AreNotesBy, IsFirstFault, IsKeepAll}
pub use Rattle.annex_store.specs.KeepingAll.{KeepAllEnds, MayKeepAll, MayKeepMember, OwnLogs}
pub use Rattle.annex_store.specs.KeepingAll.{PlainNote, content_file, content_files, dirty_fault}
pub use Rattle.annex_store.specs.KeepingAll.{dirty_or, has_note, log_files, puts_any, staged_act}
pub use Rattle.annex_store.specs.KeepingAll.{with_content, with_note, write_fault}
unfoldable pub use Rattle.annex_store.specs.KeepingAll.{keeps_all, sets_notes, stores}
pub use Rattle.annex_store.specs.Layout.{content_names, content_place, log_name, log_names}
pub use Rattle.annex_store.specs.Layout.{log_place}
pub use Rattle.annex_store.specs.Logs.{HasLog, IsBadIn, IsFileFault, IsLog, IsLogFault, IsLogIn}
pub use Rattle.annex_store.specs.Logs.{LogReads, MayReadLog, large_log, log_limit}
pub use Rattle.annex_store.specs.Members.{Among, AreOutside, Each, HaveOwnKeys, content_in}
pub use Rattle.annex_store.specs.Members.{firsts, found_in, has_key, is_content, is_kept, same_key}
pub use Rattle.annex_store.specs.Members.{unkept, with_first}
pub use Rattle.annex_store.specs.Places.{IsLong, IsOver, IsPlaced, content_path, log_path}
pub use Rattle.annex_store.specs.Places.{long_place, over_fault}
pub use Rattle.annex_store.specs.Setting.{IsLongRepo, MaySetLog, long_repo, puts_one}
unfoldable pub use Rattle.annex_store.specs.Setting.{sets_log}
