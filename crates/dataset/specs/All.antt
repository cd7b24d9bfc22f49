-- The words of this crate, for those above.
pub use Rattle.dataset.specs.Births.{BirthKeeps, IsBirth, IsBorn, bare_round, birth_rounds}
pub use Rattle.dataset.specs.Births.{head_round}
pub use Rattle.dataset.specs.Contents.{ContentsKeep, EachChange, HasContents, IsContentPut}
pub use Rattle.dataset.specs.Contents.{IsLogSet, KeepsContents, LogsKeep}
pub use Rattle.dataset.specs.Contents.{PutsContents, SetsLogs}
pub use Rattle.dataset.specs.Laws.{EmptyIsSound, LessTmpIsSound, LooksNowhereElse, MoreRounds}
pub use Rattle.dataset.specs.Laws.{ObjectsKeep, OneFileKeeps, RoundsKeep, SameKeeps, SomeAreIntact}
pub use Rattle.dataset.specs.Laws.{TipKeeps, UnwatchedKeeps, WalksServe, WholeMeans, WholeStays}
pub use Rattle.dataset.specs.Leads.{BranchKeeps, CanLead, IsAtCommit, IsLed, LeadKeeps}
pub use Rattle.dataset.specs.Leads.{branch_round, lead_round, lead_text}
pub use Rattle.dataset.specs.Moments.{ActKeeps, ActsStaySound, BeginsSound, IsIntactDisk}
pub use Rattle.dataset.specs.Moments.{IsLooseElsewhere, IsSettled, RestIsSettled, StaysSound}
pub use Rattle.dataset.specs.Readable.{IsLimit, IsLimitAtMost, IsReadable, SoundIsReadable}
pub use Rattle.dataset.specs.Readable.{WholeTellsPointers}
pub use Rattle.dataset.specs.Refs.{IsDone, IsHeadSet, IsTipSet, SaveIsSound, SetHeadIsSound}
pub use Rattle.dataset.specs.Refs.{SetTipIsSound, led_by, saves}
pub use Rattle.dataset.specs.Rounds.{AllKeepSound, AreFree, AreUnwatched, CanPut, CanSet, HasSome}
pub use Rattle.dataset.specs.Rounds.{HaveWholeParents, IsIntact, IsIntactAlong, IsPut, IsUnwatched}
pub use Rattle.dataset.specs.Rounds.{KeepsSound, LiesWatched, OneOf, first, later, save_rounds}
pub use Rattle.dataset.specs.Rounds.{tip_round}
pub use Rattle.dataset.specs.Saves.{FlatSaveIsSave, IsBlobThere, IsFlatSave, IsLeafThere}
pub use Rattle.dataset.specs.Saves.{IsNewCommit, IsSave, IsSaved, NewCommitIsWhole, NoFaultIsFree}
pub use Rattle.dataset.specs.Saves.{NoneCollide, PutAreHeld, SaveKeeps, blob_objects, commit_object}
pub use Rattle.dataset.specs.Saves.{saved_objects}
pub use Rattle.dataset.specs.Sound.{HasSoundHeads, HasSoundLogs, HasSoundObjects, HasSoundSettings}
pub use Rattle.dataset.specs.Sound.{HasSoundTmp, HasUuid, HoldsAll, HoldsAllIn, HoldsContents}
pub use Rattle.dataset.specs.Sound.{HoldsContentsIn, IsConfiguration}
pub use Rattle.dataset.specs.Sound.{IsDataset, IsFormed, IsSoundAt, SameHeads, Sound}
pub use Rattle.dataset.specs.Steps.{BindKeeps, GoByTmp, PutObjectsKeep, PutObjectsLeave, PutsKeep}
pub use Rattle.dataset.specs.Steps.{PutsLeave, StillStepsKeep}
pub use Rattle.dataset.specs.Watched.{IsRoot, IsWatched, SameWatched, is_looked_at, is_own, is_seen}
pub use Rattle.dataset.specs.Watched.{is_watched}
pub use Rattle.dataset.specs.Whole.{AreWhole, EachLeaf, Has, HasAncestor, IsBlobAt, IsCommitAmong}
pub use Rattle.dataset.specs.Whole.{IsComplete, IsFull, IsLeafHeld, IsWhole, IsWholeByWalks}
pub use Rattle.dataset.specs.Whole.{by_parent, itself}
