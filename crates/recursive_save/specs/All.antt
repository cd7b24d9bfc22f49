-- The words of this crate, for those above.
pub use Rattle.recursive_save.specs.Blobs.{AreBlobs, AreThere, BlobReads, BlobsRead, IsBeyondBlob}
pub use Rattle.recursive_save.specs.Blobs.{IsBeyondSum, IsBeyondSums, IsBeyondText, IsThere}
pub use Rattle.recursive_save.specs.Blobs.{IsThereBy, MayReadBlob, MayReadBlobs, NewBlobReads}
pub use Rattle.recursive_save.specs.Blobs.{PointerBlobs, items_of}
pub use Rattle.recursive_save.specs.Contents.{AreBelow, ContentFails, ContentsFail, HaveSources}
pub use Rattle.recursive_save.specs.Contents.{IsBelow, IsKeepingOf, content_by, content_key}
pub use Rattle.recursive_save.specs.Contents.{contents, key_for, new_content}
pub use Rattle.recursive_save.specs.Lines.{action_of, change_line, change_lines, AreChangeLines}
pub use Rattle.recursive_save.specs.Lines.{IsChangeLine}
pub use Rattle.recursive_save.specs.Collisions.{Firsts, IsFirst, first_in, or_index}
pub use Rattle.recursive_save.specs.Configured.{ConfigReads, HasPerson, IsConfigured}
pub use Rattle.recursive_save.specs.Configured.{IsUnconfigured, MayConfigure, MayReadText}
pub use Rattle.recursive_save.specs.Configured.{TextReads}
pub use Rattle.recursive_save.specs.Creating.{CreateSays, IsVacant, MayCreate, by_tmp, create_fault}
pub use Rattle.recursive_save.specs.Creating.{create_step, created_line, dataset_step, finish}
pub use Rattle.recursive_save.specs.Creating.{middle_files}
pub use Rattle.recursive_save.specs.First.{NewDataset, Parts, created, dataset_rounds, first_commit}
pub use Rattle.recursive_save.specs.First.{first_id, first_objects, inner_tree, main_text}
pub use Rattle.recursive_save.specs.First.{new_dataset, new_parts, root_tree, with_dataset}
unfoldable pub use Rattle.recursive_save.specs.First.{dataset_config, default_email, default_name}
unfoldable pub use Rattle.recursive_save.specs.First.{default_person, first_message, head_text}
unfoldable pub use Rattle.recursive_save.specs.First.{settings_text}
pub use Rattle.recursive_save.specs.Laws.{CreateKeeps, CreateMakes, CreateRefuses, IsMade}
pub use Rattle.recursive_save.specs.Laws.{RemainsAt}
pub use Rattle.recursive_save.specs.Planned.{IsCommitOn, IsPlanRefusal, IsPlanWith}
pub use Rattle.recursive_save.specs.Planned.{IsPlannedOf, MayPlan, PlanFails, plan_of}
pub use Rattle.recursive_save.specs.Plans.{IsPlan, parts_of}
pub use Rattle.recursive_save.specs.Remains.{CreateRemains, HeldStay, SameOutside}
pub use Rattle.recursive_save.specs.Saved.{AreSaveLines, IsSoundEnding, IsSoundRefusal}
pub use Rattle.recursive_save.specs.Saved.{SaveIsComplete, SaveIsOne, SaveKeeps, SaveRemains}
pub use Rattle.recursive_save.specs.Saved.{SaveRemainsAt, SaveSays}
pub use Rattle.recursive_save.specs.Saving.{IsOverToSave, IsSave, IsSavePlan, IsWritten, MaySave}
pub use Rattle.recursive_save.specs.Saving.{SavePlan, blob_by, blob_of, blobs_in, blobs_limit}
pub use Rattle.recursive_save.specs.Saving.{clash_fault, clash_with, clashing, clean, dataset_line}
pub use Rattle.recursive_save.specs.Saving.{kept, line_fault, new_blobs, plan_fault, save_commit}
pub use Rattle.recursive_save.specs.Saving.{save_lines, saved, says_all, settings_fault}
pub use Rattle.recursive_save.specs.Saving.{settings_in, settings_limit, sum_fault, unplanned}
pub use Rattle.recursive_save.specs.Saving.{unread, writes}
unfoldable pub use Rattle.recursive_save.specs.Saving.{saves, saves_contents, saves_lines}
pub use Rattle.recursive_save.specs.Soundness.{CanCreate, CanSave, CreateKeepsSound, CreatesSound}
pub use Rattle.recursive_save.specs.Soundness.{SaveKeepsSound, new_head}
