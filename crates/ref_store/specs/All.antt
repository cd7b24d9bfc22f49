-- The words of this crate, for those above.
pub use Rattle.ref_store.specs.Branches.{AreBranches, AreNames, MayMakeBranch, make_fault}
pub use Rattle.ref_store.specs.Branches.{name_fault, there_fault}
unfoldable pub use Rattle.ref_store.specs.Branches.{makes_branch}
pub use Rattle.ref_store.specs.Forms.{IsNamed, attached, branch_of, detached, head_given, head_text}
pub use Rattle.ref_store.specs.Laws.{HeadRemains, IsHead, IsOldOrNew, ReadsAgree, SetHeadSets}
pub use Rattle.ref_store.specs.Laws.{SetTipKeeps, SetTipSets, WasOpenThere, with_id}
pub use Rattle.ref_store.specs.Layout.{IsPlaced, branch_path}
pub use Rattle.ref_store.specs.Reading.{BranchReads, FileReads, GivesHead, GivesId, HeadReads}
pub use Rattle.ref_store.specs.Reading.{IsHeadAt, IsOver, IsTipAt, IsTipPlace, MayReadHead}
pub use Rattle.ref_store.specs.Reading.{MayReadTip, TipReads, branch_by, branch_fault, branch_id}
pub use Rattle.ref_store.specs.Reading.{damaged_unless, given, head_at, head_fault, lead_fault}
pub use Rattle.ref_store.specs.Reading.{long_place, tip_fault}
pub use Rattle.ref_store.specs.Revisions.{Back, Base, IsBase, IsBaseBy, IsDigitsBase, IsNamedBase}
pub use Rattle.ref_store.specs.Revisions.{IsOtherBase, IsPrefixBase, IsRevision, IsTooFar, MayLead}
pub use Rattle.ref_store.specs.Revisions.{MayLeadBy, MayLeadFrom}
pub use Rattle.ref_store.specs.Revisions.{MayResolve, Resolves, ResolvesOnce, SetsOut, Unresolves}
pub use Rattle.ref_store.specs.Revisions.{WentBack, all_counts, back_count, back_text, branch_base}
pub use Rattle.ref_store.specs.Revisions.{commit_only, fails_or, has_branch, head_base, held_base}
pub use Rattle.ref_store.specs.Revisions.{is_back_byte, is_hex, leads_by, leads_if, one_more}
pub use Rattle.ref_store.specs.Revisions.{only_commit, with_base}
unfoldable pub use Rattle.ref_store.specs.Revisions.{number_digits}
pub use Rattle.ref_store.specs.Setting.{MaySetHead, MaySetTip, long_repo, puts_one, set_fault}
pub use Rattle.ref_store.specs.Setting.{tip_at}
unfoldable pub use Rattle.ref_store.specs.Setting.{sets_head, sets_tip}
pub use Rattle.ref_store.specs.Walks.{AreHeld, GoAlong, HasFields, HaveOwnIds, Passed}
pub use Rattle.ref_store.specs.Walks.{first_parent, walk_limit}
