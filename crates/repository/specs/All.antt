-- The words of this crate, for those above.
pub use Rattle.repository.specs.Agree.{Agree, is_stored}
pub use Rattle.repository.specs.Heads.{Head, branch_if, detached_or, has_single_dots, head_in}
pub use Rattle.repository.specs.Heads.{head_of, id_if, id_text, is_branch_byte, is_component}
pub use Rattle.repository.specs.Heads.{on_branch, ref_text, tip_in}
unfoldable pub use Rattle.repository.specs.Heads.{branch_in, id_in, is_branch}
pub use Rattle.repository.specs.Held.{HeldAgrees, IsHeld, held_at}
unfoldable pub use Rattle.repository.specs.Held.{object_of}
pub use Rattle.repository.specs.Layout.{branch_place, config_place, dlrepo, head_place, in_tmp}
pub use Rattle.repository.specs.Layout.{index_place, is_in, is_single}
pub use Rattle.repository.specs.Layout.{main_place, object_names, object_place, repo_head, repo_of}
pub use Rattle.repository.specs.Layout.{settings_place, tip_place, tmp_names, tmp_place}
pub use Rattle.repository.specs.Limits.{item_limit, large, object_body_limit, object_file_limit}
pub use Rattle.repository.specs.Limits.{object_limit, repo_limit}
pub use Rattle.repository.specs.Unfinished.{IsOutside, LessTmp, is_below_tmp}
unfoldable pub use Rattle.repository.specs.Unfinished.{is_repo, is_tmp}
