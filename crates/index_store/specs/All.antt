-- The words of this crate, for those above.
pub use Rattle.index_store.specs.Indexes.{HasIndex, IsIndexOf, MaySetIndex, has, index_entries}
pub use Rattle.index_store.specs.Indexes.{index_entry, index_limit, keeps_index, lacks}
pub use Rattle.index_store.specs.Indexes.{snapshot_text}
unfoldable pub use Rattle.index_store.specs.Indexes.{sets_index}
