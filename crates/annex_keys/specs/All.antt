-- The words of this crate, for those above.
unfoldable pub use Rattle.annex_keys.specs.Contents.{hash_dir, key_of}
pub use Rattle.annex_keys.specs.Contents.{Matches, directories}
unfoldable pub use Rattle.annex_keys.specs.Extensions.{ext_of, is_group}
pub use Rattle.annex_keys.specs.Extensions.{IsExt, dot, dotted, last_groups, parts_of}
unfoldable pub use Rattle.annex_keys.specs.Keys.{key_text}
pub use Rattle.annex_keys.specs.Keys.{IsDigest, IsKey, IsKeyText, IsTextOf, backend_text}
pub use Rattle.annex_keys.specs.Laws.{HaveOneReading}
pub use Rattle.annex_keys.specs.Pieces.{Behind, IsDashed, IsDigestText, IsSizeText, NoFirst}
pub use Rattle.annex_keys.specs.Pieces.{key_front}
pub use Rattle.annex_keys.specs.Plain.{PlainKey}
pub use Rattle.annex_keys.specs.Pointers.{IsPointer, newline, pointer_line, pointer_text}
pub use Rattle.annex_keys.specs.Reads.{KeyReadEnds, PointerReadEnds, RefusesKey}
pub use Rattle.annex_keys.specs.Stops.{Begins, StopsAt}
