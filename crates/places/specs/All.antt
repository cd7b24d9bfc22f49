-- The words of this crate, for those above.
pub use Rattle.places.specs.Ground.{Ground, IsGround, file_at, ground_code, is_shut, stands}
unfoldable pub use Rattle.places.specs.Ground.{stands_above, stands_below}
pub use Rattle.places.specs.Names.{IsAbove, IsApart, IsAtOrAbove, IsName, IsPathBelow, IsPlace}
pub use Rattle.places.specs.Names.{IsStored, IsText, Names, all_but_last, are_apart, has_name}
pub use Rattle.places.specs.Names.{is_above, is_filled, joined, longest, path_of, pieces, relative}
pub use Rattle.places.specs.Names.{slash, slashed, stepped, target, text_of, walked}
unfoldable pub use Rattle.places.specs.Names.{is_name, is_path, is_text, names_of}
pub use Rattle.places.specs.Order.{names_cmp, place_cmp, place_eq}
pub use Rattle.places.specs.Ordered.{names_cmp-IsAntisymmetric, names_cmp_total}
pub use Rattle.places.specs.Ordered.{place_cmp-IsAntisymmetric, place_cmp_total, place_eq-cmp}
pub use Rattle.places.specs.Ordered.{same_names}
