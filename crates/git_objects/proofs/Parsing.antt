-- For crates above: objects, entries, trees and commits have one reading.
pub use Rattle.git_objects.proofs.CommitTexts.{person_once, commit_once}
pub use Rattle.git_objects.proofs.Cutting.{cut_once, same_length}
pub use Rattle.git_objects.proofs.EntryTexts.{entry_once}
pub use Rattle.git_objects.proofs.ObjectTexts.{kind_once, after_nul-text_of_object, object_in-text_of_object, text_of_object-object_in, no_object}
pub use Rattle.git_objects.proofs.TreeTexts.{entries_once, tree_once, bad_no_tree}
pub use Rattle.git_objects.proofs.Twins.{TreeParts, tree_parts}
