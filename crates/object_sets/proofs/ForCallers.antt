-- What crates above may cite of the lemmas on sets of objects, and on lists.
pub use Rattle.object_sets.proofs.Elements.{all_append, all_with}
pub use Rattle.object_sets.proofs.Insertion.{is_among-with_object, with_object-all, with_object-increasing}
pub use Rattle.object_sets.proofs.Spelling.{among-all, below-among, same_objects}
