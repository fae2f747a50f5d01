-- What crates above may cite of the lemmas on tasks.
pub use Rattle.task_model.proofs.StepFacts.{registers_name_call}
pub use Rattle.task_model.proofs.MachineFacts.{length-with_part, length-words_at}
pub use Rattle.task_model.proofs.WriteFacts.{objects_in-with_write}
pub use Rattle.task_model.proofs.Shapes.{shape-set}
