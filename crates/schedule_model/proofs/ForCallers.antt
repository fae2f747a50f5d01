-- What crates above may cite of the lemmas on schedules.
pub use Rattle.schedule_model.proofs.EventLists.{failure_count-map}
pub use Rattle.schedule_model.proofs.Reached.{none_left, not_reached, reached}
pub use Rattle.schedule_model.proofs.FailureLaws.{event_of_cores}
pub use Rattle.schedule_model.proofs.StepLaws.{length-core_steps, length-item_steps}
