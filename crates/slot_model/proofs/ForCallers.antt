-- What crates above may cite of the lemmas on slots.
pub use Rattle.slot_model.proofs.Writing.{write_of}
pub use Rattle.slot_model.proofs.Nexts.{newest_of}
pub use Rattle.slot_model.proofs.Steps.{granted, present}
pub use Rattle.slot_model.proofs.EventLaws.{ended_of, event_stands, runs_of}
pub use Rattle.slot_model.proofs.RunStands.{first_stands}
pub use Rattle.slot_model.proofs.Named.{alone_slot, newest_stands, run_chains}
pub use Rattle.slot_model.proofs.SlotLaws.{copied_stands}
pub use Rattle.slot_model.proofs.Tables.{choose_places, install_places}
pub use Rattle.slot_model.proofs.Views.{free_at}
pub use Rattle.slot_model.proofs.TableVerdicts.{verdict_at}
pub use Rattle.slot_model.proofs.Arms.{taken_free, target_free}
pub use Rattle.slot_model.proofs.Fresh.{boot_idle, fresh_stands, tables_begin}
pub use Rattle.slot_model.proofs.SameWords.{same_stands}
pub use Rattle.slot_model.proofs.Reading.{read_at}
pub use Rattle.slot_model.proofs.Flips.{finish_cuts}
