use Rattle.device_model.specs.Devices.{layout_on}
use Rattle.device_model.proofs.LaidOut.{laid_out_set}
use Rattle.device_model.proofs.Free.{other_copy-free, other_slot-free}
use Rattle.device_model.proofs.Migrated.{behind-free}
use Rattle.device_model.proofs.keeping.other_places_are_free.Goals as goal

pub returns-clause-pages : goal.returns-clause-pages
returns-clause-pages g = λ d h page i t k a b. other_copy-free d.set (layout_on d) h page i (laid_out_set d.kind d.set t) k a b

pub returns-clause-slots : goal.returns-clause-slots
returns-clause-slots g = λ d h o slot i t k w n. other_slot-free d.set (layout_on d) h o slot i (laid_out_set d.kind d.set t) k w.0 w.1 w.2 n

pub returns-clause-behind : goal.returns-clause-behind
returns-clause-behind g = λ d h p t k a. behind-free d.set (layout_on d) h p (laid_out_set d.kind d.set t) k a
