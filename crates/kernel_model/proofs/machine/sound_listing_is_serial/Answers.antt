use Rattle.kernel_model.specs.Runs.{whole_run}
use Rattle.kernel_model.proofs.DurableLaws.{history_serial}
use Rattle.kernel_model.proofs.StepLaws.{listed_history}
use Rattle.kernel_model.proofs.machine.sound_listing_is_serial.Goals as goal

pub returns : goal.returns
returns g c = λ world s set_up h l. history_serial (whole_run world.steps) world.base set_up.based.old set_up.based.in_order _ (listed_history world s.history h.history h.records s.cores h.cores).0 l
