use Rattle.slot_model.proofs.Keeping.{tabled_step}
use Rattle.slot_model.proofs.kernels.step_keeps_tables.Goals as goal

pub returns : goal.returns
returns g c = λ m t before after n h f own others. tabled_step m.world m.floor m.state m.kept m.image t before after n h f own others
