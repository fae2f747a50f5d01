use Rattle.std.proofs.Common.{◌∙◌}
use Rattle.table_machine.specs.Tables.{Vacant}
use Rattle.table_machine.specs.Seats.{saves}
use Rattle.core_seats.proofs.Beside.{any_but, saves_all}
use Rattle.core_seats.proofs.laws.saving_is_the_same.Goals as goal

pub returns : goal.returns
returns c = λ seats after held n h e. any_but saves held n Vacant e ∙ saves_all seats after held h
