use Rattle.std.proofs.Common.{[], arith}
use Rattle.set_model.specs.Formatted.{formatted}
use Rattle.task_model.specs.Finals.{runs_of}
use Rattle.task_model.proofs.FitStates.{base_fit}
use Rattle.task_model.proofs.FirstSerial.{all_serial}
use Rattle.task_model.proofs.first_finishes.first_finishes_are_serial.Goals as goal

pub returns : goal.returns
returns c = λ set n h l.
    let base = c.formatted_state_is_fit.ensures set h in
    all_serial c.next_finish_is_serial.ensures c.run_is_fit.ensures set (c.tasks_are_a_machine.ensures set) (formatted set) base.old n [] (formatted set) (c.no_finish_is_serial.ensures (runs_of set) (formatted set) base.in_order) (base_fit set (formatted set) base)
    (omega (arith, l, c.any_format_is_below.ensures.tasks set h))
