use Rattle.std.proofs.Common.{◌≤◌}
use Rattle.kernel_model.specs.Durable.{listed}
use Rattle.kernel_model.proofs.BaseLaws.{points-from}
use Rattle.kernel_model.proofs.ReportLaws.{listing-all}
use Rattle.kernel_model.proofs.StepLaws.{listed_history}
use Rattle.kernel_model.proofs.machine.points_follow_base.Goals as goal

pub returns : goal.returns
returns g c = λ world s h. listing-all (λ x. world.base.clock ≤ x.point) (listed s) (points-from world.base (listed s) (listed_history world s.history h.history h.records s.cores h.cores).0.timely)
