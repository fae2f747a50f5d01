use Rattle.std.proofs.Common.{◌≡◌}
use Rattle.vol_copy.specs.Tries.{IsFor}
use Rattle.vol_copy.specs.declared.attempt.Stage.TheVariants as stage
use Rattle.small_kernel.proofs.running.runs.Given as goal

abbrev pub invariant-loop : goal.invariant-loop
invariant-loop l = record { kept : IsFor l.set l.attempt; running : l.attempt.stage ≡ stage.Running }
