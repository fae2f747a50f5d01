use Rattle.std.proofs.Common.{◌≡◌, ◌≤◌, take, length}
use Rattle.nv_base.specs.declared.limits.TheConstants.{MAX_OBJECTS}
use Rattle.task_model.specs.Shape.{AreAlike}
use Rattle.task_model.proofs.objects.Objects.restore.Given as goal

abbrev pub invariant-loop-object : goal.invariant-loop-object
invariant-loop-object l = record {
  few : length l.self-inside.items.items ≤ MAX_OBJECTS;
  alike : AreAlike l.self-inside.items.items l.others-inside.items.items;
  done : take l.object l.self-inside.items.items ≡ take l.object l.others-inside.items.items;
}
