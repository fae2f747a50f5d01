-- The cores of the steps that are left of an item.
use Rattle.std.specs.Prelude.{ℕ, List}
use Rattle.power_trace.specs.declared.core_steps.ItemSteps.{ItemSteps}
use Rattle.power_trace.specs.declared.core_steps.ItemSteps.TheVariants.{Steps, Mix}

abbrev pub steps_left : ItemSteps → List ℕ
steps_left (Steps cores) = cores
steps_left (Mix cores) = cores
