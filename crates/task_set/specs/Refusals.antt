-- When parts are refused. This project's own.
use Rattle.std.specs.Prelude.{◌≡◌, Some, None}
use Rattle.set_model.specs.Sets.{TaskSet}
use Rattle.set_model.specs.Names.{IsNamed}
use Rattle.task_set.specs.FirstBroken.{first_broken}
use Rattle.task_set.specs.declared.refusals.SetRefusal.{SetRefusal}
use Rattle.task_set.specs.declared.refusals.SetRefusal.TheVariants.{Limit, Name, NoMemory}

-- the names are looked at where no limit is broken, and only they take memory
abbrev pub IsRefused : SetRefusal → TaskSet → Type 0
IsRefused (Limit kind) parts = first_broken parts ≡ Some kind
IsRefused Name parts = (first_broken parts ≡ None) × (IsNamed parts → ⊥)
IsRefused NoMemory parts = first_broken parts ≡ None
