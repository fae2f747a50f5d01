-- What the types of the parts say of a set's numbers. This project's own.
use Rattle.std.specs.List.{AllByRecursion}
use Rattle.set_model.specs.Sets.{TaskSet}
use Rattle.set_model.specs.Limits.{IsWord}

-- words and arguments are 32 bits
pub record HasWords (set : TaskSet) : Type 0 where
  pub objects : AllByRecursion (λ o. AllByRecursion IsWord o.first) set.objects
  pub programs : AllByRecursion (λ p. AllByRecursion IsWord p.code) set.programs
  pub tasks : AllByRecursion (λ t. IsWord t.arg) set.tasks
