use Rattle.std.proofs.Common.{◌≡◌, ℕ, ◌<◌, length}
use Rattle.kernel_model.specs.Effects.{object_words}
use Rattle.set_model.specs.Sets.{object_at}
use Rattle.audit.proofs.tests.has_shape.Given as goal

abbrev pub invariant-loop-object : goal.invariant-loop-object
invariant-loop-object l = (k : ℕ) → k < l.object → length (object_words l.objects k) ≡ (object_at l.set k).size
