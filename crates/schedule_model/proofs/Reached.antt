-- The events where the first on-time ends, and where it does not.
use Rattle.std.proofs.Common.{◌≡◌, ℕ, ◌<◌, ◌≤◌, nat_le, true, false, List, [], ◌∷◌, ◌++◌, map, take, drop, length, refl}
use Rattle.std.proofs.lemmas.Bool.{le-leb}
use Rattle.std.proofs.lemmas.Bool.Decides.{nat_tests}
use Rattle.std.proofs.Common.{arith}
use Rattle.kernel_model.specs.Events.{CoreStep, Fail}
use Rattle.schedule_model.specs.Failures.{with_failures}

pub none_left : (steps : List ℕ) → with_failures [] steps ≡ map CoreStep steps
unfolding with_failures
none_left steps = refl

pub reached : (on : ℕ) (on_times steps : List ℕ) → on ≤ length steps
    → with_failures (on ∷ on_times) steps ≡ map CoreStep (take on steps) ++ Fail ∷ with_failures on_times (drop on steps)
unfolding with_failures
reached on on_times steps h =
    let e : nat_le on (length steps) ≡ true = le-leb on (length steps) h in
    rw e refl

pub not_reached : (on : ℕ) (on_times steps : List ℕ) → length steps < on
    → with_failures (on ∷ on_times) steps ≡ map CoreStep steps
unfolding with_failures
not_reached on on_times steps h =
    let e : nat_le on (length steps) ≡ false = grind (arith, nat_tests) in
    rw e refl
