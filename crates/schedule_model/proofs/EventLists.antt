-- Parts of lists of events that are put together.
use Rattle.std.proofs.Common.{◌≡◌, ℕ, zero, suc, ◌+◌, ◌<◌, List, [], ◌∷◌, ◌++◌, map, length, Some, refl, ap, sym, subst, zero-add, arith}
use Rattle.std.specs.List.{AllByRecursion, slice_get}
use Rattle.kernel_model.specs.Events.{Event, CoreStep, Fail}
use Rattle.schedule_model.specs.Parts.{cores_stepped, failure_count, IsOfCores}

pub cores_stepped-append : (xs ys : List Event) → cores_stepped (xs ++ ys) ≡ cores_stepped xs ++ cores_stepped ys
cores_stepped-append [] ys = refl
cores_stepped-append (CoreStep n ∷ xs) ys = ap (λ s. n ∷ s) (cores_stepped-append xs ys)
cores_stepped-append (Fail ∷ xs) ys = cores_stepped-append xs ys

pub cores_stepped-map : (steps : List ℕ) → cores_stepped (map CoreStep steps) ≡ steps
cores_stepped-map [] = refl
cores_stepped-map (n ∷ steps) = ap (λ s. n ∷ s) (cores_stepped-map steps)

pub failure_count-append : (xs ys : List Event) → failure_count (xs ++ ys) ≡ failure_count xs + failure_count ys
failure_count-append [] ys = sym (zero-add (failure_count ys))
failure_count-append (CoreStep n ∷ xs) ys = failure_count-append xs ys
failure_count-append (Fail ∷ xs) ys = omega (arith, failure_count-append xs ys)

pub failure_count-map : (steps : List ℕ) → failure_count (map CoreStep steps) ≡ 0
failure_count-map [] = refl
failure_count-map (n ∷ steps) = failure_count-map steps

-- how many failures come with the first on-time, if it ends
pub failure_count-first : (steps : List ℕ) (events : List Event) → failure_count (map CoreStep steps ++ Fail ∷ events) ≡ 1 + failure_count events
failure_count-first steps events = omega (arith, failure_count-append (map CoreStep steps) (Fail ∷ events), failure_count-map steps)

-- events are core steps and failures
pub length-parts : (events : List Event) → length events ≡ length (cores_stepped events) + failure_count events
length-parts [] = refl
length-parts (CoreStep n ∷ events) = omega (arith, length-parts events)
length-parts (Fail ∷ events) = omega (arith, length-parts events)

-- what holds of each core that steps holds of each step
pub each_core : (P : ℕ → Type 0) (events : List Event) (n core : ℕ) → AllByRecursion P (cores_stepped events)
    → slice_get events n ≡ Some (CoreStep core) → P core
each_core P [] n core p h = absurd (cc)
each_core P (CoreStep k ∷ events) zero core p h =
    let e : k ≡ core = cc in
    subst P e p.0
each_core P (CoreStep k ∷ events) (suc n) core p h = each_core P events n core p.1 h
each_core P (Fail ∷ events) zero core p h = absurd (cc)
each_core P (Fail ∷ events) (suc n) core p h = each_core P events n core p h

-- a step of these cores alone
pub each_event : (cores : ℕ) (events : List Event) (n : ℕ) (event : Event) → AllByRecursion (λ core. core < cores) (cores_stepped events)
    → slice_get events n ≡ Some event → IsOfCores cores event
each_event cores events n (CoreStep core) p h = each_core (λ k. k < cores) events n core p h
each_event cores events n Fail p h = tt
