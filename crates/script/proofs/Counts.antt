-- Counts of core steps and on-times, as a loop adds them up.
use Rattle.std.proofs.Common.{◌≡◌, ℕ, suc, zero, ◌+◌, ◌<◌, ◌≤◌, List, [], ◌∷◌, ◌++◌, length, get_or, take, map, replicate, refl, sym, ap, arith, add-one, append_assoc, ◌-◌, ◌^◌, min, sum_by, length-append}
use Rattle.std.specs.List.{flat_map}
use Rattle.std.proofs.lemmas.List.{take_all, append-nil, length-replicate}
use Rattle.std.proofs.lemmas.List.Sums.{sum_by-cons}
use Rattle.script.specs.declared.items.OnTimes.{OnTimes}
use Rattle.power_trace.specs.declared.items.StepItem.{StepItem}
use Rattle.power_trace.specs.Items.{item_of}
use Rattle.schedule_model.specs.Schedules as model
use Rattle.schedule_model.specs.Limits.{step_count, steps_together}

-- one more item
more : (items : List StepItem) (k : ℕ) (d : StepItem) → k < length items
    → steps_together (map item_of (take (suc k) items)) ≡ steps_together (map item_of (take k items)) + step_count (item_of (get_or items k d))
more [] k d h = absurd (omega arith)
more (item ∷ items) zero d h = omega arith
more (item ∷ items) (suc k) d h = omega (arith, more items k d (omega arith))

pub steps_more : (items : List StepItem) (k : ℕ) (d : StepItem) → k < length items
    → steps_together (map item_of (take (k + 1) items)) ≡ steps_together (map item_of (take k items)) + step_count (item_of (get_or items k d))
steps_more items k d h = rw add-one (more items k d h)

pub steps_all : (items : List StepItem) (k : ℕ) → length items ≤ k → steps_together (map item_of (take k items)) ≡ steps_together (map item_of items)
steps_all items k h = ap (λ (xs : List StepItem). steps_together (map item_of xs)) (take_all k items h)

pub steps-append : (a b : List model.StepItem) → steps_together (a ++ b) ≡ steps_together a + steps_together b
steps-append [] b = omega arith
steps-append (item ∷ a) b = omega (arith, steps-append a b)

abbrev comes : OnTimes → List ℕ
comes on = replicate on.times on.time

times_next : (all : List OnTimes) (k : ℕ) (d : OnTimes) → k < length all
    → flat_map comes (take (suc k) all) ≡ flat_map comes (take k all) ++ comes (get_or all k d)
times_next [] k d h = absurd (omega arith)
times_next (on ∷ all) zero d h = append-nil (comes on)
times_next (on ∷ all) (suc k) d h = rw (times_next all k d (omega arith)) (sym (append_assoc (comes on) (flat_map comes (take k all)) (comes (get_or all k d))))

-- one more item
pub times_more : (all : List OnTimes) (k : ℕ) (d : OnTimes) → k < length all
    → flat_map (λ on. replicate on.times on.time) (take (k + 1) all) ≡ flat_map (λ on. replicate on.times on.time) (take k all) ++ replicate (get_or all k d).times (get_or all k d).time
times_more all k d h = rw add-one (times_next all k d h)

pub times_all : (all : List OnTimes) (k : ℕ) → length all ≤ k → flat_map (λ on. replicate on.times on.time) (take k all) ≡ flat_map (λ on. replicate on.times on.time) all
times_all all k h = ap (λ (xs : List OnTimes). flat_map comes xs) (take_all k all h)

pub times_length : (all : List OnTimes) → length (flat_map comes all) ≡ sum_by (λ on. on.times) all
times_length [] = refl
times_length (on ∷ all) =
    omega (arith, length-append (comes on) (flat_map comes all), length-replicate on.times on.time, sum_by-cons (λ (on : OnTimes). on.times) on all, times_length all)

items-append : (a b : List StepItem) → steps_together (map item_of (a ++ b)) ≡ steps_together (map item_of a) + steps_together (map item_of b)
items-append [] b = omega arith
items-append (item ∷ a) b = omega (arith, items-append a b)

-- the count goes on with the events
pub steps_counted : (a b : List StepItem) (count total on : ℕ) → count ≡ steps_together (map item_of a) + on
    → total ≡ min (count + steps_together (map item_of b)) (2 ^ 64 - 1) → total ≤ 1000000
    → (total ≡ steps_together (map item_of (a ++ b)) + on) × (total ≤ 1000000)
steps_counted a b count total on e f few = (omega (arith, items-append a b), few)

pub times_counted : (on more : List ℕ) (all : List OnTimes) (count total steps : ℕ) → count ≡ steps + length on
    → total ≡ min (count + sum_by (λ on. on.times) all) (2 ^ 64 - 1) → more ≡ flat_map comes all → total ≤ 1000000
    → (total ≡ steps + length (on ++ more)) × (total ≤ 1000000)
times_counted on more all count total steps e f g few = (omega (arith, length-append on more, ap length g, times_length all), few)
