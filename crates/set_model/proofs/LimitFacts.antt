-- What the limits by format say of any format, and ranges by their test.
use Rattle.std.proofs.Common.{◌≡◌, ℕ, ◌≤◌, ◌==◌, Bool, true, false, cond, length, arith}
use Rattle.std.specs.Prelude.{nat_le}
use Rattle.std.specs.Int.{is_in_range}
use Rattle.std.proofs.lemmas.Bool.{and_from, and_parts, le-leb, leb-true}
use Rattle.nv_base.specs.declared.limits.TheConstants.{MAX_OBJECTS, MAX_OBJECTS_1, MAX_RECORDS, MAX_RECORDS_1}
use Rattle.set_model.specs.Sets.{TaskSet}
use Rattle.set_model.specs.Limits.{IsTaskSet, IsWithin, max_objects, max_records}

objects_by : (b : Bool) → cond b MAX_OBJECTS_1 MAX_OBJECTS ≤ MAX_OBJECTS
objects_by true = omega arith
objects_by false = omega arith

records_by : (b : Bool) → cond b MAX_RECORDS_1 MAX_RECORDS ≤ MAX_RECORDS
records_by true = omega arith
records_by false = omega arith

pub most_objects : (format : ℕ) → max_objects format ≤ MAX_OBJECTS
most_objects format = objects_by (format == 1)

pub most_records : (format : ℕ) → max_records format ≤ MAX_RECORDS
most_records format = records_by (format == 1)

pub few_objects : (set : TaskSet) → IsTaskSet set → length set.objects ≤ MAX_OBJECTS
few_objects set h = let l : length set.objects ≤ max_objects set.format = h.objects.1 in omega (arith, l, most_objects set.format)

pub few_records : (set : TaskSet) → IsTaskSet set → set.records ≤ MAX_RECORDS
few_records set h = let l : set.records ≤ max_records set.format = h.records.1 in omega (arith, l, most_records set.format)

pub few_tasks : (set : TaskSet) → IsTaskSet set → length set.tasks ≤ MAX_RECORDS
few_tasks set h = omega (arith, h.tasks, few_records set h)

-- the test for a range, and what it says
pub range_means : (low high n : ℕ) → is_in_range low high n ≡ true → IsWithin low high n
range_means low high n e = let h = and_parts (nat_le low n) (nat_le n high) e in (leb-true low n h.0, leb-true n high h.1)

pub range_told : (low high n : ℕ) → IsWithin low high n → is_in_range low high n ≡ true
range_told low high n h = and_from (nat_le low n) (nat_le n high) (le-leb low n h.0) (le-leb n high h.1)
