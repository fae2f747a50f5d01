-- A place among those of the code, by the last program that does not begin behind it.
use Rattle.std.proofs.Common.{◌≡◌, ℕ, ◌+◌, ◌-◌, ◌*◌, ◌<◌, ◌≤◌, ⊎_elim, [], length, slice_index, arith, ap, sym, ◌∙◌}
use Rattle.std.proofs.lemmas.Bool.{cases_lt}
use Rattle.std.proofs.lemmas.List.{get_or_past}
use Rattle.set_model.specs.Sets.{TaskSet, program_at}
use Rattle.device_model.specs.Layouts.{code_before, code_place, header}
use Rattle.device_model.proofs.ForCallers.{header-code, length-header}
use Rattle.shadow_index.proofs.Filling.{code_all, code_more, code_none}

-- the code stands behind the directory
pub first_code : (set : TaskSet) → code_place set 0 ≡ 7 + length set.objects + 2 * length set.programs
first_code set = omega (arith, code_none set.programs)

pub code_inside : (magic : ℕ) (set : TaskSet) (p at : ℕ) → p < length set.programs → code_place set p ≤ at → at - code_place set p < length (program_at set p).code → slice_index (program_at set p).code (at - code_place set p) ≡ slice_index (header magic set) at
code_inside magic set p at l m i =
    let e : code_place set p + (at - code_place set p) ≡ at = omega arith in
    sym ((header-code magic set p (at - code_place set p) l i).0) ∙ ap (slice_index (header magic set)) e

pub code_behind : (magic : ℕ) (set : TaskSet) (p at : ℕ) → p < length set.programs → code_place set p ≤ at → length (program_at set p).code ≤ at - code_place set p → (p + 1 < length set.programs → at < code_place set (p + 1)) → 0 ≡ slice_index (header magic set) at
code_behind magic set p at l m i next = ⊎_elim (λ a. absurd (let n = next a in omega (arith, n, more))) last (cases_lt (p + 1) (length set.programs))
  where
    more : code_before set.programs (p + 1) ≡ code_before set.programs p + length (program_at set p).code
    more = code_more set.programs (record { name = []; fuel = 0; code = [] }) p l

    last : length set.programs ≤ p + 1 → 0 ≡ slice_index (header magic set) at
    last a =
        let e : p + 1 ≡ length set.programs = omega arith in
        let all = ap (code_before set.programs) e ∙ code_all set.programs in
        sym (get_or_past (header magic set) at 0 (omega (arith, length-header magic set, all, more)))
