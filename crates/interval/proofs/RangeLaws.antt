-- Raising and cutting make what a read makes.
use Rattle.std.proofs.Common.{◌≡◌, ℕ, ◌≤◌, max, Option, Some, None, refl, sym, ap, ◌∙◌, arith}
use Rattle.kernel_model.specs.Versions.{Version}
use Rattle.kernel_model.specs.Intervals.{Interval, sooner, within}
use Rattle.kernel_model.specs.Chain.{floored}
use Rattle.interval.specs.Ranges.{cut_to, raised_to}

-- at one end
at_end : (end : Option ℕ) (lo : ℕ) (hi : Option ℕ) → (let i : Interval = record { lo = lo; hi = sooner end hi } in i) ≡ cut_to end (record { lo = lo; hi = hi })
at_end None lo hi = refl
at_end (Some e) lo hi = refl

pub raises_and_cuts : (v : Version) (i : Interval) → within (Some v) i ≡ cut_to v.end (raised_to v.begin i)
raises_and_cuts v i = at_end v.end (max v.begin i.lo) i.hi

pub floored_raises_and_cuts : (floor : ℕ) (v : Version) (i : Interval) → floor ≤ i.lo → within (Some v) i ≡ cut_to v.end (raised_to (floored floor v).begin i)
floored_raises_and_cuts floor v i l =
    let same : max (max floor v.begin) i.lo ≡ max v.begin i.lo = omega arith in
    at_end v.end (max v.begin i.lo) i.hi ∙ ap (λ (n : ℕ). cut_to v.end (let j : Interval = record { lo = n; hi = i.hi } in j)) (sym same)
