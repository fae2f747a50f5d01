-- Several of a kind, read one after another: one more, a stop, and the end.
use Rattle.std.proofs.Common.{◌≡◌, ℕ, suc, ◌+◌, ◌-◌, ◌<◌, ◌≤◌, List, [], ◌∷◌, ◌++◌, Result, Ok, Err, refl, sym, ◌∙◌, arith}
use Rattle.nv_base.specs.declared.refusals.Refusal.{Refusal}
use Rattle.nv_base.specs.declared.refusals.Refusal.TheVariants as stop
use Rattle.nv_base.specs.Refusals.{Refuses}
use Rattle.task_image.specs.Reading.{Here, Reader, several}

pub several_more : {A : Type 0} (n i : ℕ) (next : List A → Reader A) (before : List A) (here there : Here) (one : A) (total : Result (List A × Here) ℕ)
    → i < n → next before here ≡ Ok (one, there) → several (n - i) next before here ≡ total → several (n - (i + 1)) next (before ++ one ∷ []) there ≡ total
unfolding several
several_more n i next before here there one total lt h so_far =
    let k : n - i ≡ suc (n - (i + 1)) = omega arith in
    sym (rw (k, h) refl) ∙ so_far

pub several_stop : {A : Type 0} (e : Refusal ℕ) (n i : ℕ) (next : List A → Reader A) (before : List A) (here : Here) (total : Result (List A × Here) ℕ)
    → i < n → Refuses e (next before here) → several (n - i) next before here ≡ total → Refuses e total
unfolding several
several_stop stop.NoMemory n i next before here total lt h so_far = tt
several_stop (stop.At place) n i next before here total lt h so_far =
    let k : n - i ≡ suc (n - (i + 1)) = omega arith in
    let one : several (n - i) next before here ≡ Err place = rw (k, h) refl in
    sym so_far ∙ one

pub several_done : {A : Type 0} (n i : ℕ) (next : List A → Reader A) (before : List A) (here : Here) (total : Result (List A × Here) ℕ)
    → n ≤ i → several (n - i) next before here ≡ total → total ≡ Ok (before, here)
unfolding several
several_done n i next before here total le so_far =
    let k : n - i ≡ 0 = omega arith in
    let one : several (n - i) next before here ≡ Ok (before, here) = rw k refl in
    sym so_far ∙ one
