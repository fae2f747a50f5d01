-- What the tables have of a core, by the stage of its attempt.
use Rattle.std.proofs.Common.{◌≡◌, ℕ, zero, suc, ◌<◌, List, [], ◌∷◌, length, set, get_or, refl, sym, ap, ◌∙◌, subst, arith}
use Rattle.rv_core.specs.State.{MachineState}
use Rattle.device_model.specs.Words.{Words}
use Rattle.interval.specs.Ranges.{range_of}
use Rattle.nv_base.specs.declared.lines.Line.{Line}
use Rattle.set_model.specs.Views.{line_of}
use Rattle.shadow_index.specs.States.{index_of}
use Rattle.table_machine.specs.Tables.{Vacant, Tables}
use Rattle.table_machine.specs.Seats.{SeatTurn}
use Rattle.vol_copy.specs.Tries.{IsFor, IsSeatAt}
use Rattle.vol_copy.specs.declared.attempt.Stage.{Stage}
use Rattle.vol_copy.specs.declared.attempt.Stage.TheVariants as stage
use Rattle.core_seats.specs.Holding.{IsFromSlot, StandsForBy}
use Rattle.kernel_core.specs.Keeping.{IsOn, IsPowered, Keeps}
use Rattle.kernel_core.specs.Turns.{HasTurned, IsAtStage, held_at}
use Rattle.kernel_core.specs.declared.kernel.Kernel.{Kernel}
use Rattle.kernel_core.specs.declared.kernel.Power.TheVariants as power
use Rattle.kernel_core.proofs.Turned.{all_at, seat_at, seats_length}

-- with power on, what has committed is as the tables have it
pub on : (k : Kernel) (words : Words) (t : Tables MachineState) → Keeps k words t → k.power ≡ power.On → IsOn k words t
on k words t h e = subst (IsPowered k words t) e h.powered

-- what the core stands for
pub stands_at : (k : Kernel) (words : Words) (t : Tables MachineState) (n : ℕ) (P : Stage → Type 0) → Keeps k words t → (g : IsAtStage k n P) → IsSeatAt g.seat.attempt (range_of g.seat.reads) g.seat.attempt.stage (held_at t n) × IsFromSlot g.seat.slot (held_at t n)
stands_at k words t n P h g = subst (λ v. StandsForBy g.seat (index_of k.committed.after) v (held_at t n)) g.trying (seat_at k.seats.items (index_of k.committed.after) t.seats n g.seat h.seats g.inside g.seat_is)

pub kept_at : (k : Kernel) (words : Words) (t : Tables MachineState) (n : ℕ) (P : Stage → Type 0) → Keeps k words t → (g : IsAtStage k n P) → IsFor k.set g.seat.attempt
kept_at k words t n P h g = all_at (λ s. IsFor k.set s.attempt) k.seats.items n g.seat h.attempts g.inside g.seat_is

-- without a task
pub blank_seat : (k : Kernel) (words : Words) (t : Tables MachineState) (n : ℕ) → Keeps k words t → IsAtStage k n (λ s. s ≡ stage.Blank) → held_at t n ≡ Vacant
blank_seat k words t n h g = let held = stands_at k words t n _ h g in subst (λ s. IsSeatAt g.seat.attempt (range_of g.seat.reads) s (held_at t n)) g.stage held.0

-- a seat that is put where it stands
pub same_set : {A : Type 0} → (xs : List A) (n : ℕ) (d : A) → n < length xs → set xs n (get_or xs n d) ≡ xs
same_set [] n d l = refl
same_set (x ∷ xs) zero d l = refl
same_set (x ∷ xs) (suc n) d l = ap (λ ys. x ∷ ys) (same_set xs n d (omega (arith, l)))

-- a turn that leaves all as it is
pub nothing_done : (k : Kernel) (words : Words) (t : Tables MachineState) (n : ℕ) (turn : SeatTurn MachineState) (line : Line) → Keeps k words t → n < length k.seats.items → turn.seat ≡ held_at t n → line_of line ≡ turn.line → HasTurned k words t n turn line
nothing_done k words t n turn line h l e f =
    let inside : n < length t.seats = let m = seats_length k.seats.items (index_of k.committed.after) t.seats h.seats in omega (arith, l, m) in
    let same : set t.seats n turn.seat ≡ t.seats = ap (set t.seats n) e ∙ same_set t.seats n Vacant inside in
    record { keeps = subst (λ ss. Keeps k words (record t { seats = ss })) (sym same) h; tells = f }

-- what stands at one number is one
pub same_item : {A : Type 0} → (xs : List A) (m n : ℕ) (x y : A) → x ≡ get_or xs m x → m ≡ n → n < length xs → y ≡ get_or xs n y → x ≡ y
same_item {A} xs m n x y e f l g = e ∙ ap (λ (k : ℕ). get_or xs k x) f ∙ any xs n x y l ∙ sym g
  where
    any : (xs : List A) (n : ℕ) (x y : A) → n < length xs → get_or xs n x ≡ get_or xs n y
    any [] n x y l = absurd (omega (arith, l))
    any (z ∷ xs) zero x y l = refl
    any (z ∷ xs) (suc n) x y l = any xs n x y (omega (arith, l))
