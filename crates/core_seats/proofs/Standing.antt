-- Which try a core stands for, by how far its attempt is.
use Rattle.std.proofs.Common.{◌≡◌, ℕ, None, refl, sym, ap, ◌∙◌, subst}
use Rattle.rv_core.specs.State.{MachineState}
use Rattle.nv_base.specs.declared.ids.ObjId.{ObjId}
use Rattle.device_model.specs.IndexWords.{Index}
use Rattle.interval.specs.Ranges.{range_of}
use Rattle.table_machine.specs.Tables.{Try, Seat, Runs, Copies}
use Rattle.table_machine.specs.Seats.{SeatTurn, still}
use Rattle.vol_copy.specs.Tries.{IsCopyingTry, IsSeatAt, IsTry}
use Rattle.vol_copy.specs.declared.attempt.Stage.TheVariants as stage
use Rattle.vol_copy.specs.declared.want.Want.{Want}
use Rattle.core_seats.specs.Holding.{StandsFor, StandsForBy}
use Rattle.core_seats.specs.Steps.{Leaves}
use Rattle.core_seats.specs.declared.seat.Seat as own

-- a core that runs a try
pub running_try : (s : own.Seat) (after : Index) (t : Try MachineState) → s.saving ≡ None → s.attempt.stage ≡ stage.Running → StandsFor s after (Runs t) → IsTry s.attempt t × (t.interval ≡ range_of s.reads)
running_try s after t e f h =
    let held = subst (λ v. StandsForBy s after v (Runs t)) e h in
    let found = subst (λ v. IsSeatAt s.attempt (range_of s.reads) v (Runs t)) f held.0 in
    let same : t ≡ found.0 = cc found.3 in
    (subst (IsTry s.attempt) (sym same) found.1, ap (λ (u : Try MachineState). u.interval) same ∙ found.2)

-- a core that copies
pub copying_try : (s : own.Seat) (after : Index) (t : Try MachineState) (slot : ℕ) (o : ObjId) (w : Want) (copied : ℕ) → s.saving ≡ None → s.attempt.stage ≡ stage.Copying o w copied → StandsFor s after (Copies t slot)
    → IsCopyingTry s.attempt o.0 copied t × (t.interval ≡ range_of s.reads)
copying_try s after t slot o w copied e f h =
    let held = subst (λ v. StandsForBy s after v (Copies t slot)) e h in
    let found = subst (λ v. IsSeatAt s.attempt (range_of s.reads) v (Copies t slot)) f held.0 in
    let same : t ≡ found.0 = cc found.4 in
    (subst (IsCopyingTry s.attempt o.0 copied) (sym same) found.2, ap (λ (u : Try MachineState). u.interval) same ∙ found.3)

-- a turn that tells nothing leaves this seat
pub leaves_still : (new : own.Seat) (after : Index) (n task : ℕ) (seat : Seat MachineState) (turn : SeatTurn MachineState) → turn ≡ still seat → StandsFor new after seat → Leaves new after n task None turn
leaves_still new after n task seat turn e h = subst (Leaves new after n task None) (sym e) (record { stands = h; tells = refl })
