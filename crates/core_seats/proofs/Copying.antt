-- One word of a copy.
use Rattle.std.proofs.Common.{◌≡◌, ℕ, Bool, true, false, None, refl, sym, ◌∙◌, subst}
use Rattle.rv_core.specs.State.{MachineState}
use Rattle.nv_base.specs.declared.ids.ObjId.{ObjId}
use Rattle.kernel_model.specs.Turns as turns
use Rattle.device_model.specs.IndexWords.{Index}
use Rattle.interval.specs.Ranges.{range_of}
use Rattle.table_machine.specs.Tables.{Try, Copies, Runs}
use Rattle.table_machine.specs.Seats.{SeatTurn}
use Rattle.vol_copy.specs.Tries.{IsSeatAt}
use Rattle.vol_copy.specs.Turns.{CopiesTo, CopiesWord}
use Rattle.vol_copy.specs.declared.attempt.Attempt.{Attempt}
use Rattle.vol_copy.specs.declared.want.Want.{Want}
use Rattle.core_seats.specs.Holding.{StandsFor, StandsForBy}
use Rattle.core_seats.specs.Steps.{CopiesOn}
use Rattle.core_seats.specs.declared.seat.Seat as own
use Rattle.core_seats.proofs.Standing.{copying_try}

-- whether it was the last one or not
copied_to : (old : own.Seat) (a : Attempt) (after : Index) (o : ObjId) (w : Want) (copied : ℕ) (last : Bool) (t : Try MachineState) (turn : SeatTurn MachineState) → old.saving ≡ None → t.interval ≡ range_of old.reads → CopiesTo a o w copied last t old.slot turn
    → (let new : own.Seat = record old { attempt = a } in StandsFor new after turn.seat × (turn.line ≡ turns.Nothing))
copied_to old a after o w copied false t turn e f h =
    let new : own.Seat = record old { attempt = a } in
    let seat = Copies h.1.0 old.slot in
    let stands = subst (λ s. IsSeatAt a (range_of old.reads) s seat) (sym h.0) (h.1.0, old.slot, h.1.1, h.1.2 ∙ f, refl) in
    subst (λ (x : SeatTurn MachineState). StandsFor new after x.seat × (x.line ≡ turns.Nothing)) (sym h.1.3) (subst (λ v. StandsForBy new after v seat) (sym e) (stands, refl), refl)
copied_to old a after o w copied true t turn e f h =
    let new : own.Seat = record old { attempt = a } in
    let seat = Runs h.1.0 in
    let stands = subst (λ s. IsSeatAt a (range_of old.reads) s seat) (sym h.0) (h.1.0, h.1.1, h.1.2 ∙ f, refl) in
    subst (λ (x : SeatTurn MachineState). StandsFor new after x.seat × (x.line ≡ turns.Nothing)) (sym h.1.3) (subst (λ v. StandsForBy new after v seat) (sym e) (stands, tt), refl)

pub copies_on : (old : own.Seat) (a : Attempt) (word : ℕ) (last : Bool) → old.saving ≡ None → CopiesWord old.attempt word a last → CopiesOn old word (record old { attempt = a })
unfolding CopiesOn CopiesWord
copies_on old a word last e h = λ set kept after o w copied f layout words t g is.
    let held = copying_try old after t old.slot o w copied e f g in
    copied_to old a after o w copied last t _ e held.1 ((h set kept o w copied f).1 layout words t old.slot held.0 is)
