-- The turns of an attempt as turns of the seats that it stands for.
use Rattle.std.proofs.Common.{◌≡◌, ℕ, ◌+◌, Bool, true, false, List, Option, Some, None, refl, sym, ap, subst, ◌∙◌}
use Rattle.rv_core.specs.State.{MachineState}
use Rattle.nv_base.specs.declared.ids.ObjId.{ObjId}
use Rattle.kernel_model.specs.Intervals.{Interval}
use Rattle.slot_model.specs.Tabled.{Pin, Place, View, with_place}
use Rattle.set_model.specs.Sets.{TaskSet}
use Rattle.set_model.specs.Views.{outcome_of}
use Rattle.device_model.specs.Words.{Words}
use Rattle.device_model.specs.Layouts.{Layout, slot_place}
use Rattle.table_machine.specs.Tables.{Copies, Runs, Seat, Tables, Try, Waits}
use Rattle.table_machine.specs.Places.{pin_by, view_by}
use Rattle.table_machine.specs.Seats.{copy_word, open_copy, seat_turn, still, task_on}
use Rattle.vol_copy.specs.declared.attempt.Attempt.{Attempt}
use Rattle.vol_copy.specs.declared.attempt.Stage.{Stage}
use Rattle.vol_copy.specs.declared.attempt.Stage.TheVariants as stage
use Rattle.vol_copy.specs.declared.running.Need.{Need}
use Rattle.vol_copy.specs.declared.running.Need.TheVariants as need
use Rattle.vol_copy.specs.declared.want.Want.{Want}
use Rattle.vol_copy.specs.Stages.{IsFetching}
use Rattle.vol_copy.specs.Tries.{IsCopyingTry, IsFor, IsSeat, IsSeatAt, IsTry, slot_on, task_in, view_in}
use Rattle.vol_copy.specs.Turns.{Advances, CopiesTo, CopiesWord, IsInNeed, LeadsTo, OpensRead, TurnsTo, setting_of}

-- at a known stage
seat_at : (a : Attempt) (i : Interval) (s : Stage) (seat : Seat MachineState) → a.stage ≡ s → IsSeatAt a i s seat → IsSeat a i seat
seat_at a i s seat e h = subst (λ x. IsSeatAt a i x seat) (sym e) h

pub advance_turns : (set : TaskSet) (old new : Attempt) (p : Need) → old.stage ≡ stage.Running → Advances set old new p → IsInNeed new p → (i : Interval) (seat : Seat MachineState) → IsSeat old i seat
    → (layout : Layout) (tables : Tables MachineState) (words : Words) (others : List (Seat MachineState)) (n : ℕ) → TurnsTo new i p tables.chains n (seat_turn (setting_of set layout) tables words others n seat)
unfolding Advances
advance_turns set old new p running advances there i seat h layout tables words others n =
    let r = subst (λ x. IsSeatAt old i x seat) running h in
    subst (λ c. TurnsTo new i p tables.chains n (seat_turn (setting_of set layout) tables words others n c)) (sym r.3)
    (go p there r.0 r.2 (advances r.0 r.1 tables.chains n))
  where
    go : (q : Need) → IsInNeed new q → (t : Try MachineState) → t.interval ≡ i → LeadsTo set new q tables.chains n t ((setting_of set layout).steps.step t.state)
        → TurnsTo new i q tables.chains n (seat_turn (setting_of set layout) tables words others n (Runs t))
    go need.Went at t e g = (Runs g.0, seat_at new i stage.Running (Runs g.0) at (g.0, g.1, g.2 ∙ e, refl), g.3)
    go (need.Fetch o) at t e g = (record t { state = new.machine }, g.0, e, g.1)
    go need.Ready at t e g = (Waits t (outcome_of g.0), seat_at new i (stage.Ready g.0) (Waits t (outcome_of g.0)) g.1 (t, g.2, e, refl), g.3)

pub open_turns : (old new : Attempt) (o : ObjId) → IsFetching o old.stage → OpensRead old o new → (t : Try MachineState) → IsTry old t → (p : Place) → IsSeat new (with_place p t.interval) (open_copy t t.state o.0 (Some p)).seat
unfolding OpensRead
open_turns old new o f opens t h p = seat_at new (with_place p t.interval) (stage.Copying o f.0 0) _ (opens.0 f.0 f.1) (_, p.slot, opens.1 t (with_place p t.interval) h, refl, refl)

pub copy_turns : (set : TaskSet) (old new : Attempt) (word : ℕ) (last : Bool) → IsFor set old → CopiesWord old word new last → (o : ObjId) (w : Want) (copied : ℕ) → old.stage ≡ stage.Copying o w copied
    → (t : Try MachineState) (slot : ℕ) → IsCopyingTry old o.0 copied t → (layout : Layout) (tables : Tables MachineState) (words : Words) (others : List (Seat MachineState)) (n : ℕ)
    → word ≡ words (slot_place layout set o.0 slot + copied)
    → (seat : Seat MachineState) × IsSeat new t.interval seat × (seat_turn (setting_of set layout) tables words others n (Copies t slot) ≡ still seat)
unfolding CopiesWord
copy_turns set old new word last kept copies o w copied e t slot h layout tables words others n at = go last ((copies set kept o w copied e).1 layout words t slot h at)
  where
    go : (b : Bool) → CopiesTo new o w copied b t slot (copy_word (setting_of set layout) words t slot t.copies)
        → (seat : Seat MachineState) × IsSeat new t.interval seat × (seat_turn (setting_of set layout) tables words others n (Copies t slot) ≡ still seat)
    go false g = let u = g.1.0 in (Copies u slot, seat_at new t.interval (stage.Copying o w (copied + 1)) (Copies u slot) g.0 (u, slot, g.1.1, g.1.2, refl), g.1.3)
    go true g = let u = g.1.0 in (Runs u, seat_at new t.interval stage.Running (Runs u) g.0 (u, g.1.1, g.1.2, refl), g.1.3)

-- what is seen of a seat
pub seat_view : (a : Attempt) (i : Interval) (seat : Seat MachineState) → IsSeat a i seat → view_by seat ≡ view_in i (slot_on seat) a.stage
seat_view a i seat h = at a.stage h
  where
    some : Interval → Option Pin → Option View
    some j pin = Some (record { interval = j; copying = pin })

    at : (s : Stage) → IsSeatAt a i s seat → view_by seat ≡ view_in i (slot_on seat) s
    at stage.Blank h = ap view_by h
    at stage.Running h = ap view_by h.3 ∙ ap (λ j. some j None) h.2
    at (stage.Fetching o w) h = absurd h
    at (stage.Copying o w copied) h =
        ap view_by h.4
        ∙ ap (λ j. some j (pin_by h.1 h.0.copies)) h.3
        ∙ ap (λ copies. some i (pin_by h.1 copies)) h.2.newest
        ∙ ap (λ slot. view_in i slot (stage.Copying o w copied)) (sym (ap slot_on h.4))
    at (stage.Ready outcome) h = ap view_by h.3 ∙ ap (λ j. some j None) h.2

pub seat_task : (a : Attempt) (i : Interval) (seat : Seat MachineState) → IsSeat a i seat → task_on seat ≡ task_in a a.stage
seat_task a i seat h = at a.stage h
  where
    at : (s : Stage) → IsSeatAt a i s seat → task_on seat ≡ task_in a s
    at stage.Blank h = ap task_on h
    at stage.Running h = ap task_on h.3 ∙ ap Some h.1.done.task
    at (stage.Fetching o w) h = absurd h
    at (stage.Copying o w copied) h = ap task_on h.4 ∙ ap Some h.2.done.task
    at (stage.Ready outcome) h = ap task_on h.3 ∙ ap Some h.1.task
