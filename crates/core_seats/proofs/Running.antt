-- One step of a try that runs.
use Rattle.std.proofs.Common.{◌≡◌, List, Option, None, Some, false, is_some, refl, sym, ◌∙◌, subst}
use Rattle.nv_base.specs.declared.ids.ObjId.{ObjId}
use Rattle.set_model.specs.Sets.{TaskSet}
use Rattle.set_model.specs.Views.{outcome_of}
use Rattle.interval.specs.Ranges.{range_of}
use Rattle.table_machine.specs.Tables.{Runs, Waits}
use Rattle.ver_table.specs.Chains.{Chain}
use Rattle.ver_table.specs.Tabled.{all_tabled}
use Rattle.validate.specs.declared.reading.Stale.{Stale}
use Rattle.vol_copy.specs.Tries.{IsSeatAt}
use Rattle.vol_copy.specs.Turns.{Advances}
use Rattle.vol_copy.specs.declared.attempt.Attempt.{Attempt}
use Rattle.vol_copy.specs.declared.attempt.Stage.TheVariants as stage
use Rattle.vol_copy.specs.declared.running.Need.TheVariants as need
use Rattle.core_seats.specs.Holding.{StandsForBy}
use Rattle.core_seats.specs.Steps.{Fetches, Leaves, RunsOn}
use Rattle.core_seats.specs.declared.seat.Saving.{Saving}
use Rattle.core_seats.specs.declared.seat.Seat.{Seat}
use Rattle.core_seats.proofs.Standing.{leaves_still, running_try}

-- no finish commits
pub no_finish : (v : Option Saving) → is_some v ≡ false → v ≡ None
no_finish None e = refl
no_finish (Some v) e = cc e

-- it runs on
pub runs_on : (set : TaskSet) (chains : List Chain) (old : Seat) (a : Attempt) → old.saving ≡ None → old.attempt.stage ≡ stage.Running → a.stage ≡ stage.Running → Advances set old.attempt a need.Went → RunsOn set chains old (record old { attempt = a }) None
unfolding RunsOn Advances
runs_on set chains old a e f now h = λ after n t g.
    let new : Seat = record old { attempt = a } in
    let held = running_try old after t e f g in
    let step = h t held.0 (all_tabled chains) n in
    let stands = subst (λ s. IsSeatAt a (range_of old.reads) s (Runs step.0)) (sym now) (step.0, step.1, step.2 ∙ held.1, refl) in
    leaves_still new after n t.task (Runs step.0) _ step.3 (subst (λ v. StandsForBy new after v (Runs step.0)) (sym e) (stands, tt))

-- it has ended
pub has_ended : (set : TaskSet) (chains : List Chain) (old : Seat) (a : Attempt) → old.saving ≡ None → old.attempt.stage ≡ stage.Running → Advances set old.attempt a need.Ready → RunsOn set chains old (record old { attempt = a }) None
unfolding RunsOn Advances
has_ended set chains old a e f h = λ after n t g.
    let new : Seat = record old { attempt = a } in
    let held = running_try old after t e f g in
    let step = h t held.0 (all_tabled chains) n in
    let seat = Waits t (outcome_of step.0) in
    let stands = subst (λ s. IsSeatAt a (range_of old.reads) s seat) (sym step.1) (t, step.2, held.1, refl) in
    leaves_still new after n t.task seat _ step.3 (subst (λ v. StandsForBy new after v seat) (sym e) (stands, tt))

-- it reads from outside
pub reads_outside : (set : TaskSet) (chains : List Chain) (old new : Seat) (a : Attempt) (o : ObjId) (told : Option Stale) → old.saving ≡ None → old.attempt.stage ≡ stage.Running → Advances set old.attempt a (need.Fetch o) → Fetches chains (record old { attempt = a }) o new told → RunsOn set chains old new told
unfolding RunsOn Advances Fetches
reads_outside set chains old new a o told e f h fetches = λ after n t g.
    let held = running_try old after t e f g in
    let step = h t held.0 (all_tabled chains) n in
    subst (Leaves new after n t.task told) (sym step.1) (fetches after n t a.machine step.0 held.1)
