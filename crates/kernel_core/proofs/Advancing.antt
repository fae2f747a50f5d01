-- One step of a try that runs.
use Rattle.std.proofs.Common.{◌≡◌, ℕ, ◌<◌, ◌++◌, ◌∷◌, Bool, true, false, cond, nat_lt, List, [], length, Option, Some, None, refl, sym, ap, ◌∙◌, subst}
use Rattle.std.specs.Prelude.{IsSome, unwrap_or}
use Rattle.rv_core.specs.State.{MachineState}
use Rattle.nv_base.specs.declared.ids.CoreId.{CoreId}
use Rattle.nv_base.specs.declared.ids.TaskId.{TaskId}
use Rattle.nv_base.specs.declared.lines.Line.TheVariants as line
use Rattle.nv_base.specs.declared.lines.Line as lines
use Rattle.kernel_model.specs.Effects.{Trap, written}
use Rattle.kernel_model.specs.Runs.{Step, Went, Reads, Writes, Spawns, Ends, max_spawns, spawns_cause}
use Rattle.kernel_model.specs.Turns as turns
use Rattle.kernel_model.specs.Intervals.{is_empty}
use Rattle.kernel_model.specs.Cores.{all_but}
use Rattle.set_model.specs.Sets.{TaskSet}
use Rattle.set_model.specs.Views.{line_of}
use Rattle.device_model.specs.Words.{Words}
use Rattle.interval.specs.Ranges.{number_of, range_of}
use Rattle.slot_model.specs.Tabled.{Place, chosen_place}
use Rattle.shadow_index.specs.States as states
use Rattle.task_model.specs.TaskSteps.{task_steps}
use Rattle.table_machine.specs.Tables.{Seat, Vacant, Runs, Saves, Try, Tables}
use Rattle.table_machine.specs.Tables as table
use Rattle.table_machine.specs.Places.{places_at}
use Rattle.table_machine.specs.Seats.{SeatTurn, copy_of, fetch_version, open_copy, read_object, run_step, seat_turn, still}
use Rattle.ver_table.specs.Chains.{Chain, chain_at, newest_before}
use Rattle.ver_table.specs.Tabled.{all_tabled, tabled}
use Rattle.validate.specs.declared.reading.Stale.{Stale}
use Rattle.vol_copy.specs.Tries.{IsFor, IsSeatAt, IsTry}
use Rattle.vol_copy.specs.declared.attempt.Stage.TheVariants as stage
use Rattle.core_seats.specs.declared.seat.Seat as own
use Rattle.core_seats.specs.Holding.{StandsFor}
use Rattle.core_seats.specs.Steps.{HasVersions, RunsOn, Tells}
use Rattle.core_seats.proofs.Standing.{running_try}
use Rattle.committed_state.proofs.Joined.{count_versions}
use Rattle.kernel_core.specs.Commits.{setting_on}
use Rattle.kernel_core.specs.Keeping.{IsLawful, Keeps}
use Rattle.kernel_core.specs.Turns.{HasTurned, IsAtStage, SeatTurns, held_at, turn_at}
use Rattle.kernel_core.specs.declared.kernel.Kernel.{Kernel}
use Rattle.kernel_core.proofs.Turned.{SavesNone, seat_at, seated, turned}
use Rattle.kernel_core.proofs.AtStage.{on, stands_at}
use Rattle.kernel_core.proofs.Versions.{version_exists}

-- the seat that runs
pub runs_at : (k : Kernel) (words : Words) (t : Tables MachineState) (n : ℕ) → Keeps k words t → (g : IsAtStage k n (λ s. s ≡ stage.Running)) → (u : Try MachineState) × (held_at t n ≡ Runs u)
runs_at k words t n h g =
    let held = stands_at k words t n _ h g in
    let found = subst (λ s. IsSeatAt g.seat.attempt (range_of g.seat.reads) s (held_at t n)) g.stage held.0 in
    (found.0, found.3)

-- what the laws of the table say
abbrev pub TabledLaw : Type 0
TabledLaw = (chains : List Chain) (o : ℕ) → table.chain_at (all_tabled chains) o ≡ tabled (chain_at chains o)

abbrev pub ChosenLaw : Type 0
ChosenLaw = (hi : Option ℕ) (c : Chain) → chosen_place hi (tabled c).places ≡ newest_before hi c.stored

-- the table has a version of each object for it
pub has_versions : (k : Kernel) (words : Words) (t : Tables MachineState) (n : ℕ) → TabledLaw → ChosenLaw → Keeps k words t → IsLawful k words t → (g : IsAtStage k n (λ s. s ≡ stage.Running)) → HasVersions k.set g.seat.reads k.committed.versions
has_versions k words t n tabled_law chosen_law h l g = record {
  number = count_versions k.set k.committed.versions h.rooms.slots;
  begun = λ o inside some. at o inside some;
}
  where
    found : (u : Try MachineState) × (held_at t n ≡ Runs u)
    found = runs_at k words t n h g

    interval : found.0.interval ≡ range_of g.seat.reads
    interval = (running_try g.seat (states.index_of k.committed.after) found.0 g.trying g.stage (subst (StandsFor g.seat (states.index_of k.committed.after)) found.1 (seat_at k.seats.items (states.index_of k.committed.after) t.seats n g.seat h.seats g.inside g.seat_is))).1

    at : (o : ℕ) → o < length k.set.objects → is_empty (range_of g.seat.reads) ≡ false → IsSome (newest_before (number_of g.seat.reads.hi) (chain_at k.committed.versions o).stored)
    at o inside some =
        let on = on k words t h g.power in
        let p = version_exists (setting_on k.set words) l.base l.last l.represented.0 t words l.state n found.0 l.represented.1 on.power found.1 (ap is_empty interval ∙ some) o inside in
        let same : newest_before (number_of g.seat.reads.hi) (chain_at k.committed.versions o).stored ≡ Some p.0 =
        sym (chosen_law (range_of g.seat.reads).hi (chain_at k.committed.versions o))
        ∙ ap (λ (c : table.Chain). chosen_place (range_of g.seat.reads).hi c.places) (sym (tabled_law k.committed.versions o))
        ∙ ap (λ (cs : List table.Chain). chosen_place (range_of g.seat.reads).hi (places_at cs o)) (sym on.chains)
        ∙ ap (λ i. chosen_place i.hi (places_at t.chains o)) (sym interval) ∙ p.1 in
        subst IsSome (sym same) refl

-- a step of a try leaves no finish that commits
open_saves_none : (a : Try MachineState) (m : MachineState) (o : ℕ) (p : Option Place) → SavesNone (open_copy a m o p).seat
open_saves_none a m o None = λ i after left e. cc e
open_saves_none a m o (Some p) = λ i after left e. cc e

fetch_saves_none : (chains : List table.Chain) (n : ℕ) (a : Try MachineState) (m : MachineState) (o : ℕ) → SavesNone (fetch_version chains n a m o).seat
fetch_saves_none chains n a m o = at (is_empty a.interval) (open_saves_none a m o (chosen_place a.interval.hi (places_at chains o)))
  where
    at : (b : Bool) → SavesNone (open_copy a m o (chosen_place a.interval.hi (places_at chains o))).seat
        → SavesNone (cond b (record { seat = Vacant; line = turns.Stale n a.task a.interval.lo (unwrap_or a.interval.hi 0) }) (open_copy a m o (chosen_place a.interval.hi (places_at chains o)))).seat
    at true rest = λ i after left e. cc e
    at false rest = rest

read_saves_none : (set : TaskSet) (chains : List table.Chain) (n : ℕ) (a : Try MachineState) (m : MachineState) (o : ℕ) (words : Option (List ℕ)) (copy : Option table.Copy) → SavesNone (read_object (task_steps set) chains n a m o words copy).seat
read_saves_none set chains n a m o (Some words) copy = λ i after left e. cc e
read_saves_none set chains n a m o None (Some copy) = λ i after left e. cc e
read_saves_none set chains n a m o None None = fetch_saves_none chains n a m o

run_saves_none : (set : TaskSet) (chains : List table.Chain) (n : ℕ) (a : Try MachineState) (step : Step MachineState) → SavesNone (run_step (task_steps set) chains n a step).seat
run_saves_none set chains n a (Went m) = λ i after left e. cc e
run_saves_none set chains n a (Reads m o) = read_saves_none set chains n a m o (written a.writes o) (copy_of o a.copies)
run_saves_none set chains n a (Writes m w) = λ i after left e. cc e
run_saves_none set chains n a (Spawns m spawn) = at (nat_lt (length a.spawns) max_spawns)
  where
    at : (b : Bool) → SavesNone (cond b (still (Runs (record a { spawns = a.spawns ++ spawn ∷ []; state = (task_steps set).spawned m (length a.spawns) }))) (still (table.Waits a (Trap spawns_cause)))).seat
    at true = λ i after left e. cc e
    at false = λ i after left e. cc e
run_saves_none set chains n a (Ends outcome) = λ i after left e. cc e

-- the turn, by what the core's own step says
turned_by : (k : Kernel) (n : ℕ) (s : own.Seat) (stale : Option Stale) (told : lines.Line) → (g : IsAtStage k n (λ s. s ≡ stage.Running)) → IsFor k.set s.attempt → RunsOn k.set k.committed.versions g.seat s stale → ((u : Try MachineState) (says : turns.Line) → IsTry g.seat.attempt u → Tells n u.task stale says → line_of told ≡ says)
    → SeatTurns k n (seated k n s) told
unfolding SeatTurns RunsOn
turned_by k n s stale told g kept runs says = λ words t h lawful.
    let after = states.index_of k.committed.after in
    let found = runs_at k words t n h g in
    let stands = subst (StandsFor g.seat after) found.1 (seat_at k.seats.items after t.seats n g.seat h.seats g.inside g.seat_is) in
    let tried = (running_try g.seat after found.0 g.trying g.stage stands).0 in
    let leaves = runs after n found.0 stands in
    let steps = task_steps k.set in
    let turn : turn_at k words t n ≡ run_step steps (all_tabled k.committed.versions) n found.0 (steps.step found.0.state) =
    ap (seat_turn (setting_on k.set words) t words (all_but n t.seats) n) found.1 ∙ ap (λ (cs : List table.Chain). run_step steps cs n found.0 (steps.step found.0.state)) (on k words t h g.power).chains in
    subst (λ (u : SeatTurn MachineState). HasTurned (seated k n s) words t n u told) (sym turn)
    (record { keeps = turned k words t n s _ h g.power kept leaves.stands (run_saves_none k.set _ n found.0 _); tells = says found.0 _ tried leaves.tells })

pub runs_on : (k : Kernel) (core : CoreId) (s : own.Seat) → (g : IsAtStage k core.0 (λ s. s ≡ stage.Running)) → IsFor k.set s.attempt → RunsOn k.set k.committed.versions g.seat s None → SeatTurns k core.0 (seated k core.0 s) line.Nothing
runs_on k core s g kept runs = turned_by k core.0 s None line.Nothing g kept runs (λ u says tried e. sym e)

pub is_stale : (k : Kernel) (core : CoreId) (s : own.Seat) (stale : Stale) (task : TaskId) → (g : IsAtStage k core.0 (λ s. s ≡ stage.Running)) → IsFor k.set s.attempt → RunsOn k.set k.committed.versions g.seat s (Some stale) → task ≡ g.seat.attempt.task
    → SeatTurns k core.0 (seated k core.0 s) (line.Stale core task stale.lo stale.hi)
is_stale k core s stale task g kept runs e =
    turned_by k core.0 s (Some stale) (line.Stale core task stale.lo stale.hi) g kept runs
    (λ u says tried f. ap (λ (x : ℕ). turns.Stale core.0 x stale.lo.0 stale.hi.0) (ap (λ (x : TaskId). x.0) e ∙ sym tried.done.task) ∙ sym f)
