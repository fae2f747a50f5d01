-- The object that a refused finish has no room for is of the set.
use Rattle.std.proofs.Common.{◌≡◌, ◌<◌, ℕ, zero, suc, Bool, true, false, cond, List, [], ◌∷◌, get_or, Some, nat_eq, length, subst}
use Rattle.std.specs.List.{AllByRecursion}
use Rattle.rv_core.specs.State.{MachineState}
use Rattle.kernel_model.specs.Effects.{Exit, Outcome, Trap, Write}
use Rattle.kernel_model.specs.Items.{FinishRecord}
use Rattle.kernel_model.specs.Replay.{DeviceState}
use Rattle.kernel_model.specs.Sizes.{Sizes}
use Rattle.kernel_model.specs.Worlds.{World}
use Rattle.kernel_model.specs.Cores.{Attempt, Core, Idle, Ready, all_but, run_of}
use Rattle.kernel_model.specs.Room.{has_room, without_room}
use Rattle.kernel_model.specs.Turns.{Line, Nothing, RefuseSlots, core_turn}
use Rattle.kernel_model.specs.Events.{Boot, CoreStep, Event, Fail, On, Power, State, boot_turn, core_event, event_step}
use Rattle.kernel_model.specs.Fit.{IsWrite}
use Rattle.kernel_model.proofs.LineLaws.{turn_prints}
use Rattle.device_model.specs.Words.{Words}
use Rattle.table_machine.specs.Represents.{IsFitting}
use Rattle.headline.specs.Runs.{Origin, world_from}
use Rattle.kernel_core.specs.Events.{IsAt}
use Rattle.kernel_core.specs.declared.kernel.Kernel.{Kernel}

-- the object of a refused slot is below a number
abbrev Names : ℕ → Line → Type 0
Names count line = (core task object : ℕ) → line ≡ RefuseSlots core task object → object < count

room_names : {M : Type 0} → (sizes : Sizes) (base : DeviceState) (history : List FinishRecord) (others : List (Core M)) (ws : List Write) (o : ℕ) → AllByRecursion (IsWrite sizes) ws → without_room sizes base history others ws ≡ Some o → o < sizes.objects
room_names sizes base history others [] o h e = absurd (cc e)
room_names {M} sizes base history others (w ∷ ws) o h e = at (has_room sizes base history others w.object) e (λ f. room_names sizes base history others ws o h.1 f)
  where
    at : (b : Bool) → cond b (without_room sizes base history others ws) (Some w.object) ≡ Some o → (without_room sizes base history others ws ≡ Some o → o < sizes.objects) → o < sizes.objects
    at true f rest = rest f
    at false f rest = let same : w.object ≡ o = cc f in subst (λ (n : ℕ). n < sizes.objects) same h.0.object

-- a trapped try writes nothing
run_writes : {M : Type 0} → (sizes : Sizes) (a : Attempt M) (outcome : Outcome) → AllByRecursion (IsWrite sizes) a.writes → AllByRecursion (IsWrite sizes) (run_of a outcome).writes
run_writes sizes a (Exit code) h = h
run_writes sizes a (Trap cause) h = tt

-- what a core that is ready has written is objects of the set
abbrev Writes : World MachineState → Core MachineState → Type 0
Writes world c = (a : Attempt MachineState) (outcome : Outcome) → c ≡ Ready a outcome → AllByRecursion (IsWrite world.sizes) a.writes

turn_names : (world : World MachineState) (history : List FinishRecord) (others : List (Core MachineState)) (n : ℕ) (c : Core MachineState) → Writes world c → Names world.sizes.objects (core_turn world history others n c).line
turn_names world history others n c writes =
    turn_prints (Names world.sizes.objects) (λ core task object e. absurd (cc e)) world history others n c
    (λ t e f core task object g. absurd (cc g))
    (λ a lo hi e f core task object g. absurd (cc g))
    (λ a outcome lo hi e f core task object g. absurd (cc g))
    (λ a outcome o e f core task object g.
    let same : o ≡ object = cc g in
    subst (λ (n : ℕ). n < world.sizes.objects) same (room_names world.sizes world.base history others (run_of a outcome).writes o (run_writes world.sizes a outcome (writes a outcome e)) f))
    (λ a p s core task object g. absurd (cc g))
    (λ i e core task object g. absurd (cc g))

boot_names : (count : ℕ) (s : State MachineState) (left : ℕ) → Names count (boot_turn s left).1
boot_names count s zero core task object e = absurd (cc e)
boot_names count s (suc zero) core task object e = absurd (cc e)
boot_names count s (suc (suc left)) core task object e = absurd (cc e)

step_names : (world : World MachineState) (s : State MachineState) (n : ℕ) (p : Power) → Writes world (get_or s.cores n Idle) → Names world.sizes.objects (core_event world s n p).1
step_names world s n On writes = turn_names world s.history (all_but n s.cores) n (get_or s.cores n Idle) writes
step_names world s n (Boot left) writes = at (nat_eq n 0)
  where
    idle : State MachineState × Line
    idle = (s, Nothing)

    at : (b : Bool) → Names world.sizes.objects (cond b (boot_turn s left) idle).1
    at true = boot_names world.sizes.objects s left
    at false = λ core task object e. absurd (cc e)

event_names : (world : World MachineState) (s : State MachineState) (e : Event) → ((n : ℕ) → Writes world (get_or s.cores n Idle)) → Names world.sizes.objects (event_step world s e).1
event_names world s Fail writes = λ core task object e. absurd (cc e)
event_names world s (CoreStep n) writes = step_names world s n s.power (writes n)

-- at a state of a run
pub names_at : (o : Origin) (k : Kernel) (words : Words) (s : State MachineState) → IsAt o k words s → (e : Event) (core task object : ℕ) → (event_step (world_from o) s e).1 ≡ RefuseSlots core task object → object < length o.device.set.objects
names_at o k words s a e = event_names (world_from o) s e (λ n attempt outcome f. at n attempt outcome (get_or s.cores n Idle) f (a.represented.1.fitting n))
  where
    at : (n : ℕ) (attempt : Attempt MachineState) (outcome : Outcome) (c : Core MachineState) → c ≡ Ready attempt outcome → IsFitting (world_from o).steps (world_from o).sizes c → AllByRecursion (IsWrite (world_from o).sizes) attempt.writes
    at n attempt outcome c f h = subst (IsFitting (world_from o).steps (world_from o).sizes) f h
