-- What the steps and services of a running attempt are in the table machine.
use Rattle.std.proofs.Common.{◌≡◌, ℕ, ◌<◌, ◌≤◌, Bool, cond, List, [], ◌∷◌, ◌++◌, length, map, set, Some, None, refl, sym, ap, subst, ◌∙◌, arith}
use Rattle.std.proofs.lemmas.Bool.{lt-ltb, le-ltb}
use Rattle.std.proofs.lemmas.List.{length-map, map-append}
use Rattle.object_sets.specs.ObjectSets.{IsIncreasing, with_object}
use Rattle.rv_core.specs.State.{MachineState, Next, Calls, Traps}
use Rattle.rv_core.specs.Machine.{step_of, words_at}
use Rattle.rv_core.specs.declared.services.Service.{Service}
use Rattle.rv_core.specs.declared.services.Service.TheVariants as service
use Rattle.nv_base.specs.declared.causes.TrapCause.{TrapCause}
use Rattle.nv_base.specs.declared.causes.TrapCause.TheVariants as cause
use Rattle.nv_base.specs.declared.lines.Outcome.{Outcome}
use Rattle.nv_base.specs.declared.lines.Outcome.TheVariants as outcome
use Rattle.nv_base.specs.declared.lines.Spawn as base_spawn
use Rattle.kernel_model.specs.Effects.{Objects, Run, Spawn, Trap, Write, object_words, with_write}
use Rattle.kernel_model.specs.Effects as effects
use Rattle.kernel_model.specs.Runs.{Ends, Reads, Spawns, Step, Writes, spawns_cause}
use Rattle.set_model.specs.Sets.{TaskSet, object_at}
use Rattle.set_model.specs.Views.{outcome_of, spawn_of, trap_of}
use Rattle.task_model.specs.TaskSteps.{given_index, past, refusal, served, task_steps, unless}
use Rattle.table_machine.specs.Tables.{Chain, Try, Runs, Waits}
use Rattle.table_machine.specs.Seats.{SeatTurn, run_step, still}
use Rattle.vol_copy.specs.Received.{ended_so}
use Rattle.vol_copy.specs.Tries.{IsEndedTry, IsTry, writes_in}
use Rattle.vol_copy.specs.Turns.{Advances, IsInNeed, LeadsTo, Serves}
use Rattle.vol_copy.specs.declared.attempt.Attempt.{Attempt}
use Rattle.vol_copy.specs.declared.attempt.Stage.TheVariants as stage
use Rattle.vol_copy.specs.declared.running.Need.{Need}
use Rattle.vol_copy.specs.declared.running.Need.TheVariants as need
use Rattle.vol_copy.proofs.WriteTables.{writes-more}

-- the turn of a try whose step comes to this
abbrev pub ran : TaskSet → List Chain → ℕ → Try MachineState → Step MachineState → SeatTurn MachineState
ran s chains n t step = run_step (task_steps s) chains n t step

-- where the machine goes on to
pub next_is : {s t : MachineState} → Next s ≡ Next t → t ≡ s
next_is e = sym (cc e)

-- of a service
pub placed : (s : TaskSet) (a n j : Attempt) (asked : Service) (p q : Need) → n ≡ j → p ≡ q → Serves s a asked j q → Serves s a asked n p
placed s a n j asked p q e f h = subst (λ x. Serves s a asked x p) (sym e) (subst (λ y. Serves s a asked j y) (sym f) h)

-- a try that has ended
pub ended_try : (a : Attempt) (o : Outcome) (m : MachineState) (t : Try MachineState) → IsTry a (record t { state = m }) → IsEndedTry (ended_so a o) o t
ended_try a (outcome.Exit code) m t h =
    let made : List ℕ → List Write → List Spawn → Run = λ reads writes spawns. record { outcome = effects.Exit code; reads = reads; writes = writes; spawns = spawns } in
    record {
      task = h.done.task;
      run =
          ap (λ reads. made reads t.writes t.spawns) h.copies.objects
          ∙ ap (λ writes. made a.reads writes t.spawns) h.done.writes
          ∙ ap (made a.reads (writes_in a.written a.words)) h.done.spawns;
    }
ended_try a (outcome.Trap c) m t h =
    let made : List ℕ → Run = λ reads. record { outcome = trap_of c; reads = reads; writes = []; spawns = [] } in
    record { task = h.done.task; run = ap made h.copies.objects }

-- a service that ends the run
pub ends : (s : TaskSet) (a : Attempt) (asked : Service) (o : Outcome) → served s (Calls a.machine asked) ≡ Ends (outcome_of o) → Serves s a asked (ended_so a o) need.Ready
unfolding Serves
ends s a asked o e = ((o, refl), λ t h chains n. (o, refl, ended_try a o a.machine t h, ap (ran s chains n t) e))

pub traps_read : (s : TaskSet) (a n : Attempt) (p : Need) (o at : ℕ) (c : TrapCause) → Some c ≡ refusal s a.machine o at → n ≡ ended_so a (outcome.Trap c) → p ≡ need.Ready → Serves s a (service.Read o at) n p
traps_read s a n p o at c e same f = placed s a n _ _ p _ same f (ends s a (service.Read o at) (outcome.Trap c) (ap (λ x. unless x (Reads a.machine o)) (sym e)))

pub traps_write : (s : TaskSet) (a n : Attempt) (p : Need) (o at : ℕ) (c : TrapCause) → Some c ≡ refusal s a.machine o at → n ≡ ended_so a (outcome.Trap c) → p ≡ need.Ready → Serves s a (service.Write o at) n p
traps_write s a n p o at c e same f =
    placed s a n _ _ p _ same f
    (ends s a (service.Write o at) (outcome.Trap c) (ap (λ x. unless x (Writes (past a.machine) (record { object = o; words = words_at a.machine.memory at (object_at s o).size }))) (sym e)))

pub traps_spawn : (s : TaskSet) (a n : Attempt) (p : Need) (program arg : ℕ) → length s.programs ≤ program → n ≡ ended_so a (outcome.Trap cause.Program) → p ≡ need.Ready → Serves s a (service.Spawn program arg) n p
traps_spawn s a n p program arg l same f =
    placed s a n _ _ p _ same f
    (ends s a (service.Spawn program arg) (outcome.Trap cause.Program) (ap (λ b. cond b (Spawns a.machine (record { program = program; arg = arg })) (Ends (trap_of cause.Program))) (le-ltb program (length s.programs) l)))

pub exits_so : (s : TaskSet) (a n : Attempt) (p : Need) (asked : Service) (code : ℕ) → asked ≡ service.Finish code → n ≡ ended_so a (outcome.Exit code) → p ≡ need.Ready → Serves s a asked n p
exits_so s a n p asked code e same f = subst (λ x. Serves s a x n p) (sym e) (placed s a n _ _ p _ same f (ends s a (service.Finish code) (outcome.Exit code) refl))

-- the try goes on with this machine, these writes and these spawns
pub tried : (a : Attempt) (m : MachineState) (t : Try MachineState) (ws : List Write) (spawns : List Spawn) (written : List ℕ) (words : Objects) (own : List base_spawn.Spawn) → IsTry a (record t { state = a.machine })
    → ws ≡ writes_in written words → spawns ≡ map spawn_of own
    → IsTry (record a { machine = m; written = written; words = words; spawns = own }) (record t { writes = ws; spawns = spawns; state = m })
tried a m t ws spawns written words own h w x = record { done = record { task = h.done.task; writes = w; spawns = x; state = refl }; copies = h.copies }

-- a write
pub writes_words : (s : TaskSet) (a : Attempt) (m : MachineState) (o object at : ℕ) (words : Objects) (written : List ℕ) → a.stage ≡ stage.Running → o ≡ object → None ≡ refusal s a.machine object at → o < length a.words → IsIncreasing a.written
    → length (object_words a.words o) ≡ (object_at s o).size
    → words ≡ set a.words o (words_at a.machine.memory at (length (object_words a.words o))) → written ≡ with_object o a.written → m ≡ past a.machine
    → Serves s a (service.Write object at) (record a { machine = m; words = words; written = written }) need.Went
unfolding Serves
writes_words s a m o object at words written running number fine inside increasing size w x is =
    let new : List ℕ = words_at a.machine.memory at (object_at s o).size in
    let wr : Write = record { object = o; words = new } in
    let table : words ≡ set a.words o new = w ∙ ap (λ k. set a.words o (words_at a.machine.memory at k)) size in
    let comes : served s (Calls a.machine (service.Write object at)) ≡ Writes m wr =
    ap (λ y. served s (Calls a.machine (service.Write y at))) (sym number)
    ∙ ap (λ f. unless f (Writes (past a.machine) wr)) (sym (fine ∙ ap (λ y. refusal s a.machine y at) (sym number)))
    ∙ ap (λ y. Writes y wr) (sym is) in (
      running,
      λ t h chains n. (
        record t { writes = with_write wr t.writes; state = m },
        tried a m t (with_write wr t.writes) t.spawns written words a.spawns h
            (ap (with_write wr) h.done.writes ∙ writes-more o new a.words a.written inside increasing ∙ ap (writes_in (with_object o a.written)) (sym table) ∙ ap (λ y. writes_in y words) (sym x))
            h.done.spawns,
        refl,
        ap (ran s chains n t) comes,
      ),
    )

-- a spawn that is counted
abbrev spawning : TaskSet → List Chain → ℕ → Try MachineState → MachineState → ℕ → ℕ → Bool → SeatTurn MachineState
spawning s chains n t m program arg b = ran s chains n t (cond b (Spawns m (record { program = program; arg = arg })) (Ends (trap_of cause.Program)))

abbrev spawned_there : Try MachineState → MachineState → ℕ → ℕ → Bool → SeatTurn MachineState
spawned_there t m program arg b = cond b (still (Runs (record t { spawns = t.spawns ++ record { program = program; arg = arg } ∷ []; state = given_index m (length t.spawns) }))) (still (Waits t (Trap spawns_cause)))

counted : (a : Attempt) (t : Try MachineState) → IsTry a (record t { state = a.machine }) → length t.spawns ≡ length a.spawns
counted a t h = ap length h.done.spawns ∙ length-map a.spawns spawn_of

pub spawns_task : (s : TaskSet) (a : Attempt) (m : MachineState) (c : base_spawn.Spawn) (spawns : List base_spawn.Spawn) → a.stage ≡ stage.Running → c.program.0 < length s.programs → length a.spawns < 8
    → m ≡ given_index a.machine (length a.spawns) → spawns ≡ a.spawns ++ c ∷ []
    → Serves s a (service.Spawn c.program.0 c.arg) (record a { machine = m; spawns = spawns }) need.Went
unfolding Serves
spawns_task s a m c spawns running inside few is e = (
  running,
  λ t h chains n.
      let count : length t.spawns ≡ length a.spawns = counted a t h in
      let state : given_index a.machine (length t.spawns) ≡ m = ap (given_index a.machine) count ∙ sym is in (
        record t { spawns = t.spawns ++ spawn_of c ∷ []; state = m },
        tried a m t t.writes (t.spawns ++ spawn_of c ∷ []) a.written a.words spawns h h.done.writes (ap (λ xs. xs ++ spawn_of c ∷ []) h.done.spawns ∙ sym (map-append spawn_of a.spawns (c ∷ [])) ∙ ap (map spawn_of) (sym e)),
        refl,
        ap (spawning s chains n t a.machine c.program.0 c.arg) (lt-ltb c.program.0 (length s.programs) inside)
            ∙ ap (spawned_there t a.machine c.program.0 c.arg) (lt-ltb (length t.spawns) 8 (omega (arith, count, few)))
            ∙ ap (λ x. let u : Try MachineState = record t { spawns = t.spawns ++ spawn_of c ∷ []; state = x } in still (Runs u)) state,
      ),
)

-- a spawn too many
many_spawns : (s : TaskSet) (a : Attempt) (program arg : ℕ) → program < length s.programs → 8 ≤ length a.spawns → Serves s a (service.Spawn program arg) (ended_so a (outcome.Trap cause.Spawns)) need.Ready
unfolding Serves
many_spawns s a program arg inside many = (
  (outcome.Trap cause.Spawns, refl),
  λ t h chains n. (
    outcome.Trap cause.Spawns,
    refl,
    ended_try a (outcome.Trap cause.Spawns) a.machine t h,
    ap (spawning s chains n t a.machine program arg) (lt-ltb program (length s.programs) inside)
        ∙ ap (spawned_there t a.machine program arg) (le-ltb (length t.spawns) 8 (let count : length t.spawns ≡ length a.spawns = counted a t h in omega (arith, count, many))),
  ),
)

pub spawns_too_many : (s : TaskSet) (a n : Attempt) (p : Need) (program arg : ℕ) → program < length s.programs → 8 ≤ length a.spawns → n ≡ ended_so a (outcome.Trap cause.Spawns) → p ≡ need.Ready → Serves s a (service.Spawn program arg) n p
spawns_too_many s a n p program arg inside many same f = placed s a n _ _ p _ same f (many_spawns s a program arg inside many)

-- with another state of the machine
pub with_state : (a : Attempt) (m : MachineState) (t : Try MachineState) → IsTry a t → IsTry (record a { machine = m }) (record t { state = m })
with_state a m t h = record { done = record { task = h.done.task; writes = h.done.writes; spawns = h.done.spawns; state = refl }; copies = h.copies }

-- a turn: the machine goes on
pub went : (s : TaskSet) (a : Attempt) (m : MachineState) → step_of a.machine ≡ Next m → Advances s a (record a { machine = m }) need.Went
unfolding Advances
went s a m e = λ t h chains n. (
  record t { state = m },
  with_state a m t h,
  refl,
  ap (λ x. ran s chains n t (served s (step_of x))) h.done.state ∙ ap (λ r. ran s chains n t (served s r)) e,
)

-- it traps
traps : (s : TaskSet) (a : Attempt) (m : MachineState) (c : TrapCause) → step_of a.machine ≡ Traps m c → (let b : Attempt = record a { machine = m } in Advances s a (ended_so b (outcome.Trap c)) need.Ready)
unfolding Advances
traps s a m c e = λ t h chains n. (
  outcome.Trap c,
  refl,
  ended_try (record a { machine = m }) (outcome.Trap c) m t (with_state a m t h),
  ap (λ x. ran s chains n t (served s (step_of x))) h.done.state ∙ ap (λ r. ran s chains n t (served s r)) e,
)

pub trapped : (s : TaskSet) (a n : Attempt) (p : Need) (m : MachineState) (c : TrapCause) → step_of a.machine ≡ Traps m c → (let b : Attempt = record a { machine = m } in n ≡ ended_so b (outcome.Trap c)) → p ≡ need.Ready → Advances s a n p
trapped s a n p m c e same f =
    let b : Attempt = record a { machine = m } in
    subst (λ x. Advances s a x p) (sym same) (subst (Advances s a (ended_so b (outcome.Trap c))) (sym f) (traps s a m c e))

pub ready_so : (a n : Attempt) (p : Need) (o : Outcome) → n ≡ ended_so a o → p ≡ need.Ready → IsInNeed n p
ready_so a n p o same f = subst (λ x. IsInNeed x p) (sym same) (subst (IsInNeed (ended_so a o)) (sym f) (o, refl))

-- it calls a service
pub calls : (s : TaskSet) (a n : Attempt) (p : Need) (m : MachineState) (asked : Service) → step_of a.machine ≡ Calls m asked → Serves s (record a { machine = m }) asked n p → Advances s a n p
unfolding Advances Serves
calls s a n p m asked e h = λ t f chains k.
    subst (LeadsTo s n p chains k t) (sym (ap (λ x. served s (step_of x)) f.done.state ∙ ap (served s) e)) (h.1 t (with_state a m t f) chains k)

pub serves_in : (s : TaskSet) (a n : Attempt) (p : Need) (asked : Service) → Serves s a asked n p → IsInNeed n p
unfolding Serves
serves_in s a n p asked h = h.0
