-- What each step of the machine makes of a run.
use Rattle.std.proofs.Common.{◌≡◌, ℕ, suc, ◌<◌, ◌≤◌, Bool, cond, List, [], ◌∷◌, ◌++◌, length, map, set, Option, Some, None, refl, sym, ap, ◌∙◌, subst, arith}
use Rattle.std.proofs.lemmas.Bool.{le-ltb, lt-ltb}
use Rattle.std.proofs.lemmas.List.{map-append, length-map}
use Rattle.object_sets.specs.ObjectSets.{with_object, IsIncreasing}
use Rattle.rv_core.specs.State.{MachineState, StepResult, Next, Calls, Traps}
use Rattle.rv_core.specs.Machine.{step_of, words_at}
use Rattle.rv_core.specs.declared.services.Service.TheVariants.{Write as Puts, Spawn as AsksFor, Finish}
use Rattle.nv_base.specs.declared.causes.TrapCause.{TrapCause}
use Rattle.nv_base.specs.declared.causes.TrapCause.TheVariants as cause
use Rattle.nv_base.specs.declared.lines.Outcome.TheVariants as outcome
use Rattle.nv_base.specs.declared.lines.Outcome.{Outcome}
use Rattle.nv_base.specs.declared.lines.Spawn.{Spawn}
use Rattle.kernel_model.specs.Effects.{Effects, Objects, Write, ended, put, with_write, object_words}
use Rattle.kernel_model.specs.Effects as model
use Rattle.kernel_model.specs.Runs.{Ends, Spawns, Writes, run_from, max_spawns}
use Rattle.set_model.specs.Sets.{TaskSet, object_at}
use Rattle.set_model.specs.Views.{spawn_of, trap_of}
use Rattle.task_model.specs.TaskSteps.{given_index, past, refusal, served, task_steps, unless}
use Rattle.task_model.specs.Shape.{HasShape}
use Rattle.task_model.specs.Progress.{Turns}
use Rattle.task_model.specs.declared.progress.Progress.{Progress}
use Rattle.task_model.proofs.WriteFacts.{objects_in, objects_in-with_write, put-with_write}
use Rattle.task_model.proofs.Shapes.{shape-set}
use Rattle.task_model.proofs.MachineFacts.{length-words_at}

pub went : (programs : ℕ) (p : Progress) (s : MachineState) → Turns programs p (Next s) None s p
unfolding Turns
went programs p s = λ set objects e k h. (e, h, λ n. refl)

pub trapped : (programs : ℕ) (p : Progress) (s : MachineState) (failed : TrapCause) → Turns programs p (Traps s failed) (Some (outcome.Trap failed)) s p
unfolding Turns
trapped programs p s failed = λ set objects e k h. (h, λ n. refl)

pub exits : (programs : ℕ) (p : Progress) (s : MachineState) (code : ℕ) → Turns programs p (Calls s (Finish code)) (Some (outcome.Exit code)) s p
unfolding Turns
exits programs p s code = λ set objects e k h. (h, λ n. refl)

-- the tests of a READ or a WRITE come to this, in each set of this shape
abbrev pub TestsTo : Progress → MachineState → ℕ → ℕ → Option TrapCause → Type 0
TestsTo p s o at failed = (set : TaskSet) → HasShape set p.values → failed ≡ refusal set s o at

pub refused_write : (programs : ℕ) (p : Progress) (s : MachineState) (o at : ℕ) (failed : TrapCause) → TestsTo p s o at (Some failed)
    → Turns programs p (Calls s (Puts o at)) (Some (outcome.Trap failed)) s p
unfolding Turns
refused_write programs p s o at failed r = λ set objects e k h.
    (h, λ n. ap (λ f. run_from (task_steps set) objects (suc n) e (unless f (Writes (past s) (record { object = o; words = words_at s.memory at (object_at set o).size })))) (sym (r set h.shape)))

-- the words at the address are the object's from now on
pub writes : (programs : ℕ) (p : Progress) (s m : MachineState) (o at : ℕ) (v : List (List ℕ)) (w : List ℕ) → TestsTo p s o at None → o < length p.values
    → v ≡ set p.values o (words_at s.memory at (length (object_words p.values o))) → w ≡ with_object o p.written → IsIncreasing w → m ≡ past s
    → length (words_at s.memory at (length (object_words p.values o))) ≡ length (object_words p.values o)
    → Turns programs p (Calls s (Puts o at)) None m (record p { values = v; written = w })
unfolding Turns
writes programs p s m o at v w t l a b i g size = λ all objects e k h.
    let write : Write = record { object = o; words = words_at s.memory at (object_at all o).size } in
    let f : Effects = record e { writes = with_write write e.writes } in
    let fits : length (object_words p.values o) ≡ (object_at all o).size = h.shape.sizes o l in
    let same : v ≡ set p.values o write.words = a ∙ ap (λ n. set p.values o (words_at s.memory at n)) fits in
    let ordered : IsIncreasing (objects_in e.writes) = subst IsIncreasing h.written h.increasing in
    let now : w ≡ objects_in f.writes = b ∙ ap (λ x. with_object o x) h.written ∙ sym (objects_in-with_write write e.writes ordered) in
    let holds : v ≡ put f.writes objects = same ∙ ap (λ x. set x o write.words) h.values ∙ sym (put-with_write write e.writes objects) in (
      f,
      record {
        values = holds;
        shape = subst (HasShape all) (sym same) (shape-set all p.values o write.words h.shape (ap (λ n. length (words_at s.memory at n)) (sym fits) ∙ size ∙ fits));
        reads = h.reads;
        written = now;
        increasing = i;
        spawns = h.spawns;
      },
      λ n. ap (λ x. run_from (task_steps all) objects (suc n) e (unless x (Writes (past s) write))) (sym (t all h.shape)) ∙ ap (λ x. run_from (task_steps all) objects n f (served all (step_of x))) (sym g),
    )

-- what a run with so many spawns makes of one more
abbrev counted : TaskSet → Objects → Effects → ℕ → MachineState → model.Spawn → Bool → model.Run
counted all objects e n s spawn b =
    cond b (run_from (task_steps all) objects n (record e { spawns = e.spawns ++ spawn ∷ [] }) (served all (step_of (given_index s (length e.spawns))))) (ended e (trap_of cause.Spawns))

-- what a run makes of a spawn whose program is tested
abbrev asked : TaskSet → Objects → Effects → ℕ → MachineState → model.Spawn → Bool → model.Run
asked all objects e n s spawn b = run_from (task_steps all) objects (suc n) e (cond b (Spawns s spawn) (Ends (trap_of cause.Program)))

pub refused_program : (programs : ℕ) (p : Progress) (s : MachineState) (program arg : ℕ) → programs ≤ program
    → Turns programs p (Calls s (AsksFor program arg)) (Some (outcome.Trap cause.Program)) s p
unfolding Turns
refused_program programs p s program arg l = λ set objects e k h.
    (h, λ n. ap (asked set objects e n s (record { program = program; arg = arg })) (le-ltb program (length set.programs) (omega (arith, l, k))))

pub one_too_many : (programs : ℕ) (p : Progress) (s : MachineState) (program arg : ℕ) → program < programs → max_spawns ≤ length p.spawns
    → Turns programs p (Calls s (AsksFor program arg)) (Some (outcome.Trap cause.Spawns)) s p
unfolding Turns
one_too_many programs p s program arg l full = λ set objects e k h.
    let spawn : model.Spawn = record { program = program; arg = arg } in
    let many : length p.spawns ≡ length e.spawns = sym (length-map p.spawns spawn_of) ∙ ap length h.spawns in
    (h, λ n. ap (asked set objects e n s spawn) (lt-ltb program (length set.programs) (omega (arith, l, k))) ∙ ap (counted set objects e n s spawn) (le-ltb (length e.spawns) max_spawns (omega (arith, full, many))))

pub spawns : (programs : ℕ) (p : Progress) (s m : MachineState) (program arg : ℕ) (x : List Spawn) (spawn : Spawn) → program < programs → length p.spawns < max_spawns
    → spawn_of spawn ≡ record { program = program; arg = arg } → x ≡ p.spawns ++ spawn ∷ [] → m ≡ given_index s (length p.spawns)
    → Turns programs p (Calls s (AsksFor program arg)) None m (record p { spawns = x })
unfolding Turns
spawns programs p s m program arg x spawn l room same a g = λ set objects e k h.
    let wanted : model.Spawn = record { program = program; arg = arg } in
    let f : Effects = record e { spawns = e.spawns ++ wanted ∷ [] } in
    let many : length p.spawns ≡ length e.spawns = sym (length-map p.spawns spawn_of) ∙ ap length h.spawns in
    let now : map spawn_of x ≡ f.spawns =
    ap (map spawn_of) a ∙ map-append spawn_of p.spawns (spawn ∷ []) ∙ ap (λ ys. ys ++ spawn_of spawn ∷ []) h.spawns ∙ ap (λ y. e.spawns ++ y ∷ []) same in
    let there : m ≡ given_index s (length e.spawns) = g ∙ ap (given_index s) many in (
      f,
      record { values = h.values; shape = h.shape; reads = h.reads; written = h.written; increasing = h.increasing; spawns = now },
      λ n. ap (asked set objects e n s wanted) (lt-ltb program (length set.programs) (omega (arith, l, k)))
          ∙ ap (counted set objects e n s wanted) (lt-ltb (length e.spawns) max_spawns (omega (arith, room, many)))
          ∙ ap (λ y. run_from (task_steps set) objects n f (served set (step_of y))) (sym there),
    )

-- the same, with what the code has: the number of the object that was tested, and the machine's states in between

pub next_is : (s t : MachineState) → Next s ≡ Next t → t ≡ s
next_is s t e = cc

tested : (p : Progress) (s : MachineState) (o x at : ℕ) → x ≡ o → TestsTo p s o at None → TestsTo p s x at None
tested p s o x at e t = λ set h. t set h ∙ ap (λ y. refusal set s y at) (sym e)

pub writes_object : (programs : ℕ) (p : Progress) (s m : MachineState) (o x at : ℕ) (v : List (List ℕ)) (w : List ℕ) → x ≡ o → TestsTo p s o at None → o < length p.values
    → v ≡ set p.values x (words_at s.memory at (length (object_words p.values x))) → w ≡ with_object x p.written → IsIncreasing w → Next (past s) ≡ Next m
    → Turns programs p (Calls s (Puts o at)) None m (record p { values = v; written = w })
writes_object programs p s m o x at v w e t l a b i goes =
    subst (λ y. Turns programs p (Calls s (Puts y at)) None m (record p { values = v; written = w })) e
    (writes programs p s m x at v w (tested p s o x at e t) (omega (arith, l, e)) a b i (next_is (past s) m goes) (length-words_at s.memory at (length (object_words p.values x))))

pub spawns_task : (programs : ℕ) (p : Progress) (s m : MachineState) (program arg index : ℕ) (x : List Spawn) (spawn : Spawn) → program < programs → index < max_spawns
    → index ≡ length p.spawns → spawn_of spawn ≡ record { program = program; arg = arg } → x ≡ p.spawns ++ spawn ∷ [] → Next (given_index s index) ≡ Next m
    → Turns programs p (Calls s (AsksFor program arg)) None m (record p { spawns = x })
spawns_task programs p s m program arg index x spawn l room i same a goes =
    spawns programs p s m program arg x spawn l (omega (arith, room, i)) same a (next_is (given_index s index) m goes ∙ ap (given_index s) i)

-- a step of the machine that comes to this
pub stepped : (programs : ℕ) (p q : Progress) (before after : MachineState) (r : StepResult) (ends : Option Outcome) → step_of before ≡ r → Turns programs p r ends after q → Turns programs p (step_of before) ends after q
stepped programs p q before after r ends e h = subst (λ x. Turns programs p x ends after q) (sym e) h
