-- What is left of a run from here is what was left of it at first.
use Rattle.std.proofs.Common.{◌≡◌, ℕ, suc, ◌+◌, ◌-◌, ◌≤◌, List, [], length, map, cond, Some, None, sym, ap, subst, ◌∙◌, arith}
use Rattle.std.proofs.lemmas.Bool.{le-leb}
use Rattle.object_sets.specs.ObjectSets.{IsIncreasing}
use Rattle.nv_base.specs.declared.causes.TrapCause.TheVariants as cause
use Rattle.nv_base.specs.declared.lines.Outcome.{Outcome}
use Rattle.nv_base.specs.declared.lines.Outcome.TheVariants as outcome
use Rattle.rv_core.specs.State.{MachineState, Traps}
use Rattle.rv_core.specs.Stepping.{fetched}
use Rattle.rv_core.specs.Machine.{step_of, first_state}
use Rattle.kernel_model.specs.Effects.{Effects, Objects, Run, ended, no_effects}
use Rattle.kernel_model.specs.Runs.{run_from, whole_run}
use Rattle.set_model.specs.Sets.{TaskSet, program_at}
use Rattle.set_model.specs.Views.{outcome_of, spawn_of}
use Rattle.task_model.specs.TaskSteps.{served, task_steps}
use Rattle.task_model.specs.Shape.{AreAlike, HasShape}
use Rattle.task_model.specs.Progress.{Stands, Turns}
use Rattle.task_model.specs.WholeRun.{IsWholeRun}
use Rattle.task_model.specs.declared.progress.Progress.{Progress}
use Rattle.task_model.specs.declared.whole_run.Whole.{Whole}
use Rattle.task_model.proofs.Shapes.{alike}
use Rattle.task_model.proofs.WriteFacts.{put_from-none}

-- from this progress and machine on, with fuel for so many steps, the run comes to this
pub record Rests (set : TaskSet) (objects : Objects) (n : ℕ) (p : Progress) (m : MachineState) (run : Run) : Type 0 where
  pub effects : Effects
  pub stands : Stands set objects effects p
  pub rest : run_from (task_steps set) objects (suc n) effects (served set (step_of m)) ≡ run

-- the task's first state, by what the set's readers tell
pub same_first : (set : TaskSet) (program arg : ℕ) (code : List ℕ) (fuel bytes : ℕ) (m : MachineState) → m ≡ first_state code arg fuel bytes
    → code ≡ (program_at set program).code → fuel ≡ (program_at set program).fuel → bytes ≡ set.memory
    → m ≡ first_state (program_at set program).code arg (program_at set program).fuel set.memory
same_first set program arg code fuel bytes m is c f b =
    is ∙ ap (λ x. first_state x arg fuel bytes) c ∙ ap (λ n. first_state (program_at set program).code arg n bytes) f
    ∙ ap (λ n. first_state (program_at set program).code arg (program_at set program).fuel n) b

pub begins : (set : TaskSet) (objects : Objects) (program arg n : ℕ) (p : Progress) (m : MachineState) → HasShape set objects
    → p.values ≡ objects → p.reads ≡ [] → p.written ≡ [] → p.spawns ≡ []
    → m ≡ first_state (program_at set program).code arg (program_at set program).fuel set.memory → (program_at set program).fuel ≡ n
    → Rests set objects n p m (whole_run (task_steps set) program arg objects)
begins set objects program arg n p m h v r w s is e = record {
  effects = no_effects;
  stands = record {
    values = v ∙ sym (put_from-none 0 objects);
    shape = subst (HasShape set) (sym v) h;
    reads = r;
    written = w;
    increasing = subst IsIncreasing (sym w) tt;
    spawns = ap (map spawn_of) s;
  };
  rest =
      let start : MachineState = first_state (program_at set program).code arg (program_at set program).fuel set.memory in
      let many : suc n ≡ (program_at set program).fuel - 0 + 1 = omega (arith, e) in
      ap (λ x. run_from (task_steps set) objects (suc n) no_effects (served set (step_of x))) is
      ∙ ap (λ k. run_from (task_steps set) objects k no_effects (served set (step_of start))) many;
}

pub goes : (set : TaskSet) (objects : Objects) (programs k n : ℕ) (p q : Progress) (before after : MachineState) (run : Run) → length set.programs ≡ programs → k ≡ suc n
    → Rests set objects k p before run → Turns programs p (step_of before) None after q → Rests set objects n q after run
unfolding Turns
goes set objects programs k n p q before after run e i h t =
    let l = t set objects h.effects e h.stands in
    record {
      effects = l.0;
      stands = l.1;
      rest = sym (l.2 (suc n)) ∙ ap (λ j. run_from (task_steps set) objects (suc j) h.effects (served set (step_of before))) (sym i) ∙ h.rest;
    }

-- what was made of each progress that stands for what the run on these objects has done
abbrev Makes : Objects → Progress → Outcome → Whole → Type 0
Makes objects p o w = (set : TaskSet) (e : Effects) → Stands set objects e p → IsWholeRun w (ended e (outcome_of o)) objects

pub ends : (set : TaskSet) (objects : Objects) (programs n : ℕ) (p q : Progress) (before after : MachineState) (run : Run) (o : Outcome) (w : Whole) → length set.programs ≡ programs
    → Rests set objects n p before run → Turns programs p (step_of before) (Some o) after q → Makes objects q o w → IsWholeRun w run objects
unfolding Turns
ends set objects programs n p q before after run o w e h t makes =
    let l = t set objects h.effects e h.stands in
    subst (λ x. IsWholeRun w x objects) (sym (l.1 n) ∙ h.rest) (makes set h.effects l.0)

pub spent : (set : TaskSet) (objects : Objects) (n : ℕ) (p : Progress) (m : MachineState) (run : Run) (w : Whole) → m.fuel ≤ m.count
    → Rests set objects n p m run → Makes objects p (outcome.Trap cause.Fuel) w → IsWholeRun w run objects
spent set objects n p m run w l h makes =
    let traps : step_of m ≡ Traps m cause.Fuel = ap (λ b. cond b (Traps m cause.Fuel) (fetched (record m { count = m.count + 1 }))) (le-leb m.fuel m.count l) in
    subst (λ x. IsWholeRun w x objects)
    (sym (ap (λ r. run_from (task_steps set) objects (suc n) h.effects (served set r)) traps) ∙ h.rest) (makes set h.effects h.stands)

-- what a run makes of the objects keeps their shape
pub keeps_shape : (set : TaskSet) (objects : Objects) (n : ℕ) (p : Progress) (m : MachineState) (run : Run) → HasShape set objects → Rests set objects n p m run → AreAlike p.values objects
keeps_shape set objects n p m run h r = alike set p.values objects r.stands.shape h

-- so does the step that ends it
pub keeps_shape_at_end : (set : TaskSet) (objects : Objects) (programs n : ℕ) (p q : Progress) (before after : MachineState) (run : Run) (o : Outcome) → length set.programs ≡ programs
    → HasShape set objects → Rests set objects n p before run → Turns programs p (step_of before) (Some o) after q → AreAlike q.values objects
unfolding Turns
keeps_shape_at_end set objects programs n p q before after run o e h r t = alike set q.values objects (t set objects r.effects e r.stands).0.shape h
