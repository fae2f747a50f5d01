-- The tasks of a set are a machine of the kernel's model.
use Rattle.std.proofs.Common.{◌≡◌, ℕ, zero, suc, ◌+◌, ◌-◌, ◌<◌, Bool, true, false, List, ◌++◌, length, take, drop, length-append, length-take, length-drop, Option, Some, None, refl, ap, ◌∙◌, ◌≤◌, subst, arith}
use Rattle.std.specs.Prelude.{nat_le, nat_lt, ◌&&◌, if◌then◌else◌}
use Rattle.std.proofs.lemmas.Bool.{leb-true, ltb-true}
use Rattle.nv_base.specs.declared.causes.TrapCause.{TrapCause}
use Rattle.nv_base.specs.declared.causes.TrapCause.TheVariants.{Illegal, Jump, Fetch, LoadAlign, Load, StoreAlign, Store, Break, Call, Object, CallAlign, CallRange, Program, Spawns, Fuel}
use Rattle.rv_core.specs.State.{MachineState, StepResult, Next, Calls, Traps}
use Rattle.rv_core.specs.Machine.{step_of, place_refusal, service_of, words_at}
use Rattle.rv_core.specs.declared.services.Service.{Service}
use Rattle.rv_core.specs.declared.services.Service.TheVariants as service
use Rattle.kernel_model.specs.Runs as run
use Rattle.kernel_model.specs.Fit.{IsMachine, IsOutcome, IsWrite}
use Rattle.set_model.specs.Sets.{TaskSet, object_at}
use Rattle.set_model.specs.Numbers.{sizes_of}
use Rattle.set_model.specs.Views.{trap_of}
use Rattle.task_model.specs.TaskSteps.{given_index, given_words, part_refusal, past, refusal, rewritten_by, rewritten_words, served, task_steps, unless, with_part}
use Rattle.task_model.proofs.StepFacts.{Counts, IsCounted, step_counts}

cause_is_outcome : (cause : TrapCause) → IsOutcome (trap_of cause)
cause_is_outcome Illegal = (omega arith, omega arith)
cause_is_outcome Jump = (omega arith, omega arith)
cause_is_outcome Fetch = (omega arith, omega arith)
cause_is_outcome LoadAlign = (omega arith, omega arith)
cause_is_outcome Load = (omega arith, omega arith)
cause_is_outcome StoreAlign = (omega arith, omega arith)
cause_is_outcome Store = (omega arith, omega arith)
cause_is_outcome Break = (omega arith, omega arith)
cause_is_outcome Call = (omega arith, omega arith)
cause_is_outcome Object = (omega arith, omega arith)
cause_is_outcome CallAlign = (omega arith, omega arith)
cause_is_outcome CallRange = (omega arith, omega arith)
cause_is_outcome Program = (omega arith, omega arith)
cause_is_outcome Spawns = (omega arith, omega arith)
cause_is_outcome Fuel = (omega arith, omega arith)

-- a part in place of another keeps the length
pub length-with_part : (first : ℕ) (part words : List ℕ) → first + length part ≤ length words → length (with_part first part words) ≡ length words
length-with_part first part words h =
    length-append (take first words ++ part) (drop (first + length part) words)
    ∙ omega (arith, h, length-append (take first words) part, length-take first words, length-drop (first + length part) words)

pub length-words_at : (memory : List ℕ) (at n : ℕ) → length (words_at memory at n) ≡ n
length-words_at memory at zero = refl
length-words_at memory at (suc n) = ap suc (length-words_at memory (at + 4) n)

-- what it owes while it waits for words
record Waits (set : TaskSet) (m n : MachineState) (o : ℕ) : Type 0 where
  inside : o < length set.objects
  falls : (words : List ℕ) → (given_words n words).fuel - (given_words n words).count < m.fuel - m.count
  fits : (words new : List ℕ) → length words ≡ (object_at set o).size → rewritten_words n words ≡ Some new → length new ≡ (object_at set o).size

-- what a machine owes of each step
abbrev IsFit : TaskSet → MachineState → run.Step MachineState → Type 0
IsFit set m (run.Went n) = n.fuel - n.count < m.fuel - m.count
IsFit set m (run.Reads n o) = Waits set m n o
IsFit set m (run.Writes n w) = (n.fuel - n.count < m.fuel - m.count) × IsWrite (sizes_of set) w
IsFit set m (run.Spawns n s) = (s.program < length set.programs) × ((index : ℕ) → (given_index n index).fuel - (given_index n index).count < m.fuel - m.count)
IsFit set m (run.Ends outcome) = IsOutcome outcome

falls : (m n : MachineState) → IsCounted m n → n.fuel - n.count < m.fuel - m.count
falls m n h = omega (arith, h.had, h.count, h.fuel)

unless_refused : (set : TaskSet) (m s : MachineState) (o at : ℕ) (step : run.Step MachineState) → (o < length set.objects → IsFit set m step) → IsFit set m (unless (refusal set s o at) step)
unless_refused set m s o at step h = by_test (nat_lt o (length set.objects)) refl
  where
    either : (failed : Option TrapCause) → IsFit set m step → IsFit set m (unless failed step)
    either None k = k
    either (Some failed) k = cause_is_outcome failed

    by_test : (b : Bool) → nat_lt o (length set.objects) ≡ b → IsFit set m (unless (if b then place_refusal s at (object_at set o).size else Some Object) step)
    by_test true e = either (place_refusal s at (object_at set o).size) (h (ltb-true o (length set.objects) e))
    by_test false e = (omega arith, omega arith)

-- the tests of a part; where none fails, it lies in the object
part_fits : (set : TaskSet) (m s : MachineState) (o at first count : ℕ) → (o < length set.objects → first + count ≤ (object_at set o).size → Waits set m s o) → IsFit set m (unless (part_refusal set s o at first count) (run.Reads s o))
part_fits set m s o at first count h = by_object (nat_lt o (length set.objects)) refl
  where
    size : ℕ
    size = (object_at set o).size

    either : (failed : Option TrapCause) → Waits set m s o → IsFit set m (unless failed (run.Reads s o))
    either None k = k
    either (Some failed) k = cause_is_outcome failed

    by_range : o < length set.objects → (a b : Bool) → nat_le (first + count) size ≡ b → IsFit set m (unless (if a && b then place_refusal s at count else Some CallRange) (run.Reads s o))
    by_range l false b e = (omega arith, omega arith)
    by_range l true true e = either (place_refusal s at count) (h l (leb-true (first + count) size e))
    by_range l true false e = (omega arith, omega arith)

    by_object : (b : Bool) → nat_lt o (length set.objects) ≡ b → IsFit set m (unless (if b then (if nat_lt 0 count && nat_le (first + count) size then place_refusal s at count else Some CallRange) else Some Object) (run.Reads s o))
    by_object true e = by_range (ltb-true o (length set.objects) e) (nat_lt 0 count) (nat_le (first + count) size) refl
    by_object false e = (omega arith, omega arith)

-- a call that rewrites nothing
waits_alone : (set : TaskSet) (m s : MachineState) (o : ℕ) (x : Service) → IsCounted m s → service_of s ≡ Some x → ((words : List ℕ) → rewritten_by (Some x) s.memory words ≡ None) → o < length set.objects → Waits set m s o
waits_alone set m s o x h e none l = record {
  inside = l;
  falls = λ words. falls m s h;
  fits = λ words new k f. absurd (let g : rewritten_words s words ≡ None = ap (λ y. rewritten_by y s.memory words) e ∙ none words in cc (f, g));
}

-- a call that rewrites a part
waits_to_write : (set : TaskSet) (m s : MachineState) (o at first count : ℕ) → IsCounted m s → service_of s ≡ Some (service.WritePart o at first count) → o < length set.objects → first + count ≤ (object_at set o).size → Waits set m s o
waits_to_write set m s o at first count h e l r = record {
  inside = l;
  falls = λ words. falls m s h;
  fits = λ words new k f.
      let g : rewritten_words s words ≡ Some (with_part first (words_at s.memory at count) words) = ap (λ y. rewritten_by y s.memory words) e in
      let same : new ≡ with_part first (words_at s.memory at count) words = cc (f, g) in
      ap length same ∙ length-with_part first (words_at s.memory at count) words (omega (arith, r, k, length-words_at s.memory at count)) ∙ k;
}

served_is_fit : (set : TaskSet) (m : MachineState) (r : StepResult) → Counts m r → IsFit set m (served set r)
served_is_fit set m (Next s) h = falls m s h
served_is_fit set m (Traps s failed) h = cause_is_outcome failed
served_is_fit set m (Calls s (service.Finish code)) h = tt
served_is_fit set m (Calls s (service.Read o at)) h = unless_refused set m s o at (run.Reads s o) (waits_alone set m s o (service.Read o at) h.0 h.1 (λ words. refl))
served_is_fit set m (Calls s (service.Write o at)) h =
    unless_refused set m s o at (run.Writes (past s) (record { object = o; words = words_at s.memory at (object_at set o).size }))
    (λ l. (falls m s h.0, record { object = l; words = length-words_at s.memory at (object_at set o).size }))
served_is_fit set m (Calls s (service.ReadPart o at first count)) h = part_fits set m s o at first count (λ l r. waits_alone set m s o (service.ReadPart o at first count) h.0 h.1 (λ words. refl) l)
served_is_fit set m (Calls s (service.WritePart o at first count)) h = part_fits set m s o at first count (waits_to_write set m s o at first count h.0 h.1)
served_is_fit set m (Calls s (service.Spawn program arg)) h = by_test (nat_lt program (length set.programs)) refl
  where
    by_test : (b : Bool) → nat_lt program (length set.programs) ≡ b → IsFit set m (if b then run.Spawns s (record { program = program; arg = arg }) else run.Ends (trap_of Program))
    by_test true e = (ltb-true program (length set.programs) e, λ index. falls m s h.0)
    by_test false e = (omega arith, omega arith)

pub tasks_are_a_machine : (set : TaskSet) → IsMachine (task_steps set) (sizes_of set)
tasks_are_a_machine set = record {
  went = λ m n e. at m (run.Went n) e;
  reads = λ m n o e. (at m (run.Reads n o) e).inside;
  given = λ m n o words e. (at m (run.Reads n o) e).falls words;
  rewrites = λ m n o words new e k f. (at m (run.Reads n o) e).fits words new k f;
  wrote = λ m n w e. at m (run.Writes n w) e;
  spawns = λ m n s e. (at m (run.Spawns n s) e).0;
  spawned = λ m n s index e. (at m (run.Spawns n s) e).1 index;
  ends = λ m outcome e. at m (run.Ends outcome) e;
}
  where
    at : (m : MachineState) (s : run.Step MachineState) → served set (step_of m) ≡ s → IsFit set m s
    at m s e = subst (IsFit set m) e (served_is_fit set m (step_of m) (step_counts m))
