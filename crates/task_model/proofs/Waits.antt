-- What the services that wait for an object's words make of a run.
use Rattle.std.proofs.Common.{◌≡◌, ℕ, suc, ◌+◌, ◌<◌, ◌≤◌, cond, List, length, set, Option, Some, None, sym, ap, ◌∙◌, subst, arith}
use Rattle.object_sets.specs.ObjectSets.{is_among, with_object, IsIncreasing}
use Rattle.rv_core.specs.State.{MachineState, Next, Calls}
use Rattle.rv_core.specs.Machine.{put_words, service_of, step_of, words_at}
use Rattle.rv_core.specs.declared.services.Service.{Service}
use Rattle.rv_core.specs.declared.services.Service.TheVariants.{Read, ReadPart, WritePart}
use Rattle.nv_base.specs.declared.causes.TrapCause.{TrapCause}
use Rattle.nv_base.specs.declared.lines.Outcome.TheVariants as outcome
use Rattle.kernel_model.specs.Effects.{Effects, Objects, Write, also_written, reads_after, seen, with_write, object_words, written}
use Rattle.kernel_model.specs.Runs.{Ends, Reads, Step, run_from}
use Rattle.kernel_model.proofs.ForCallers.{length-put_from, put-seen}
use Rattle.set_model.specs.Sets.{TaskSet}
use Rattle.set_model.specs.Views.{trap_of}
use Rattle.task_model.specs.TaskSteps.{given_words, memory_given, part_of, part_refusal, past, rewritten_by, rewritten_words, served, task_steps, unless, with_part}
use Rattle.task_model.specs.Shape.{HasShape}
use Rattle.task_model.specs.Progress.{Stands, Turns, reads_noted}
use Rattle.task_model.specs.declared.progress.Progress.{Progress}
use Rattle.task_model.proofs.WriteFacts.{objects_in, objects_in-with_write, put-with_write, reads_after-is}
use Rattle.task_model.proofs.Shapes.{shape-set}
use Rattle.task_model.proofs.MachineFacts.{length-with_part, length-words_at}
use Rattle.task_model.proofs.Services.{TestsTo, next_is}

-- in each set of this shape the call comes to this
abbrev pub ComesTo : Progress → MachineState → Service → Step MachineState → Type 0
ComesTo p s service step = (all : TaskSet) → HasShape all p.values → served all (Calls s service) ≡ step

-- the tests of a part come to this
abbrev pub PartTestsTo : Progress → MachineState → (o at first count : ℕ) → Option TrapCause → Type 0
PartTestsTo p s o at first count failed = (all : TaskSet) → HasShape all p.values → failed ≡ part_refusal all s o at first count

-- a test that fails stops the task
pub refused : (programs : ℕ) (p : Progress) (s : MachineState) (service : Service) (failed : TrapCause) → ComesTo p s service (Ends (trap_of failed)) → Turns programs p (Calls s service) (Some (outcome.Trap failed)) s p
unfolding Turns
refused programs p s service failed to = λ all objects e k h. (h, λ n. ap (run_from (task_steps all) objects (suc n) e) (to all h.shape))

pub read_refused : (p : Progress) (s : MachineState) (o at : ℕ) (failed : TrapCause) → TestsTo p s o at (Some failed) → ComesTo p s (Read o at) (Ends (trap_of failed))
read_refused p s o at failed t = λ all h. ap (λ f. unless f (Reads s o)) (sym (t all h))

-- what the task sees of an object is what the progress has
inside : (all : TaskSet) (objects : Objects) (e : Effects) (p : Progress) (o : ℕ) → Stands all objects e p → o < length p.values → object_words p.values o ≡ seen e.writes objects o
inside all objects e p o h l = ap (λ v. object_words v o) h.values ∙ put-seen e.writes objects o (omega (arith, l, ap length h.values ∙ length-put_from 0 e.writes objects))

noted : (all : TaskSet) (objects : Objects) (e : Effects) (p : Progress) (o : ℕ) → Stands all objects e p → reads_noted p o ≡ reads_after (written e.writes o) o e.reads
noted all objects e p o h =
    ap (λ w. cond (is_among o w) p.reads (with_object o p.reads)) h.written ∙ ap (λ x. cond (is_among o (objects_in e.writes)) x (with_object o x)) h.reads
    ∙ sym (reads_after-is e.writes o e.reads)

-- the words that the task sees are given
pub given : (programs : ℕ) (p : Progress) (s m : MachineState) (service : Service) (o : ℕ) (r : List ℕ) → r ≡ reads_noted p o → ComesTo p s service (Reads s o) → o < length p.values
    → ((words : List ℕ) → rewritten_words s words ≡ None) → m ≡ given_words s (object_words p.values o) → Turns programs p (Calls s service) None m (record p { reads = r })
unfolding Turns
given programs p s m service o r q to l none g = λ all objects e k h.
    let words : List ℕ = seen e.writes objects o in
    let f : Effects = record e { reads = reads_after (written e.writes o) o e.reads } in
    let there : m ≡ given_words s words = g ∙ ap (given_words s) (inside all objects e p o h l) in (
      f,
      record { values = h.values; shape = h.shape; reads = q ∙ noted all objects e p o h; written = h.written; increasing = h.increasing; spawns = h.spawns },
      λ n. ap (run_from (task_steps all) objects (suc n) e) (to all h.shape)
          ∙ ap (λ (y : Option (List ℕ)). run_from (task_steps all) objects n (let x : Effects = record { reads = f.reads; writes = also_written o y e.writes; spawns = e.spawns } in x) (served all (step_of (given_words s words)))) (none words)
          ∙ ap (λ x. run_from (task_steps all) objects n f (served all (step_of x))) (sym there),
    )

-- the object has new words, made of those that the task sees
pub rewritten : (programs : ℕ) (p : Progress) (s m : MachineState) (service : Service) (o : ℕ) (new r : List ℕ) (v : List (List ℕ)) (w : List ℕ) → r ≡ reads_noted p o → ComesTo p s service (Reads s o) → o < length p.values
    → rewritten_words s (object_words p.values o) ≡ Some new → length new ≡ length (object_words p.values o) → m ≡ given_words s (object_words p.values o)
    → v ≡ set p.values o new → w ≡ with_object o p.written → IsIncreasing w → Turns programs p (Calls s service) None m (record p { values = v; reads = r; written = w })
unfolding Turns
rewritten programs p s m service o new r v w q to l is size g a b i = λ all objects e k h.
    let words : List ℕ = seen e.writes objects o in
    let same : object_words p.values o ≡ words = inside all objects e p o h l in
    let there : m ≡ given_words s words = g ∙ ap (given_words s) same in
    let write : Write = record { object = o; words = new } in
    let makes : rewritten_words s words ≡ Some new = ap (rewritten_words s) (sym same) ∙ is in
    let f : Effects = record { reads = reads_after (written e.writes o) o e.reads; writes = with_write write e.writes; spawns = e.spawns } in
    let ordered : IsIncreasing (objects_in e.writes) = subst IsIncreasing h.written h.increasing in (
      f,
      record {
        values = a ∙ ap (λ x. set x o new) h.values ∙ sym (put-with_write write e.writes objects);
        shape = subst (HasShape all) (sym a) (shape-set all p.values o new h.shape (size ∙ h.shape.sizes o l));
        reads = q ∙ noted all objects e p o h;
        written = b ∙ ap (λ x. with_object o x) h.written ∙ sym (objects_in-with_write write e.writes ordered);
        increasing = i;
        spawns = h.spawns;
      },
      λ n. ap (run_from (task_steps all) objects (suc n) e) (to all h.shape)
          ∙ ap (λ (y : Option (List ℕ)). run_from (task_steps all) objects n (let x : Effects = record { reads = f.reads; writes = also_written o y e.writes; spawns = e.spawns } in x) (served all (step_of (given_words s words)))) makes
          ∙ ap (λ x. run_from (task_steps all) objects n f (served all (step_of x))) (sym there),
    )

-- the same, with what the code has: the number x of the object that was tested, and the machine's states in between

-- what the machine gives, by the service that its registers name
pub given_as : (s : MachineState) (service : Service) (words : List ℕ) → service_of s ≡ Some service → given_words s words ≡ past (record s { memory = memory_given (Some service) s.memory words })
given_as s service words e = ap (λ x. past (record s { memory = memory_given x s.memory words })) e

pub rewritten_as : (s : MachineState) (service : Service) (words : List ℕ) → service_of s ≡ Some service → rewritten_words s words ≡ rewritten_by (Some service) s.memory words
rewritten_as s service words e = ap (λ x. rewritten_by x s.memory words) e

pub reads_object : (programs : ℕ) (p : Progress) (s g m : MachineState) (o x at : ℕ) (words r : List ℕ) → r ≡ reads_noted p x → x ≡ o → TestsTo p s o at None → o < length p.values → service_of s ≡ Some (Read o at)
    → words ≡ object_words p.values x → g ≡ record s { memory = put_words s.memory at words } → Next (past g) ≡ Next m
    → Turns programs p (Calls s (Read o at)) None m (record p { reads = r })
reads_object programs p s g m o x at words r q e t l called w gives goes =
    given programs p s m (Read o at) x r q (λ all h. ap (λ f. unless f (Reads s o)) (sym (t all h)) ∙ ap (Reads s) (sym e)) (omega (arith, l, e)) (λ ws. rewritten_as s (Read o at) ws called)
    (next_is (past g) m goes ∙ ap past gives ∙ ap (λ y. past (record s { memory = put_words s.memory at y })) w ∙ sym (given_as s (Read o at) (object_words p.values x) called))

pub reads_part : (programs : ℕ) (p : Progress) (s m : MachineState) (o x at first count : ℕ) (words r : List ℕ) → r ≡ reads_noted p x → x ≡ o → PartTestsTo p s o at first count None → o < length p.values → service_of s ≡ Some (ReadPart o at first count)
    → words ≡ object_words p.values x → m ≡ past (record s { memory = put_words s.memory at (part_of first count words) })
    → Turns programs p (Calls s (ReadPart o at first count)) None m (record p { reads = r })
reads_part programs p s m o x at first count words r q e t l called w gives =
    given programs p s m (ReadPart o at first count) x r q (λ all h. ap (λ f. unless f (Reads s o)) (sym (t all h)) ∙ ap (Reads s) (sym e)) (omega (arith, l, e)) (λ ws. rewritten_as s (ReadPart o at first count) ws called)
    (gives ∙ ap (λ y. past (record s { memory = put_words s.memory at (part_of first count y) })) w ∙ sym (given_as s (ReadPart o at first count) (object_words p.values x) called))

pub writes_part : (programs : ℕ) (p : Progress) (s m : MachineState) (o x at first count : ℕ) (r : List ℕ) (v : List (List ℕ)) (w : List ℕ) → r ≡ reads_noted p x → x ≡ o → PartTestsTo p s o at first count None → o < length p.values → service_of s ≡ Some (WritePart o at first count)
    → first + count ≤ length (object_words p.values o) → v ≡ set p.values x (with_part first (words_at s.memory at count) (object_words p.values x)) → w ≡ with_object x p.written → IsIncreasing w → Next (past s) ≡ Next m
    → Turns programs p (Calls s (WritePart o at first count)) None m (record p { values = v; reads = r; written = w })
writes_part programs p s m o x at first count r v w q e t l called fits a b i goes =
    let new : List ℕ = with_part first (words_at s.memory at count) (object_words p.values x) in
    let long : first + length (words_at s.memory at count) ≤ length (object_words p.values x) = omega (arith, fits, length-words_at s.memory at count, ap (λ y. length (object_words p.values y)) e) in
    rewritten programs p s m (WritePart o at first count) x new r v w q (λ all h. ap (λ f. unless f (Reads s o)) (sym (t all h)) ∙ ap (Reads s) (sym e)) (omega (arith, l, e))
    (rewritten_as s (WritePart o at first count) (object_words p.values x) called) (length-with_part first (words_at s.memory at count) (object_words p.values x) long)
    (next_is (past s) m goes ∙ sym (given_as s (WritePart o at first count) (object_words p.values x) called)) a b i

pub part_refused : (p : Progress) (s : MachineState) (o at first count : ℕ) (failed : TrapCause) → PartTestsTo p s o at first count (Some failed) → (ComesTo p s (ReadPart o at first count) (Ends (trap_of failed))) × (ComesTo p s (WritePart o at first count) (Ends (trap_of failed)))
part_refused p s o at first count failed t = ((λ all h. ap (λ f. unless f (Reads s o)) (sym (t all h))), (λ all h. ap (λ f. unless f (Reads s o)) (sym (t all h))))
