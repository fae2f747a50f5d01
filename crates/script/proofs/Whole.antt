-- A script that is read keeps all limits.
use Rattle.std.proofs.Common.{◌≡◌, ℕ, ◌*◌, ◌%◌, ◌<◌, ◌≤◌, Bool, true, false, ◌&&◌, List, [], ◌∷◌, length, Option, Some, None, Ok, Err, cond, ltb, leb, eqb, refl, ap, subst, ◌∙◌, arith, eq-eqb}
use Rattle.nv_base.proofs.ForCallers.{at_ok, bind_ok}
use Rattle.std.specs.Int.{is_in_range}
use Rattle.std.specs.Str.Lines.{lines}
use Rattle.std.specs.List.{AllByRecursion, list_all}
use Rattle.std.proofs.lemmas.Bool.{le-leb, lt-ltb, and_from}
use Rattle.kernel_model.specs.Effects.{Spawn}
use Rattle.nv_base.specs.declared.limits.TheConstants.{MAX_FORMAT}
use Rattle.set_model.specs.Limits.{max_objects, max_records}
use Rattle.set_model.specs.Sets.{ObjPart, ProgPart, TaskSet}
use Rattle.task_set.specs.FirstBroken.{first_broken, format_holds, cores_hold, memory_holds, records_hold, objects_hold, sizes_hold, slots_hold, firsts_hold, programs_hold, fuels_hold, codes_hold, tasks_hold, task_programs_hold}
use Rattle.script.specs.declared.keyword.Stage.{Stage}
use Rattle.script.specs.declared.keyword.Stage.TheVariants.{Nvk, Cores, Memory, Records, Object, Program, Task, Schedule, Run}
use Rattle.script.specs.declared.refusals.ScriptCause.TheVariants.{Long}
use Rattle.nv_base.specs.Results.{◌>>=◌}
use Rattle.script.specs.Parts.{Parts, Script, Timeline, nothing, script_of}
use Rattle.script.specs.Sections.{Section, sections}
use Rattle.script.specs.Reading.{ended, is_whole, read, sections_after}
use Rattle.script.specs.Laws.{IsLaidOut, IsWithinLimits, stages_of}
use Rattle.nv_base.specs.Refusals.{at}
use Rattle.script.proofs.Order.{laid_out, taken_in_order}
use Rattle.script.proofs.Kept.{rank, Kept, IsSized, IsFitting, kept_nothing}
use Rattle.script.proofs.KeptSections.{IsShort, sections_kept}
use Rattle.set_model.proofs.ForCallers.{range_told}

sizes : (xs : List ObjPart) → AllByRecursion IsSized xs → list_all (λ o. is_in_range 1 64 o.size) xs ≡ true
sizes [] h = refl
sizes (x ∷ xs) h = and_from (is_in_range 1 64 x.size) (list_all (λ (o : ObjPart). is_in_range 1 64 o.size) xs) (range_told 1 64 x.size h.0.0) (sizes xs h.1)

slots : (xs : List ObjPart) → AllByRecursion IsSized xs → list_all (λ o. is_in_range 2 8 o.slots) xs ≡ true
slots [] h = refl
slots (x ∷ xs) h = and_from (is_in_range 2 8 x.slots) (list_all (λ (o : ObjPart). is_in_range 2 8 o.slots) xs) (range_told 2 8 x.slots h.0.1) (slots xs h.1)

firsts : (xs : List ObjPart) → AllByRecursion IsSized xs → list_all (λ o. eqb (length o.first) o.size) xs ≡ true
firsts [] h = refl
firsts (x ∷ xs) h = and_from (eqb (length x.first) x.size) (list_all (λ (o : ObjPart). eqb (length o.first) o.size) xs) (eq-eqb (length x.first) x.size h.0.2) (firsts xs h.1)

fuels : (m : ℕ) (xs : List ProgPart) → AllByRecursion (IsFitting m) xs → list_all (λ p. is_in_range 1 1000000 p.fuel) xs ≡ true
fuels m [] h = refl
fuels m (x ∷ xs) h = and_from (is_in_range 1 1000000 x.fuel) (list_all (λ (p : ProgPart). is_in_range 1 1000000 p.fuel) xs) (range_told 1 1000000 x.fuel h.0.0) (fuels m xs h.1)

codes : (m : ℕ) (xs : List ProgPart) → AllByRecursion (IsFitting m) xs → list_all (λ p. leb (length p.code) 1024 && leb (4 * length p.code) m) xs ≡ true
codes m [] h = refl
codes m (x ∷ xs) h =
    and_from (leb (length x.code) 1024 && leb (4 * length x.code) m) (list_all (λ (p : ProgPart). leb (length p.code) 1024 && leb (4 * length p.code) m) xs)
    (and_from (leb (length x.code) 1024) (leb (4 * length x.code) m) (le-leb (length x.code) 1024 h.0.1) (le-leb (4 * length x.code) m h.0.2)) (codes m xs h.1)

programs_known : (n : ℕ) (xs : List Spawn) → AllByRecursion (λ t. t.program < n) xs → list_all (λ t. ltb t.program n) xs ≡ true
programs_known n [] h = refl
programs_known n (x ∷ xs) h = and_from (ltb x.program n) (list_all (λ (t : Spawn). ltb t.program n) xs) (lt-ltb x.program n h.0) (programs_known n xs h.1)

none_if : (set : TaskSet) → format_holds set ≡ true → cores_hold set ≡ true → memory_holds set ≡ true → records_hold set ≡ true → objects_hold set ≡ true → sizes_hold set ≡ true → slots_hold set ≡ true
    → firsts_hold set ≡ true → programs_hold set ≡ true → fuels_hold set ≡ true → codes_hold set ≡ true → tasks_hold set ≡ true → task_programs_hold set ≡ true → first_broken set ≡ None
unfolding first_broken
none_if set z a b c d e f g h i j k l = rw (z, a, b, c, d, e, f, g, h, i, j, k, l) refl

none_broken : (set : TaskSet) (t : Timeline) → Kept 9 set t → first_broken set ≡ None
unfolding format_holds cores_hold memory_holds records_hold objects_hold sizes_hold slots_hold firsts_hold programs_hold fuels_hold codes_hold tasks_hold task_programs_hold
none_broken set t k =
    let m = k.memory (omega arith) in
    let some : 1 ≤ length set.objects = k.objects (omega arith) in
    let more : 1 ≤ length set.programs = k.programs (omega arith) in
    none_if set
    (range_told 1 MAX_FORMAT set.format (k.format (omega arith)))
    (range_told 1 8 set.cores (k.cores (omega arith)))
    (and_from (is_in_range 1024 65536 set.memory) (eqb (set.memory % 4) 0) (range_told 1024 65536 set.memory m.0) (eq-eqb (set.memory % 4) 0 m.1))
    (range_told 1 (max_records set.format) set.records (k.records (omega arith)))
    (range_told 1 (max_objects set.format) (length set.objects) (some, k.few_objects))
    (sizes set.objects k.each_object)
    (slots set.objects k.each_object)
    (firsts set.objects k.each_object)
    (range_told 1 16 (length set.programs) (more, k.few_programs))
    (fuels set.memory set.programs k.each_program)
    (codes set.memory set.programs k.each_program)
    (le-leb (length set.tasks) set.records k.few_tasks)
    (programs_known (length set.programs) set.tasks k.each_task)

within : (p : Parts) → Kept 9 p.set p.timeline → IsWithinLimits (script_of p)
within p k =
    let c = k.cores (omega arith) in
    record {
      set = none_broken p.set p.timeline k;
      names = record { objects = k.object_names; programs = k.program_names };
      schedule = record { some_core = c.0; few_cores = c.1; proper = k.each_item; short = k.short };
    }

-- lines that are all taken, of which `run` is the last
pub taken_within : IsShort → (m : ℕ) (p : Parts) (sections : List Section) → sections_after 1 nothing sections ≡ Ok (m, p) → p.last ≡ Some Run → IsWithinLimits (script_of p)
taken_within short m p sections h last =
    let k : Kept (rank p.last) p.set p.timeline = sections_kept short 1 m nothing p sections kept_nothing h in
    within p (subst (λ (o : Option Stage). Kept (rank o) p.set p.timeline) last k)

-- what bytes that are read as a script are
record Comes (bytes : List ℕ) (script : Script) : Type 0 where
  pub number : ℕ
  pub parts : Parts
  pub taken : sections_after 1 nothing (sections (lines bytes)) ≡ Ok (number, parts)
  pub last : parts.last ≡ Some Run
  pub same : script_of parts ≡ script

whole_ok : (p q : Parts) (o : Option Stage) → is_whole p o ≡ Ok q → (o ≡ Some Run) × (p ≡ q)
whole_ok p q None h = absurd cc
whole_ok p q (Some Nvk) h = absurd cc
whole_ok p q (Some Cores) h = absurd cc
whole_ok p q (Some Memory) h = absurd cc
whole_ok p q (Some Records) h = absurd cc
whole_ok p q (Some Object) h = absurd cc
whole_ok p q (Some Program) h = absurd cc
whole_ok p q (Some Task) h = absurd cc
whole_ok p q (Some Schedule) h = absurd cc
whole_ok p q (Some Run) h = (refl, cc)

comes : (bytes : List ℕ) (script : Script) → read bytes ≡ Ok script → Comes bytes script
unfolding read
comes bytes script h = go (ltb 1048576 (length bytes)) h
  where
    go : (b : Bool) → cond b (at 0 (Err Long)) (sections_after 1 nothing (sections (lines bytes)) >>= ended) ≡ Ok script → Comes bytes script
    go true h = absurd cc
    go false h =
        let a = bind_ok (sections_after 1 nothing (sections (lines bytes))) ended script h in
        let p : Parts = a.0.1 in
        let b = bind_ok (at a.0.0 (is_whole p p.last)) (λ q. Ok (script_of q)) script a.2 in
        let w = whole_ok p b.0 p.last (at_ok a.0.0 (is_whole p p.last) b.0 b.1) in
        let same : script_of b.0 ≡ script = cc b.2 in
        record { number = a.0.0; parts = p; taken = a.1; last = w.0; same = ap script_of w.1 ∙ same }

pub read_within : IsShort → (bytes : List ℕ) (script : Script) → read bytes ≡ Ok script → IsWithinLimits script
read_within short bytes script h =
    let c = comes bytes script h in
    subst IsWithinLimits c.same (taken_within short c.number c.parts (sections (lines bytes)) c.taken c.last)

pub read_in_order : (bytes : List ℕ) (script : Script) → read bytes ≡ Ok script → IsLaidOut (stages_of (sections (lines bytes)))
read_in_order bytes script h =
    let c = comes bytes script h in
    laid_out (stages_of (sections (lines bytes))) (taken_in_order 1 c.number nothing c.parts (sections (lines bytes)) c.taken c.last)
