-- Each line and each block keeps the limits.
use Rattle.std.proofs.Common.{◌≡◌, ℕ, ◌+◌, ◌-◌, ◌%◌, ◌^◌, ◌<◌, ◌≤◌, Bool, true, false, cond, not, ◌&&◌, List, [], ◌∷◌, ◌++◌, length, map, replicate, Option, Some, None, Result, Ok, Err, ltb, leb, eqb, refl, subst, arith, length-append}
use Rattle.nv_base.proofs.ForCallers.{bind_ok, all_append}
use Rattle.std.specs.List.{AllByRecursion, list_all, flat_map, before_first}
use Rattle.std.proofs.lemmas.Bool.{ltb-false, ltb-true, leb-true, eqb-true, eqb-false, and_parts}
use Rattle.std.proofs.lemmas.List.{length-map}
use Rattle.plain_text.specs.Words.{is_plain, line_words}
use Rattle.plain_text.specs.Numbers.{is_numeral}
use Rattle.kernel_model.specs.Effects.{Spawn}
use Rattle.nv_base.specs.declared.limits.TheConstants.{MAX_FORMAT}
use Rattle.set_model.specs.Limits.{IsWithin, max_objects, max_records}
use Rattle.set_model.specs.Sets.{ObjPart, TaskSet}
use Rattle.schedule_model.specs.Limits.{IsItem, steps_together}
use Rattle.schedule_model.specs.Schedules.{StepItem}
use Rattle.schedule_model.specs.Schedules as schedules
use Rattle.script.specs.declared.refusals.ScriptCause.{ScriptCause}
use Rattle.script.specs.declared.refusals.ScriptCause.TheVariants as causes
use Rattle.script.specs.declared.items.OnTimes.{OnTimes}
use Rattle.script.specs.declared.keyword.Stage.TheVariants as stages
use Rattle.script.specs.declared.keyword.Keyword.{Keyword}
use Rattle.script.specs.declared.keyword.Keyword.TheVariants.{Nvk, Cores, Memory, Records, Object, Task, Power, Steps, Mix, Run}
use Rattle.nv_base.specs.Results.{◌>>=◌}
use Rattle.script.specs.Results.{each}
use Rattle.script.specs.Keywords.{stage_of, may_follow}
use Rattle.script.specs.Words.{number, value, one, two, three, new_name, known_name}
use Rattle.script.specs.Parts.{Parts, Timeline, event_count}
use Rattle.script.specs.SetLines.{format_after, cores_after, memory_after, records_after, first_values, object_after, task_after}
use Rattle.script.specs.ScheduleLines.{on_times, steps, steps_within, times_of, is_star, are_times, are_many, times_together, power_after, steps_after, mix_after}
use Rattle.script.specs.Lines.{keyword_after, words_after, line_after}
use Rattle.script.proofs.Counts.{times_length, steps-append}
use Rattle.script.proofs.Inversions.{refused_if, allowed_if, number_ok, each_all, length-first, words_read}
use Rattle.script.proofs.NewNames.{named_with, known_within}
use Rattle.script.proofs.Kept.{rank, follows, Kept, kept_format, kept_cores, kept_memory, kept_records, kept_object, kept_task, kept_events, kept_run}

abbrev pub KeptParts : Parts → Type 0
KeptParts p = Kept (rank p.last) p.set p.timeline

-- ---- the lines of the set

abbrev Words : Type 0
Words = List (List ℕ)

format_ok : (set new : TaskSet) (words : Words) → format_after set words ≡ Ok new → (m : ℕ) × IsWithin 1 MAX_FORMAT m × (record set { format = m } ≡ new)
unfolding format_after
format_ok set new words h =
    let a = bind_ok (one words) (λ word. number 1 MAX_FORMAT word >>= λ m. Ok (record set { format = m })) new h in
    let b = bind_ok (number 1 MAX_FORMAT a.0) (λ m. Ok (record set { format = m })) new a.2 in
    (b.0, number_ok 1 MAX_FORMAT b.0 a.0 b.1, cc b.2)

cores_ok : (set new : TaskSet) (words : Words) → cores_after set words ≡ Ok new → (m : ℕ) × IsWithin 1 8 m × (record set { cores = m } ≡ new)
unfolding cores_after
cores_ok set new words h =
    let a = bind_ok (one words) (λ word. number 1 8 word >>= λ m. Ok (record set { cores = m })) new h in
    let b = bind_ok (number 1 8 a.0) (λ m. Ok (record set { cores = m })) new a.2 in
    (b.0, number_ok 1 8 b.0 a.0 b.1, cc b.2)

records_ok : (set new : TaskSet) (words : Words) → records_after set words ≡ Ok new → (m : ℕ) × IsWithin 1 (max_records set.format) m × (record set { records = m } ≡ new)
unfolding records_after
records_ok set new words h =
    let a = bind_ok (one words) (λ word. number 1 (max_records set.format) word >>= λ m. Ok (record set { records = m })) new h in
    let b = bind_ok (number 1 (max_records set.format) a.0) (λ m. Ok (record set { records = m })) new a.2 in
    (b.0, number_ok 1 (max_records set.format) b.0 a.0 b.1, cc b.2)

memory_ok : (set new : TaskSet) (words : Words) → memory_after set words ≡ Ok new → (m : ℕ) × IsWithin 1024 65536 m × (m % 4 ≡ 0) × (record set { memory = m } ≡ new)
unfolding memory_after
memory_ok set new words h =
    let a = bind_ok (one words) (λ word. number 1024 65536 word >>= λ m. cond (eqb (m % 4) 0) (Ok (record set { memory = m })) (Err causes.Range)) new h in
    let b = bind_ok (number 1024 65536 a.0) (λ m. cond (eqb (m % 4) 0) (Ok (record set { memory = m })) (Err causes.Range)) new a.2 in
    let t = allowed_if (eqb (b.0 % 4) 0) causes.Range (record set { memory = b.0 }) new b.2 in
    (b.0, number_ok 1024 65536 b.0 a.0 b.1, eqb-true (b.0 % 4) 0 t.0, t.1)

-- an object that a line gives
record Adds (set new : TaskSet) : Type 0 where
  object : ObjPart
  word : List ℕ
  named : new_name (λ o. o.name) set.objects word ≡ Ok object.name
  size : IsWithin 1 64 object.size
  slots : IsWithin 2 8 object.slots
  first : length object.first ≡ object.size
  room : eqb (length set.objects) (max_objects set.format) ≡ false
  same : record set { objects = set.objects ++ object ∷ [] } ≡ new

object_ok : (set new : TaskSet) (words : Words) → object_after set words ≡ Ok new → Adds set new
unfolding object_after
object_ok set new words h =
    let last = λ (name : List ℕ) (size slots : ℕ) (first : List ℕ). let r : Result TaskSet ScriptCause = cond (eqb (length set.objects) (max_objects set.format)) (Err causes.Many) (Ok (record set { objects = set.objects ++ record { name = name; size = size; slots = slots; first = first } ∷ [] })) in r in
    let a = bind_ok (three words) (λ word. new_name (λ o. o.name) set.objects word.0 >>= λ name. number 1 64 word.1 >>= λ size. number 2 8 word.2 >>= λ slots. first_values size word.3 >>= λ first. last name size slots first) new h in
    let w = a.0 in
    let b = bind_ok (new_name (λ o. o.name) set.objects w.0) (λ name. number 1 64 w.1 >>= λ size. number 2 8 w.2 >>= λ slots. first_values size w.3 >>= λ first. last name size slots first) new a.2 in
    let c = bind_ok (number 1 64 w.1) (λ size. number 2 8 w.2 >>= λ slots. first_values size w.3 >>= λ first. last b.0 size slots first) new b.2 in
    let d = bind_ok (number 2 8 w.2) (λ slots. first_values c.0 w.3 >>= λ first. last b.0 c.0 slots first) new c.2 in
    let e = bind_ok (first_values c.0 w.3) (λ first. last b.0 c.0 d.0 first) new d.2 in
    let object : ObjPart = record { name = b.0; size = c.0; slots = d.0; first = e.0 } in
    let t = refused_if (eqb (length set.objects) (max_objects set.format)) causes.Many (record set { objects = set.objects ++ object ∷ [] }) new e.2 in
    record {
      object = object;
      word = w.0;
      named = b.1;
      size = number_ok 1 64 c.0 w.1 c.1;
      slots = number_ok 2 8 d.0 w.2 d.1;
      first = length-first c.0 w.3 e.0 e.1;
      room = t.0;
      same = t.1;
    }

record Opens (set new : TaskSet) : Type 0 where
  task : Spawn
  known : task.program < length set.programs
  room : eqb (length set.tasks) set.records ≡ false
  same : record set { tasks = set.tasks ++ task ∷ [] } ≡ new

task_ok : (set new : TaskSet) (words : Words) → task_after set words ≡ Ok new → Opens set new
unfolding task_after
task_ok set new words h =
    let last = λ (program arg : ℕ). let r : Result TaskSet ScriptCause = cond (eqb (length set.tasks) set.records) (Err causes.Many) (Ok (record set { tasks = set.tasks ++ record { program = program; arg = arg } ∷ [] })) in r in
    let a = bind_ok (two words) (λ word. known_name (λ p. p.name) set.programs word.0 >>= λ program. value word.1 >>= λ arg. last program arg) new h in
    let w = a.0 in
    let b = bind_ok (known_name (λ p. p.name) set.programs w.0) (λ program. value w.1 >>= λ arg. last program arg) new a.2 in
    let c = bind_ok (value w.1) (λ arg. last b.0 arg) new b.2 in
    let task : Spawn = record { program = b.0; arg = c.0 } in
    let t = refused_if (eqb (length set.tasks) set.records) causes.Many (record set { tasks = set.tasks ++ task ∷ [] }) new c.2 in
    record { task = task; known = known_within (λ p. p.name) set.programs w.0 b.0 b.1; room = t.0; same = t.1 }

-- ---- the lines of the schedule

few : (n : ℕ) → are_many n ≡ false → n ≤ 1000000
few n e = ltb-false 1000000 n e

some_length : (digits : List ℕ) → is_numeral 10 32 digits ≡ true → 1 ≤ length digits
some_length [] e = absurd cc
some_length (d ∷ digits) e = omega arith

cores_all : (cores : ℕ) (digits : List ℕ) → list_all (λ d. ltb (d - 48) cores) digits ≡ true → AllByRecursion (λ core. core < cores) (map (λ d. d - 48) digits)
cores_all cores [] e = tt
cores_all cores (d ∷ digits) e =
    let t = and_parts (ltb (d - 48) cores) (list_all (λ d. ltb (d - 48) cores) digits) e in
    (ltb-true (d - 48) cores t.0, cores_all cores digits t.1)

within_ok : (cores : ℕ) (digits : List ℕ) (times : Option ℕ) (item : StepItem) → steps_within cores digits times ≡ Ok item → IsItem cores item
within_ok cores digits None item h = absurd cc
within_ok cores digits (Some times) item h = go (is_numeral 10 32 digits) refl h
  where
    go : (b : Bool) → is_numeral 10 32 digits ≡ b → cond (not b) (Err causes.Number) (cond (list_all (λ d. ltb (d - 48) cores) digits && are_times times) (Ok (schedules.Steps (map (λ d. d - 48) digits) times)) (Err causes.Range)) ≡ Ok item → IsItem cores item
    go false e h = absurd cc
    go true e h =
        let t = allowed_if (list_all (λ d. ltb (d - 48) cores) digits && are_times times) causes.Range (schedules.Steps (map (λ d. d - 48) digits) times) item h in
        let u = and_parts (list_all (λ d. ltb (d - 48) cores) digits) (are_times times) t.0 in
        let v = and_parts (leb 1 times) (leb times 1000000) u.1 in
        let some = some_length digits e in
        subst (IsItem cores) t.1 (omega (arith, some, length-map digits (λ (d : ℕ). d - 48)), leb-true 1 times v.0, cores_all cores digits u.0)

steps_ok : (cores : ℕ) (t u : Timeline) (words : Words) → AllByRecursion (IsItem cores) t.items → steps_after cores t words ≡ Ok u → AllByRecursion (IsItem cores) u.items × (event_count u ≤ 1000000)
unfolding steps_after
steps_ok cores t u words k h = go (eqb (length words) 0) h
  where
    go : (b : Bool) → cond b (Err causes.Count) (each (steps cores) words >>= λ items. cond (are_many (event_count t + steps_together items)) (Err causes.Many) (Ok (record t { items = t.items ++ items }))) ≡ Ok u → AllByRecursion (IsItem cores) u.items × (event_count u ≤ 1000000)
    go true h = absurd cc
    go false h =
        let a = bind_ok (each (steps cores) words) (λ items. cond (are_many (event_count t + steps_together items)) (Err causes.Many) (Ok (record t { items = t.items ++ items }))) u h in
        let more = a.0 in
        let r = refused_if (are_many (event_count t + steps_together more)) causes.Many (record t { items = t.items ++ more }) u a.2 in
        let proper = each_all (IsItem cores) (steps cores) (λ word item e. within_ok cores (before_first is_star word) (times_of (before_first is_star word) word) item e) words more a.1 in
        let count = few (event_count t + steps_together more) r.0 in
        subst (λ (v : Timeline). AllByRecursion (IsItem cores) v.items × (event_count v ≤ 1000000)) r.1
        (all_append (IsItem cores) t.items more k proper, omega (arith, count, steps-append t.items more))

mix_ok : (cores : ℕ) (t u : Timeline) (words : Words) → AllByRecursion (IsItem cores) t.items → mix_after t words ≡ Ok u → AllByRecursion (IsItem cores) u.items × (event_count u ≤ 1000000)
unfolding mix_after
mix_ok cores t u words k h =
    let last = λ (seed count : ℕ). let r : Result Timeline ScriptCause = cond (are_many (event_count t + count)) (Err causes.Many) (Ok (record t { items = t.items ++ schedules.Mix seed count ∷ [] })) in r in
    let a = bind_ok (two words) (λ word. number 0 (2 ^ 32 - 1) word.0 >>= λ seed. number 1 1000000 word.1 >>= λ count. last seed count) u h in
    let w = a.0 in
    let b = bind_ok (number 0 (2 ^ 32 - 1) w.0) (λ seed. number 1 1000000 w.1 >>= λ count. last seed count) u a.2 in
    let c = bind_ok (number 1 1000000 w.1) (λ count. last b.0 count) u b.2 in
    let one : List StepItem = schedules.Mix b.0 c.0 ∷ [] in
    let r = refused_if (are_many (event_count t + c.0)) causes.Many (record t { items = t.items ++ one }) u c.2 in
    let range = number_ok 1 1000000 c.0 w.1 c.1 in
    let count = few (event_count t + c.0) r.0 in
    subst (λ (v : Timeline). AllByRecursion (IsItem cores) v.items × (event_count v ≤ 1000000)) r.1
    (all_append (IsItem cores) t.items one k (range.0, tt), omega (arith, count, steps-append t.items one))

power_ok : (cores : ℕ) (t u : Timeline) (words : Words) → AllByRecursion (IsItem cores) t.items → power_after t words ≡ Ok u → AllByRecursion (IsItem cores) u.items × (event_count u ≤ 1000000)
unfolding power_after
power_ok cores t u words k h = go (eqb (length words) 0) h
  where
    go : (b : Bool) → cond b (Err causes.Count) (each on_times words >>= λ times. cond (are_many (event_count t + times_together times)) (Err causes.Many) (Ok (record t { on_times = t.on_times ++ flat_map (λ on. replicate on.times on.time) times }))) ≡ Ok u → AllByRecursion (IsItem cores) u.items × (event_count u ≤ 1000000)
    go true h = absurd cc
    go false h =
        let a = bind_ok (each on_times words) (λ times. cond (are_many (event_count t + times_together times)) (Err causes.Many) (Ok (record t { on_times = t.on_times ++ flat_map (λ on. replicate on.times on.time) times }))) u h in
        let times = a.0 in
        let more : List ℕ = flat_map (λ (on : OnTimes). replicate on.times on.time) times in
        let r = refused_if (are_many (event_count t + times_together times)) causes.Many (record t { on_times = t.on_times ++ more }) u a.2 in
        let count = few (event_count t + times_together times) r.0 in
        subst (λ (v : Timeline). AllByRecursion (IsItem cores) v.items × (event_count v ≤ 1000000)) r.1
        (k, omega (arith, count, length-append t.on_times more, times_length times))

-- ---- a line that stands alone

abbrev KeptAt : Keyword → Parts → Type 0
KeptAt keyword q = Kept (rank (Some (stage_of keyword))) q.set q.timeline

set_kept : (keyword : Keyword) (p q : Parts) (r : Result TaskSet ScriptCause) → ((new : TaskSet) → r ≡ Ok new → Kept (rank (Some (stage_of keyword))) new p.timeline)
    → (r >>= λ set. Ok (record p { set = set })) ≡ Ok q → KeptAt keyword q
set_kept keyword p q r kept h =
    let a = bind_ok r (λ set. Ok (record p { set = set })) q h in
    let same : record p { set = a.0 } ≡ q = cc a.2 in
    subst (λ (q : Parts). KeptAt keyword q) same (kept a.0 a.1)

events_kept : (keyword : Keyword) (p q : Parts) (r : Result Timeline ScriptCause) → ((new : Timeline) → r ≡ Ok new → Kept (rank (Some (stage_of keyword))) p.set new)
    → (r >>= λ timeline. Ok (record p { timeline = timeline })) ≡ Ok q → KeptAt keyword q
events_kept keyword p q r kept h =
    let a = bind_ok r (λ timeline. Ok (record p { timeline = timeline })) q h in
    let same : record p { timeline = a.0 } ≡ q = cc a.2 in
    subst (λ (q : Parts). KeptAt keyword q) same (kept a.0 a.1)

keyword_kept : (keyword : Keyword) (n : ℕ) (p q : Parts) (words : Words) → KeptParts p → may_follow p.last (stage_of keyword) ≡ true
    → keyword_after keyword n p words ≡ Ok q → KeptAt keyword q
keyword_kept Nvk n p q words k f h =
    set_kept Nvk p q (format_after p.set words)
    (λ new e.
    let a = format_ok p.set new words e in
    subst (λ (s : TaskSet). Kept 1 s p.timeline) a.2 (kept_format (rank p.last) p.set p.timeline k a.0 a.1 (follows p.last stages.Nvk f)))
    h
keyword_kept Cores n p q words k f h =
    set_kept Cores (record p { cores_line = n }) q (cores_after p.set words)
    (λ new e.
    let a = cores_ok p.set new words e in
    subst (λ (s : TaskSet). Kept 2 s p.timeline) a.2 (kept_cores (rank p.last) p.set p.timeline k a.0 a.1 (follows p.last stages.Cores f)))
    h
keyword_kept Memory n p q words k f h =
    set_kept Memory p q (memory_after p.set words)
    (λ new e.
    let a = memory_ok p.set new words e in
    subst (λ (s : TaskSet). Kept 3 s p.timeline) a.3 (kept_memory (rank p.last) p.set p.timeline k a.0 a.1 a.2 (follows p.last stages.Memory f)))
    h
keyword_kept Records n p q words k f h =
    set_kept Records p q (records_after p.set words)
    (λ new e.
    let a = records_ok p.set new words e in
    subst (λ (s : TaskSet). Kept 4 s p.timeline) a.2 (kept_records (rank p.last) p.set p.timeline k a.0 a.1 (follows p.last stages.Records f)))
    h
keyword_kept Object n p q words k f h =
    set_kept Object p q (object_after p.set words)
    (λ new e.
    let a = object_ok p.set new words e in
    let names = named_with (λ (o : ObjPart). o.name) p.set.objects a.object a.word a.object.name k.object_names a.named refl in
    subst (λ (s : TaskSet). Kept 5 s p.timeline) a.same
    (kept_object (rank p.last) p.set p.timeline k a.object (a.size, a.slots, a.first) names (eqb-false (length p.set.objects) (max_objects p.set.format) a.room) (follows p.last stages.Object f)))
    h
keyword_kept Task n p q words k f h =
    set_kept Task p q (task_after p.set words)
    (λ new e.
    let a = task_ok p.set new words e in
    subst (λ (s : TaskSet). Kept 7 s p.timeline) a.same
    (kept_task (rank p.last) p.set p.timeline k a.task a.known (eqb-false (length p.set.tasks) p.set.records a.room) (follows p.last stages.Task f)))
    h
keyword_kept Power n p q words k f h =
    events_kept Power p q (power_after p.timeline words)
    (λ new e. let a = power_ok p.set.cores p.timeline new words k.each_item e in kept_events (rank p.last) p.set p.timeline k new a.0 a.1 (follows p.last stages.Schedule f))
    h
keyword_kept Steps n p q words k f h =
    events_kept Steps p q (steps_after p.set.cores p.timeline words)
    (λ new e. let a = steps_ok p.set.cores p.timeline new words k.each_item e in kept_events (rank p.last) p.set p.timeline k new a.0 a.1 (follows p.last stages.Schedule f))
    h
keyword_kept Mix n p q words k f h =
    events_kept Mix p q (mix_after p.timeline words)
    (λ new e. let a = mix_ok p.set.cores p.timeline new words k.each_item e in kept_events (rank p.last) p.set p.timeline k new a.0 a.1 (follows p.last stages.Schedule f))
    h
keyword_kept Run n p q words k f h =
    let a = allowed_if (eqb (length words) 0) causes.Count p q h in
    subst (λ (q : Parts). KeptAt Run q) a.1 (kept_run (rank p.last) p.set p.timeline k (follows p.last stages.Run f))

words_kept : (n : ℕ) (p q : Parts) (words : Words) → KeptParts p → words_after n p words ≡ Ok q → KeptParts q
unfolding words_after
words_kept n p q [] k h = let same : p ≡ q = cc in subst KeptParts same k
words_kept n p q (first ∷ words) k h =
    let r = words_read n p q first words h in
    subst KeptParts r.5 (keyword_kept r.0 n p r.3 words k r.2 r.4)

pub line_kept : (n : ℕ) (p q : Parts) (line : List ℕ) → KeptParts p → line_after n p line ≡ Ok q → KeptParts q
line_kept n p q line k h =
    let a = plain (is_plain line) (words_after n p (line_words line)) h in
    words_kept n p q (line_words line) k a
  where
    plain : (b : Bool) (r : Result Parts ScriptCause) → cond b r (Err causes.Byte) ≡ Ok q → r ≡ Ok q
    plain true r h = h
    plain false r h = absurd cc
