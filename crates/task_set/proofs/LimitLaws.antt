-- No limit is broken exactly where a set is range_means its limits.
use Rattle.std.proofs.Common.{◌≡◌, ℕ, ◌*◌, ◌%◌, ◌==◌, Bool, true, false, not, cond, ◌&&◌, nat_lt, nat_le, Option, Some, None, List, [], ◌∷◌, length, refl}
use Rattle.std.specs.Int.{is_in_range}
use Rattle.std.specs.List.{AllByRecursion, list_all}
use Rattle.std.specs.Cmp.Derive.{both_true}
use Rattle.std.proofs.lemmas.Bool.{leb-true, le-leb, ltb-true, lt-ltb, eqb-true, and_parts}
use Rattle.std.proofs.Common.{eq-eqb}
use Rattle.kernel_model.specs.Effects.{Spawn}
use Rattle.nv_base.specs.declared.limits.TheConstants.{MAX_CODE, MAX_CORES, MAX_FORMAT, MAX_FUEL, MAX_MEMORY, MAX_PROGRAMS, MAX_SIZE, MAX_SLOTS, MIN_MEMORY, MIN_SLOTS}
use Rattle.set_model.specs.Sets.{ObjPart, ProgPart, TaskSet}
use Rattle.set_model.specs.Limits.{IsWord, IsObject, IsProgram, IsTask, IsTaskSet, max_objects, max_records}
use Rattle.task_set.specs.declared.refusals.LimitKind.{LimitKind}
use Rattle.task_set.specs.declared.refusals.LimitKind.TheVariants.{Format, Cores, Memory, Records, Objects, Size, Slots, First, Programs, Fuel, Code, Tasks, TaskProgram}
use Rattle.task_set.specs.FirstBroken.{first_broken, format_holds, cores_hold, memory_holds, records_hold, objects_hold, sizes_hold, slots_hold, firsts_hold, programs_hold, fuels_hold, codes_hold, tasks_hold, task_programs_hold}
use Rattle.task_set.specs.Ranges.{HasWords}
use Rattle.set_model.proofs.ForCallers.{range_means, range_told}

record AllHold (set : TaskSet) : Type 0 where
  format : format_holds set ≡ true
  cores : cores_hold set ≡ true
  memory : memory_holds set ≡ true
  records : records_hold set ≡ true
  objects : objects_hold set ≡ true
  sizes : sizes_hold set ≡ true
  slots : slots_hold set ≡ true
  firsts : firsts_hold set ≡ true
  programs : programs_hold set ≡ true
  fuels : fuels_hold set ≡ true
  codes : codes_hold set ≡ true
  tasks : tasks_hold set ≡ true
  task_programs : task_programs_hold set ≡ true

kept : (b : Bool) (kind : LimitKind) (rest : Option LimitKind) → cond (not b) (Some kind) rest ≡ None → (b ≡ true) × (rest ≡ None)
kept true kind rest e = (refl, e)
kept false kind rest e = let f : Some kind ≡ None = e in absurd (cc)

all_hold : (set : TaskSet) → first_broken set ≡ None → AllHold set
unfolding first_broken
all_hold set e =
    let z = kept (format_holds set) Format _ e in
    let a = kept (cores_hold set) Cores _ z.1 in
    let b = kept (memory_holds set) Memory _ a.1 in
    let c = kept (records_hold set) Records _ b.1 in
    let d = kept (objects_hold set) Objects _ c.1 in
    let f = kept (sizes_hold set) Size _ d.1 in
    let g = kept (slots_hold set) Slots _ f.1 in
    let h = kept (firsts_hold set) First _ g.1 in
    let i = kept (programs_hold set) Programs _ h.1 in
    let j = kept (fuels_hold set) Fuel _ i.1 in
    let k = kept (codes_hold set) Code _ j.1 in
    let l = kept (tasks_hold set) Tasks _ k.1 in
    let m = kept (task_programs_hold set) TaskProgram _ l.1 in
    record {
      format = z.0;
      cores = a.0;
      memory = b.0;
      records = c.0;
      objects = d.0;
      sizes = f.0;
      slots = g.0;
      firsts = h.0;
      programs = i.0;
      fuels = j.0;
      codes = k.0;
      tasks = l.0;
      task_programs = m.0;
    }

none_if_all_hold : (set : TaskSet) → AllHold set → first_broken set ≡ None
unfolding first_broken
none_if_all_hold set h = rw (h.format, h.cores, h.memory, h.records, h.objects, h.sizes, h.slots, h.firsts, h.programs, h.fuels, h.codes, h.tasks, h.task_programs) refl

each_object : (objects : List ObjPart) → list_all (λ o. is_in_range 1 MAX_SIZE o.size) objects ≡ true → list_all (λ o. is_in_range MIN_SLOTS MAX_SLOTS o.slots) objects ≡ true → list_all (λ o. length o.first == o.size) objects ≡ true
    → AllByRecursion (λ o. AllByRecursion IsWord o.first) objects → AllByRecursion IsObject objects
each_object [] e f g w = tt
each_object (o ∷ objects) e f g w =
    let h = and_parts (is_in_range 1 MAX_SIZE o.size) (list_all (λ p. is_in_range 1 MAX_SIZE p.size) objects) e in
    let i = and_parts (is_in_range MIN_SLOTS MAX_SLOTS o.slots) (list_all (λ p. is_in_range MIN_SLOTS MAX_SLOTS p.slots) objects) f in
    let j = and_parts (length o.first == o.size) (list_all (λ p. length p.first == p.size) objects) g in
    (record { size = range_means 1 MAX_SIZE o.size h.0; slots = range_means MIN_SLOTS MAX_SLOTS o.slots i.0; first = eqb-true (length o.first) o.size j.0; words = w.0 }, each_object objects h.1 i.1 j.1 w.1)

each_program : (memory : ℕ) (programs : List ProgPart) → list_all (λ p. is_in_range 1 MAX_FUEL p.fuel) programs ≡ true
    → list_all (λ p. nat_le (length p.code) MAX_CODE && nat_le (4 * length p.code) memory) programs ≡ true → AllByRecursion (λ p. AllByRecursion IsWord p.code) programs
    → AllByRecursion (IsProgram memory) programs
each_program memory [] e f w = tt
each_program memory (p ∷ programs) e f w =
    let h = and_parts (is_in_range 1 MAX_FUEL p.fuel) (list_all (λ q. is_in_range 1 MAX_FUEL q.fuel) programs) e in
    let i = and_parts (nat_le (length p.code) MAX_CODE && nat_le (4 * length p.code) memory) (list_all (λ q. nat_le (length q.code) MAX_CODE && nat_le (4 * length q.code) memory) programs) f in
    let j = and_parts (nat_le (length p.code) MAX_CODE) (nat_le (4 * length p.code) memory) i.0 in
    (record { fuel = range_means 1 MAX_FUEL p.fuel h.0; code = leb-true (length p.code) MAX_CODE j.0; fits = leb-true (4 * length p.code) memory j.1; words = w.0 }, each_program memory programs h.1 i.1 w.1)

each_task : (n : ℕ) (tasks : List Spawn) → list_all (λ t. nat_lt t.program n) tasks ≡ true → AllByRecursion (λ t. IsWord t.arg) tasks → AllByRecursion (IsTask n) tasks
each_task n [] e w = tt
each_task n (t ∷ tasks) e w =
    let h = and_parts (nat_lt t.program n) (list_all (λ s. nat_lt s.program n) tasks) e in
    (record { program = ltb-true t.program n h.0; arg = w.0 }, each_task n tasks h.1 w.1)

pub within_if_none : (set : TaskSet) → HasWords set → first_broken set ≡ None → IsTaskSet set
unfolding format_holds cores_hold memory_holds records_hold objects_hold sizes_hold slots_hold firsts_hold programs_hold fuels_hold codes_hold tasks_hold task_programs_hold
within_if_none set w e =
    let h = all_hold set e in
    let m = and_parts (is_in_range MIN_MEMORY MAX_MEMORY set.memory) (set.memory % 4 == 0) h.memory in
    record {
      format = range_means 1 MAX_FORMAT set.format h.format;
      cores = range_means 1 MAX_CORES set.cores h.cores;
      memory = range_means MIN_MEMORY MAX_MEMORY set.memory m.0;
      aligned = eqb-true (set.memory % 4) 0 m.1;
      records = range_means 1 (max_records set.format) set.records h.records;
      objects = range_means 1 (max_objects set.format) (length set.objects) h.objects;
      each_object = each_object set.objects h.sizes h.slots h.firsts w.objects;
      programs = range_means 1 MAX_PROGRAMS (length set.programs) h.programs;
      each_program = each_program set.memory set.programs h.fuels h.codes w.programs;
      tasks = leb-true (length set.tasks) set.records h.tasks;
      each_task = each_task (length set.programs) set.tasks h.task_programs w.tasks;
    }

sizes_all : (objects : List ObjPart) → AllByRecursion IsObject objects → list_all (λ o. is_in_range 1 MAX_SIZE o.size) objects ≡ true
sizes_all [] h = refl
sizes_all (o ∷ objects) h = both_true (range_told 1 MAX_SIZE o.size h.0.size) (sizes_all objects h.1)

slots_all : (objects : List ObjPart) → AllByRecursion IsObject objects → list_all (λ o. is_in_range MIN_SLOTS MAX_SLOTS o.slots) objects ≡ true
slots_all [] h = refl
slots_all (o ∷ objects) h = both_true (range_told MIN_SLOTS MAX_SLOTS o.slots h.0.slots) (slots_all objects h.1)

firsts_all : (objects : List ObjPart) → AllByRecursion IsObject objects → list_all (λ o. length o.first == o.size) objects ≡ true
firsts_all [] h = refl
firsts_all (o ∷ objects) h = both_true (eq-eqb (length o.first) o.size h.0.first) (firsts_all objects h.1)

fuels_all : (memory : ℕ) (programs : List ProgPart) → AllByRecursion (IsProgram memory) programs → list_all (λ p. is_in_range 1 MAX_FUEL p.fuel) programs ≡ true
fuels_all memory [] h = refl
fuels_all memory (p ∷ programs) h = both_true (range_told 1 MAX_FUEL p.fuel h.0.fuel) (fuels_all memory programs h.1)

codes_all : (memory : ℕ) (programs : List ProgPart) → AllByRecursion (IsProgram memory) programs
    → list_all (λ p. nat_le (length p.code) MAX_CODE && nat_le (4 * length p.code) memory) programs ≡ true
codes_all memory [] h = refl
codes_all memory (p ∷ programs) h =
    both_true (both_true (le-leb (length p.code) MAX_CODE h.0.code) (le-leb (4 * length p.code) memory h.0.fits)) (codes_all memory programs h.1)

task_programs_all : (n : ℕ) (tasks : List Spawn) → AllByRecursion (IsTask n) tasks → list_all (λ t. nat_lt t.program n) tasks ≡ true
task_programs_all n [] h = refl
task_programs_all n (t ∷ tasks) h = both_true (lt-ltb t.program n h.0.program) (task_programs_all n tasks h.1)

pub none_if_within : (set : TaskSet) → IsTaskSet set → first_broken set ≡ None
unfolding format_holds cores_hold memory_holds records_hold objects_hold sizes_hold slots_hold firsts_hold programs_hold fuels_hold codes_hold tasks_hold task_programs_hold
none_if_within set h =
    none_if_all_hold set (record {
      format = range_told 1 MAX_FORMAT set.format h.format;
      cores = range_told 1 MAX_CORES set.cores h.cores;
      memory = both_true (range_told MIN_MEMORY MAX_MEMORY set.memory h.memory) (eq-eqb (set.memory % 4) 0 h.aligned);
      records = range_told 1 (max_records set.format) set.records h.records;
      objects = range_told 1 (max_objects set.format) (length set.objects) h.objects;
      sizes = sizes_all set.objects h.each_object;
      slots = slots_all set.objects h.each_object;
      firsts = firsts_all set.objects h.each_object;
      programs = range_told 1 MAX_PROGRAMS (length set.programs) h.programs;
      fuels = fuels_all set.memory set.programs h.each_program;
      codes = codes_all set.memory set.programs h.each_program;
      tasks = le-leb (length set.tasks) set.records h.tasks;
      task_programs = task_programs_all (length set.programs) set.tasks h.each_task;
    })
