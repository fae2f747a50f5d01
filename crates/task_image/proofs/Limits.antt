-- What is read keeps the limits of a task set and has names, and the other way round.
use Rattle.std.proofs.Common.{◌≡◌, ℕ, zero, suc, ◌*◌, ◌/◌, ◌%◌, ◌^◌, ◌<◌, ◌≤◌, true, nat_lt, min, max, eqb, List, [], ◌∷◌, ◌++◌, length, map, refl, sym, subst, arith}
use Rattle.std.specs.Int.{is_in_range}
use Rattle.std.specs.List.{AllByRecursion}
use Rattle.std.proofs.lemmas.Bool.{eqb-true, ltb-true, and_parts}
use Rattle.std.proofs.lemmas.Bool.Decides.{nat_tests}
use Rattle.std.proofs.lemmas.List.{map_push}
use Rattle.kernel_model.specs.Effects.{Spawn}
use Rattle.nv_base.specs.declared.limits.TheConstants.{MAX_CODE, MAX_CORES, MAX_FORMAT, MAX_FUEL, MAX_MEMORY, MAX_NAME, MAX_PROGRAMS, MAX_SIZE, MAX_SLOTS, MIN_MEMORY, MIN_SLOTS}
use Rattle.set_model.specs.Limits.{IsWord, IsObject, IsProgram, IsTask, IsTaskSet, max_objects, max_records}
use Rattle.set_model.specs.Names.{IsName, IsNamed}
use Rattle.set_model.specs.Sets.{ObjPart, ProgPart, TaskSet}
use Rattle.set_model.proofs.ForCallers.{most_objects, most_records, range_means}
use Rattle.task_image.specs.Unpacked.{is_memory}
use Rattle.task_image.proofs.Formats.{each_length, IsNewName, AreWordsOf, IsObjectAfter, IsProgramAfter, IsTaskOf, most_words}
use Rattle.task_image.proofs.Lists.{Each}
use Rattle.plain_text.proofs.ForCallers.{name_means, name_told}
use Rattle.task_image.proofs.NameLists.{AreNew, new_are_distinct, distinct_are_new}
use Rattle.task_image.proofs.Numbers.{IsNumber}
use Rattle.task_image.proofs.Sets.{IsRead}

within_told : (low high n : ℕ) → low ≤ n → n ≤ high → is_in_range low high n ≡ true
within_told low high n l h = grind (arith, nat_tests)

number : (k low high n : ℕ) → low ≤ n → n ≤ high → n < 256 ^ k → IsNumber k (is_in_range low high) n
number k low high n l h s = record { kept = within_told low high n l h; small = s }

-- ---- words

words_are : (n : ℕ) (before xs : List ℕ) → Each (λ _. IsNumber 4 (λ _. true)) n before xs → AllByRecursion IsWord xs
words_are zero before [] q = tt
words_are zero before (x ∷ xs) q = absurd q
words_are (suc n) before [] q = tt
words_are (suc n) before (x ∷ xs) q = (q.0.small, words_are n (before ++ x ∷ []) xs q.1)

words_told : (before xs : List ℕ) → AllByRecursion IsWord xs → Each (λ _. IsNumber 4 (λ _. true)) (length xs) before xs
words_told before [] h = tt
words_told before (x ∷ xs) h = (record { kept = refl; small = h.0 }, words_told (before ++ x ∷ []) xs h.1)

-- ---- objects

abbrev object_names : List ObjPart → List (List ℕ)
object_names = map (λ o. o.name)

abbrev Objects : List ObjPart → ObjPart → Type 0
Objects before = IsObjectAfter (object_names before)

object_is : (taken : List (List ℕ)) (o : ObjPart) → IsObjectAfter taken o → IsObject o
object_is taken o q = record {
  size = range_means 1 MAX_SIZE o.size q.size.kept;
  slots = range_means MIN_SLOTS MAX_SLOTS o.slots q.slots.kept;
  first = each_length (λ _. IsNumber 4 (λ _. true)) o.size [] o.first q.first;
  words = words_are o.size [] o.first q.first;
}

object_told : (taken : List (List ℕ)) (o : ObjPart) → IsObject o → IsName o.name → (new : IsNewName taken (length o.name) o.name) → IsObjectAfter taken o
object_told taken o h n new = record {
  long = number 1 1 MAX_NAME (length o.name) n.size.0 n.size.1 (omega (arith, n.size.1));
  name = new;
  size = number 1 1 MAX_SIZE o.size h.size.0 h.size.1 (omega (arith, h.size.1));
  slots = number 1 MIN_SLOTS MAX_SLOTS o.slots h.slots.0 h.slots.1 (omega (arith, h.slots.1));
  first = subst (λ (k : ℕ). AreWordsOf k o.first) h.first (words_told [] o.first h.words);
}

objects_are : (n : ℕ) (before xs : List ObjPart) → Each Objects n before xs → AllByRecursion IsObject xs × AllByRecursion IsName (object_names xs) × AreNew (object_names before) (object_names xs)
objects_are zero before [] q = (tt, tt, tt)
objects_are zero before (x ∷ xs) q = absurd q
objects_are (suc n) before [] q = (tt, tt, tt)
objects_are (suc n) before (x ∷ xs) q =
    let t = objects_are n (before ++ x ∷ []) xs q.1 in
    let new = subst (λ (taken : List (List ℕ)). AreNew taken (object_names xs)) (map_push (λ o. o.name) before x) t.2 in
    ((object_is _ x q.0, t.0), (name_means x.name q.0.name.form, t.1), (q.0.name.fresh, new))

objects_told : (before xs : List ObjPart) → AllByRecursion IsObject xs → AllByRecursion IsName (object_names xs) → AreNew (object_names before) (object_names xs) → Each Objects (length xs) before xs
objects_told before [] h n f = tt
objects_told before (x ∷ xs) h n f =
    let new = subst (λ (taken : List (List ℕ)). AreNew taken (object_names xs)) (sym (map_push (λ o. o.name) before x)) f.1 in
    (object_told (object_names before) x h.0 n.0 (record { long = refl; form = name_told x.name n.0; fresh = f.0 }), objects_told (before ++ x ∷ []) xs h.1 n.1 new)

-- ---- programs

abbrev program_names : List ProgPart → List (List ℕ)
program_names = map (λ p. p.name)

abbrev Programs : ℕ → List ProgPart → ProgPart → Type 0
Programs memory before = IsProgramAfter memory (program_names before)

few_words : (memory n : ℕ) → n ≤ min MAX_CODE (memory / 4) → (n ≤ MAX_CODE) × (4 * n ≤ memory)
few_words memory n h = (omega arith, omega arith)

most_told : (memory n : ℕ) → n ≤ MAX_CODE → 4 * n ≤ memory → n ≤ min MAX_CODE (memory / 4)
most_told memory n h k = omega arith

program_is : (memory : ℕ) (taken : List (List ℕ)) (p : ProgPart) → IsProgramAfter memory taken p → IsProgram memory p
program_is memory taken p q =
    let few = few_words memory (length p.code) (range_means 0 (most_words memory) (length p.code) q.number_of_words.kept).1 in
    record { fuel = range_means 1 MAX_FUEL p.fuel q.fuel.kept; code = few.0; fits = few.1; words = words_are (length p.code) [] p.code q.code }

program_told : (memory : ℕ) (taken : List (List ℕ)) (p : ProgPart) → IsProgram memory p → IsName p.name → IsNewName taken (length p.name) p.name → IsProgramAfter memory taken p
program_told memory taken p h n new = record {
  long = number 1 1 MAX_NAME (length p.name) n.size.0 n.size.1 (omega (arith, n.size.1));
  name = new;
  fuel = number 4 1 MAX_FUEL p.fuel h.fuel.0 h.fuel.1 (omega (arith, h.fuel.1));
  number_of_words = number 2 0 (most_words memory) (length p.code) (omega arith) (most_told memory (length p.code) h.code h.fits) (omega (arith, h.code));
  code = words_told [] p.code h.words;
}

programs_are : (memory n : ℕ) (before xs : List ProgPart) → Each (Programs memory) n before xs → AllByRecursion (IsProgram memory) xs × AllByRecursion IsName (program_names xs) × AreNew (program_names before) (program_names xs)
programs_are memory zero before [] q = (tt, tt, tt)
programs_are memory zero before (x ∷ xs) q = absurd q
programs_are memory (suc n) before [] q = (tt, tt, tt)
programs_are memory (suc n) before (x ∷ xs) q =
    let t = programs_are memory n (before ++ x ∷ []) xs q.1 in
    let new = subst (λ (taken : List (List ℕ)). AreNew taken (program_names xs)) (map_push (λ p. p.name) before x) t.2 in
    ((program_is memory _ x q.0, t.0), (name_means x.name q.0.name.form, t.1), (q.0.name.fresh, new))

programs_told : (memory : ℕ) (before xs : List ProgPart) → AllByRecursion (IsProgram memory) xs → AllByRecursion IsName (program_names xs) → AreNew (program_names before) (program_names xs) → Each (Programs memory) (length xs) before xs
programs_told memory before [] h n f = tt
programs_told memory before (x ∷ xs) h n f =
    let new = subst (λ (taken : List (List ℕ)). AreNew taken (program_names xs)) (sym (map_push (λ p. p.name) before x)) f.1 in
    (program_told memory (program_names before) x h.0 n.0 (record { long = refl; form = name_told x.name n.0; fresh = f.0 }), programs_told memory (before ++ x ∷ []) xs h.1 n.1 new)

-- ---- tasks

tasks_are : (programs n : ℕ) (before xs : List Spawn) → Each (λ _. IsTaskOf programs) n before xs → AllByRecursion (IsTask programs) xs
tasks_are programs zero before [] q = tt
tasks_are programs zero before (x ∷ xs) q = absurd q
tasks_are programs (suc n) before [] q = tt
tasks_are programs (suc n) before (x ∷ xs) q = (record { program = ltb-true x.program programs q.0.program.kept; arg = q.0.arg.small }, tasks_are programs n (before ++ x ∷ []) xs q.1)

below_told : (a b : ℕ) → a < b → nat_lt a b ≡ true
below_told a b h = grind (arith, nat_tests)

tasks_told : (programs : ℕ) → programs ≤ MAX_PROGRAMS → (before xs : List Spawn) → AllByRecursion (IsTask programs) xs → Each (λ _. IsTaskOf programs) (length xs) before xs
tasks_told programs few before [] h = tt
tasks_told programs few before (x ∷ xs) h =
    (record { program = record { kept = below_told x.program programs h.0.program; small = omega (arith, h.0.program) }; arg = record { kept = refl; small = h.0.arg } }, tasks_told programs few (before ++ x ∷ []) xs h.1)

-- ---- sets

pub read_is_set : (s : TaskSet) → IsRead s → IsTaskSet s
read_is_set s q =
    let memory = and_parts (is_in_range MIN_MEMORY MAX_MEMORY s.memory) (eqb (s.memory % 4) 0) q.header.memory.kept in
    let records = range_means (max 1 (length s.tasks)) (max_records s.format) s.records q.header.records.kept in
    record {
      format = range_means 1 MAX_FORMAT s.format q.header.format.kept;
      cores = range_means 1 MAX_CORES s.cores q.header.cores.kept;
      memory = range_means MIN_MEMORY MAX_MEMORY s.memory memory.0;
      aligned = eqb-true (s.memory % 4) 0 memory.1;
      records = (omega (arith, records.0), records.1);
      objects = range_means 1 (max_objects s.format) (length s.objects) q.header.objects.kept;
      each_object = (objects_are (length s.objects) [] s.objects q.objects).0;
      programs = range_means 1 MAX_PROGRAMS (length s.programs) q.header.programs.kept;
      each_program = (programs_are s.memory (length s.programs) [] s.programs q.programs).0;
      tasks = omega (arith, records.0);
      each_task = tasks_are (length s.programs) (length s.tasks) [] s.tasks q.tasks;
    }

pub read_is_named : (s : TaskSet) → IsRead s → IsNamed s
read_is_named s q =
    let o = objects_are (length s.objects) [] s.objects q.objects in
    let p = programs_are s.memory (length s.programs) [] s.programs q.programs in
    record {
      objects = record { each = o.1; once = new_are_distinct [] (object_names s.objects) o.2 };
      programs = record { each = p.1; once = new_are_distinct [] (program_names s.programs) p.2 };
    }

memory_told : (n : ℕ) → MIN_MEMORY ≤ n → n ≤ MAX_MEMORY → n % 4 ≡ 0 → is_memory n ≡ true
memory_told n l h e = grind (arith, nat_tests)

pub set_is_read : (s : TaskSet) → IsTaskSet s → IsNamed s → IsRead s
set_is_read s h n = record {
  header = record {
    format = number 2 1 MAX_FORMAT s.format h.format.0 h.format.1 (omega (arith, h.format.1));
    cores = number 1 1 MAX_CORES s.cores h.cores.0 h.cores.1 (omega (arith, h.cores.1));
    objects = number 1 1 (max_objects s.format) (length s.objects) h.objects.0 h.objects.1 (omega (arith, h.objects.1, most_objects s.format));
    programs = number 1 1 MAX_PROGRAMS (length s.programs) h.programs.0 h.programs.1 (omega (arith, h.programs.1));
    tasks = number 2 0 (max_records s.format) (length s.tasks) (omega arith) (omega (arith, h.tasks, h.records.1)) (omega (arith, h.tasks, h.records.1, most_records s.format));
    memory = record { kept = memory_told s.memory h.memory.0 h.memory.1 h.aligned; small = omega (arith, h.memory.1) };
    records = number 2 (max 1 (length s.tasks)) (max_records s.format) s.records (omega (arith, h.tasks, h.records.0)) h.records.1 (omega (arith, h.records.1, most_records s.format));
  };
  objects = objects_told [] s.objects h.each_object n.objects.each (distinct_are_new (object_names s.objects) n.objects.once);
  programs = programs_told s.memory [] s.programs h.each_program n.programs.each (distinct_are_new (program_names s.programs) n.programs.once);
  tasks = tasks_told (length s.programs) h.programs.1 [] s.tasks h.each_task;
}
