-- What holds of the lines so far: each number that was given is in its limits.
use Rattle.std.proofs.Common.{◌≡◌, ◌≢◌, ℕ, ◌*◌, ◌%◌, ◌<◌, ◌≤◌, List, [], ◌∷◌, ◌++◌, length, map, Option, Some, None, true, refl, sym, ap, subst, length-append, arith}
use Rattle.std.specs.List.{AllByRecursion}
use Rattle.kernel_model.specs.Effects.{Spawn}
use Rattle.nv_base.specs.declared.limits.TheConstants.{MAX_FORMAT}
use Rattle.set_model.specs.Limits.{IsWithin, max_objects, max_records}
use Rattle.set_model.specs.Names.{AreNames}
use Rattle.set_model.specs.Sets.{ObjPart, ProgPart, TaskSet}
use Rattle.schedule_model.specs.Limits.{IsItem}
use Rattle.schedule_model.specs.Schedules.{StepItem}
use Rattle.script.specs.declared.keyword.Stage.{Stage}
use Rattle.script.specs.declared.keyword.Stage.TheVariants.{Nvk, Cores, Memory, Records, Object, Program, Task, Schedule, Run}
use Rattle.script.specs.Keywords.{may_follow}
use Rattle.script.specs.Parts.{Timeline, event_count, no_set, no_events}
use Rattle.nv_base.proofs.ForCallers.{all_with}

-- how far the lines have come
abbrev pub rank : Option Stage → ℕ
rank None = 0
rank (Some Nvk) = 1
rank (Some Cores) = 2
rank (Some Memory) = 3
rank (Some Records) = 4
rank (Some Object) = 5
rank (Some Program) = 6
rank (Some Task) = 7
rank (Some Schedule) = 8
rank (Some Run) = 9

abbrev pub Before : ℕ → Stage → Type 0
Before r Nvk = r ≡ 0
Before r Cores = r ≡ 1
Before r Memory = r ≡ 2
Before r Records = r ≡ 3
Before r Object = (4 ≤ r) × (r ≤ 5)
Before r Program = (5 ≤ r) × (r ≤ 6)
Before r Task = (6 ≤ r) × (r ≤ 7)
Before r Schedule = (6 ≤ r) × (r ≤ 8)
Before r Run = (6 ≤ r) × (r ≤ 8)

pub follows : (last : Option Stage) (stage : Stage) → may_follow last stage ≡ true → Before (rank last) stage
follows None Nvk h = refl
follows None Cores h = absurd cc
follows None Memory h = absurd cc
follows None Records h = absurd cc
follows None Object h = absurd cc
follows None Program h = absurd cc
follows None Task h = absurd cc
follows None Schedule h = absurd cc
follows None Run h = absurd cc
follows (Some Nvk) Nvk h = absurd cc
follows (Some Nvk) Cores h = refl
follows (Some Nvk) Memory h = absurd cc
follows (Some Nvk) Records h = absurd cc
follows (Some Nvk) Object h = absurd cc
follows (Some Nvk) Program h = absurd cc
follows (Some Nvk) Task h = absurd cc
follows (Some Nvk) Schedule h = absurd cc
follows (Some Nvk) Run h = absurd cc
follows (Some Cores) Nvk h = absurd cc
follows (Some Cores) Cores h = absurd cc
follows (Some Cores) Memory h = refl
follows (Some Cores) Records h = absurd cc
follows (Some Cores) Object h = absurd cc
follows (Some Cores) Program h = absurd cc
follows (Some Cores) Task h = absurd cc
follows (Some Cores) Schedule h = absurd cc
follows (Some Cores) Run h = absurd cc
follows (Some Memory) Nvk h = absurd cc
follows (Some Memory) Cores h = absurd cc
follows (Some Memory) Memory h = absurd cc
follows (Some Memory) Records h = refl
follows (Some Memory) Object h = absurd cc
follows (Some Memory) Program h = absurd cc
follows (Some Memory) Task h = absurd cc
follows (Some Memory) Schedule h = absurd cc
follows (Some Memory) Run h = absurd cc
follows (Some Records) Nvk h = absurd cc
follows (Some Records) Cores h = absurd cc
follows (Some Records) Memory h = absurd cc
follows (Some Records) Records h = absurd cc
follows (Some Records) Object h = (omega arith, omega arith)
follows (Some Records) Program h = absurd cc
follows (Some Records) Task h = absurd cc
follows (Some Records) Schedule h = absurd cc
follows (Some Records) Run h = absurd cc
follows (Some Object) Nvk h = absurd cc
follows (Some Object) Cores h = absurd cc
follows (Some Object) Memory h = absurd cc
follows (Some Object) Records h = absurd cc
follows (Some Object) Object h = (omega arith, omega arith)
follows (Some Object) Program h = (omega arith, omega arith)
follows (Some Object) Task h = absurd cc
follows (Some Object) Schedule h = absurd cc
follows (Some Object) Run h = absurd cc
follows (Some Program) Nvk h = absurd cc
follows (Some Program) Cores h = absurd cc
follows (Some Program) Memory h = absurd cc
follows (Some Program) Records h = absurd cc
follows (Some Program) Object h = absurd cc
follows (Some Program) Program h = (omega arith, omega arith)
follows (Some Program) Task h = (omega arith, omega arith)
follows (Some Program) Schedule h = (omega arith, omega arith)
follows (Some Program) Run h = (omega arith, omega arith)
follows (Some Task) Nvk h = absurd cc
follows (Some Task) Cores h = absurd cc
follows (Some Task) Memory h = absurd cc
follows (Some Task) Records h = absurd cc
follows (Some Task) Object h = absurd cc
follows (Some Task) Program h = absurd cc
follows (Some Task) Task h = (omega arith, omega arith)
follows (Some Task) Schedule h = (omega arith, omega arith)
follows (Some Task) Run h = (omega arith, omega arith)
follows (Some Schedule) Nvk h = absurd cc
follows (Some Schedule) Cores h = absurd cc
follows (Some Schedule) Memory h = absurd cc
follows (Some Schedule) Records h = absurd cc
follows (Some Schedule) Object h = absurd cc
follows (Some Schedule) Program h = absurd cc
follows (Some Schedule) Task h = absurd cc
follows (Some Schedule) Schedule h = (omega arith, omega arith)
follows (Some Schedule) Run h = (omega arith, omega arith)
follows (Some Run) Nvk h = absurd cc
follows (Some Run) Cores h = absurd cc
follows (Some Run) Memory h = absurd cc
follows (Some Run) Records h = absurd cc
follows (Some Run) Object h = absurd cc
follows (Some Run) Program h = absurd cc
follows (Some Run) Task h = absurd cc
follows (Some Run) Schedule h = absurd cc
follows (Some Run) Run h = absurd cc

abbrev pub IsSized : ObjPart → Type 0
IsSized o = IsWithin 1 64 o.size × IsWithin 2 8 o.slots × (length o.first ≡ o.size)

abbrev pub IsFitting : ℕ → ProgPart → Type 0
IsFitting memory p = IsWithin 1 1000000 p.fuel × (length p.code ≤ 1024) × (4 * length p.code ≤ memory)

pub record Kept (r : ℕ) (set : TaskSet) (t : Timeline) : Type 0 where
  pub format : 1 ≤ r → IsWithin 1 MAX_FORMAT set.format
  pub cores : 2 ≤ r → IsWithin 1 8 set.cores
  pub memory : 3 ≤ r → IsWithin 1024 65536 set.memory × (set.memory % 4 ≡ 0)
  pub records : 4 ≤ r → IsWithin 1 (max_records set.format) set.records
  pub objects : 5 ≤ r → 1 ≤ length set.objects
  pub few_objects : length set.objects ≤ max_objects set.format
  pub no_objects : r < 5 → set.objects ≡ []
  pub each_object : AllByRecursion IsSized set.objects
  pub object_names : AreNames (map (λ o. o.name) set.objects)
  pub programs : 6 ≤ r → 1 ≤ length set.programs
  pub few_programs : length set.programs ≤ 16
  pub no_programs : r < 6 → set.programs ≡ []
  pub each_program : AllByRecursion (IsFitting set.memory) set.programs
  pub program_names : AreNames (map (λ p. p.name) set.programs)
  pub no_tasks : r < 7 → set.tasks ≡ []
  pub few_tasks : length set.tasks ≤ set.records
  pub each_task : AllByRecursion (λ t. t.program < length set.programs) set.tasks
  pub no_items : r < 8 → t.items ≡ []
  pub each_item : AllByRecursion (IsItem set.cores) t.items
  pub short : event_count t ≤ 1000000

pub kept_nothing : Kept 0 no_set no_events
kept_nothing = record {
  format = λ h. absurd (omega arith);
  cores = λ h. absurd (omega arith);
  memory = λ h. absurd (omega arith);
  records = λ h. absurd (omega arith);
  objects = λ h. absurd (omega arith);
  few_objects = omega arith;
  no_objects = λ h. refl;
  each_object = tt;
  object_names = record { each = tt; once = tt };
  programs = λ h. absurd (omega arith);
  few_programs = omega arith;
  no_programs = λ h. refl;
  each_program = tt;
  program_names = record { each = tt; once = tt };
  no_tasks = λ h. refl;
  few_tasks = omega arith;
  each_task = tt;
  no_items = λ h. refl;
  each_item = tt;
  short = omega arith;
}

pub kept_format : (r : ℕ) (set : TaskSet) (t : Timeline) → Kept r set t → (n : ℕ) → IsWithin 1 MAX_FORMAT n → r ≡ 0 → Kept 1 (record set { format = n }) t
kept_format r set t k n w b = record {
  format = λ h. w;
  cores = λ h. k.cores (omega arith);
  memory = λ h. k.memory (omega arith);
  records = λ h. absurd (omega arith);
  objects = λ h. k.objects (omega arith);
  few_objects = omega (arith, ap length (k.no_objects (omega arith)));
  no_objects = λ h. k.no_objects (omega arith);
  each_object = k.each_object;
  object_names = k.object_names;
  programs = λ h. k.programs (omega arith);
  few_programs = k.few_programs;
  no_programs = λ h. k.no_programs (omega arith);
  each_program = k.each_program;
  program_names = k.program_names;
  no_tasks = λ h. k.no_tasks (omega arith);
  few_tasks = k.few_tasks;
  each_task = k.each_task;
  no_items = λ h. k.no_items (omega arith);
  each_item = k.each_item;
  short = k.short;
}

pub kept_cores : (r : ℕ) (set : TaskSet) (t : Timeline) → Kept r set t → (n : ℕ) → IsWithin 1 8 n → r ≡ 1 → Kept 2 (record set { cores = n }) t
kept_cores r set t k n w b = record {
  format = λ h. k.format (omega arith);
  cores = λ h. w;
  memory = λ h. k.memory (omega arith);
  records = λ h. k.records (omega arith);
  objects = λ h. k.objects (omega arith);
  few_objects = k.few_objects;
  no_objects = λ h. k.no_objects (omega arith);
  each_object = k.each_object;
  object_names = k.object_names;
  programs = λ h. k.programs (omega arith);
  few_programs = k.few_programs;
  no_programs = λ h. k.no_programs (omega arith);
  each_program = k.each_program;
  program_names = k.program_names;
  no_tasks = λ h. k.no_tasks (omega arith);
  few_tasks = k.few_tasks;
  each_task = k.each_task;
  no_items = λ h. k.no_items (omega arith);
  each_item = subst (λ (xs : List StepItem). AllByRecursion (IsItem n) xs) (sym (k.no_items (omega arith))) tt;
  short = k.short;
}

pub kept_memory : (r : ℕ) (set : TaskSet) (t : Timeline) → Kept r set t → (n : ℕ) → IsWithin 1024 65536 n → n % 4 ≡ 0 → r ≡ 2 → Kept 3 (record set { memory = n }) t
kept_memory r set t k n w m b = record {
  format = λ h. k.format (omega arith);
  cores = λ h. k.cores (omega arith);
  memory = λ h. (w, m);
  records = λ h. k.records (omega arith);
  objects = λ h. k.objects (omega arith);
  few_objects = k.few_objects;
  no_objects = λ h. k.no_objects (omega arith);
  each_object = k.each_object;
  object_names = k.object_names;
  programs = λ h. k.programs (omega arith);
  few_programs = k.few_programs;
  no_programs = λ h. k.no_programs (omega arith);
  each_program = subst (λ (xs : List ProgPart). AllByRecursion (IsFitting n) xs) (sym (k.no_programs (omega arith))) tt;
  program_names = k.program_names;
  no_tasks = λ h. k.no_tasks (omega arith);
  few_tasks = k.few_tasks;
  each_task = k.each_task;
  no_items = λ h. k.no_items (omega arith);
  each_item = k.each_item;
  short = k.short;
}

pub kept_records : (r : ℕ) (set : TaskSet) (t : Timeline) → Kept r set t → (n : ℕ) → IsWithin 1 (max_records set.format) n → r ≡ 3 → Kept 4 (record set { records = n }) t
kept_records r set t k n w b = record {
  format = λ h. k.format (omega arith);
  cores = λ h. k.cores (omega arith);
  memory = λ h. k.memory (omega arith);
  records = λ h. w;
  objects = λ h. k.objects (omega arith);
  few_objects = k.few_objects;
  no_objects = λ h. k.no_objects (omega arith);
  each_object = k.each_object;
  object_names = k.object_names;
  programs = λ h. k.programs (omega arith);
  few_programs = k.few_programs;
  no_programs = λ h. k.no_programs (omega arith);
  each_program = k.each_program;
  program_names = k.program_names;
  no_tasks = λ h. k.no_tasks (omega arith);
  few_tasks = omega (arith, ap length (k.no_tasks (omega arith)));
  each_task = k.each_task;
  no_items = λ h. k.no_items (omega arith);
  each_item = k.each_item;
  short = k.short;
}

pub kept_object : (r : ℕ) (set : TaskSet) (t : Timeline) → Kept r set t → (o : ObjPart) → IsSized o → AreNames (map (λ o. o.name) (set.objects ++ o ∷ [])) → length set.objects ≢ max_objects set.format → (4 ≤ r) × (r ≤ 5) → Kept 5 (record set { objects = set.objects ++ o ∷ [] }) t
kept_object r set t k o s n f b = record {
  format = λ h. k.format (omega arith);
  cores = λ h. k.cores (omega arith);
  memory = λ h. k.memory (omega arith);
  records = λ h. k.records (omega arith);
  objects = λ h. omega (arith, length-append set.objects (o ∷ []));
  few_objects = let few = k.few_objects in omega (arith, length-append set.objects (o ∷ []));
  no_objects = λ h. absurd (omega arith);
  each_object = all_with IsSized set.objects o k.each_object s;
  object_names = n;
  programs = λ h. k.programs (omega arith);
  few_programs = k.few_programs;
  no_programs = λ h. k.no_programs (omega arith);
  each_program = k.each_program;
  program_names = k.program_names;
  no_tasks = λ h. k.no_tasks (omega arith);
  few_tasks = k.few_tasks;
  each_task = k.each_task;
  no_items = λ h. k.no_items (omega arith);
  each_item = k.each_item;
  short = k.short;
}

pub kept_program : (r : ℕ) (set : TaskSet) (t : Timeline) → Kept r set t → (p : ProgPart) → IsFitting set.memory p → AreNames (map (λ p. p.name) (set.programs ++ p ∷ [])) → length set.programs ≢ 16 → (5 ≤ r) × (r ≤ 6) → Kept 6 (record set { programs = set.programs ++ p ∷ [] }) t
kept_program r set t k p s n f b = record {
  format = λ h. k.format (omega arith);
  cores = λ h. k.cores (omega arith);
  memory = λ h. k.memory (omega arith);
  records = λ h. k.records (omega arith);
  objects = λ h. k.objects (omega arith);
  few_objects = k.few_objects;
  no_objects = λ h. k.no_objects (omega arith);
  each_object = k.each_object;
  object_names = k.object_names;
  programs = λ h. omega (arith, length-append set.programs (p ∷ []));
  few_programs = let few = k.few_programs in omega (arith, length-append set.programs (p ∷ []));
  no_programs = λ h. absurd (omega arith);
  each_program = all_with (IsFitting set.memory) set.programs p k.each_program s;
  program_names = n;
  no_tasks = λ h. k.no_tasks (omega arith);
  few_tasks = k.few_tasks;
  each_task = subst (λ (xs : List Spawn). AllByRecursion (λ t. t.program < length (set.programs ++ p ∷ [])) xs) (sym (k.no_tasks (omega arith))) tt;
  no_items = λ h. k.no_items (omega arith);
  each_item = k.each_item;
  short = k.short;
}

pub kept_task : (r : ℕ) (set : TaskSet) (t : Timeline) → Kept r set t → (a : Spawn) → a.program < length set.programs → length set.tasks ≢ set.records → (6 ≤ r) × (r ≤ 7) → Kept 7 (record set { tasks = set.tasks ++ a ∷ [] }) t
kept_task r set t k a s f b = record {
  format = λ h. k.format (omega arith);
  cores = λ h. k.cores (omega arith);
  memory = λ h. k.memory (omega arith);
  records = λ h. k.records (omega arith);
  objects = λ h. k.objects (omega arith);
  few_objects = k.few_objects;
  no_objects = λ h. k.no_objects (omega arith);
  each_object = k.each_object;
  object_names = k.object_names;
  programs = λ h. k.programs (omega arith);
  few_programs = k.few_programs;
  no_programs = λ h. k.no_programs (omega arith);
  each_program = k.each_program;
  program_names = k.program_names;
  no_tasks = λ h. absurd (omega arith);
  few_tasks = let few = k.few_tasks in omega (arith, length-append set.tasks (a ∷ []));
  each_task = all_with (λ (t : Spawn). t.program < length set.programs) set.tasks a k.each_task s;
  no_items = λ h. k.no_items (omega arith);
  each_item = k.each_item;
  short = k.short;
}

pub kept_events : (r : ℕ) (set : TaskSet) (t : Timeline) → Kept r set t → (u : Timeline) → AllByRecursion (IsItem set.cores) u.items → event_count u ≤ 1000000 → (6 ≤ r) × (r ≤ 8) → Kept 8 set u
kept_events r set t k u s f b = record {
  format = λ h. k.format (omega arith);
  cores = λ h. k.cores (omega arith);
  memory = λ h. k.memory (omega arith);
  records = λ h. k.records (omega arith);
  objects = λ h. k.objects (omega arith);
  few_objects = k.few_objects;
  no_objects = λ h. k.no_objects (omega arith);
  each_object = k.each_object;
  object_names = k.object_names;
  programs = λ h. k.programs (omega arith);
  few_programs = k.few_programs;
  no_programs = λ h. k.no_programs (omega arith);
  each_program = k.each_program;
  program_names = k.program_names;
  no_tasks = λ h. k.no_tasks (omega arith);
  few_tasks = k.few_tasks;
  each_task = k.each_task;
  no_items = λ h. absurd (omega arith);
  each_item = s;
  short = f;
}

pub kept_run : (r : ℕ) (set : TaskSet) (t : Timeline) → Kept r set t → (6 ≤ r) × (r ≤ 8) → Kept 9 set t
kept_run r set t k b = record {
  format = λ h. k.format (omega arith);
  cores = λ h. k.cores (omega arith);
  memory = λ h. k.memory (omega arith);
  records = λ h. k.records (omega arith);
  objects = λ h. k.objects (omega arith);
  few_objects = k.few_objects;
  no_objects = λ h. k.no_objects (omega arith);
  each_object = k.each_object;
  object_names = k.object_names;
  programs = λ h. k.programs (omega arith);
  few_programs = k.few_programs;
  no_programs = λ h. k.no_programs (omega arith);
  each_program = k.each_program;
  program_names = k.program_names;
  no_tasks = λ h. k.no_tasks (omega arith);
  few_tasks = k.few_tasks;
  each_task = k.each_task;
  no_items = λ h. k.no_items (omega arith);
  each_item = k.each_item;
  short = k.short;
}
