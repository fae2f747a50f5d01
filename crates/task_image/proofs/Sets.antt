-- The reader of a whole task set, and its spelling.
use Rattle.std.proofs.Common.{◌≡◌, ℕ, ◌≤◌, max, List, [], ◌++◌, length, map, refl, ap, ◌∙◌, append_assoc, arith}
use Rattle.std.specs.Prelude.{codes}
use Rattle.std.specs.Int.{is_in_range}
use Rattle.std.specs.List.{flat_map}
use Rattle.std.proofs.lemmas.List.{append-nil}
use Rattle.byteorder.specs.Endian.{little_bytes}
use Rattle.kernel_model.specs.Effects.{Spawn}
use Rattle.nv_base.specs.declared.limits.TheConstants.{MAX_CORES, MAX_FORMAT, MAX_OBJECTS, MAX_PROGRAMS, MAX_RECORDS}
use Rattle.set_model.specs.Limits.{max_objects, max_records}
use Rattle.set_model.specs.Sets.{ObjPart, ProgPart, TaskSet}
use Rattle.set_model.proofs.ForCallers.{most_objects, most_records, range_means}
use Rattle.task_image.specs.Packed.{packed_object, packed_program, packed_task, packed_header, packed}
use Rattle.task_image.specs.Reading.{several}
use Rattle.task_image.specs.Unpacked.{object, program, task, header, task_set, Header, is_memory}
use Rattle.task_image.proofs.Fields.{Reads}
use Rattle.task_image.proofs.Composed.{then, nothing_more, reworded}
use Rattle.task_image.proofs.Numbers.{number_reads, IsNumber}
use Rattle.task_image.proofs.Lists.{Each, several_read}
use Rattle.task_image.proofs.Formats.{literal_reads, each_length, IsObjectAfter, object_reads, IsProgramAfter, program_reads, IsTaskOf, task_reads}

-- ---- the header

pub record IsHeader (h : Header) : Type 0 where
  pub format : IsNumber 2 (is_in_range 1 MAX_FORMAT) h.format
  pub cores : IsNumber 1 (is_in_range 1 MAX_CORES) h.cores
  pub objects : IsNumber 1 (is_in_range 1 (max_objects h.format)) h.objects
  pub programs : IsNumber 1 (is_in_range 1 MAX_PROGRAMS) h.programs
  pub tasks : IsNumber 2 (is_in_range 0 (max_records h.format)) h.tasks
  pub memory : IsNumber 4 is_memory h.memory
  pub records : IsNumber 2 (is_in_range (max 1 h.tasks) (max_records h.format)) h.records

abbrev pub header_text : Header → List ℕ
header_text h =
    codes "NVKS" ++ little_bytes 2 h.format ++ little_bytes 1 h.cores ++ little_bytes 1 h.objects ++ little_bytes 1 h.programs
    ++ little_bytes 1 0 ++ little_bytes 2 h.tasks ++ little_bytes 4 h.memory ++ little_bytes 2 h.records ++ little_bytes 2 0

ten : (a b c d e f g h i j : List ℕ) → a ++ (b ++ (c ++ (d ++ (e ++ (f ++ (g ++ (h ++ (i ++ (j ++ []))))))))) ≡ ((((((((a ++ b) ++ c) ++ d) ++ e) ++ f) ++ g) ++ h) ++ i) ++ j
ten a b c d e f g h i j = simp (append_assoc, append-nil)

pub header_reads : Reads header header_text IsHeader 20
unfolding header
header_reads =
    reworded header_text IsHeader 20
    (then (λ (h : Header). tt) (literal_reads (codes "NVKS") (omega arith)) (λ magic p0.
    then (λ (h : Header). h.format) (number_reads 2 (is_in_range 1 MAX_FORMAT) (omega arith)) (λ format p1.
    then (λ (h : Header). h.cores) (number_reads 1 (is_in_range 1 MAX_CORES) (omega arith)) (λ cores p2.
    then (λ (h : Header). h.objects) (number_reads 1 (is_in_range 1 (max_objects format)) (omega arith)) (λ objects p3.
    then (λ (h : Header). h.programs) (number_reads 1 (is_in_range 1 MAX_PROGRAMS) (omega arith)) (λ programs p4.
    then (λ (h : Header). tt) (literal_reads (little_bytes 1 0) (omega arith)) (λ zero p5.
    then (λ (h : Header). h.tasks) (number_reads 2 (is_in_range 0 (max_records format)) (omega arith)) (λ tasks p6.
    then (λ (h : Header). h.memory) (number_reads 4 is_memory (omega arith)) (λ memory p7.
    then (λ (h : Header). h.records) (number_reads 2 (is_in_range (max 1 tasks) (max_records format)) (omega arith)) (λ records p8.
    then (λ (h : Header). tt) (literal_reads (little_bytes 2 0) (omega arith)) (λ zeros p9.
    let made : Header = record { format = format; cores = cores; objects = objects; programs = programs; tasks = tasks; memory = memory; records = records } in nothing_more made)
    (λ x h p q. refl))
    (λ x h p q. ap (λ (k : Header). k.records) q.1))
    (λ x h p q. ap (λ (k : Header). k.memory) q.1.1))
    (λ x h p q. ap (λ (k : Header). k.tasks) q.1.1.1))
    (λ x h p q. refl))
    (λ x h p q. ap (λ (k : Header). k.programs) q.1.1.1.1.1))
    (λ x h p q. ap (λ (k : Header). k.objects) q.1.1.1.1.1.1))
    (λ x h p q. ap (λ (k : Header). k.cores) q.1.1.1.1.1.1.1))
    (λ x h p q. ap (λ (k : Header). k.format) q.1.1.1.1.1.1.1.1))
    (λ x h p q. refl))
    (λ h q. ten (codes "NVKS") (little_bytes 2 h.format) (little_bytes 1 h.cores) (little_bytes 1 h.objects) (little_bytes 1 h.programs) (little_bytes 1 0) (little_bytes 2 h.tasks) (little_bytes 4 h.memory) (little_bytes 2 h.records) (little_bytes 2 0))
    (λ h q. record { format = q.1.0; cores = q.1.1.0; objects = q.1.1.1.0; programs = q.1.1.1.1.0; tasks = q.1.1.1.1.1.1.0; memory = q.1.1.1.1.1.1.1.0; records = q.1.1.1.1.1.1.1.1.0 })
    (λ h q. (tt, (q.format, (q.cores, (q.objects, (q.programs, (tt, (q.tasks, (q.memory, (q.records, (tt, refl)))))))))))
    (omega arith)

-- ---- the set

abbrev pub header_from : TaskSet → Header
header_from s = record { format = s.format; cores = s.cores; objects = length s.objects; programs = length s.programs; tasks = length s.tasks; memory = s.memory; records = s.records }

abbrev pub AreObjects : ℕ → List ObjPart → Type 0
AreObjects n = Each (λ before. IsObjectAfter (map (λ o. o.name) before)) n []

abbrev pub ArePrograms : ℕ → ℕ → List ProgPart → Type 0
ArePrograms memory n = Each (λ before. IsProgramAfter memory (map (λ p. p.name) before)) n []

abbrev pub AreTasks : ℕ → ℕ → List Spawn → Type 0
AreTasks programs n = Each (λ _. IsTaskOf programs) n []

-- what a set that is read keeps
pub record IsRead (s : TaskSet) : Type 0 where
  pub header : IsHeader (header_from s)
  pub objects : AreObjects (length s.objects) s.objects
  pub programs : ArePrograms s.memory (length s.programs) s.programs
  pub tasks : AreTasks (length s.programs) (length s.tasks) s.tasks

objects_read : (n : ℕ) → n ≤ MAX_OBJECTS → Reads (several n (λ before. object (map (λ o. o.name) before)) []) (flat_map packed_object) (AreObjects n) 35200
objects_read n small =
    reworded (flat_map packed_object) (AreObjects n) 35200
    (several_read (λ before. object (map (λ o. o.name) before)) packed_object (λ before. IsObjectAfter (map (λ o. o.name) before)) 275 n (λ before. object_reads (map (λ o. o.name) before)))
    (λ x p. refl) (λ x p. p) (λ x p. p) (omega arith)

programs_read : (memory n : ℕ) → n ≤ MAX_PROGRAMS → Reads (several n (λ before. program memory (map (λ p. p.name) before)) []) (flat_map packed_program) (ArePrograms memory n) 65904
programs_read memory n small =
    reworded (flat_map packed_program) (ArePrograms memory n) 65904
    (several_read (λ before. program memory (map (λ p. p.name) before)) packed_program (λ before. IsProgramAfter memory (map (λ p. p.name) before)) 4119 n (λ before. program_reads memory (map (λ p. p.name) before)))
    (λ x p. refl) (λ x p. p) (λ x p. p) (omega arith)

tasks_read : (programs n : ℕ) → n ≤ MAX_RECORDS → Reads (several n (λ _. task programs) []) (flat_map packed_task) (AreTasks programs n) 5120
tasks_read programs n small =
    reworded (flat_map packed_task) (AreTasks programs n) 5120
    (several_read (λ _. task programs) packed_task (λ _. IsTaskOf programs) 5 n (λ _. task_reads programs))
    (λ x p. refl) (λ x p. p) (λ x p. p) (omega arith)

abbrev made : ℕ → ℕ → ℕ → ℕ → ℕ → ℕ → ℕ → Header
made f c o p t m r = record { format = f; cores = c; objects = o; programs = p; tasks = t; memory = m; records = r }

same_header : (f c o p t m r : ℕ) (h : Header) → f ≡ h.format → c ≡ h.cores → o ≡ h.objects → p ≡ h.programs → t ≡ h.tasks → m ≡ h.memory → r ≡ h.records → made f c o p t m r ≡ h
same_header l c o p t m r h d e f g i j k =
    ap (λ x. made x c o p t m r) d ∙ ap (λ x. made h.format x o p t m r) e ∙ ap (λ x. made h.format h.cores x p t m r) f ∙ ap (λ x. made h.format h.cores h.objects x t m r) g
    ∙ ap (λ x. made h.format h.cores h.objects h.programs x m r) i ∙ ap (λ x. made h.format h.cores h.objects h.programs h.tasks x r) j
    ∙ ap (λ x. made h.format h.cores h.objects h.programs h.tasks h.memory x) k

few : (n m k : ℕ) → n ≤ m → m ≤ k → n ≤ k
few n m k h l = omega arith

four : (a b c d : List ℕ) → a ++ (b ++ (c ++ (d ++ []))) ≡ ((a ++ b) ++ c) ++ d
four a b c d = simp (append_assoc, append-nil)

pub set_reads : Reads task_set packed IsRead 106244
unfolding task_set packed packed_header
set_reads =
    reworded packed IsRead 106244
    (then header_from header_reads (λ h p.
    then (λ (s : TaskSet). s.objects) (objects_read h.objects (few h.objects (max_objects h.format) MAX_OBJECTS (range_means 1 (max_objects h.format) h.objects p.objects.kept).1 (most_objects h.format))) (λ objects p1.
    then (λ (s : TaskSet). s.programs) (programs_read h.memory h.programs (range_means 1 MAX_PROGRAMS h.programs p.programs.kept).1) (λ programs p2.
    then (λ (s : TaskSet). s.tasks) (tasks_read h.programs h.tasks (few h.tasks (max_records h.format) MAX_RECORDS (range_means 0 (max_records h.format) h.tasks p.tasks.kept).1 (most_records h.format))) (λ tasks p3.
    let whole : TaskSet = record { format = h.format; cores = h.cores; memory = h.memory; records = h.records; objects = objects; programs = programs; tasks = tasks } in nothing_more whole)
    (λ x s p3 q. ap (λ (k : TaskSet). k.tasks) q))
    (λ x s p2 q. ap (λ (k : TaskSet). k.programs) q.1))
    (λ x s p1 q. ap (λ (k : TaskSet). k.objects) q.1.1))
    (λ h s p q.
    let e = q.1.1.1 in
    same_header s.format s.cores (length s.objects) (length s.programs) (length s.tasks) s.memory s.records h
    (ap (λ (k : TaskSet). k.format) e) (ap (λ (k : TaskSet). k.cores) e) (each_length (λ before. IsObjectAfter (map (λ o. o.name) before)) h.objects [] s.objects q.0)
    (each_length (λ before. IsProgramAfter h.memory (map (λ r. r.name) before)) h.programs [] s.programs q.1.0)
    (each_length (λ _. IsTaskOf h.programs) h.tasks [] s.tasks q.1.1.0)
    (ap (λ (k : TaskSet). k.memory) e) (ap (λ (k : TaskSet). k.records) e)))
    (λ s q. four (header_text (header_from s)) (flat_map packed_object s.objects) (flat_map packed_program s.programs) (flat_map packed_task s.tasks))
    (λ s q. record { header = q.0; objects = q.1.0; programs = q.1.1.0; tasks = q.1.1.1.0 })
    (λ s q. (q.header, (q.objects, (q.programs, (q.tasks, refl)))))
    (omega arith)
