-- The text of each set is short enough to be read.
use Rattle.std.proofs.Common.{◌≡◌, ℕ, ◌+◌, ◌*◌, ◌<◌, ◌≤◌, ◌^◌, List, [], ◌∷◌, ◌++◌, length, map, arith, codes, length-append}
use Rattle.std.specs.List.{AllByRecursion, flat_map}
use Rattle.std.specs.Fmt.{decimal}
use Rattle.kernel_model.specs.Effects.{Spawn}
use Rattle.rv_isa.specs.Texts.{text_of}
use Rattle.set_model.proofs.ForCallers.{few_objects, few_records}
use Rattle.set_model.specs.Sets.{ObjPart, ProgPart, TaskSet, program_at}
use Rattle.set_model.specs.Limits.{IsObject, IsProgram, IsTask, IsTaskSet}
use Rattle.set_model.specs.Names.{IsName, IsNamed}
use Rattle.script_text.specs.ScriptText.{number_text, object_text, code_text, program_text, task_text, script_text}
use Rattle.script_text.proofs.CodeLines.{AreWithin, word_code}
use Rattle.script_text.proofs.SetRead.{task_name}
use Rattle.script_text.proofs.WrittenWords.{decimal_is}
use Rattle.nv_base.specs.Texts.{field}

-- at most so many bytes for each
flat_few : {X : Type 0} (f : X → List ℕ) (most : ℕ) (xs : List X) → AllByRecursion (λ x. length (f x) ≤ most) xs → length (flat_map f xs) ≤ most * length xs
flat_few f most [] all = omega arith
flat_few f most (x ∷ xs) all =
    let one = all.0 in
    let more = flat_few f most xs all.1 in
    omega (arith, length-append (f x) (flat_map f xs))

field_few : (n : ℕ) → n < 2 ^ 32 → length (field (codes " ") n) ≤ 11
field_few n small = let few = (decimal_is n small).few in omega (arith, length-append (codes " ") (decimal n))

fields_few : (ns : List ℕ) → AllByRecursion (λ n. n < 2 ^ 32) ns → AllByRecursion (λ n. length (field (codes " ") n) ≤ 11) ns
fields_few [] all = tt
fields_few (n ∷ ns) all = (field_few n all.0, fields_few ns all.1)

six : (a b c d e f : List ℕ) → length (a ++ b ++ c ++ d ++ e ++ f) ≡ length a + length b + length c + length d + length e + length f
six a b c d e f =
    omega (arith, length-append (a ++ b ++ c ++ d ++ e) f, length-append (a ++ b ++ c ++ d) e, length-append (a ++ b ++ c) d, length-append (a ++ b) c, length-append a b)

object_few : (o : ObjPart) → IsObject o → IsName o.name → length (object_text o) ≤ 750
object_few o h name =
    let size = h.size in
    let slots = h.slots in
    let count = h.first in
    let words = name.size.1 in
    let a = field_few o.size (omega arith) in
    let b = field_few o.slots (omega arith) in
    let c = flat_few (field (codes " ")) 11 o.first (fields_few o.first h.words) in
    omega (arith, six (codes "object ") o.name (field (codes " ") o.size) (field (codes " ") o.slots) (flat_map (field (codes " ")) o.first) (codes "\n"))

objects_few : (objects : List ObjPart) → AllByRecursion IsObject objects → AllByRecursion IsName (map (λ o. o.name) objects) → AllByRecursion (λ o. length (object_text o) ≤ 750) objects
objects_few [] each names = tt
objects_few (o ∷ objects) each names = (object_few o each.0 names.0, objects_few objects each.1 names.1)

codes_few : AreWithin → (ws : List ℕ) → AllByRecursion (λ w. w < 2 ^ 32) ws → AllByRecursion (λ w. length (code_text w) ≤ 31) ws
codes_few within [] all = tt
codes_few within (w ∷ ws) all = (let few = (word_code within w all.0).few in omega (arith, length-append (text_of w) (codes "\n")), codes_few within ws all.1)

program_few : AreWithin → (memory : ℕ) (p : ProgPart) → IsProgram memory p → IsName p.name → length (program_text p) ≤ 31784
program_few within memory p h name =
    let fuel = h.fuel in
    let code = h.code in
    let words = name.size.1 in
    let a = field_few p.fuel (omega arith) in
    let b = flat_few code_text 31 p.code (codes_few within p.code h.words) in
    omega (arith, six (codes "program ") p.name (field (codes " ") p.fuel) (codes "\n") (flat_map code_text p.code) (codes "end\n"))

programs_few : AreWithin → (memory : ℕ) (programs : List ProgPart) → AllByRecursion (IsProgram memory) programs → AllByRecursion IsName (map (λ p. p.name) programs) → AllByRecursion (λ p. length (program_text p) ≤ 31784) programs
programs_few within memory [] each names = tt
programs_few within memory (p ∷ programs) each names = (program_few within memory p each.0 names.0, programs_few within memory programs each.1 names.1)

task_few : (set : TaskSet) (t : Spawn) → IsNamed set → IsTask (length set.programs) t → length (task_text set t) ≤ 33
task_few set t named h =
    let words = (task_name set t named h).size.1 in
    let a = field_few t.arg h.arg in
    omega (
      arith,
      six (codes "task ") (program_at set t.program).name (field (codes " ") t.arg) (codes "\n") [] [],
      length-append (codes "task " ++ (program_at set t.program).name ++ field (codes " ") t.arg ++ codes "\n" ++ []) [],
      length-append (codes "task " ++ (program_at set t.program).name ++ field (codes " ") t.arg ++ codes "\n") [],
    )

tasks_few : (set : TaskSet) (tasks : List Spawn) → IsNamed set → AllByRecursion (IsTask (length set.programs)) tasks → AllByRecursion (λ t. length (task_text set t) ≤ 33) tasks
tasks_few set [] named each = tt
tasks_few set (t ∷ tasks) named each = (task_few set t named each.0, tasks_few set tasks named each.1)

number_few : (word : List ℕ) (n : ℕ) → n < 2 ^ 32 → length (number_text word n) ≤ length word + 11
number_few word n small = let few = (decimal_is n small).few in omega (arith, length-append (word ++ decimal n) (codes "\n"), length-append word (decimal n))

eight : (a b c d e f g h : List ℕ) → length (a ++ b ++ c ++ d ++ e ++ f ++ g ++ h) ≡ length a + length b + length c + length d + length e + length f + length g + length h
eight a b c d e f g h = omega (arith, length-append (a ++ b ++ c ++ d ++ e ++ f ++ g) h, length-append (a ++ b ++ c ++ d ++ e ++ f) g, six a b c d e f)

pub text_is_short : AreWithin → (set : TaskSet) → IsTaskSet set → IsNamed set → length (script_text set) ≤ 1048576
unfolding script_text
text_is_short within set h named =
    let format = h.format in
    let cores = h.cores in
    let memory = h.memory in
    let records = few_records set h in
    let tasks = h.tasks in
    let objects = few_objects set h in
    let programs = h.programs in
    let z = number_few (codes "nvk ") set.format (omega arith) in
    let a = number_few (codes "cores ") set.cores (omega arith) in
    let b = number_few (codes "memory ") set.memory (omega arith) in
    let c = number_few (codes "records ") set.records (omega arith) in
    let d = flat_few object_text 750 set.objects (objects_few set.objects h.each_object named.objects.each) in
    let e = flat_few program_text 31784 set.programs (programs_few within set.memory set.programs h.each_program named.programs.each) in
    let f = flat_few (task_text set) 33 set.tasks (tasks_few set set.tasks named h.each_task) in
    omega (
      arith,
      eight (number_text (codes "nvk ") set.format) (number_text (codes "cores ") set.cores) (number_text (codes "memory ") set.memory) (number_text (codes "records ") set.records)
          (flat_map object_text set.objects) (flat_map program_text set.programs) (flat_map (task_text set) set.tasks) (codes "run\n"),
    )
