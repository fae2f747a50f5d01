-- The sections of a set as a script are read as this set.
use Rattle.std.proofs.Common.{◌≡◌, ℕ, zero, suc, ◌+◌, ◌<◌, ◌≤◌, ◌^◌, ◌%◌, true, false, List, [], ◌∷◌, ◌++◌, length, map, get_or, Some, Result, Ok, refl, sym, subst, ap, ◌∙◌, ltb, eqb, arith, codes, append_assoc, length-append}
use Rattle.std.specs.List.{AllByRecursion, position_or_len}
use Rattle.std.specs.Fmt.{decimal}
use Rattle.std.proofs.lemmas.Bool.{le-ltb, eq-eqb}
use Rattle.std.proofs.lemmas.List.{append-nil, map-append}
use Rattle.kernel_model.specs.Effects.{Spawn}
use Rattle.rv_isa.specs.Texts.{text_of}
use Rattle.rv_asm.specs.Assembly.{assembled}
use Rattle.nv_base.specs.declared.limits.TheConstants.{MAX_FORMAT}
use Rattle.set_model.proofs.ForCallers.{most_records}
use Rattle.set_model.specs.Sets.{ObjPart, ProgPart, TaskSet, program_at}
use Rattle.set_model.specs.Limits.{IsObject, IsProgram, IsTask, IsTaskSet, max_objects, max_records}
use Rattle.set_model.specs.Names.{IsName, IsNamed, AreDistinct}
use Rattle.plain_text.specs.BadLines.{is_bad}
use Rattle.script.specs.declared.keyword.BlockKind.TheVariants as blocks
use Rattle.script.specs.declared.keyword.Stage.{Stage}
use Rattle.script.specs.declared.keyword.Stage.TheVariants as stages
use Rattle.script.specs.Keywords.{may_follow}
use Rattle.script.specs.SetLines.{format_after, cores_after, memory_after, records_after}
use Rattle.script.specs.Words.{known_name}
use Rattle.nv_base.specs.Refusals.{at}
use Rattle.script.specs.Blocks.{or_empty, program_code, block_after}
use Rattle.script.specs.Parts.{Parts, nothing, no_set, no_events}
use Rattle.script.specs.Lines.{words_after, line_after}
use Rattle.script.specs.Sections.{Section, Single, line_count}
use Rattle.script.specs.Reading.{section_after, sections_after}
use Rattle.script_text.proofs.WrittenLines.{IsWritten, literal, line_is_plain}
use Rattle.script_text.proofs.WrittenWords.{number_back}
use Rattle.script_text.proofs.CodeLines.{IsCode}
use Rattle.script_text.proofs.NamesRead.{is_known}
use Rattle.script_text.proofs.LinesRead.{after, line_is, object_words, object_is, task_words, task_is, program_words, header_is, program_is}
use Rattle.script_text.proofs.ScriptLines.{number_line, object_line, task_line}
use Rattle.script_text.proofs.ScriptSections.{IsWrittenProgram, IsWrittenSet, object_section, program_section, task_section, script_sections}

-- ---- one section

-- a section that is taken leaves the others to be read
taken : (n : ℕ) (p q : Parts) (s : Section) (rest : List Section) → section_after n p s ≡ Ok q → sections_after n p (s ∷ rest) ≡ sections_after (n + line_count s) q rest
unfolding sections_after
taken n p q s rest h = rw h refl

single_taken : (n : ℕ) (p q : Parts) (line : List ℕ) (rest : List Section) → line_after n p line ≡ Ok q → sections_after n p (Single line ∷ rest) ≡ sections_after (n + 1) q rest
single_taken n p q line rest h = taken n p q (Single line) rest (ap (λ (r : Result Parts _). at n r) h)

-- the stage of the last line, where lines of one stage came
abbrev pub last_of : {X : Type 0} → Stage → Stage → List X → Stage
last_of last now [] = last
last_of last now (x ∷ xs) = last_of now now xs

pub last_same : {X : Type 0} (now : Stage) (xs : List X) → last_of now now xs ≡ now
last_same now [] = refl
last_same now (x ∷ xs) = last_same now xs

pub last_some : {X : Type 0} (last now : Stage) (xs : List X) → 0 < length xs → last_of last now xs ≡ now
last_some last now [] some = absurd (omega arith)
last_some last now (x ∷ xs) some = last_same now xs

-- ---- objects

object_words_after : (set : TaskSet) (n : ℕ) (last : Stage) (done : List ObjPart) (o : ObjPart) (others : List (List ℕ)) → may_follow (Some last) stages.Object ≡ true
    → IsObject o → IsName o.name → AreDistinct (map (λ o. o.name) done ++ o.name ∷ others) → length done < max_objects set.format
    → words_after n (after set (Some last) done [] []) (codes "object" ∷ object_words o) ≡ Ok (after set (Some stages.Object) (done ++ o ∷ []) [] [])
unfolding words_after
object_words_after set n last done o others may h name once few = rw (may, object_is set done o others h name once few) refl

objects_read : (set : TaskSet) (last : Stage) (done todo : List ObjPart) (n : ℕ) (rest : List Section) → set.objects ≡ done ++ todo → may_follow (Some last) stages.Object ≡ true
    → AllByRecursion IsObject todo → AllByRecursion IsName (map (λ o. o.name) todo) → AllByRecursion (λ o. AllByRecursion IsWritten (object_words o)) todo → AreDistinct (map (λ o. o.name) set.objects) → length set.objects ≤ max_objects set.format
    → (m : ℕ) × (sections_after n (after set (Some last) done [] []) (map object_section todo ++ rest) ≡ sections_after m (after set (Some (last_of last stages.Object todo)) set.objects [] []) rest)
objects_read set last done [] n rest e may each names words once few =
    (n, ap (λ (os : List ObjPart). sections_after n (after set (Some last) os [] []) rest) (sym (append-nil done) ∙ sym e))
objects_read set last done (o ∷ todo) n rest e may each names words once few =
    let seam : map (λ o. o.name) set.objects ≡ map (λ o. o.name) done ++ o.name ∷ map (λ o. o.name) todo = ap (map (λ (o : ObjPart). o.name)) e ∙ map-append (λ (o : ObjPart). o.name) done (o ∷ todo) in
    let distinct : AreDistinct (map (λ o. o.name) done ++ o.name ∷ map (λ o. o.name) todo) = subst AreDistinct seam once in
    let room : length done < max_objects set.format = let total : length set.objects ≡ length done + length (o ∷ todo) = ap length e ∙ length-append done (o ∷ todo) in omega arith in
    let q = after set (Some stages.Object) (done ++ o ∷ []) [] [] in
    let line : line_after n (after set (Some last) done [] []) (object_line o) ≡ Ok q =
    line_is n (after set (Some last) done [] []) q (codes "object") (object_words o) (literal (codes "object") refl) words.0
    (object_words_after set n last done o (map (λ o. o.name) todo) may each.0 names.0 distinct room) in
    let one = single_taken n (after set (Some last) done [] []) q (object_line o) (map object_section todo ++ rest) line in
    let more = objects_read set stages.Object (done ++ o ∷ []) todo (n + 1) rest (e ∙ sym (append_assoc done (o ∷ []) todo)) refl each.1 names.1 words.1 once few in
    (more.0, one ∙ more.1)

-- ---- programs

-- the lines of a program's code are assembled to its words
abbrev pub AreAssembled : Type 0
AreAssembled = (ws : List ℕ) → AllByRecursion (λ w. w < 2 ^ 32) ws → length ws ≤ 1024 → assembled (map text_of ws) ≡ Ok ws

none_bad : (body : List (List ℕ)) → AllByRecursion IsCode body → position_or_len is_bad body ≡ length body
none_bad [] all = refl
none_bad (line ∷ body) all = rw (line_is_plain line all.0.line, none_bad body all.1) (omega arith)

none_empty : (body : List (List ℕ)) → AllByRecursion IsCode body → map or_empty body ≡ body
none_empty [] all = refl
none_empty (line ∷ body) all = rw (line_is_plain line all.0.line, none_empty body all.1) refl

code_is : (n : ℕ) (body : List (List ℕ)) (code : List ℕ) → AllByRecursion IsCode body → assembled body ≡ Ok code → program_code n body ≡ Ok code
code_is n body code all h =
    let none : ltb (length body) (length body) ≡ false = le-ltb _ _ (omega arith) in
    rw (none_bad body all, none, none_empty body all, h) refl

block_is : (set : TaskSet) (n : ℕ) (last : Stage) (done : List ProgPart) (p : ProgPart) (others : List (List ℕ)) → AreAssembled → may_follow (Some last) stages.Program ≡ true
    → IsProgram set.memory p → IsName p.name → IsWrittenProgram p → AreDistinct (map (λ p. p.name) done ++ p.name ∷ others) → length done < 16
    → block_after n (after set (Some last) set.objects done []) blocks.Program (program_words p) (map text_of p.code) (Some (codes "end")) ≡ Ok (after set (Some stages.Program) set.objects (done ++ p ∷ []) [])
unfolding block_after
block_is set n last done p others assemble may h name written once few =
    rw (header_is set last done p others may h name once few, code_is n (map text_of p.code) p.code written.code (assemble p.code h.words h.code), program_is set (Some last) done p h) refl

programs_read : (set : TaskSet) (last : Stage) (done todo : List ProgPart) (n : ℕ) (rest : List Section) → AreAssembled → set.programs ≡ done ++ todo → may_follow (Some last) stages.Program ≡ true
    → AllByRecursion (IsProgram set.memory) todo → AllByRecursion IsName (map (λ p. p.name) todo) → AllByRecursion IsWrittenProgram todo → AreDistinct (map (λ p. p.name) set.programs) → length set.programs ≤ 16
    → (m : ℕ) × (sections_after n (after set (Some last) set.objects done []) (map program_section todo ++ rest) ≡ sections_after m (after set (Some (last_of last stages.Program todo)) set.objects set.programs []) rest)
programs_read set last done [] n rest assemble e may each names written once few =
    (n, ap (λ (ps : List ProgPart). sections_after n (after set (Some last) set.objects ps []) rest) (sym (append-nil done) ∙ sym e))
programs_read set last done (p ∷ todo) n rest assemble e may each names written once few =
    let seam : map (λ p. p.name) set.programs ≡ map (λ p. p.name) done ++ p.name ∷ map (λ p. p.name) todo = ap (map (λ (p : ProgPart). p.name)) e ∙ map-append (λ (p : ProgPart). p.name) done (p ∷ todo) in
    let distinct : AreDistinct (map (λ p. p.name) done ++ p.name ∷ map (λ p. p.name) todo) = subst AreDistinct seam once in
    let room : length done < 16 = let total : length set.programs ≡ length done + length (p ∷ todo) = ap length e ∙ length-append done (p ∷ todo) in omega arith in
    let q = after set (Some stages.Program) set.objects (done ++ p ∷ []) [] in
    let one = taken n (after set (Some last) set.objects done []) q (program_section p) (map program_section todo ++ rest)
    (block_is set n last done p (map (λ p. p.name) todo) assemble may each.0 names.0 written.0 distinct room) in
    let more = programs_read set stages.Program (done ++ p ∷ []) todo (n + line_count (program_section p)) rest assemble (e ∙ sym (append_assoc done (p ∷ []) todo)) refl each.1 names.1 written.1 once few in
    (more.0, one ∙ more.1)

-- ---- tasks

name_at : (programs : List ProgPart) (p : ℕ) (none : ProgPart) → AllByRecursion IsName (map (λ q. q.name) programs) → p < length programs → IsName (get_or programs p none).name
name_at [] p none h l = absurd (omega arith)
name_at (q ∷ programs) zero none h l = h.0
name_at (q ∷ programs) (suc p) none h l = name_at programs p none h.1 (omega arith)

pub task_name : (set : TaskSet) (t : Spawn) → IsNamed set → IsTask (length set.programs) t → IsName (program_at set t.program).name
task_name set t named h = name_at set.programs t.program _ named.programs.each h.program

task_words_after : (set : TaskSet) (n : ℕ) (last : Stage) (done : List Spawn) (t : Spawn) → may_follow (Some last) stages.Task ≡ true → IsNamed set → IsTask (length set.programs) t → length done < set.records
    → words_after n (after set (Some last) set.objects set.programs done) (codes "task" ∷ task_words set t) ≡ Ok (after set (Some stages.Task) set.objects set.programs (done ++ t ∷ []))
unfolding words_after
task_words_after set n last done t may named h few =
    let name = task_name set t named h in
    let known : known_name (λ p. p.name) set.programs (program_at set t.program).name ≡ Ok t.program = is_known (λ (p : ProgPart). p.name) set.programs t.program _ name named.programs.once h.program in
    rw (may, task_is set done t h name known few) refl

tasks_read : (set : TaskSet) (last : Stage) (done todo : List Spawn) (n : ℕ) (rest : List Section) → set.tasks ≡ done ++ todo → may_follow (Some last) stages.Task ≡ true → IsNamed set
    → AllByRecursion (IsTask (length set.programs)) todo → AllByRecursion (λ t. AllByRecursion IsWritten (task_words set t)) todo → length set.tasks ≤ set.records
    → (m : ℕ) × (sections_after n (after set (Some last) set.objects set.programs done) (map (task_section set) todo ++ rest) ≡ sections_after m (after set (Some (last_of last stages.Task todo)) set.objects set.programs set.tasks) rest)
tasks_read set last done [] n rest e may named each words few =
    (n, ap (λ (ts : List Spawn). sections_after n (after set (Some last) set.objects set.programs ts) rest) (sym (append-nil done) ∙ sym e))
tasks_read set last done (t ∷ todo) n rest e may named each words few =
    let room : length done < set.records = let total : length set.tasks ≡ length done + length (t ∷ todo) = ap length e ∙ length-append done (t ∷ todo) in omega arith in
    let q = after set (Some stages.Task) set.objects set.programs (done ++ t ∷ []) in
    let line : line_after n (after set (Some last) set.objects set.programs done) (task_line set t) ≡ Ok q =
    line_is n (after set (Some last) set.objects set.programs done) q (codes "task") (task_words set t) (literal (codes "task") refl) words.0
    (task_words_after set n last done t may named each.0 room) in
    let one = single_taken n (after set (Some last) set.objects set.programs done) q (task_line set t) (map (task_section set) todo ++ rest) line in
    let more = tasks_read set stages.Task (done ++ t ∷ []) todo (n + 1) rest (e ∙ sym (append_assoc done (t ∷ []) todo)) refl named each.1 words.1 few in
    (more.0, one ∙ more.1)

-- ---- the first lines, and the last

abbrev format_read : TaskSet → Parts
format_read set = record { last = Some stages.Nvk; cores_line = 0; set = record no_set { format = set.format }; timeline = no_events }

abbrev cores_read : TaskSet → Parts
cores_read set = record { last = Some stages.Cores; cores_line = 2; set = record no_set { format = set.format; cores = set.cores }; timeline = no_events }

abbrev memory_read : TaskSet → Parts
memory_read set = record { last = Some stages.Memory; cores_line = 2; set = record no_set { format = set.format; cores = set.cores; memory = set.memory }; timeline = no_events }

format_is : (set : TaskSet) → IsTaskSet set → words_after 1 nothing (codes "nvk" ∷ decimal set.format ∷ []) ≡ Ok (format_read set)
unfolding words_after format_after
format_is set h = let r = h.format in rw (number_back 1 MAX_FORMAT set.format r.0 r.1 (omega arith)) refl

cores_is : (set : TaskSet) → IsTaskSet set → words_after 2 (format_read set) (codes "cores" ∷ decimal set.cores ∷ []) ≡ Ok (cores_read set)
unfolding words_after cores_after
cores_is set h = let r = h.cores in rw (number_back 1 8 set.cores r.0 r.1 (omega arith)) refl

memory_is : (set : TaskSet) → IsTaskSet set → words_after 3 (cores_read set) (codes "memory" ∷ decimal set.memory ∷ []) ≡ Ok (memory_read set)
unfolding words_after memory_after
memory_is set h =
    let r = h.memory in
    let aligned : eqb (set.memory % 4) 0 ≡ true = eq-eqb _ _ h.aligned in
    rw (number_back 1024 65536 set.memory r.0 r.1 (omega arith), aligned) refl

records_is : (set : TaskSet) → IsTaskSet set → words_after 4 (memory_read set) (codes "records" ∷ decimal set.records ∷ []) ≡ Ok (after set (Some stages.Records) [] [] [])
unfolding words_after records_after
records_is set h = let r = h.records in rw (number_back 1 (max_records set.format) set.records r.0 r.1 (omega (arith, most_records set.format))) refl

first_lines : (set : TaskSet) (rest : List Section) → IsTaskSet set → IsWrittenSet set
    → sections_after 1 nothing (Single (number_line (codes "nvk") set.format) ∷ Single (number_line (codes "cores") set.cores) ∷ Single (number_line (codes "memory") set.memory) ∷ Single (number_line (codes "records") set.records) ∷ rest)
    ≡ sections_after 5 (after set (Some stages.Records) [] [] []) rest
first_lines set rest h written =
    let format = line_is 1 nothing (format_read set) (codes "nvk") (decimal set.format ∷ []) (literal (codes "nvk") refl) (written.format, tt) (format_is set h) in
    let cores = line_is 2 (format_read set) (cores_read set) (codes "cores") (decimal set.cores ∷ []) (literal (codes "cores") refl) (written.cores, tt) (cores_is set h) in
    let memory = line_is 3 (cores_read set) (memory_read set) (codes "memory") (decimal set.memory ∷ []) (literal (codes "memory") refl) (written.memory, tt) (memory_is set h) in
    let records = line_is 4 (memory_read set) (after set (Some stages.Records) [] [] []) (codes "records") (decimal set.records ∷ []) (literal (codes "records") refl) (written.records, tt) (records_is set h) in
    let fourth = single_taken 4 (memory_read set) (after set (Some stages.Records) [] [] []) (number_line (codes "records") set.records) rest records in
    let third = single_taken 3 (cores_read set) (memory_read set) (number_line (codes "memory") set.memory) (Single (number_line (codes "records") set.records) ∷ rest) memory in
    let second = single_taken 2 (format_read set) (cores_read set) (number_line (codes "cores") set.cores) (Single (number_line (codes "memory") set.memory) ∷ Single (number_line (codes "records") set.records) ∷ rest) cores in
    let first = single_taken 1 nothing (format_read set) (number_line (codes "nvk") set.format) (Single (number_line (codes "cores") set.cores) ∷ Single (number_line (codes "memory") set.memory) ∷ Single (number_line (codes "records") set.records) ∷ rest) format in
    first ∙ second ∙ third ∙ fourth

run_is : (n : ℕ) (p : Parts) (last : Stage) → p.last ≡ Some last → may_follow (Some last) stages.Run ≡ true → line_after n p (codes "run") ≡ Ok (record p { last = Some stages.Run })
unfolding words_after
run_is n p last e may = rw (e, may) refl

-- a run follows the programs, and the tasks
run_follows : (tasks : List Spawn) → may_follow (Some (last_of stages.Program stages.Task tasks)) stages.Run ≡ true
run_follows [] = refl
run_follows (t ∷ tasks) = rw (last_same stages.Task tasks) refl

pub sections_read : (set : TaskSet) → IsTaskSet set → IsNamed set → IsWrittenSet set → AreAssembled
    → (m : ℕ) × (sections_after 1 nothing (script_sections set) ≡ Ok (m, after set (Some stages.Run) set.objects set.programs set.tasks))
unfolding sections_after
sections_read set h named written assemble =
    let last = Single (codes "run") ∷ [] in
    let objects = objects_read set stages.Records [] set.objects 5 (map program_section set.programs ++ (map (task_section set) set.tasks ++ last)) refl refl h.each_object named.objects.each written.objects named.objects.once h.objects.1 in
    let programs = programs_read set stages.Object [] set.programs objects.0 (map (task_section set) set.tasks ++ last) assemble refl refl h.each_program named.programs.each written.programs named.programs.once h.programs.1 in
    let tasks = tasks_read set stages.Program [] set.tasks programs.0 last refl refl named h.each_task written.tasks h.tasks in
    let done = after set (Some (last_of stages.Program stages.Task set.tasks)) set.objects set.programs set.tasks in
    let end = single_taken tasks.0 done (after set (Some stages.Run) set.objects set.programs set.tasks) (codes "run") [] (run_is tasks.0 done (last_of stages.Program stages.Task set.tasks) refl (run_follows set.tasks)) in (
      tasks.0 + 1,
      first_lines set (map object_section set.objects ++ (map program_section set.programs ++ (map (task_section set) set.tasks ++ last))) h written
          ∙ objects.1
          ∙ ap (λ (s : Stage). sections_after objects.0 (after set (Some s) set.objects [] []) (map program_section set.programs ++ (map (task_section set) set.tasks ++ last))) (last_some stages.Records stages.Object set.objects (let some = h.objects.0 in omega arith))
          ∙ programs.1
          ∙ ap (λ (s : Stage). sections_after programs.0 (after set (Some s) set.objects set.programs []) (map (task_section set) set.tasks ++ last)) (last_some stages.Object stages.Program set.programs (let some = h.programs.0 in omega arith))
          ∙ tasks.1
          ∙ end,
    )
