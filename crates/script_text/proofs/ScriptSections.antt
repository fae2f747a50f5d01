-- The sections of a set as a script.
use Rattle.std.proofs.Common.{◌≡◌, ℕ, true, false, List, [], ◌∷◌, ◌++◌, map, Option, Some, None, refl, sym, ap, ◌∙◌, arith, codes, append_assoc}
use Rattle.std.specs.List.{AllByRecursion, flat_map}
use Rattle.std.specs.Fmt.{decimal}
use Rattle.std.proofs.lemmas.List.{append-nil}
use Rattle.kernel_model.specs.Effects.{Spawn}
use Rattle.rv_isa.specs.Texts.{text_of}
use Rattle.set_model.specs.Sets.{ObjPart, ProgPart, TaskSet}
use Rattle.script.specs.declared.keyword.BlockKind.{BlockKind}
use Rattle.script.specs.declared.keyword.BlockKind.TheVariants as blocks
use Rattle.script.specs.Keywords.{block_kind_of}
use Rattle.script.specs.Sections.{Section, Single, Block, Open, open_of, opened, ends, sections_from, sections}
use Rattle.script_text.proofs.CodeLines.{IsCode}
use Rattle.script_text.proofs.LinesRead.{object_words, program_words, task_words}
use Rattle.script_text.proofs.ScriptLines.{number_line, object_line, program_line, program_lines, task_line, script_lines}
use Rattle.script_text.proofs.WrittenLines.{IsWritten, literal, IsLine, spaced, spaced_line, spaced_words, line_is_plain}
use Rattle.nv_base.proofs.ForCallers.{all_append}

-- ---- what is known of the words of a set

pub record IsWrittenProgram (p : ProgPart) : Type 0 where
  pub words : AllByRecursion IsWritten (program_words p)
  pub code : AllByRecursion IsCode (map text_of p.code)

pub record IsWrittenSet (set : TaskSet) : Type 0 where
  pub format : IsWritten (decimal set.format)
  pub cores : IsWritten (decimal set.cores)
  pub memory : IsWritten (decimal set.memory)
  pub records : IsWritten (decimal set.records)
  pub objects : AllByRecursion (λ o. AllByRecursion IsWritten (object_words o)) set.objects
  pub programs : AllByRecursion IsWrittenProgram set.programs
  pub tasks : AllByRecursion (λ t. AllByRecursion IsWritten (task_words set t)) set.tasks

-- ---- each line is a line

object_lines_are : (objects : List ObjPart) → AllByRecursion (λ o. AllByRecursion IsWritten (object_words o)) objects → AllByRecursion IsLine (map object_line objects)
object_lines_are [] all = tt
object_lines_are (o ∷ objects) all = (spaced_line (codes "object") (object_words o) (literal (codes "object") refl) all.0, object_lines_are objects all.1)

pub code_lines_are : (ls : List (List ℕ)) → AllByRecursion IsCode ls → AllByRecursion IsLine ls
code_lines_are [] all = tt
code_lines_are (l ∷ ls) all = (all.0.line, code_lines_are ls all.1)

program_lines_are : (programs : List ProgPart) → AllByRecursion IsWrittenProgram programs → AllByRecursion IsLine (flat_map program_lines programs)
program_lines_are [] all = tt
program_lines_are (p ∷ programs) all =
    all_append IsLine (program_lines p) (flat_map program_lines programs) (
      spaced_line (codes "program") (program_words p) (literal (codes "program") refl) all.0.words,
      all_append IsLine (map text_of p.code) (codes "end" ∷ []) (code_lines_are (map text_of p.code) all.0.code) (record { bytes = refl; some = omega arith }, tt),
    )
    (program_lines_are programs all.1)

task_lines_are : (set : TaskSet) (tasks : List Spawn) → AllByRecursion (λ t. AllByRecursion IsWritten (task_words set t)) tasks → AllByRecursion IsLine (map (task_line set) tasks)
task_lines_are set [] all = tt
task_lines_are set (t ∷ tasks) all = (spaced_line (codes "task") (task_words set t) (literal (codes "task") refl) all.0, task_lines_are set tasks all.1)

pub script_lines_are : (set : TaskSet) → IsWrittenSet set → AllByRecursion IsLine (script_lines set)
script_lines_are set h = (
  spaced_line (codes "nvk") (decimal set.format ∷ []) (literal (codes "nvk") refl) (h.format, tt),
  (
    spaced_line (codes "cores") (decimal set.cores ∷ []) (literal (codes "cores") refl) (h.cores, tt),
    (
      spaced_line (codes "memory") (decimal set.memory ∷ []) (literal (codes "memory") refl) (h.memory, tt),
      (
        spaced_line (codes "records") (decimal set.records ∷ []) (literal (codes "records") refl) (h.records, tt),
        all_append IsLine (map object_line set.objects) (flat_map program_lines set.programs ++ (map (task_line set) set.tasks ++ codes "run" ∷ []))
            (object_lines_are set.objects h.objects)
            (all_append IsLine (flat_map program_lines set.programs) (map (task_line set) set.tasks ++ codes "run" ∷ [])
            (program_lines_are set.programs h.programs)
            (all_append IsLine (map (task_line set) set.tasks) (codes "run" ∷ []) (task_lines_are set set.tasks h.tasks) (record { bytes = refl; some = omega arith }, tt))),
      ),
    ),
  ),
)

-- ---- cutting into sections

-- the line opens a block where its first word does
spaced_opens : (first : List ℕ) (others : List (List ℕ)) → IsWritten first → AllByRecursion IsWritten others → opened (spaced first others) ≡ open_of (block_kind_of first) others
spaced_opens first others one all = rw (line_is_plain (spaced first others) (spaced_line first others one all), spaced_words first others one all) refl

single_first : (line : List ℕ) (rest : List (List ℕ)) → opened line ≡ None → sections_from None (line ∷ rest) ≡ Single line ∷ sections_from None rest
unfolding sections_from
single_first line rest h = rw h refl

open_first : (line : List ℕ) (o : Open) (rest : List (List ℕ)) → opened line ≡ Some o → sections_from None (line ∷ rest) ≡ sections_from (Some o) rest
unfolding sections_from
open_first line o rest h = rw h refl

block_closes : (kind : BlockKind) (words body : List (List ℕ)) (end : List ℕ) (rest : List (List ℕ)) → ends end ≡ true
    → sections_from (Some (record { kind = kind; words = words; body = body })) (end ∷ rest) ≡ Block kind words body (Some end) ∷ sections_from None rest
unfolding sections_from
block_closes kind words body end rest h = rw h refl

line_inside : (kind : BlockKind) (words body : List (List ℕ)) (line : List ℕ) (rest : List (List ℕ)) → ends line ≡ false
    → sections_from (Some (record { kind = kind; words = words; body = body })) (line ∷ rest) ≡ sections_from (Some (record { kind = kind; words = words; body = body ++ line ∷ [] })) rest
unfolding sections_from
line_inside kind words body line rest h = rw h refl

block_goes : (kind : BlockKind) (words body more : List (List ℕ)) (end : List ℕ) (rest : List (List ℕ)) → AllByRecursion IsCode more → ends end ≡ true
    → sections_from (Some (record { kind = kind; words = words; body = body })) (more ++ end ∷ rest) ≡ Block kind words (body ++ more) (Some end) ∷ sections_from None rest
block_goes kind words body [] end rest all h =
    block_closes kind words body end rest h ∙ ap (λ (b : List (List ℕ)). Block kind words b (Some end) ∷ sections_from None rest) (sym (append-nil body))
block_goes kind words body (line ∷ more) end rest all h =
    line_inside kind words body line (more ++ end ∷ rest) all.0.inside
    ∙ block_goes kind words (body ++ line ∷ []) more end rest all.1 h
    ∙ ap (λ (b : List (List ℕ)). Block kind words b (Some end) ∷ sections_from None rest) (append_assoc body (line ∷ []) more)

-- ---- the sections of a set

abbrev pub object_section : ObjPart → Section
object_section o = Single (object_line o)

abbrev pub program_section : ProgPart → Section
program_section p = Block blocks.Program (program_words p) (map text_of p.code) (Some (codes "end"))

abbrev pub task_section : TaskSet → Spawn → Section
task_section set t = Single (task_line set t)

abbrev pub script_sections : TaskSet → List Section
script_sections set =
    Single (number_line (codes "nvk") set.format) ∷ Single (number_line (codes "cores") set.cores) ∷ Single (number_line (codes "memory") set.memory) ∷ Single (number_line (codes "records") set.records) ∷
    (map object_section set.objects ++ (map program_section set.programs ++ (map (task_section set) set.tasks ++ Single (codes "run") ∷ [])))

objects_cut : (objects : List ObjPart) (rest : List (List ℕ)) → AllByRecursion (λ o. AllByRecursion IsWritten (object_words o)) objects
    → sections_from None (map object_line objects ++ rest) ≡ map object_section objects ++ sections_from None rest
objects_cut [] rest all = refl
objects_cut (o ∷ objects) rest all =
    single_first (object_line o) (map object_line objects ++ rest) (spaced_opens (codes "object") (object_words o) (literal (codes "object") refl) all.0)
    ∙ ap (λ (more : List Section). object_section o ∷ more) (objects_cut objects rest all.1)

tasks_cut : (set : TaskSet) (tasks : List Spawn) (rest : List (List ℕ)) → AllByRecursion (λ t. AllByRecursion IsWritten (task_words set t)) tasks
    → sections_from None (map (task_line set) tasks ++ rest) ≡ map (task_section set) tasks ++ sections_from None rest
tasks_cut set [] rest all = refl
tasks_cut set (t ∷ tasks) rest all =
    single_first (task_line set t) (map (task_line set) tasks ++ rest) (spaced_opens (codes "task") (task_words set t) (literal (codes "task") refl) all.0)
    ∙ ap (λ (more : List Section). task_section set t ∷ more) (tasks_cut set tasks rest all.1)

regroup : (code : List (List ℕ)) (end : List ℕ) (more rest : List (List ℕ)) → ((code ++ end ∷ []) ++ more) ++ rest ≡ code ++ end ∷ (more ++ rest)
regroup code end more rest = append_assoc (code ++ end ∷ []) more rest ∙ append_assoc code (end ∷ []) (more ++ rest)

programs_cut : (programs : List ProgPart) (rest : List (List ℕ)) → AllByRecursion IsWrittenProgram programs
    → sections_from None (flat_map program_lines programs ++ rest) ≡ map program_section programs ++ sections_from None rest
programs_cut [] rest all = refl
programs_cut (p ∷ programs) rest all =
    ap (λ (ls : List (List ℕ)). sections_from None (program_line p ∷ ls)) (regroup (map text_of p.code) (codes "end") (flat_map program_lines programs) rest)
    ∙ open_first (program_line p) (record { kind = blocks.Program; words = program_words p; body = [] }) (map text_of p.code ++ codes "end" ∷ (flat_map program_lines programs ++ rest))
    (spaced_opens (codes "program") (program_words p) (literal (codes "program") refl) all.0.words)
    ∙ block_goes blocks.Program (program_words p) [] (map text_of p.code) (codes "end") (flat_map program_lines programs ++ rest) all.0.code refl
    ∙ ap (λ (more : List Section). program_section p ∷ more) (programs_cut programs rest all.1)

run_cut : sections_from None (codes "run" ∷ []) ≡ Single (codes "run") ∷ []
unfolding sections_from
run_cut = refl

body_cut : (set : TaskSet) → IsWrittenSet set
    → sections_from None (map object_line set.objects ++ (flat_map program_lines set.programs ++ (map (task_line set) set.tasks ++ codes "run" ∷ [])))
    ≡ map object_section set.objects ++ (map program_section set.programs ++ (map (task_section set) set.tasks ++ Single (codes "run") ∷ []))
body_cut set h =
    objects_cut set.objects (flat_map program_lines set.programs ++ (map (task_line set) set.tasks ++ codes "run" ∷ [])) h.objects
    ∙ ap (λ (more : List Section). map object_section set.objects ++ more) (
    programs_cut set.programs (map (task_line set) set.tasks ++ codes "run" ∷ []) h.programs
    ∙ ap (λ (more : List Section). map program_section set.programs ++ more) (
    tasks_cut set set.tasks (codes "run" ∷ []) h.tasks
    ∙ ap (λ (more : List Section). map (task_section set) set.tasks ++ more) run_cut))

number_cut : (word : List ℕ) (n : ℕ) (rest : List (List ℕ)) → IsWritten word → IsWritten (decimal n) → block_kind_of word ≡ None
    → sections_from None (number_line word n ∷ rest) ≡ Single (number_line word n) ∷ sections_from None rest
number_cut word n rest one number plain =
    single_first (number_line word n) rest (spaced_opens word (decimal n ∷ []) one (number, tt) ∙ ap (λ (kind : Option BlockKind). open_of kind (decimal n ∷ [])) plain)

pub script_cut : (set : TaskSet) → IsWrittenSet set → sections (script_lines set) ≡ script_sections set
script_cut set h =
    let body = map object_line set.objects ++ (flat_map program_lines set.programs ++ (map (task_line set) set.tasks ++ codes "run" ∷ [])) in
    let third = number_cut (codes "records") set.records body (literal (codes "records") refl) h.records refl ∙ ap (λ (more : List Section). Single (number_line (codes "records") set.records) ∷ more) (body_cut set h) in
    let second = number_cut (codes "memory") set.memory (number_line (codes "records") set.records ∷ body) (literal (codes "memory") refl) h.memory refl ∙ ap (λ (more : List Section). Single (number_line (codes "memory") set.memory) ∷ more) third in
    let first = number_cut (codes "cores") set.cores (number_line (codes "memory") set.memory ∷ number_line (codes "records") set.records ∷ body) (literal (codes "cores") refl) h.cores refl ∙ ap (λ (more : List Section). Single (number_line (codes "cores") set.cores) ∷ more) second in
    number_cut (codes "nvk") set.format (number_line (codes "cores") set.cores ∷ number_line (codes "memory") set.memory ∷ number_line (codes "records") set.records ∷ body) (literal (codes "nvk") refl) h.format refl
    ∙ ap (λ (more : List Section). Single (number_line (codes "nvk") set.format) ∷ more) first
