-- The lines of a set as a script, and the sections that they are.
use Rattle.std.proofs.Common.{◌≡◌, ℕ, List, [], ◌∷◌, ◌++◌, map, refl, sym, ap, ◌∙◌, codes, append_assoc}
use Rattle.std.specs.List.{flat_map}
use Rattle.std.specs.Fmt.{decimal}
use Rattle.std.proofs.lemmas.Grind.{flat_map-append}
use Rattle.std.proofs.lemmas.List.{append-nil}
use Rattle.kernel_model.specs.Effects.{Spawn}
use Rattle.rv_isa.specs.Texts.{text_of}
use Rattle.set_model.specs.Sets.{ObjPart, ProgPart, TaskSet, program_at}
use Rattle.script_text.specs.ScriptText.{number_text, object_text, code_text, program_text, task_text, script_text}
use Rattle.script_text.proofs.LinesRead.{object_words, program_words, task_words}
use Rattle.script_text.proofs.WrittenLines.{spaced, joined}
use Rattle.nv_base.specs.Texts.{field}
use Rattle.nv_base.proofs.ForCallers.{four_parts}

-- ---- lines

abbrev pub number_line : List ℕ → ℕ → List ℕ
number_line word n = spaced word (decimal n ∷ [])

abbrev pub object_line : ObjPart → List ℕ
object_line o = spaced (codes "object") (object_words o)

abbrev pub program_line : ProgPart → List ℕ
program_line p = spaced (codes "program") (program_words p)

abbrev pub program_lines : ProgPart → List (List ℕ)
program_lines p = program_line p ∷ (map text_of p.code ++ codes "end" ∷ [])

abbrev pub task_line : TaskSet → Spawn → List ℕ
task_line set t = spaced (codes "task") (task_words set t)

abbrev pub script_lines : TaskSet → List (List ℕ)
script_lines set =
    number_line (codes "nvk") set.format ∷ number_line (codes "cores") set.cores ∷ number_line (codes "memory") set.memory ∷ number_line (codes "records") set.records ∷
    (map object_line set.objects ++ (flat_map program_lines set.programs ++ (map (task_line set) set.tasks ++ codes "run" ∷ [])))

-- ---- the text is its lines

eight : (a b c d e f g h : List ℕ) → ((((((a ++ b) ++ c) ++ d) ++ e) ++ f) ++ g) ++ h ≡ a ++ (b ++ (c ++ (d ++ (e ++ (f ++ (g ++ h))))))
eight a b c d e f g h = simp append_assoc

values_text : (ws : List ℕ) → flat_map (field (codes " ")) ws ≡ flat_map (λ word. 32 ∷ word) (map decimal ws)
values_text [] = refl
values_text (w ∷ ws) = ap (λ (more : List ℕ). (32 ∷ decimal w) ++ more) (values_text ws)

object_joined : (o : ObjPart) → object_text o ≡ object_line o ++ 10 ∷ []
object_joined o =
    let values : ((o.name ++ (32 ∷ decimal o.size)) ++ (32 ∷ decimal o.slots)) ++ flat_map (field (codes " ")) o.first ≡ o.name ++ ((32 ∷ decimal o.size) ++ ((32 ∷ decimal o.slots) ++ flat_map (λ word. 32 ∷ word) (map decimal o.first))) =
    four_parts o.name (32 ∷ decimal o.size) (32 ∷ decimal o.slots) (flat_map (field (codes " ")) o.first)
    ∙ ap (λ (v : List ℕ). o.name ++ ((32 ∷ decimal o.size) ++ ((32 ∷ decimal o.slots) ++ v))) (values_text o.first) in
    ap (λ (t : List ℕ). codes "object " ++ (t ++ 10 ∷ [])) values

pub code_joined : (ws : List ℕ) → flat_map code_text ws ≡ joined (map text_of ws)
code_joined [] = refl
code_joined (w ∷ ws) = ap (λ (more : List ℕ). (text_of w ++ 10 ∷ []) ++ more) (code_joined ws)

program_seam : (name fuel code end : List ℕ) → (((name ++ fuel) ++ 10 ∷ []) ++ code) ++ end ≡ ((name ++ (fuel ++ [])) ++ 10 ∷ []) ++ (code ++ end)
program_seam name fuel code end =
    append_assoc ((name ++ fuel) ++ 10 ∷ []) code end ∙ ap (λ (f : List ℕ). ((name ++ f) ++ 10 ∷ []) ++ (code ++ end)) (sym (append-nil fuel))

program_joined : (p : ProgPart) → program_text p ≡ joined (program_lines p)
program_joined p =
    let body : flat_map code_text p.code ++ codes "end\n" ≡ joined (map text_of p.code ++ codes "end" ∷ []) =
    ap (λ (c : List ℕ). c ++ codes "end\n") (code_joined p.code) ∙ sym (flat_map-append (λ (line : List ℕ). line ++ 10 ∷ []) (map text_of p.code) (codes "end" ∷ [])) in
    ap (λ (t : List ℕ). codes "program " ++ t) (
    program_seam p.name (32 ∷ decimal p.fuel) (flat_map code_text p.code) (codes "end\n")
    ∙ ap (λ (b : List ℕ). ((p.name ++ ((32 ∷ decimal p.fuel) ++ [])) ++ 10 ∷ []) ++ b) body)

task_joined : (set : TaskSet) (t : Spawn) → task_text set t ≡ task_line set t ++ 10 ∷ []
task_joined set t = ap (λ (arg : List ℕ). codes "task " ++ (((program_at set t.program).name ++ (32 ∷ arg)) ++ 10 ∷ [])) (sym (append-nil (decimal t.arg)))

number_joined : (n : ℕ) → decimal n ++ 10 ∷ [] ≡ (decimal n ++ []) ++ 10 ∷ []
number_joined n = ap (λ (d : List ℕ). d ++ 10 ∷ []) (sym (append-nil (decimal n)))

objects_joined : (objects : List ObjPart) → flat_map object_text objects ≡ joined (map object_line objects)
objects_joined [] = refl
objects_joined (o ∷ objects) =
    ap (λ (t : List ℕ). t ++ flat_map object_text objects) (object_joined o)
    ∙ ap (λ (t : List ℕ). (object_line o ++ 10 ∷ []) ++ t) (objects_joined objects)

programs_joined : (programs : List ProgPart) → flat_map program_text programs ≡ joined (flat_map program_lines programs)
programs_joined [] = refl
programs_joined (p ∷ programs) =
    ap (λ (t : List ℕ). t ++ flat_map program_text programs) (program_joined p)
    ∙ ap (λ (t : List ℕ). joined (program_lines p) ++ t) (programs_joined programs)
    ∙ sym (flat_map-append (λ (line : List ℕ). line ++ 10 ∷ []) (program_lines p) (flat_map program_lines programs))

tasks_joined : (set : TaskSet) (tasks : List Spawn) → flat_map (task_text set) tasks ≡ joined (map (task_line set) tasks)
tasks_joined set [] = refl
tasks_joined set (t ∷ tasks) =
    ap (λ (text : List ℕ). text ++ flat_map (task_text set) tasks) (task_joined set t)
    ∙ ap (λ (text : List ℕ). (task_line set t ++ 10 ∷ []) ++ text) (tasks_joined set tasks)

joined-append : (xs ys : List (List ℕ)) → joined (xs ++ ys) ≡ joined xs ++ joined ys
joined-append xs ys = flat_map-append (λ (line : List ℕ). line ++ 10 ∷ []) xs ys

rest_joined : (set : TaskSet)
    → flat_map object_text set.objects ++ (flat_map program_text set.programs ++ (flat_map (task_text set) set.tasks ++ codes "run\n"))
    ≡ joined (map object_line set.objects ++ (flat_map program_lines set.programs ++ (map (task_line set) set.tasks ++ codes "run" ∷ [])))
rest_joined set =
    let tasks : flat_map (task_text set) set.tasks ++ codes "run\n" ≡ joined (map (task_line set) set.tasks ++ codes "run" ∷ []) =
    ap (λ (t : List ℕ). t ++ codes "run\n") (tasks_joined set set.tasks) ∙ sym (joined-append (map (task_line set) set.tasks) (codes "run" ∷ [])) in
    let programs : flat_map program_text set.programs ++ (flat_map (task_text set) set.tasks ++ codes "run\n") ≡ joined (flat_map program_lines set.programs ++ (map (task_line set) set.tasks ++ codes "run" ∷ [])) =
    ap (λ (t : List ℕ). t ++ (flat_map (task_text set) set.tasks ++ codes "run\n")) (programs_joined set.programs)
    ∙ ap (λ (t : List ℕ). joined (flat_map program_lines set.programs) ++ t) tasks
    ∙ sym (joined-append (flat_map program_lines set.programs) (map (task_line set) set.tasks ++ codes "run" ∷ [])) in
    ap (λ (t : List ℕ). t ++ (flat_map program_text set.programs ++ (flat_map (task_text set) set.tasks ++ codes "run\n"))) (objects_joined set.objects)
    ∙ ap (λ (t : List ℕ). joined (map object_line set.objects) ++ t) programs
    ∙ sym (joined-append (map object_line set.objects) (flat_map program_lines set.programs ++ (map (task_line set) set.tasks ++ codes "run" ∷ [])))

pub text_joined : (set : TaskSet) → script_text set ≡ joined (script_lines set)
unfolding script_text
text_joined set =
    let all = flat_map object_text set.objects ++ (flat_map program_text set.programs ++ (flat_map (task_text set) set.tasks ++ codes "run\n")) in
    eight (number_text (codes "nvk ") set.format) (number_text (codes "cores ") set.cores) (number_text (codes "memory ") set.memory) (number_text (codes "records ") set.records)
    (flat_map object_text set.objects) (flat_map program_text set.programs) (flat_map (task_text set) set.tasks) (codes "run\n")
    ∙ ap (λ (f : List ℕ). (codes "nvk " ++ f) ++ (number_text (codes "cores ") set.cores ++ (number_text (codes "memory ") set.memory ++ (number_text (codes "records ") set.records ++ all)))) (number_joined set.format)
    ∙ ap (λ (c : List ℕ). (number_line (codes "nvk") set.format ++ 10 ∷ []) ++ ((codes "cores " ++ c) ++ (number_text (codes "memory ") set.memory ++ (number_text (codes "records ") set.records ++ all)))) (number_joined set.cores)
    ∙ ap (λ (m : List ℕ). (number_line (codes "nvk") set.format ++ 10 ∷ []) ++ ((number_line (codes "cores") set.cores ++ 10 ∷ []) ++ ((codes "memory " ++ m) ++ (number_text (codes "records ") set.records ++ all)))) (number_joined set.memory)
    ∙ ap (λ (r : List ℕ). (number_line (codes "nvk") set.format ++ 10 ∷ []) ++ ((number_line (codes "cores") set.cores ++ 10 ∷ []) ++ ((number_line (codes "memory") set.memory ++ 10 ∷ []) ++ ((codes "records " ++ r) ++ all)))) (number_joined set.records)
    ∙ ap (λ (t : List ℕ). (number_line (codes "nvk") set.format ++ 10 ∷ []) ++ ((number_line (codes "cores") set.cores ++ 10 ∷ []) ++ ((number_line (codes "memory") set.memory ++ 10 ∷ []) ++ ((number_line (codes "records") set.records ++ 10 ∷ []) ++ t)))) (rest_joined set)
