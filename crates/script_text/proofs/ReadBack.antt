-- What is written of a set is read back.
use Rattle.std.proofs.Common.{◌≡◌, ℕ, ◌<◌, ◌≤◌, ◌^◌, List, [], ◌∷◌, length, map, Some, Ok, refl, sym, ap, ◌∙◌, ltb, false, arith}
use Rattle.std.specs.List.{AllByRecursion}
use Rattle.std.specs.Str.Lines.{lines}
use Rattle.std.proofs.lemmas.Bool.{le-ltb}
use Rattle.kernel_model.specs.Effects.{Spawn}
use Rattle.rv_isa.specs.Ranges.{IsInstr}
use Rattle.rv_isa.specs.Table.{instruction_of}
use Rattle.rv_isa.specs.Texts.{text_of}
use Rattle.rv_isa.specs.Words.{instruction_word}
use Rattle.rv_isa.specs.declared.instruction.Instr.{Instr}
use Rattle.rv_asm.specs.Assembly.{assembled}
use Rattle.rv_asm.specs.Disassembly.{disassembled}
use Rattle.set_model.proofs.ForCallers.{few_records}
use Rattle.set_model.specs.Sets.{ObjPart, ProgPart, TaskSet, program_at}
use Rattle.set_model.specs.Limits.{IsObject, IsProgram, IsTask, IsTaskSet}
use Rattle.set_model.specs.Names.{IsName, IsNamed}
use Rattle.script.specs.Reading.{read}
use Rattle.script_text.specs.ScriptText.{script_text, unscheduled}
use Rattle.script_text.proofs.CodeLines.{AreWithin, words_code}
use Rattle.script_text.proofs.LinesRead.{object_words, task_words}
use Rattle.script_text.proofs.ScriptLines.{script_lines, text_joined, code_joined}
use Rattle.script_text.proofs.ScriptSections.{IsWrittenProgram, IsWrittenSet, code_lines_are, script_lines_are, script_cut}
use Rattle.script_text.proofs.SetRead.{AreAssembled, task_name, sections_read}
use Rattle.script_text.proofs.TextLength.{text_is_short}
use Rattle.script_text.proofs.WrittenLines.{IsWritten, joined_lines}
use Rattle.script_text.proofs.WrittenWords.{decimal_written, decimals_written, name_written}

-- ---- the words of a set are written as words

objects_written : (objects : List ObjPart) → AllByRecursion IsObject objects → AllByRecursion IsName (map (λ o. o.name) objects) → AllByRecursion (λ o. AllByRecursion IsWritten (object_words o)) objects
objects_written [] each names = tt
objects_written (o ∷ objects) each names =
    let size = each.0.size in
    let slots = each.0.slots in
    ((name_written o.name names.0, (decimal_written o.size (omega arith), (decimal_written o.slots (omega arith), decimals_written o.first each.0.words))), objects_written objects each.1 names.1)

programs_written : AreWithin → (memory : ℕ) (programs : List ProgPart) → AllByRecursion (IsProgram memory) programs → AllByRecursion IsName (map (λ p. p.name) programs) → AllByRecursion IsWrittenProgram programs
programs_written within memory [] each names = tt
programs_written within memory (p ∷ programs) each names =
    let fuel = each.0.fuel in
    (record { words = (name_written p.name names.0, (decimal_written p.fuel (omega arith), tt)); code = words_code within p.code each.0.words }, programs_written within memory programs each.1 names.1)

tasks_written : (set : TaskSet) (tasks : List Spawn) → IsNamed set → AllByRecursion (IsTask (length set.programs)) tasks → AllByRecursion (λ t. AllByRecursion IsWritten (task_words set t)) tasks
tasks_written set [] named each = tt
tasks_written set (t ∷ tasks) named each = ((name_written (program_at set t.program).name (task_name set t named each.0), (decimal_written t.arg each.0.arg, tt)), tasks_written set tasks named each.1)

set_written : AreWithin → (set : TaskSet) → IsTaskSet set → IsNamed set → IsWrittenSet set
set_written within set h named =
    let format = h.format in
    let cores = h.cores in
    let memory = h.memory in
    let records = h.records in
    record {
      format = decimal_written set.format (omega arith);
      cores = decimal_written set.cores (omega arith);
      memory = decimal_written set.memory (omega arith);
      records = decimal_written set.records (omega (arith, few_records set h));
      objects = objects_written set.objects h.each_object named.objects.each;
      programs = programs_written within set.memory set.programs h.each_program named.programs.each;
      tasks = tasks_written set set.tasks named h.each_task;
    }

-- ---- the laws of instructions, as they are needed here

abbrev Back : Type 0
Back = (word : ℕ) (i : Instr) → word < 2 ^ 32 → instruction_of word ≡ Some i → (instruction_word i ≡ word) × IsInstr i

abbrev Again : Type 0
Again = (words : List ℕ) → AllByRecursion (λ word. word < 2 ^ 32) words → length words ≤ 1024 → assembled (lines (disassembled words)) ≡ Ok words

within_from : Back → AreWithin
within_from back w i small e = (back w i small e).1

code_cut : AreWithin → (ws : List ℕ) → AllByRecursion (λ w. w < 2 ^ 32) ws → lines (disassembled ws) ≡ map text_of ws
code_cut within ws small = ap lines (code_joined ws) ∙ joined_lines (map text_of ws) (code_lines_are (map text_of ws) (words_code within ws small))

assembled_from : AreWithin → Again → AreAssembled
assembled_from within again ws small few = ap assembled (sym (code_cut within ws small)) ∙ again ws small few

-- ---- the whole

pub set_read_back : Back → Again → (set : TaskSet) → IsTaskSet set → IsNamed set → read (script_text set) ≡ Ok (unscheduled set)
unfolding read
set_read_back back again set h named =
    let within = within_from back in
    let written = set_written within set h named in
    let short : ltb 1048576 (length (script_text set)) ≡ false = le-ltb _ _ (text_is_short within set h named) in
    let cut : lines (script_text set) ≡ script_lines set = ap lines (text_joined set) ∙ joined_lines (script_lines set) (script_lines_are set written) in
    let all = sections_read set h named written (assembled_from within again) in
    rw (short, cut, script_cut set written, all.1) refl
