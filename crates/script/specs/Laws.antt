-- What acceptance and refusal mean for a script as a whole. This project's own.
use Rattle.std.specs.Prelude.{◌≡◌, ℕ, suc, ◌+◌, ◌<◌, ◌≤◌, List, [], ◌∷◌, ◌++◌, take, replicate, Option, Some, None, option_map, slice_get, Ok, Err}
use Rattle.std.specs.List.{filter_map}
use Rattle.plain_text.specs.Words.{line_words}
use Rattle.set_model.specs.Names.{IsNamed}
use Rattle.schedule_model.specs.Limits.{IsSchedule}
use Rattle.task_set.specs.FirstBroken.{first_broken}
use Rattle.script.specs.Causes.{ScriptError}
use Rattle.script.specs.declared.keyword.Stage.{Stage}
use Rattle.script.specs.declared.keyword.Stage.TheVariants.{Nvk, Cores, Memory, Records, Object, Program, Task, Schedule, Run}
use Rattle.script.specs.Keywords.{keyword_of, stage_of}
use Rattle.script.specs.Parts.{Parts, Script}
use Rattle.script.specs.Sections.{Section, Single, Block, line_count}
use Rattle.script.specs.Reading.{section_after, sections_after}

-- all sections before the refused one are taken, and this one is not, for this cause and at a line inside it
pub record IsFirstRefused (sections : List Section) (n : ℕ) (p : Parts) (e : ScriptError) : Type 0 where
  pub before : ℕ
  pub number : ℕ  -- of the refused section's first line
  pub parts : Parts
  pub section : Section
  pub taken : sections_after n p (take before sections) ≡ Ok (number, parts)
  pub next : slice_get sections before ≡ Some section
  pub refused : section_after number parts section ≡ Err e
  pub inside : (number ≤ e.line) × (e.line < number + line_count section)

-- what is read keeps each limit: of the set, of its names, and of the schedule
pub record IsWithinLimits (script : Script) : Type 0 where
  pub set : first_broken script.set ≡ None
  pub names : IsNamed script.set
  pub schedule : IsSchedule script.schedule

abbrev pub stage_of_words : List (List ℕ) → Option Stage
stage_of_words [] = None
stage_of_words (first ∷ words) = option_map stage_of (keyword_of first)

-- where a section stands in the order of a script, if it has words
abbrev pub stage_in : Section → Option Stage
stage_in (Single line) = stage_of_words (line_words line)
stage_in (Block kind words body end) = Some Program

abbrev pub stages_of : List Section → List Stage
stages_of sections = filter_map stage_in sections

-- the lines of a script, by how often each comes
pub record IsLaidOut (stages : List Stage) : Type 0 where
  pub objects : ℕ
  pub programs : ℕ
  pub tasks : ℕ
  pub events : ℕ
  pub lines : stages ≡ Nvk ∷ Cores ∷ Memory ∷ Records ∷ (replicate (suc objects) Object ++ (replicate (suc programs) Program ++ (replicate tasks Task ++ (replicate events Schedule ++ Run ∷ []))))
