-- What a step of a core makes of a kernel over a device, and what it writes. This project's own.
use Rattle.std.specs.Prelude.{◌≡◌, ◌⊎◌, ℕ, List, ◌++◌}
use Rattle.rv_core.specs.State.{MachineState}
use Rattle.nv_base.specs.declared.lines.Line.{Line}
use Rattle.nv_base.specs.declared.lines.Line.TheVariants.{Nothing}
use Rattle.kernel_model.specs.Events.{CoreStep}
use Rattle.device_model.specs.Words.{Change, Words, made}
use Rattle.table_machine.specs.Tables.{Tables}
use Rattle.table_machine.specs.Events.{Answer, table_step}
use Rattle.kernel_core.specs.Commits.{setting_on}
use Rattle.kernel_core.specs.Keeping.{IsLawful, Keeps}
use Rattle.kernel_core.specs.Turns.{HasMade, IsAnswered}
use Rattle.kernel_core.specs.declared.kernel.Kernel.{Kernel}

-- what no event changes: the set, and how many finishes there may be
pub record KeepsSet (old new : Kernel) : Type 0 where
  pub set : new.set ≡ old.set
  pub room : new.room ≡ old.room

-- a step of core n over tables
abbrev pub step_of : Kernel → Words → Tables MachineState → ℕ → Answer MachineState
step_of k words t n = table_step (setting_on k.set words) words t (CoreStep n)

-- a step of core n, from these words of the device to later ones
unfoldable pub Steps : Kernel → (n : ℕ) → Words → Kernel → (later : Words) → Line → Type 0
Steps old n words new later line = (t : Tables MachineState) → Keeps old words t → IsLawful old words t → IsAnswered new later (step_of old words t n) line

-- all writes of such a step are made
unfoldable pub HasWritten : Kernel → (n : ℕ) → Words → (log grown : List Change) → Type 0
HasWritten old n words log grown = (t : Tables MachineState) → Keeps old words t → IsLawful old words t → grown ≡ log ++ (step_of old words t n).writes

-- so the later words are the old ones with these writes
unfoldable pub HasImage : Kernel → (n : ℕ) → Words → (later : Words) → Type 0
HasImage old n words later = (t : Tables MachineState) → Keeps old words t → IsLawful old words t → later ≡ made (step_of old words t n).writes words

-- they are made, or none is
unfoldable pub MayHaveWritten : Kernel → (n : ℕ) → (words later : Words) → (log grown : List Change) → Type 0
MayHaveWritten old n words later log grown = (t : Tables MachineState) → Keeps old words t → IsLawful old words t → (grown ≡ log) ⊎ HasMade (step_of old words t n).writes words later log grown

-- a step of core n that leaves the words as they are, and tells nothing
pub record PassesOn (old : Kernel) (n : ℕ) (new : Kernel) (words : Words) : Type 0 where
  pub steps : Steps old n words new words Nothing
  pub written : (log : List Change) → HasWritten old n words log log
  pub image : HasImage old n words words

-- whatever these are
unfoldable pub Passes : Kernel → ℕ → Kernel → Type 0
Passes old n new = (words : Words) → PassesOn old n new words
