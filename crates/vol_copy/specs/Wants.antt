-- What a service that waits does with an object's words. This project's own.
use Rattle.std.specs.Prelude.{◌≡◌, ℕ, ◌+◌, ◌≤◌, List, length, Option, Some, None}
use Rattle.rv_core.specs.State.{MachineState}
use Rattle.rv_core.specs.Machine.{IsPlace, put_words, words_at}
use Rattle.rv_core.specs.declared.services.Service.{Service}
use Rattle.rv_core.specs.declared.services.Service.TheVariants.{ReadPart, WritePart}
use Rattle.task_model.specs.TaskSteps.{given_words, part_of, past, rewritten_words, with_part}
use Rattle.task_model.specs.declared.part.Part.{Part}
use Rattle.vol_copy.specs.declared.want.Want.{Want}
use Rattle.vol_copy.specs.declared.want.Want.TheVariants as want

-- the words that it is about
abbrev pub part_in : Want → Part
part_in (want.Give p) = p
part_in (want.Take p) = p

-- the service that asks for it
abbrev pub part_service : ℕ → Want → Service
part_service o (want.Give p) = ReadPart o p.at p.first p.count
part_service o (want.Take p) = WritePart o p.at p.first p.count

-- the memory behind it, where the attempt sees these words
abbrev pub memory_wanted : Want → (memory words : List ℕ) → List ℕ
memory_wanted (want.Give p) memory words = put_words memory p.at (part_of p.first p.count words)
memory_wanted (want.Take p) memory words = memory

-- the object's new words, if it has some
abbrev pub rewritten_wanted : Want → (memory words : List ℕ) → Option (List ℕ)
rewritten_wanted (want.Give p) memory words = None
rewritten_wanted (want.Take p) memory words = Some (with_part p.first (words_at memory p.at p.count) words)

-- the machine waits for the words of an object of this size, and wants this of them, whatever they are
pub record Awaits (m : MachineState) (size : ℕ) (w : Want) : Type 0 where
  pub inside : (part_in w).first + (part_in w).count ≤ size
  pub place : IsPlace m (part_in w).at (part_in w).count
  pub waits : m.pc + 4 ≤ length m.memory
  pub given : (words : List ℕ) → length words ≡ size → given_words m words ≡ past (record m { memory = memory_wanted w m.memory words })
  pub rewritten : (words : List ℕ) → length words ≡ size → rewritten_words m words ≡ rewritten_wanted w m.memory words
