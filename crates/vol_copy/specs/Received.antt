-- What an attempt is behind a service that had an object's words, and behind its end. This project's own.
use Rattle.std.specs.Prelude.{◌≡◌, ℕ, ◌<◌, List, [], length, slice_set, Option, Some, None, if◌then◌else◌}
use Rattle.object_sets.specs.ObjectSets.{is_among, with_object}
use Rattle.nv_base.specs.declared.lines.Outcome.{Outcome}
use Rattle.nv_base.specs.declared.lines.Outcome.TheVariants as outcome
use Rattle.kernel_model.specs.Effects.{Objects, object_words}
use Rattle.task_model.specs.TaskSteps.{past}
use Rattle.vol_copy.specs.Wants.{Awaits, memory_wanted, rewritten_wanted}
use Rattle.vol_copy.specs.declared.attempt.Attempt.{Attempt}
use Rattle.vol_copy.specs.declared.attempt.Stage.TheVariants as stage
use Rattle.vol_copy.specs.declared.want.Want.{Want}

-- the words that are seen of an object: the own last write, else the copy
abbrev pub seen_of : (written : List ℕ) → (words copies : Objects) → ℕ → List ℕ
seen_of written words copies o = if is_among o written then object_words words o else object_words copies o

abbrev pub seen_in : Attempt → ℕ → List ℕ
seen_in a o = seen_of a.written a.words a.copies o

-- the objects written, and the words written last, with new words of an object if there are some
abbrev pub written_with : List ℕ → ℕ → Option (List ℕ) → List ℕ
written_with written o None = written
written_with written o (Some new) = with_object o written

abbrev pub words_with : Objects → ℕ → Option (List ℕ) → Objects
words_with words o None = words
words_with words o (Some new) = slice_set words o new

abbrev pub rewritten_so : Attempt → ℕ → Option (List ℕ) → Attempt
rewritten_so a o new = record a { written = written_with a.written o new; words = words_with a.words o new }

-- behind a service that wants this, where the attempt sees these words
abbrev pub received_with : Attempt → ℕ → Want → List ℕ → Attempt
received_with a o w words = record a {
  machine = past (record a.machine { memory = memory_wanted w a.machine.memory words });
  written = written_with a.written o (rewritten_wanted w a.machine.memory words);
  words = words_with a.words o (rewritten_wanted w a.machine.memory words);
}

abbrev pub received : Attempt → ℕ → Want → Attempt
received a o w = received_with a o w (seen_in a o)

-- there are words and a copy of the object, of one size, and the machine waits for as many
pub record MayReceive (a : Attempt) (o : ℕ) (w : Want) : Type 0 where
  pub own : o < length a.words
  pub copied : o < length a.copies
  pub sizes : length (object_words a.copies o) ≡ length (object_words a.words o)
  pub awaits : Awaits a.machine (length (object_words a.words o)) w

-- what a trap keeps of some effects: nothing
abbrev pub left_by : {A : Type 0} → Outcome → List A → List A
left_by (outcome.Exit code) xs = xs
left_by (outcome.Trap cause) xs = []

-- the attempt that has ended so
abbrev pub ended_so : Attempt → Outcome → Attempt
ended_so a o = record a { written = left_by o a.written; spawns = left_by o a.spawns; stage = stage.Ready o }
