-- The lines of a report as they are read. This project's own.
use Rattle.std.specs.Prelude.{ℕ, zero, suc, ◌||◌, nat_eq, Bool, List, [], ◌∷◌, codes, get_or, Option, option_map}
use Rattle.std.specs.Cmp.Lexicographic.{pointwise}
use Rattle.std.specs.Option.{option_and_then, option_or}
use Rattle.kernel_model.specs.Effects.{Exit, Trap}
use Rattle.kernel_model.specs.Items.{Entry}
use Rattle.kernel_model.specs.Replay.{TaskRec}
use Rattle.set_model.specs.Sets.{TaskSet, ObjPart}
use Rattle.report.specs.Fields.{Number, Core, Object, Program, Cause, Shape, values_in, fits, behind}

-- ---- events that tell no finish

abbrev pub attempt_shape : Shape
attempt_shape = (codes " core ", Core) ∷ (codes " task ", Number) ∷ []

abbrev pub start_shape : Shape
start_shape = (codes "start core ", Core) ∷ (codes " task ", Number) ∷ (codes " at ", Number) ∷ []

-- a word, two numbers, and the attempt
abbrev pub pair_shape : List ℕ → Shape
pair_shape word = (word, Number) ∷ (codes " ", Number) ∷ attempt_shape

abbrev pub slots_shape : Shape
slots_shape = (codes "refuse slots ", Object) ∷ attempt_shape

abbrev pub boot_shape : Shape
boot_shape = (codes "boot ", Number) ∷ []

abbrev pub is_attempt : TaskSet → List ℕ → Bool
is_attempt set text = fits set start_shape text || fits set (pair_shape (codes "stale ")) text

abbrev pub is_refusal : TaskSet → List ℕ → Bool
is_refusal set text = fits set (pair_shape (codes "refuse empty ")) text || fits set slots_shape text || fits set (pair_shape (codes "refuse records ")) text

abbrev pub is_power : TaskSet → List ℕ → Bool
is_power set text = fits set boot_shape text || pointwise nat_eq text (codes "fail")

abbrev pub is_quiet : TaskSet → List ℕ → Bool
is_quiet set text = is_attempt set text || is_refusal set text || is_power set text

-- ---- finishes

abbrev pub exit_shape : List ℕ → Shape
exit_shape word = (word, Number) ∷ (codes " task ", Number) ∷ (codes " point ", Number) ∷ (codes " exit ", Number) ∷ (codes " first ", Number) ∷ []

abbrev pub trap_shape : List ℕ → Shape
trap_shape word = (word, Number) ∷ (codes " task ", Number) ∷ (codes " point ", Number) ∷ (codes " trap ", Cause) ∷ (codes " first ", Number) ∷ []

-- the values in their order: number, task, point, outcome, first
abbrev pub exit_entry : List ℕ → Entry
exit_entry v = record { number = get_or v 0 0; task = get_or v 1 0; point = get_or v 2 0; first = get_or v 4 0; outcome = Exit (get_or v 3 0) }

abbrev pub trap_entry : List ℕ → Entry
trap_entry v = record { number = get_or v 0 0; task = get_or v 1 0; point = get_or v 2 0; first = get_or v 4 0; outcome = Trap (get_or v 3 0) }

-- behind `finish ` or `found `
abbrev pub entry_in : TaskSet → List ℕ → List ℕ → Option Entry
entry_in set word text = option_or (option_map exit_entry (values_in set (exit_shape word) text)) (option_map trap_entry (values_in set (trap_shape word) text))

abbrev pub finish_in : TaskSet → List ℕ → Option Entry
finish_in set text = option_or (entry_in set (codes "finish ") text) (entry_in set (codes "found ") text)

-- ---- the state

abbrev pub end_shape : Shape
end_shape = (codes "end clock ", Number) ∷ (codes " number ", Number) ∷ (codes " next ", Number) ∷ (codes " boots ", Number) ∷ []

-- clock, number, next id and boots
abbrev pub end_in : TaskSet → List ℕ → Option (List ℕ)
end_in set text = values_in set end_shape text

-- so many numbers, each behind a space
abbrev pub words_shape : ℕ → Shape
words_shape zero = []
words_shape (suc n) = (codes " ", Number) ∷ words_shape n

-- the words of an object
abbrev pub object_in : TaskSet → ObjPart → List ℕ → Option (List ℕ)
object_in set o text = option_and_then (λ named. option_and_then (values_in set (words_shape o.size)) (behind o.name named)) (behind (codes "object ") text)

abbrev pub open_shape : Shape
open_shape = (codes "open ", Number) ∷ (codes " ", Program) ∷ (codes " ", Number) ∷ []

abbrev pub open_task : List ℕ → TaskRec
open_task v = record { id = get_or v 0 0; program = get_or v 1 0; arg = get_or v 2 0 }

abbrev pub open_in : TaskSet → List ℕ → Option TaskRec
open_in set text = option_map open_task (values_in set open_shape text)

abbrev pub is_done : List ℕ → Bool
is_done text = pointwise nat_eq text (codes "done")
