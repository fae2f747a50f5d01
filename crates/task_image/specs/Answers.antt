-- What the answer to the whole bytes says. This project's own.
use Rattle.std.specs.Prelude.{◌≡◌, ℕ, Result, Ok, Err}
use Rattle.nv_base.specs.declared.refusals.Refusal.{Refusal}
use Rattle.nv_base.specs.declared.refusals.Refusal.TheVariants as refusal
use Rattle.nv_base.specs.Refusals.{Refuses}
use Rattle.set_model.specs.Sets.{TaskSet}
use Rattle.task_image.specs.declared.refusal.ImageRefusal.{ImageRefusal}
use Rattle.task_image.specs.declared.refusal.ImageRefusal.TheVariants.{Bad, NoMemory}

-- the place that is refused, or want of memory
abbrev pub refusal_of : ImageRefusal → Refusal ℕ
refusal_of (Bad place) = refusal.At place
refusal_of NoMemory = refusal.NoMemory

-- It is what the bytes are read as, unless memory ran out.
abbrev pub Answers : Result TaskSet ImageRefusal → Result TaskSet ℕ → Type 0
Answers (Ok set) read = read ≡ Ok set
Answers (Err e) read = Refuses (refusal_of e) read
