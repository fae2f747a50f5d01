-- What a commit writes to slots, one word after another, objects in increasing order and then what is beside them: this project's own.
use Rattle.std.specs.Prelude.{◌≡◌, ℕ, suc, ◌-◌, nat_lt, List, [], ◌∷◌, ◌++◌, get_or, take, Option, Some, None, if◌then◌else◌}
use Rattle.kernel_model.specs.Sizes.{Sizes}
use Rattle.kernel_model.specs.Effects.{Write}
use Rattle.kernel_model.specs.Items.{FinishRecord}
use Rattle.kernel_model.specs.Replay.{DeviceState}
use Rattle.kernel_model.specs.OpenTasks.{open_tasks}
use Rattle.kernel_model.specs.Cores.{Core, Committing}
use Rattle.kernel_model.specs.Turns.{commit_writes}
use Rattle.slot_model.specs.Slots.{Image, with_word}

-- a word, and where it goes in its object's slot
pub record Target : Type 0 where
  pub object : ℕ
  pub place : ℕ
  pub word : ℕ

-- the word of a commit's next write, after so many: none where it is not an object's
abbrev pub target : Sizes → (made : ℕ) → List Write → Option Target
target sizes made [] = None
target sizes made (w ∷ ws) =
    if nat_lt made (sizes.size w.object)
    then Some (record { object = w.object; place = made; word = get_or w.words made 0 })
    else target sizes (made - sizes.size w.object) ws

-- the image after it
abbrev pub after_write : (plan : ℕ → ℕ) → Option Target → Image → Image
after_write plan None image = image
after_write plan (Some t) image = with_word t.object (plan t.object) t.place t.word image

-- the writes of a commit beside its objects' words, where it joins this history
abbrev pub late_writes : Sizes → DeviceState → List FinishRecord → FinishRecord → ℕ
late_writes sizes base history i =
    sizes.index_writes (open_tasks base history) (open_tasks base (i ∷ history)) i.run.writes

-- the image after a core's turn
abbrev pub image_turn : {M : Type 0} → Sizes → DeviceState → List FinishRecord → (plan : ℕ → ℕ) → Core M → Image
    → Image
image_turn sizes base history plan (Committing i (suc left)) image =
    after_write plan
    (target sizes (commit_writes sizes base history i - suc left) i.run.writes) image
image_turn sizes base history plan _ image = image

-- the first words of a commit stand in the slots of its plan
abbrev pub AreWritten : Sizes → (plan : ℕ → ℕ) → Image → (made : ℕ) → List Write → Type 0
AreWritten sizes plan image made [] = Unit {0}
AreWritten sizes plan image made (w ∷ ws) =
    (take made (image w.object (plan w.object)) ≡ take made w.words)
    × AreWritten sizes plan image (made - sizes.size w.object) ws

-- the words of one write, from place k on
abbrev pub targets_from : (object k : ℕ) → List ℕ → List Target
targets_from object k [] = []
targets_from object k (word ∷ words) =
    record { object = object; place = k; word = word } ∷ targets_from object (suc k) words

-- all words that a commit writes to slots, in the order of its writes
abbrev pub targets : List Write → List Target
targets [] = []
targets (w ∷ ws) = targets_from w.object 0 w.words ++ targets ws
