-- How far a writer has come with a commit, and what stands on the device then. This project's own.
use Rattle.std.specs.Prelude.{◌≡◌, ◌⊎◌, ℕ, ◌+◌, ◌≤◌, Bool, List, drop, get_or, length, slice_index}
use Rattle.set_model.specs.Sets.{TaskSet}
use Rattle.fram_dev.specs.Device.{made_in}
use Rattle.device_model.specs.Words.{Change, Words}
use Rattle.device_model.specs.Devices.{HoldsOn, IsUnderWayOn, need_on}
use Rattle.commit_writer.specs.declared.writer.Writer.{Writer}
use Rattle.commit_writer.specs.Courses.{Course, IsBegun, IsPosition, held_after, left, writes_of}

-- write number k of a commit
abbrev pub write_number : Course → ℕ → Change
write_number g k = get_or (writes_of g) k (0, 0)

-- a writer for a set has made so many writes of a commit, and has more to make
pub record IsWriting (set : TaskSet) (g : Course) (is_written : ℕ → Bool) (words : ℕ → List ℕ)
    (count : ℕ) (w : Writer) : Type 0 where
  pub set_is : g.device.set ≡ set
  pub begun : IsBegun g is_written words w.job
  pub left : drop count (writes_of g) ≡ left g words w.job w.position
  pub at : IsPosition g words w.job w.position

-- the words of a device after its log
abbrev pub words_in : (start : List ℕ) → (log : List Change) → Words
words_in start log = slice_index (made_in log start)

-- the device is long enough, and so many writes of a commit are made to its words
pub record IsUnderWayIn (g : Course) (count : ℕ) (start : List ℕ) (log : List Change) : Type 0 where
  pub long : need_on g.device ≤ length start
  pub under_way : IsUnderWayOn g.device g.held g.commit count (words_in start log)

-- words hold the state before a commit, or, where its last write was to be made, the state after
abbrev pub IsBeforeOrAfter : Course → (count : ℕ) → Words → Type 0
IsBeforeOrAfter g count words =
    HoldsOn g.device g.held words
    ⊎ ((count + 1 ≡ length (writes_of g)) × HoldsOn g.device (held_after g) words)
