-- A commit under way, as the kernel over tables has it. This project's own.
use Rattle.std.specs.Prelude.{◌≡◌, ℕ, ◌+◌, ◌<◌, Bool, List, length}
use Rattle.object_sets.specs.ObjectSets.{is_among}
use Rattle.rv_core.specs.State.{MachineState}
use Rattle.kernel_model.specs.Effects.{object_words}
use Rattle.kernel_model.specs.Items.{FinishRecord}
use Rattle.set_model.specs.Sets.{TaskSet}
use Rattle.device_model.specs.Words.{Words}
use Rattle.device_model.specs.IndexWords.{Index}
use Rattle.device_model.specs.Decoding.{Held}
use Rattle.device_model.specs.Devices.{Device, layout_on}
use Rattle.shadow_index.specs.States.{KeepsRest, index_of}
use Rattle.table_machine.specs.Tables.{Setting, Tables}
use Rattle.table_machine.specs.Seats.{commit_of, writes_in}
use Rattle.recovery.specs.Images.{device_at}
use Rattle.vol_copy.specs.Turns.{setting_of}
use Rattle.commit_writer.specs.Courses.{Course, IsBegun, writes_of}
use Rattle.commit_writer.specs.Turns.{IsWriting}
use Rattle.core_seats.specs.declared.seat.Seat.{Seat}
use Rattle.committed_state.specs.declared.committed.Committed.{Committed}
use Rattle.commit_writer.specs.declared.writer.Writer.{Writer}

-- the setting of a set on the device that some words are of
abbrev pub setting_on : TaskSet → Words → Setting MachineState
setting_on set words = setting_of set (layout_on (device_at set words))

-- what a core's attempt has written, as the writer of its commit asks
abbrev pub is_written_by : Seat → ℕ → Bool
is_written_by s o = is_among o s.attempt.written

abbrev pub words_by : Seat → ℕ → List ℕ
words_by s = object_words s.attempt.words

-- the commit of a finish, from a state that the device holds
abbrev pub course_by : Device → Held → FinishRecord → (after : Index) → Course
course_by d h i after = record { device = d; held = h; commit = commit_of i after }

-- the writer has made all writes of a core's commit but so many, and the next one stands ready
pub record IsCommitting (set : TaskSet) (words : Words) (c : Committed) (w : Writer) (s : Seat) (t : Tables MachineState) (i : FinishRecord) (after : Index) (left : ℕ) : Type 0 where
  pub held : Held
  pub index : held.index ≡ index_of c.state
  pub root : held.root ≡ c.state.root
  pub after_is : after ≡ index_of c.after
  pub rest : KeepsRest c.state c.after
  pub begun : IsBegun (course_by (device_at set words) held i after) (is_written_by s) (words_by s) w.job
  pub writes : writes_of (course_by (device_at set words) held i after) ≡ writes_in (setting_on set words) t i after
  pub writing : 0 < left → (count : ℕ) × (count + left ≡ length (writes_in (setting_on set words) t i after)) × IsWriting set (course_by (device_at set words) held i after) (is_written_by s) (words_by s) count w
