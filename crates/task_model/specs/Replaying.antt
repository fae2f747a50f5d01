-- How far a replay has come, as the program keeps it. This project's own.
use Rattle.std.specs.Prelude.{◌≡◌, ◌+◌, ◌*◌, ◌≤◌, Bool, true, false, List, [], ◌∷◌, ◌++◌, length, sum_by}
use Rattle.kernel_model.specs.Replay.{tables_of}
use Rattle.kernel_model.specs.EntryReplay.{Place, Rerun, Good, Wrong, after_reruns, replayed_on}
use Rattle.set_model.specs.Sets.{TaskSet}
use Rattle.set_model.specs.Formatted.{formatted}
use Rattle.task_model.specs.Finals.{AreSpawnsOf, runs_of}
use Rattle.task_model.specs.Tables.{AreFit, tables_seen}
use Rattle.task_model.specs.declared.replaying.Replaying.{Replaying}

-- after the turns of some entries from the formatted state these finishes were run again, and left these tables
pub record HasReplayed (set : TaskSet) (done : List Place) (reruns : List Rerun) (r : Replaying) : Type 0 where
  pub good : replayed_on (runs_of set) (tables_of (formatted set)) done ≡ Good reruns
  pub tables : tables_seen r.tables ≡ after_reruns reruns (tables_of (formatted set))
  pub spawned : AreSpawnsOf r.spawned reruns
  pub next : r.next ≡ (formatted set).next + sum_by (λ x. length x.item.run.spawns) reruns
  pub few : r.next ≤ (formatted set).next + 8 * length done
  pub fit : AreFit set (tables_seen r.tables)
  pub memory : length r.machine.memory ≡ set.memory

-- what the turn of the next entry comes to: one finish more was run again, or the replay ends there
abbrev pub GoesOn : TaskSet → (done rest : List Place) → Place → Replaying → Bool → Type 0
GoesOn set done rest p r true = (reruns : List Rerun) × HasReplayed set (done ++ p ∷ []) reruns r
GoesOn set done rest p r false = replayed_on (runs_of set) (tables_of (formatted set)) (done ++ p ∷ rest) ≡ Wrong p.place
