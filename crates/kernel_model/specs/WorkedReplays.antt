-- Worked replays of entries, computed. This project's own.
use Rattle.std.specs.Prelude.{◌≡◌, ℕ, List, [], ◌∷◌, map}
use Rattle.kernel_model.specs.Effects.{Exit, Objects}
use Rattle.kernel_model.specs.Runs.{whole_run}
use Rattle.kernel_model.specs.Items.{Entry}
use Rattle.kernel_model.specs.Replay.{DeviceState, tables_of}
use Rattle.kernel_model.specs.EntryReplay.{Replayed, Good, Wrong, after_reruns, replay}
use Rattle.kernel_model.specs.WorkedTasks.{entry, Scene, machine_of}
use Rattle.kernel_model.specs.WorkedRuns.{copy_and_put}

-- the replay of some entries on the tasks of a scene
abbrev pub replay_in : Scene → List Entry → Replayed
replay_in x entries = replay (whole_run (machine_of x)) x.base entries

-- the places in the order of a good replay
abbrev pub places_in : Replayed → List ℕ
places_in (Good reruns) = map (λ r. r.place) reruns
places_in (Wrong place) = []

-- the objects that a good replay leaves
abbrev pub objects_in : DeviceState → Replayed → Objects
objects_in base (Good reruns) = (after_reruns reruns (tables_of base)).objects
objects_in base (Wrong place) = []

-- task 1 copies x to y and finishes last, but stands before task 2, which puts 9 into x
abbrev pub CopyFirst : Type 0
CopyFirst =
    let r : Replayed = replay_in copy_and_put (entry 1 2 1 (Exit 0) 3 ∷ entry 2 1 0 (Exit 1) 3 ∷ []) in
    (places_in r ≡ 1 ∷ 0 ∷ []) × (objects_in copy_and_put.base r ≡ (9 ∷ []) ∷ (6 ∷ []) ∷ [])

-- with their points exchanged the copy sees the 9
abbrev pub PointsExchanged : Type 0
PointsExchanged =
    let r : Replayed = replay_in copy_and_put (entry 1 2 0 (Exit 0) 3 ∷ entry 2 1 1 (Exit 1) 3 ∷ []) in
    (places_in r ≡ 0 ∷ 1 ∷ []) × (objects_in copy_and_put.base r ≡ (9 ∷ []) ∷ (10 ∷ []) ∷ [])

-- another outcome than that of the whole run, of the entry that comes last
abbrev pub OtherOutcome : Type 0
OtherOutcome = replay_in copy_and_put (entry 1 2 1 (Exit 7) 3 ∷ entry 2 1 0 (Exit 1) 3 ∷ []) ≡ Wrong 0

-- a task that has finished is not open: of two entries with one point and one number the second in the listing fails
abbrev pub FinishedTwice : Type 0
FinishedTwice = replay_in copy_and_put (entry 1 2 0 (Exit 0) 3 ∷ entry 1 2 0 (Exit 0) 3 ∷ []) ≡ Wrong 1
