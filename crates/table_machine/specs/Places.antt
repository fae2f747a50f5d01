-- What a verdict asks of the tables: what the other tries need, the slot for one more version, and the index after a finish. This project's own.
use Rattle.std.specs.Prelude.{ℕ, ◌+◌, List, [], ◌∷◌, length, Option, Some, None, unwrap_or, is_some, if◌then◌else◌}
use Rattle.object_sets.specs.ObjectSets.{with_object}
use Rattle.kernel_model.specs.Sizes.{Sizes}
use Rattle.kernel_model.specs.Effects.{Outcome, Write, Run, written, ended}
use Rattle.kernel_model.specs.Items.{FinishRecord}
use Rattle.kernel_model.specs.Verdicts.{Verdict}
use Rattle.slot_model.specs.Tabled.{Pin, View, Place, with_view, free_place, table_verdict}
use Rattle.slot_model.specs.Tabled as tabled
use Rattle.device_model.specs.IndexWords.{Index}
use Rattle.device_model.specs.Commits as commits
use Rattle.table_machine.specs.Tables.{Chain, Copy, Try, Seat, Vacant, Runs, Copies, Waits, Saves, chain_at}

-- where the newest copy is copied from
abbrev pub pin_by : (slot : ℕ) → List Copy → Option Pin
pin_by slot [] = None
pin_by slot (c ∷ copies) = Some (record { object = c.object; slot = slot })

-- what a seat's try needs, if it has one
abbrev pub view_by : {M : Type 0} → Seat M → Option View
view_by Vacant = None
view_by (Runs a) = Some (record { interval = a.interval; copying = None })
view_by (Copies a slot) = Some (record { interval = a.interval; copying = pin_by slot a.copies })
view_by (Waits a outcome) = Some (record { interval = a.interval; copying = None })
view_by (Saves i after left) = None

-- what some seats need
abbrev pub views_in : {M : Type 0} → List (Seat M) → List View
views_in [] = []
views_in (c ∷ seats) = with_view (view_by c) (views_in seats)

-- the set of objects that were copied
abbrev pub objects_of : List Copy → List ℕ
objects_of [] = []
objects_of (c ∷ copies) = with_object c.object (objects_of copies)

-- the whole run of a try with this outcome
abbrev pub run_by : {M : Type 0} → Try M → Outcome → Run
run_by a outcome = ended (record { reads = objects_of a.copies; writes = a.writes; spawns = a.spawns }) outcome

-- the versions of an object
abbrev pub places_at : List Chain → ℕ → List Place
places_at chains o = (chain_at chains o).places

-- what a verdict looks at
abbrev pub seen_in : Index → List Chain → tabled.Tables
seen_in x chains = record { places = places_at chains; bounds = λ o. (chain_at chains o).bound; clock = x.clock; number = x.number; next = x.next; pending = length x.tasks }

-- the verdict on a try with this whole run
abbrev pub verdict_in : {M : Type 0} → Sizes → Index → List Chain → (others : List (Seat M)) → Try M → Run → Verdict
verdict_in sizes x chains others a run = table_verdict sizes (seen_in x chains) (views_in others) a.task a.interval run

-- the least free slot of each object
abbrev pub plan_in : {M : Type 0} → Sizes → (others : List (Seat M)) → List Chain → ℕ → ℕ
plan_in sizes others chains o = unwrap_or (free_place (sizes.slots o) o (views_in others) (places_at chains o)) 0

-- slots of objects from number o on, with those that a plan gives to what is written
abbrev pub slots_after : (plan : ℕ → ℕ) → List Write → ℕ → List ℕ → List ℕ
slots_after plan ws o [] = []
slots_after plan ws o (slot ∷ slots) = (if is_some (written ws o) then plan o else slot) ∷ slots_after plan ws (o + 1) slots

-- the index after a finish, where the slots of a plan are taken
abbrev pub index_after : (plan : ℕ → ℕ) → Index → FinishRecord → Index
index_after plan x i = commits.index_after x i (slots_after plan i.run.writes 0 x.slots)
