-- The serial replay of a listing from its entries alone: one-copy serializability of Bernstein, Hadzilacos and Goodman, with the serial order and the numbers of this project.
use Rattle.std.specs.Prelude.{◌≡◌, ℕ, ◌+◌, ◌==◌, max, nat_lt, Bool, false, ◌&&◌, ◌||◌, List, [], ◌∷◌, length, map, sum_by, Option, Some, None, if◌then◌else◌}
use Rattle.std.specs.List.{enumerate_from}
use Rattle.kernel_model.specs.Effects.{Outcome, Exit, Trap, Spawn, Objects, Run, Programs}
use Rattle.kernel_model.specs.Items.{FinishRecord, Entry}
use Rattle.kernel_model.specs.Replay.{DeviceState, Tables, task_under, tables_of, after, after_all}
use Rattle.kernel_model.specs.Serial.{InIdOrder}

-- an entry, and its place in the listing
pub record Place : Type 0 where
  pub place : ℕ
  pub entry : Entry

-- the entries of a listing with their places, from this one on
abbrev pub places_from : ℕ → List Entry → List Place
places_from place entries = map (λ p. record { place = p.0; entry = p.1 }) (enumerate_from place entries)

-- by point, then by number, then by place
abbrev pub comes_before : Place → Place → Bool
comes_before a b =
    nat_lt a.entry.point b.entry.point
    || (a.entry.point == b.entry.point && (nat_lt a.entry.number b.entry.number || (a.entry.number == b.entry.number && nat_lt a.place b.place)))

-- put before the first that it comes before
abbrev pub put_in_order : Place → List Place → List Place
put_in_order p [] = p ∷ []
put_in_order p (x ∷ xs) = if comes_before p x then p ∷ x ∷ xs else x ∷ put_in_order p xs

-- sorted
abbrev pub in_order : List Place → List Place
in_order [] = []
in_order (p ∷ ps) = put_in_order p (in_order ps)

-- the entries of a listing in serial order
abbrev pub entry_order : List Entry → List Place
entry_order entries = in_order (places_from 0 entries)

-- whether two runs end alike
abbrev pub is_same_outcome : Outcome → Outcome → Bool
is_same_outcome (Exit a) (Exit b) = a == b
is_same_outcome (Trap a) (Trap b) = a == b
is_same_outcome _ _ = false

-- the finish of an entry whose whole run is this
abbrev pub item_with : Entry → Run → FinishRecord
item_with e run = record { number = e.number; task = e.task; point = e.point; first = e.first; run = run }

-- if the run ends as the entry says
abbrev pub item_if_same : Entry → Run → Option FinishRecord
item_if_same e run = if is_same_outcome run.outcome e.outcome then Some (item_with e run) else None

-- if its task is open
abbrev pub item_if_open : Programs → Objects → Entry → Option Spawn → Option FinishRecord
item_if_open whole objects e None = None
item_if_open whole objects e (Some task) = item_if_same e (whole task.program task.arg objects)

-- the finish of an entry on these tables: its task is open, and its whole run ends as it says
abbrev pub item_on : Programs → Tables → Entry → Option FinishRecord
item_on whole t e = item_if_open whole t.objects e (t.tasks e.task)

-- a finish that was run again, and its place in the listing
pub record Rerun : Type 0 where
  pub place : ℕ
  pub item : FinishRecord

-- what a replay comes to
pub data Replayed : Type 0 where
  Good : (reruns : List Rerun) → Replayed  -- all finishes, in serial order
  Wrong : (place : ℕ) → Replayed  -- of the first entry in serial order that has no finish

-- with a finish before
abbrev pub rerun_before : Rerun → Replayed → Replayed
rerun_before r (Good reruns) = Good (r ∷ reruns)
rerun_before r (Wrong place) = Wrong place

-- entries run whole one after another, the first of them on these tables
abbrev pub replayed_on : Programs → Tables → List Place → Replayed
replayed_on whole t [] = Good []
replayed_on whole t (p ∷ ps) = elim (item_on whole t p.entry) [
  | None ↦ Wrong p.place
  | Some i ↦ rerun_before (record { place = p.place; item = i }) (replayed_on whole (after i t) ps)
]

-- the serial replay of a listing
abbrev pub replay : Programs → DeviceState → List Entry → Replayed
replay whole base entries = replayed_on whole (tables_of base) (entry_order entries)

-- the tables after some finishes
abbrev pub after_reruns : List Rerun → Tables → Tables
after_reruns reruns t = after_all (map (λ r. r.item) reruns) t

-- how many tasks the entry at a place spawns
abbrev pub spawns_at : ℕ → List Rerun → ℕ
spawns_at place [] = 0
spawns_at place (r ∷ reruns) = if r.place == place then length r.item.run.spawns else spawns_at place reruns

-- the numbers follow this one
abbrev pub NumbersFollow : ℕ → List Entry → Type 0
NumbersFollow number [] = Unit {0}
NumbersFollow number (e ∷ entries) = (e.number ≡ number + 1) × NumbersFollow (number + 1) entries

-- the children of the entries from this place on have the ids from next on, one after another
abbrev pub ChildrenFollow : List Rerun → (place next : ℕ) → List Entry → Type 0
ChildrenFollow reruns place next [] = Unit {0}
ChildrenFollow reruns place next (e ∷ entries) = (e.first ≡ next) × ChildrenFollow reruns (place + 1) (next + spawns_at place reruns) entries

-- the greatest point so far
abbrev pub latest : ℕ → List Entry → ℕ
latest clock [] = clock
latest clock (e ∷ entries) = max e.point (latest clock entries)

-- f is the state that these entries leave, where the replay found these finishes
pub record Leaves (base : DeviceState) (entries : List Entry) (reruns : List Rerun) (f : DeviceState) : Type 0 where
  pub objects : f.objects ≡ (after_reruns reruns (tables_of base)).objects
  pub tasks : (id : ℕ) → task_under f.tasks id ≡ (after_reruns reruns (tables_of base)).tasks id
  pub by_id : InIdOrder f.tasks
  pub clock : f.clock ≡ latest base.clock entries
  pub number : f.number ≡ base.number + length entries
  pub next : f.next ≡ base.next + sum_by (λ r. length r.item.run.spawns) reruns

-- the entries replay and leave f, and their numbers and the ids of their children follow one another
pub record AreSerial (whole : Programs) (base : DeviceState) (entries : List Entry) (f : DeviceState) : Type 0 where
  pub reruns : List Rerun
  pub good : replay whole base entries ≡ Good reruns
  pub numbers : NumbersFollow base.number entries
  pub children : ChildrenFollow reruns 0 base.next entries
  pub leaves : Leaves base entries reruns f
