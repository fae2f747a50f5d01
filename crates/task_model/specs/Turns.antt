-- The serial order of a listing as the program keeps it: the keys of each entry, and its place. This project's own.
use Rattle.std.specs.Prelude.{◌≡◌, ℕ, ◌<◌, List, length, get_or}
use Rattle.kernel_model.specs.Effects.{Exit}
use Rattle.kernel_model.specs.Items.{Entry}
use Rattle.kernel_model.specs.EntryReplay.{Place}
use Rattle.task_model.specs.declared.turns.Turn.{Turn}

-- the entry at a place
abbrev pub entry_at : List Entry → ℕ → Entry
entry_at entries place = get_or entries place (record { number = 0; task = 0; point = 0; first = 0; outcome = Exit 0 })

-- the place in the listing that a turn names
abbrev pub place_at : List Entry → Turn → Place
place_at entries t = record { place = t.place; entry = entry_at entries t.place }

-- a turn names a place of the listing, with the keys of its entry
pub record IsTurnOf (entries : List Entry) (t : Turn) : Type 0 where
  pub inside : t.place < length entries
  pub point : t.point.0 ≡ (entry_at entries t.place).point
  pub number : t.number.0 ≡ (entry_at entries t.place).number
