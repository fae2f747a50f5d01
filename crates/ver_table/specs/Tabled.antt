-- What the table is for the kernel over tables and device words: its chains, and what it keeps of other attempts. This project's own.
use Rattle.std.specs.Prelude.{◌≡◌, ◌<◌, ℕ, List, [], ◌∷◌, Option, Some, None, length, map, slice_index}
use Rattle.interval.specs.declared.version.Pin as own_pin
use Rattle.kernel_model.specs.Items.{FinishRecord}
use Rattle.kernel_model.specs.Effects.{written}
use Rattle.kernel_model.specs.Intervals.{Interval}
use Rattle.slot_model.specs.Tabled.{Pin, View}
use Rattle.table_machine.specs.Tables.{Chain}
use Rattle.table_machine.specs.Events.{touched}
use Rattle.ver_table.specs.Chains as own

-- an object as the table machine has it: how many slots it has is told by the set
abbrev pub tabled : own.Chain → Chain
tabled c = record { bound = c.bound; places = c.stored }

-- all objects
abbrev pub all_tabled : List own.Chain → List Chain
all_tabled chains = map tabled chains

-- a slot that another attempt copies from
abbrev pub pin_in : own_pin.Pin → Pin
pin_in p = record { object = p.object.0; slot = p.slot }

abbrev pub with_pin : Option Pin → List Pin → List Pin
with_pin None pins = pins
with_pin (Some p) pins = p ∷ pins

-- the slots that some attempts copy from
abbrev pub pins_of : List View → List Pin
pins_of [] = []
pins_of (v ∷ views) = with_pin v.copying (pins_of views)

-- these are the intervals of some attempts, and the pins of those that copy, in their order
pub record AreViews (views : List View) (intervals : List Interval) (pins : List own_pin.Pin) : Type 0 where
  pub intervals_are : map (λ v. v.interval) views ≡ intervals
  pub pins_are : pins_of views ≡ map pin_in pins

-- each object is what a finish makes of it, where these slots take what it writes
pub record AreTouched (i : FinishRecord) (slots : List ℕ) (old new : List own.Chain) : Type 0 where
  pub number : length new ≡ length old
  pub each : (o : ℕ) → o < length old → tabled (own.chain_at new o) ≡ touched i o (slice_index slots o) (written i.run.writes o) (tabled (own.chain_at old o))
