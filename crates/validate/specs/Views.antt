-- What is kept of an attempt on another core, as the table machine has it. This project's own.
use Rattle.std.specs.Prelude.{List, [], ◌∷◌, Option, Some, None}
use Rattle.std.specs.Option.{option_map}
use Rattle.interval.specs.Ranges.{range_of}
use Rattle.interval.specs.declared.version.Pin.{Pin}
use Rattle.slot_model.specs.Tabled.{View}
use Rattle.ver_table.specs.Tabled.{pin_in}
use Rattle.validate.specs.declared.beside.View as own

-- its interval, and the slot that it copies from
abbrev pub view_of : own.View → View
view_of v = record { interval = range_of v.interval; copying = option_map pin_in v.copying }

abbrev pub with_copied : Option Pin → List Pin → List Pin
with_copied None pins = pins
with_copied (Some p) pins = p ∷ pins

-- the pins of those that copy, in their order
abbrev pub copied_by : List own.View → List Pin
copied_by [] = []
copied_by (v ∷ views) = with_copied v.copying (copied_by views)
