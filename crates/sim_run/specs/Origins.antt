-- Where a call begins: `run` on a device that it formats, `resume` on what its device holds. This project's own.
use Rattle.std.specs.Prelude.{◌==◌, ◌++◌, Option, Some, None, if◌then◌else◌}
use Rattle.set_model.specs.Sets.{TaskSet}
use Rattle.device_model.specs.Words.{Words}
use Rattle.device_model.specs.Layouts.{Kind, Plain, Paged, Migrated}
use Rattle.device_model.specs.Decoding.{decode, durable_of, is_worn}
use Rattle.device_model.specs.Decoding as stored
use Rattle.device_model.specs.Devices.{Device, migrated, plain}
use Rattle.shadow_index.specs.Tells.{device_of}
use Rattle.headline.specs.Runs.{Origin, booting_origin, formatted_origin}
use Rattle.kernel_core.specs.Opening.{opening_writes}
use Rattle.kernel_core.specs.declared.open.How.{How}
use Rattle.kernel_core.specs.declared.open.How.TheVariants.{Fresh, Again}
use Rattle.simulation.specs.Stores.{Store, words_in}

-- the device that a format makes for a set, and a run there
abbrev pub device_for : TaskSet → Device
device_for set = device_of set 0

abbrev pub fresh_run : TaskSet → Origin
fresh_run set = formatted_origin (device_for set)

-- the device on which a run goes on, where one of a kind stands: for a set of format 2, one of format 1 is migrated first
abbrev pub device_from : TaskSet → Kind → Device
device_from set Plain = if set.format == 2 then migrated set else plain set
device_from set Paged = record { kind = Paged; set = set }
device_from set Migrated = migrated set

-- with the state that stands there, unless it is worn
abbrev pub found_origin : TaskSet → stored.Stored → Option Origin
found_origin set stored.Blank = None
found_origin set (stored.Damaged place) = None
found_origin set (stored.Holds kind h) =
    if is_worn (durable_of h) then None else Some (booting_origin (device_from set kind) h)

-- by the words at entry
abbrev pub begin_on : How → TaskSet → Words → Option Origin
begin_on Fresh set words = Some (fresh_run set)
begin_on Again set words = found_origin set (decode set words)

-- a device once it is formatted, or migrated where it has to be
abbrev pub opened_on : How → TaskSet → Store → Store
opened_on how set s = record s { log = s.log ++ opening_writes how set (words_in s) }
