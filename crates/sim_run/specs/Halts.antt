-- How a command ends that reads no input, or finds no kernel, or whose run stops before its end. This project's own.
use Rattle.nv_base.specs.declared.whole.ReadRefusal.{ReadRefusal}
use Rattle.nv_base.specs.declared.whole.ReadRefusal.TheVariants as reading
use Rattle.answers.specs.declared.status.Status.{Status}
use Rattle.answers.specs.declared.status.Status.TheVariants as status
use Rattle.answers.specs.declared.status.ImageFault.TheVariants as fault
use Rattle.kernel_core.specs.declared.open.OpenRefusal.{OpenRefusal}
use Rattle.kernel_core.specs.declared.open.OpenRefusal.TheVariants as refusal
use Rattle.simulation.specs.declared.halt.Halt.{Halt}
use Rattle.simulation.specs.declared.halt.Halt.TheVariants.{WriteFault, DeviceLost}
use Rattle.sim_run.specs.Replies.{too_long}

abbrev pub status_at : Halt → Status
status_at WriteFault = status.WriteFault
status_at DeviceLost = status.DeviceLost

abbrev pub refused_as : OpenRefusal → Status
refused_as (refusal.Small need len) = status.Small need len
refused_as refusal.NoMemory = status.NoMemory
refused_as refusal.Lost = status.DeviceLost
refused_as refusal.Blank = status.Image fault.Blank
refused_as (refusal.Damaged place) = status.Image (fault.Damaged place)
refused_as refusal.Worn = status.Image fault.Worn

abbrev pub unread_as : ReadRefusal → Status
unread_as reading.ReadFault = status.ReadFault
unread_as reading.TooLong = status.Script too_long
unread_as reading.NoMemory = status.NoMemory
