-- How the program ends, and on which device it runs. This project's own.
use Rattle.std.specs.Prelude.{ℕ, Option, replicate}
use Rattle.blank_fram.specs.Device.{IsNew}
use Rattle.blank_fram.specs.declared.device.BlankFram.{BlankFram}
use Rattle.sim_run.specs.Answers.{Answered, Exchange, HasReadFew, IsComplete, LeavesDevice, NeverFalls, TellsReadFault}
use Rattle.sim_run.specs.Promises.{KeepsHeadline, KeepsImages}
use Rattle.sim_run.specs.Stopping.{TellsStop}
use Rattle.answers.specs.declared.status.Status.{Status}
use Rattle.sim_run.specs.declared.command.Command.{Command}

-- the answer is one that the call may have
pub record EndsAs (command : Option Command) (x : Exchange) (status : Status) : Type 0 where
  pub answer : Answered command x status
  pub headline : KeepsHeadline command x status
  pub images : KeepsImages command x status
  pub stops : TellsStop command x status
  pub device : LeavesDevice command x
  pub complete : IsComplete command x status
  pub few : HasReadFew x.source x.source_now status
  pub told : TellsReadFault x.source x.source_now status
  pub never_falls : NeverFalls x

-- a new device has so many words, and each is 0
unfoldable pub IsZeros : ℕ → BlankFram → Type 0
IsZeros words m = IsNew (replicate words 0) m
