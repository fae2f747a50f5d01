-- The answers of a call, each with its cause, and with what was put and written. This project's own.
use Rattle.std.specs.Prelude.{◌≡◌, ℕ, ◌+◌, ◌≤◌, ◌⊎◌, List, [], Option, Some, None}
use Rattle.nv_base.specs.Streams.{AreGone, AtMostGone, PutsFront, PutsText, FaultCounted, Stream}
use Rattle.sim_run.specs.Replies.{Puts, Refuses, Replies, Reply, refused_by, status_of, text_by, most_input, too_long}
use Rattle.simulation.specs.Runs.{PutsStart}
use Rattle.simulation.specs.Stores.{Store}
use Rattle.answers.specs.Names.{PutsName}
use Rattle.sim_run.specs.MadeScript.{made_text}
use Rattle.sim_run.specs.declared.command.Command.{Command}
use Rattle.answers.specs.declared.status.Status.{Status}
use Rattle.answers.specs.declared.status.Status.TheVariants.{Done, Usage, Script, ReadFault, WriteFault, NoMemory, DeviceLost, Image, Small}
use Rattle.kernel_core.specs.declared.open.How.{How}
use Rattle.kernel_core.specs.declared.open.How.TheVariants.{Fresh, Again}
use Rattle.sim_run.specs.declared.command.Command.TheVariants.{Run, Resume, Make}

-- a source, a sink and a device, at the call and at the return
pub record Exchange : Type 0 where
  pub source : Stream
  pub source_now : Stream
  pub sink : Stream
  pub sink_now : Stream
  pub device : Store
  pub device_now : Store

-- the exchange of a call, by what its source, its sink and its device tell before it and behind it
abbrev pub exchange : {S K F : Type 0} → (S → Stream) → (K → Stream) → (F → Store) → S → S → K → K → F → F → Exchange
exchange source_seen sink_seen device_seen source source_now sink sink_now device device_now = record {
  source = source_seen source;
  source_now = source_seen source_now;
  sink = sink_seen sink;
  sink_now = sink_seen sink_now;
  device = device_seen device;
  device_now = device_seen device_now;
}

abbrev pub ReadFailed : Exchange → Type 0
ReadFailed x = FaultCounted x.source.faults x.source_now.faults

abbrev pub WriteFailed : Exchange → Type 0
WriteFailed x = FaultCounted x.sink.faults x.sink_now.faults

abbrev pub DeviceFailed : Exchange → Type 0
DeviceFailed x = FaultCounted x.device.losses x.device_now.losses

-- nothing was written, and no call was lost
abbrev pub IsUntouched : Exchange → Type 0
IsUntouched x = x.device_now ≡ x.device

-- nothing was written
pub record IsUnwritten (old new : Store) : Type 0 where
  pub start : new.start ≡ old.start
  pub log : new.log ≡ old.log
  pub losses : old.losses ≤ new.losses

-- of a device that is too small, or holds no state: nothing was written, and where it was to be formatted no call was lost
abbrev pub IsSpared : How → (old new : Store) → Type 0
IsSpared Fresh old new = new ≡ old
IsSpared Again old new = IsUnwritten old new

-- on what a command begins: `resume` alone on what its device holds
abbrev pub how_of : Command → How
how_of Resume = Again
how_of _ = Fresh

-- no count of faults falls
pub record NeverFalls (x : Exchange) : Type 0 where
  pub source : x.source.faults ≤ x.source_now.faults
  pub sink : x.sink.faults ≤ x.sink_now.faults
  pub device : x.device.losses ≤ x.device_now.losses

-- what holds of the input, where the source tells it
abbrev pub OfInput : Option (List ℕ) → (List ℕ → Type 0) → Type 0
OfInput None P = Unit {0}
OfInput (Some input) P = P input

-- the script of its own that a command has for its input: `make` alone has one
abbrev pub own_input : Command → Option (List ℕ)
own_input (Make seed) = Some (made_text seed)
own_input _ = None

-- its input: that, or else what its source gives
abbrev pub or_given : (own given : Option (List ℕ)) → Option (List ℕ)
or_given None given = given
or_given (Some text) given = Some text

abbrev pub input_of : Command → Exchange → Option (List ℕ)
input_of c x = or_given (own_input c) x.source.bytes

-- nothing is left of the source; or it was not read, where it gives no input
abbrev pub IsReadUnless : (own : Option (List ℕ)) → (old new : Stream) → Type 0
IsReadUnless None old new = OfInput old.bytes (λ input. new.bytes ≡ Some [])
IsReadUnless (Some text) old new = new ≡ old

abbrev pub HasReadAll : Command → Exchange → Type 0
HasReadAll c x = IsReadUnless (own_input c) x.source x.source_now

-- the same, or one byte more than the most was read
abbrev pub HasReadEnough : Command → Exchange → Type 0
HasReadEnough c x = HasReadAll c x ⊎ ((own_input c ≡ None) × AreGone x.source.bytes x.source_now.bytes (most_input + 1))

-- what a command replies to an input
abbrev pub RepliesIn : Exchange → Command → List ℕ → Reply → Type 0
RepliesIn x c input r = Replies c x.device input r

-- the command's text, put whole
pub record IsDone (c : Command) (x : Exchange) (input : List ℕ) : Type 0 where
  pub text : List ℕ
  pub replies : RepliesIn x c input (Puts text)
  pub put : PutsText text x.sink x.sink_now

-- a front of it
pub record IsCutOff (c : Command) (x : Exchange) (input : List ℕ) : Type 0 where
  pub text : List ℕ
  pub replies : RepliesIn x c input (Puts text)
  pub put : PutsFront text x.sink x.sink_now

-- a front of it whole, and then what names that the device lost a call
pub record IsStopped (Names : Stream → Status → Type 0) (c : Command) (x : Exchange) (input : List ℕ) : Type 0 where
  pub text : List ℕ
  pub reply : Reply
  pub replies : RepliesIn x c input reply
  pub with_text : text_by reply ≡ Some text
  pub middle : Stream
  pub put : PutsStart text x.sink middle
  pub named : Names middle DeviceLost

-- its reply is this answer, in place of a text
abbrev pub IsRefused : Command → Exchange → Status → List ℕ → Type 0
IsRefused c x status input = (r : Reply) × RepliesIn x c input r × (refused_by r ≡ Some status)

-- each answer to a command: when it may come, and what it leaves. Names: what was put from some moment on to name it
abbrev pub AnsweredTo : (Stream → Status → Type 0) → Command → Exchange → Status → Type 0
AnsweredTo Names c x Done = HasReadAll c x × OfInput (input_of c x) (IsDone c x)
AnsweredTo Names c x Usage = ⊥
AnsweredTo Names c x ReadFault = (own_input c ≡ None) × ReadFailed x × IsUntouched x × Names x.sink ReadFault
AnsweredTo Names c x WriteFault = WriteFailed x × HasReadAll c x × OfInput (input_of c x) (IsCutOff c x)
AnsweredTo Names c x NoMemory = IsUntouched x × Names x.sink NoMemory
AnsweredTo Names c x DeviceLost = DeviceFailed x × HasReadAll c x × OfInput (input_of c x) (IsStopped Names c x)
AnsweredTo Names c x (Small need len) =
    HasReadEnough c x × IsSpared (how_of c) x.device x.device_now × OfInput (input_of c x) (IsRefused c x (Small need len))
    × Names x.sink (Small need len)
AnsweredTo Names c x (Image fault) =
    HasReadEnough c x × IsSpared (how_of c) x.device x.device_now × OfInput (input_of c x) (IsRefused c x (Image fault))
    × Names x.sink (Image fault)
AnsweredTo Names c x status = HasReadEnough c x × IsUntouched x × OfInput (input_of c x) (λ input. RepliesIn x c input (Refuses status)) × Names x.sink status

-- words that are no command are answered by Usage, and nothing is read
abbrev pub AnsweredBy : (Stream → Status → Type 0) → Option Command → Exchange → Status → Type 0
AnsweredBy Names None x status = (status ≡ Usage) × (x.source_now ≡ x.source) × IsUntouched x × Names x.sink Usage
AnsweredBy Names (Some c) x status = AnsweredTo Names c x status

-- each answer of a call: those with a line of their own put this line alone, but for a device that lost a call
abbrev pub Answered : Option Command → Exchange → Status → Type 0
Answered command x status = AnsweredBy (λ from named. PutsName named from x.sink_now) command x status

-- only `run`, `resume` and `make` may touch the device
abbrev pub MayUse : Command → (old new : Store) → Type 0
MayUse Run old new = new.start ≡ old.start
MayUse Resume old new = new.start ≡ old.start
MayUse (Make seed) old new = new.start ≡ old.start
MayUse _ old new = new ≡ old

abbrev pub LeavesDevice : Option Command → Exchange → Type 0
LeavesDevice None x = IsUntouched x
LeavesDevice (Some c) x = MayUse c x.device x.device_now

-- neither the source nor the sink nor the device failed
abbrev pub NoFault : Exchange → Type 0
NoFault x = (ReadFailed x → ⊥) × (WriteFailed x → ⊥) × (DeviceFailed x → ⊥)

-- the answer is that of the command's reply
abbrev pub IsReplied : Command → Exchange → Status → List ℕ → Type 0
IsReplied c x status input = (r : Reply) × RepliesIn x c input r × (status ≡ status_of r)

-- a command, and no fault: the answer is what the command replies to the input, unless memory ran out
abbrev pub IsComplete : Option Command → Exchange → Status → Type 0
IsComplete None x status = status ≡ Usage
IsComplete (Some c) x status = NoFault x → OfInput (input_of c x) (λ input. IsReplied c x status input ⊎ (status ≡ NoMemory))

-- at most as many bytes as an input may have were read; or one more, and then the answer says so
abbrev pub HasReadFew : Stream → Stream → Status → Type 0
HasReadFew old new status = AtMostGone old.bytes new.bytes most_input ⊎ ((status ≡ Script too_long) × AreGone old.bytes new.bytes (most_input + 1))

-- the source's count of faults stood still, or the answer says that it failed
abbrev pub TellsReadFault : Stream → Stream → Status → Type 0
TellsReadFault old new status = (new.faults ≡ old.faults) ⊎ (status ≡ ReadFault)
