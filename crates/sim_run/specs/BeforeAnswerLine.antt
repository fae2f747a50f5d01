-- What a call has done before the line that names its answer.
use Rattle.std.specs.Prelude.{◌≡◌, ◌⊎◌, List, ℕ, Option, None, Some}
use Rattle.nv_base.specs.Streams.{PutsFront, PutsText, FaultCounted, ReadsAll, Stream}
use Rattle.nv_base.specs.WholeInputs.{Stops}
use Rattle.nv_base.specs.declared.whole.ReadRefusal.TheVariants as reading
use Rattle.sim_run.specs.Replies.{Reply, Puts, Refuses, refused_by, text_by, too_long, most_input}
use Rattle.sim_run.specs.Answers.{AnsweredBy, Exchange, IsSpared}
use Rattle.simulation.specs.Runs.{PutsStart}
use Rattle.simulation.specs.Stores.{Store}
use Rattle.kernel_core.specs.declared.open.How.{How}
use Rattle.sim_run.specs.declared.command.Command.{Command}
use Rattle.answers.specs.declared.status.Status.{Status}
use Rattle.answers.specs.declared.status.Status.TheVariants.{Done, Usage, ReadFault, WriteFault, NoMemory, DeviceLost, Script, Small, Image}

-- the answer stands, and nothing was put to name it
abbrev pub BeforeAnswerLine : Option Command → Exchange → Status → Type 0
BeforeAnswerLine command x status = AnsweredBy (λ from named. x.sink_now ≡ from) command x status

-- these bytes are the input: all that the source gave, or what the command has of its own
abbrev pub IsGiven : (own : Option (List ℕ)) → List ℕ → (old new : Stream) → Type 0
IsGiven None bytes old new = ReadsAll bytes old new
IsGiven (Some text) bytes old new = (bytes ≡ text) × (new ≡ old)

-- why no input was read
abbrev pub Unread : Stream → Stream → Status → Type 0
Unread old new ReadFault = Stops most_input old new reading.ReadFault
Unread old new (Script e) = (e ≡ too_long) × Stops most_input old new reading.TooLong
Unread old new NoMemory = Stops most_input old new reading.NoMemory
Unread old new _ = ⊥

-- why there is none
abbrev pub IsNotGiven : (own : Option (List ℕ)) → (old new : Stream) → Status → Type 0
IsNotGiven None old new status = Unread old new status
IsNotGiven (Some text) old new status = (status ≡ NoMemory) × (new ≡ old)

-- what became of the device by way of a reply: nothing where memory ran out or the reply refuses, and a call was lost where the answer says so
abbrev pub LeavesStore : How → Store → Store → Status → Type 0
LeavesStore how old new Done = Unit {0}
LeavesStore how old new WriteFault = Unit {0}
LeavesStore how old new DeviceLost = FaultCounted old.losses new.losses
LeavesStore how old new (Small need len) = IsSpared how old new
LeavesStore how old new (Image fault) = IsSpared how old new
LeavesStore how old new status = new ≡ old

-- what was put by way of a reply
abbrev pub PutReply : Reply → Stream → Stream → Status → Type 0
PutReply r old new Done = (text : List ℕ) × (r ≡ Puts text) × PutsText text old new
PutReply r old new Usage = ⊥
PutReply r old new ReadFault = ⊥
PutReply r old new WriteFault = (text : List ℕ) × (r ≡ Puts text) × PutsFront text old new
PutReply r old new NoMemory = new ≡ old
PutReply r old new DeviceLost = ⊥
PutReply r old new status = (r ≡ Refuses status) × (new ≡ old)

-- the same of a command that uses a device, which may lose a call
abbrev pub PutOrLost : Reply → Stream → Stream → Status → Type 0
PutOrLost r old new DeviceLost = (text : List ℕ) × (text_by r ≡ Some text) × PutsStart text old new
PutOrLost r old new (Small need len) = (refused_by r ≡ Some (Small need len)) × (new ≡ old)
PutOrLost r old new (Image fault) = (refused_by r ≡ Some (Image fault)) × (new ≡ old)
PutOrLost r old new status = PutReply r old new status

-- what was put by way of a reply of which this holds; where memory ran out, nothing was put
abbrev pub PutsSome : (Put : Reply → Stream → Stream → Status → Type 0) → (Of : Reply → Type 0) → Stream → Stream → Status → Type 0
PutsSome Put Of old new status = ((status ≡ NoMemory) × (new ≡ old)) ⊎ ((r : Reply) × Of r × Put r old new status)
