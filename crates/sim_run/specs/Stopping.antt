-- What a run leaves that a fault of its sink or of its device stops: the lines that were put, and what the device holds then. This project's own.
use Rattle.std.specs.Prelude.{◌≡◌, ◌⊎◌, List, ℕ, Option, None, Some, Ok}
use Rattle.nv_base.specs.Streams.{Stream}
use Rattle.kernel_model.specs.Events.{Event}
use Rattle.schedule_model.specs.Failures.{events_of}
use Rattle.set_model.specs.Sets.{TaskSet}
use Rattle.headline.specs.Runs.{Origin}
use Rattle.kernel_core.specs.declared.open.How.{How}
use Rattle.kernel_core.specs.declared.open.How.TheVariants.{Fresh, Again}
use Rattle.simulation.specs.Runs.{Stops}
use Rattle.simulation.specs.Stores.{Store, words_in}
use Rattle.simulation.specs.declared.halt.Halt.{Halt}
use Rattle.simulation.specs.declared.halt.Halt.TheVariants as halt
use Rattle.script.specs.Parts.{Script}
use Rattle.script.specs.Reading.{read}
use Rattle.answers.specs.Names.{PutsName}
use Rattle.answers.specs.declared.status.Status.{Status}
use Rattle.answers.specs.declared.status.Status.TheVariants.{WriteFault, DeviceLost}
use Rattle.sim_run.specs.Answers.{Exchange, OfInput, input_of}
use Rattle.sim_run.specs.Origins.{begin_on, opened_on}
use Rattle.sim_run.specs.Promises.{HasOpenedPart, HasRunAll}
use Rattle.sim_run.specs.declared.command.Command.{Command}
use Rattle.sim_run.specs.declared.command.Command.TheVariants.{Run, Resume, Make}

-- within its format or migration or before it reads, and then nothing was put; or at an event, or behind the last one
abbrev pub HasStopped : How → TaskSet → List Event → (old new : Store) → (sink now : Stream) → Halt → Type 0
HasStopped how set events old new sink now h =
    ((h ≡ halt.DeviceLost) × HasOpenedPart how set old new × (now ≡ sink))
    ⊎ ((o : Origin) × (begin_on how set (words_in old) ≡ Some o) × Stops o events (opened_on how set old) new sink now h)

-- by the answer
abbrev pub StoppedAs : How → TaskSet → List Event → (old new : Store) → (sink now : Stream) → Status → Type 0
StoppedAs how set events old new sink now WriteFault = HasStopped how set events old new sink now halt.WriteFault
StoppedAs how set events old new sink now DeviceLost = HasStopped how set events old new sink now halt.DeviceLost
StoppedAs how set events old new sink now status = Unit {0}

-- of a script
abbrev pub HasStoppedOf : How → (old new : Store) → (sink now : Stream) → Status → (input : List ℕ) → Type 0
HasStoppedOf how old new sink now status input =
    (s : Script) → read input ≡ Ok s → StoppedAs how s.set (events_of s.schedule) old new sink now status

-- of `make`, which puts nothing before the last event: where its device lost a call, nothing; and where its sink failed, all events were done
abbrev pub StoppedUntold : TaskSet → List Event → (old new : Store) → (sink now : Stream) → Status → Type 0
StoppedUntold set events old new sink now WriteFault = HasRunAll Fresh set events old new
StoppedUntold set events old new sink now DeviceLost = now ≡ sink
StoppedUntold set events old new sink now status = Unit {0}

abbrev pub HasStoppedUntold : (old new : Store) → (sink now : Stream) → Status → (input : List ℕ) → Type 0
HasStoppedUntold old new sink now status input =
    (s : Script) → read input ≡ Ok s → StoppedUntold s.set (events_of s.schedule) old new sink now status

abbrev pub StopsTo : Command → (old new : Store) → (sink now : Stream) → Status → (input : List ℕ) → Type 0
StopsTo Run old new sink now status input = HasStoppedOf Fresh old new sink now status input
StopsTo Resume old new sink now status input = HasStoppedOf Again old new sink now status input
StopsTo (Make seed) old new sink now status input = HasStoppedUntold old new sink now status input
StopsTo _ old new sink now status input = Unit {0}

-- of a call, before the line that names its answer
abbrev pub KeepsStop : Option Command → Exchange → Status → Type 0
KeepsStop None x status = Unit {0}
KeepsStop (Some c) x status = OfInput (input_of c x) (StopsTo c x.device x.device_now x.sink x.sink_now status)

-- and with it
abbrev pub TellsStop : Option Command → Exchange → Status → Type 0
TellsStop None x status = Unit {0}
TellsStop (Some c) x status = OfInput (input_of c x)
    (λ input. (middle : Stream) × StopsTo c x.device x.device_now x.sink middle status input × PutsName status middle x.sink_now)
