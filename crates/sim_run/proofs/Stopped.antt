-- A run that was stopped, from where its call begins.
use Rattle.std.proofs.Common.{◌≡◌, inl, inr, ℕ, List, Option, None, Some, Result, Ok, refl, sym, ◌∙◌, subst}
use Rattle.std.specs.Prelude.{◌≢◌}
use Rattle.nv_base.specs.Streams.{Stream}
use Rattle.kernel_model.specs.Events.{Event}
use Rattle.set_model.specs.Sets.{TaskSet}
use Rattle.device_model.specs.Words.{Change}
use Rattle.kernel_core.specs.declared.kernel.Kernel.{Kernel}
use Rattle.kernel_core.specs.declared.open.How.{How}
use Rattle.simulation.specs.Runs.{Stops}
use Rattle.simulation.specs.Stores.{Store}
use Rattle.simulation.specs.declared.halt.Halt.{Halt}
use Rattle.simulation.specs.declared.halt.Halt.TheVariants as halt
use Rattle.schedule_model.specs.Failures.{events_of}
use Rattle.script.specs.Parts as scripts
use Rattle.script.specs.Causes.{ScriptError}
use Rattle.answers.specs.Names.{PutsName}
use Rattle.answers.specs.declared.status.Status.{Status}
use Rattle.answers.specs.declared.status.Status.TheVariants.{Done, Usage, ReadFault, WriteFault, NoMemory, DeviceLost, Image, Small, Script, Packed, Differs, Report}
use Rattle.sim_run.specs.Answers.{Exchange, input_of}
use Rattle.sim_run.specs.Halts.{status_at}
use Rattle.sim_run.specs.Promises.{HasOpenedPart, IsBegun}
use Rattle.sim_run.specs.Stopping.{HasStopped, KeepsStop, StoppedAs, StopsTo, TellsStop}
use Rattle.sim_run.specs.declared.command.Command.{Command}
use Rattle.sim_run.proofs.Answering.{later, on_input}

-- no kernel was found
pub stopped_before : (how : How) (set : TaskSet) (events : List Event) (old new : Store) (sink : Stream) (status : Status) → status ≢ WriteFault → HasOpenedPart how set old new → StoppedAs how set events old new sink sink status
stopped_before how set events old new sink DeviceLost ne part = inl (refl, part, refl)
stopped_before how set events old new sink WriteFault ne part = absurd (ne refl)
stopped_before how set events old new sink Done ne part = tt
stopped_before how set events old new sink Usage ne part = tt
stopped_before how set events old new sink ReadFault ne part = tt
stopped_before how set events old new sink NoMemory ne part = tt
stopped_before how set events old new sink (Image fault) ne part = tt
stopped_before how set events old new sink (Small need len) ne part = tt
stopped_before how set events old new sink (Script e) ne part = tt
stopped_before how set events old new sink (Packed p) ne part = tt
stopped_before how set events old new sink (Report p) ne part = tt
stopped_before how set events old new sink (Differs p) ne part = tt

-- the run stopped
pub stopped_then : (how : How) (set : TaskSet) (events : List Event) (old mid new : Store) (k : Kernel) (sink now : Stream) (h : Halt) (status : Status) (b : IsBegun how set events old mid k) → Stops b.origin events mid new sink now h → status ≡ status_at h → StoppedAs how set events old new sink now status
stopped_then how set events old mid new k sink now h status b s e = subst (StoppedAs how set events old new sink now) (sym e) (at h s)
  where
    first : (h : Halt) → Stops b.origin events mid new sink now h → HasStopped how set events old new sink now h
    first h s =
        inr (
          b.origin,
          b.is,
          subst (λ (log : List Change). Stops b.origin events (record { start = old.start; log = log; losses = old.losses }) new sink now h) b.written
              (subst (λ (xs : List ℕ). Stops b.origin events (record { start = xs; log = mid.log; losses = old.losses }) new sink now h) b.start (same_losses h s)),
        )
      where
        same_losses : (h : Halt) → Stops b.origin events mid new sink now h → Stops b.origin events (record { start = mid.start; log = mid.log; losses = old.losses }) new sink now h
        same_losses halt.WriteFault s = record { lines = s.lines; middle = s.middle; put = s.put; stands = s.stands }
        same_losses halt.DeviceLost s = record { lines = s.lines; middle = s.middle; put = s.put; stands = s.stands }

    at : (h : Halt) → Stops b.origin events mid new sink now h → StoppedAs how set events old new sink now (status_at h)
    at halt.WriteFault s = first halt.WriteFault s
    at halt.DeviceLost s = first halt.DeviceLost s

-- a script is read as one alone
pub same_stop : (how : How) (a b : scripts.Script) (r : Result scripts.Script ScriptError) (old new : Store) (sink now : Stream) (status : Status) → r ≡ Ok a → r ≡ Ok b → StoppedAs how a.set (events_of a.schedule) old new sink now status → StoppedAs how b.set (events_of b.schedule) old new sink now status
same_stop how a b r old new sink now status e f h = let ok : Ok a ≡ Ok b = sym e ∙ f in let same : a ≡ b = cc ok in subst (λ (s : scripts.Script). StoppedAs how s.set (events_of s.schedule) old new sink now status) same h

-- the line that names the answer comes behind
pub stop_told : (command : Option Command) (x : Exchange) (new : Stream) (status : Status) → PutsName status x.sink_now new → KeepsStop command x status → TellsStop command (later x new) status
stop_told None x new status name h = tt
stop_told (Some c) x new status name h =
    on_input (input_of c x) (StopsTo c x.device x.device_now x.sink x.sink_now status) (λ input. (middle : Stream) × StopsTo c x.device x.device_now x.sink middle status input × PutsName status middle new) (λ input s. (x.sink_now, s, name)) h
