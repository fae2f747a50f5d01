-- What the headline promises of the answers to `run`, `resume` and `make`, and what those of `serial` and `audit` mean. This project's own.
use Rattle.std.specs.Prelude.{◌≡◌, ◌⊎◌, ◌≤◌, ℕ, List, ◌++◌, drop, length, Option, None, Some, Ok}
use Rattle.nv_base.specs.Streams.{PutsText}
use Rattle.schedule_model.specs.Failures.{events_of}
use Rattle.headline.specs.Chains.{GoesOn}
use Rattle.headline.specs.Headline.{Headline}
use Rattle.headline.specs.Report.{report_text}
use Rattle.headline.specs.Runs.{Origin, all_lines}
use Rattle.script.specs.Parts.{Script}
use Rattle.script.specs.Reading.{read}
use Rattle.script.specs.Fronts.{read_front}
use Rattle.answers.specs.declared.status.Status.{Status}
use Rattle.answers.specs.declared.status.Status.TheVariants.{Done, Differs}
use Rattle.sim_run.specs.declared.command.Command.{Command}
use Rattle.sim_run.specs.declared.command.Command.TheVariants.{Run, Resume, Serial, Audit, Make}
use Rattle.sim_run.specs.OpeningImages.{HasOpening}
use Rattle.sim_run.specs.Origins.{begin_on, opened_on}
use Rattle.sim_run.specs.Replies.{Puts, device_reply}
use Rattle.kernel_model.specs.Events.{Event}
use Rattle.kernel_model.specs.Serial as serial_order
use Rattle.task_model.specs.Finals.{runs_of}
use Rattle.task_model.specs.FirstFinishes.{first_finishes}
use Rattle.report_text.specs.Reports.{IsReportOf, Report}
use Rattle.audit.specs.Differences.{IsSerialReport}
use Rattle.set_model.specs.Sets.{TaskSet}
use Rattle.set_model.specs.Formatted.{formatted}
use Rattle.device_model.specs.Words.{Words}
use Rattle.device_format.specs.Puts.{HasFront}
use Rattle.kernel_core.specs.Opening.{IsLeft, need_for, opening_writes}
use Rattle.kernel_core.specs.declared.kernel.Kernel.{Kernel}
use Rattle.kernel_core.specs.declared.open.How.{How}
use Rattle.kernel_core.specs.declared.open.How.TheVariants.{Fresh, Again}
use Rattle.simulation.specs.Runs.{Begins, HasDone, HasDoneAll}
use Rattle.simulation.specs.Stores.{Store, words_in}
use Rattle.simulation.specs.Counts.{tally_of}
use Rattle.sim_run.specs.Answers.{Exchange, OfInput, input_of}
use Rattle.sim_run.specs.MadeScript.{made_text}
use Rattle.sim_run.specs.Summary.{summary_text}

-- a run begins on the words at entry, of whose report the headline holds
pub record HasPromise (how : How) (set : TaskSet) (events : List Event) (words : Words) : Type 0 where
  pub origin : Origin
  pub begins : begin_on how set words ≡ Some origin
  pub promise : Headline origin events (report_text origin events)
  pub goes_on : GoesOn origin events

-- the input is the script of such a run
pub record IsPromised (how : How) (words : Words) (input : List ℕ) : Type 0 where
  pub script : Script
  pub reads : read input ≡ Ok script
  pub run : HasPromise how script.set (events_of script.schedule) words

-- and that report was put, whole
pub record IsHeadlined (how : How) (x : Exchange) (input : List ℕ) : Type 0 where
  pub script : Script
  pub reads : read input ≡ Ok script
  pub origin : Origin
  pub begins : begin_on how script.set (words_in x.device) ≡ Some origin
  pub text : List ℕ
  pub promise : Headline origin (events_of script.schedule) text
  pub goes_on : GoesOn origin (events_of script.schedule)
  pub put : PutsText text x.sink x.sink_now

-- and the lines of that report were counted, and its summary put, whole
pub record IsSummedUp (seed : ℕ) (x : Exchange) (input : List ℕ) : Type 0 where
  pub script : Script
  pub reads : read input ≡ Ok script
  pub origin : Origin
  pub begins : begin_on Fresh script.set (words_in x.device) ≡ Some origin
  pub promise : let events = events_of script.schedule in Headline origin events (report_text origin events)
  pub goes_on : GoesOn origin (events_of script.schedule)
  pub put : PutsText (summary_text seed (tally_of (all_lines origin (events_of script.schedule)))) x.sink x.sink_now

-- what was written of a format or a migration, and what stands there then
pub record HasOpenedPart (how : How) (set : TaskSet) (old new : Store) : Type 0 where
  pub front : HasFront (opening_writes how set (words_in old)) old.log new.log
  pub left : IsLeft how set (words_in old) (words_in new)

-- what a run has written so far: a front of its format or migration; or all of it, and then what some of the events write
abbrev pub HasRun : How → TaskSet → List Event → (old new : Store) → Type 0
HasRun how set events old new =
    HasOpenedPart how set old new
    ⊎ ((o : Origin) × (begin_on how set (words_in old) ≡ Some o) × HasDone o events (opened_on how set old) new)

-- all of it, and then just as many writes as all events make
abbrev pub HasRunAll : How → TaskSet → List Event → (old new : Store) → Type 0
HasRunAll how set events old new =
    (o : Origin) × (begin_on how set (words_in old) ≡ Some o) × HasDoneAll o events (opened_on how set old) new

-- what a run that ends so has written, and what each image of its format or migration holds; at Done all of it
pub record IsImaged (how : How) (set : TaskSet) (events : List Event) (old new : Store) (status : Status) : Type 0 where
  pub written : HasRun how set events old new
  pub opened : HasOpening how set old new
  pub whole : status ≡ Done → HasRunAll how set events old new

-- the input is a script, and its first finishes, with the state that they leave, are serial from the formatted state
pub record HasSerialFinishes (count : ℕ) (input : List ℕ) : Type 0 where
  pub script : Script
  pub reads : read input ≡ Ok script
  pub serial : let f = first_finishes script.set count (formatted script.set) in serial_order.Serial (runs_of script.set) (formatted script.set) f.entries f.state

-- what an audit of bytes means: where it agrees, they are a report, and what it lists is serial and leaves what it tells; where it differs, they are a report, and that is not so
abbrev pub MeansReport : TaskSet → (bytes : List ℕ) → Status → Type 0
MeansReport set bytes Done = (r : Report) × IsReportOf set r bytes × IsSerialReport set r
MeansReport set bytes (Differs line) = (r : Report) × IsReportOf set r bytes × (IsSerialReport set r → ⊥)
MeansReport set bytes _ = Unit {0}

-- of an input, which is a script and the bytes behind it
abbrev pub MeansAudit : Status → (input : List ℕ) → Type 0
MeansAudit status input = (s : Script) (count : ℕ) → read_front input ≡ Ok (s, count) → MeansReport s.set (drop count input) status

-- ---- of a command and its input

abbrev pub PromisesTo : Command → Words → Status → (input : List ℕ) → Type 0
PromisesTo Run words status input = status ≡ Done → IsPromised Fresh words input
PromisesTo Resume words status input = status ≡ Done → IsPromised Again words input
PromisesTo (Serial count) words status input = status ≡ Done → HasSerialFinishes count input
PromisesTo Audit words status input = MeansAudit status input
PromisesTo (Make seed) words status input = status ≡ Done → IsPromised Fresh words input
PromisesTo _ words status input = Unit {0}

abbrev pub HasImagesOf : How → (old new : Store) → Status → (input : List ℕ) → Type 0
HasImagesOf how old new status input =
    (s : Script) → read input ≡ Ok s → IsImaged how s.set (events_of s.schedule) old new status

abbrev pub ImagesTo : Command → (old new : Store) → Status → (input : List ℕ) → Type 0
ImagesTo Run old new status input = HasImagesOf Fresh old new status input
ImagesTo Resume old new status input = HasImagesOf Again old new status input
ImagesTo (Make seed) old new status input = HasImagesOf Fresh old new status input
ImagesTo _ old new status input = Unit {0}

-- ---- of a call

-- of `run`, `resume` and `make`, at each answer: so each image of the device is known
abbrev pub KeepsImages : Option Command → Exchange → Status → Type 0
KeepsImages None x status = Unit {0}
KeepsImages (Some c) x status = OfInput (input_of c x) (ImagesTo c x.device x.device_now status)

-- where they are answered by Done; and what the answers to `serial` and `audit` mean
abbrev pub KeepsHeadline : Option Command → Exchange → Status → Type 0
KeepsHeadline (Some Run) x status = status ≡ Done → OfInput x.source.bytes (IsHeadlined Fresh x)
KeepsHeadline (Some Resume) x status = status ≡ Done → OfInput x.source.bytes (IsHeadlined Again x)
KeepsHeadline (Some (Serial count)) x status = status ≡ Done → OfInput x.source.bytes (HasSerialFinishes count)
KeepsHeadline (Some Audit) x status = OfInput x.source.bytes (MeansAudit status)
KeepsHeadline (Some (Make seed)) x status = status ≡ Done → IsSummedUp seed x (made_text seed)
KeepsHeadline _ x status = Unit {0}

-- ---- within

abbrev pub KeepsPromise : Option Command → Exchange → Status → Type 0
KeepsPromise None x status = Unit {0}
KeepsPromise (Some c) x status = OfInput (input_of c x) (PromisesTo c (words_in x.device) status)

-- a kernel stands before the first event of a run on the words at entry
pub record IsBegun (how : How) (set : TaskSet) (events : List Event) (old new : Store) (k : Kernel) : Type 0 where
  pub origin : Origin
  pub is : begin_on how set (words_in old) ≡ Some origin
  pub replies : device_reply how old set events ≡ Puts (report_text origin events)
  pub begins : Begins origin events k new
  pub written : new.log ≡ old.log ++ opening_writes how set (words_in old)
  pub start : new.start ≡ old.start
  pub few : old.losses ≤ new.losses
  pub fits : need_for how set (words_in old) (length old.start) ≤ length old.start
