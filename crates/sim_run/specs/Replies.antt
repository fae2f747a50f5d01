-- What each command replies to an input, where nothing fails and memory is found: `run` and `resume` also by their device, at entry. This project's own.
use Rattle.std.specs.Prelude.{◌≡◌, ℕ, ◌+◌, nat_lt, Bool, true, false, List, [], ◌∷◌, ◌++◌, length, map, drop, position, Option, Some, None, Result, Ok, Err, if◌then◌else◌, codes}
use Rattle.std.specs.List.{flat_map}
use Rattle.std.specs.Str.Lines.{lines}
use Rattle.plain_text.specs.BadLines.{is_bad}
use Rattle.nv_base.specs.declared.limits.TheConstants.{MAX_INPUT}
use Rattle.rv_isa.specs.Texts.{hexadecimal}
use Rattle.rv_asm.specs.Assembly.{assembled}
use Rattle.rv_asm.specs.Causes.{AsmError}
use Rattle.set_model.specs.Sets.{TaskSet}
use Rattle.set_model.specs.Formatted.{formatted}
use Rattle.kernel_model.specs.Events.{Event}
use Rattle.kernel_model.specs.Turns.{Finish}
use Rattle.schedule_model.specs.Failures.{events_of}
use Rattle.device_model.specs.Words.{Words}
use Rattle.device_model.specs.Decoding.{decode, durable_of, is_worn}
use Rattle.device_model.specs.Decoding as stored
use Rattle.device_model.specs.Devices.{need_on}
use Rattle.headline.specs.Runs.{booting_origin}
use Rattle.headline.specs.Report.{report_text}
use Rattle.report_text.specs.Report.{end_part, lines_text}
use Rattle.report_text.specs.Reports as reports
use Rattle.task_model.specs.FirstFinishes.{Finished, first_finishes}
use Rattle.audit.specs.Differences.{IsFirstDifference}
use Rattle.kernel_core.specs.Opening.{need_for}
use Rattle.kernel_core.specs.declared.open.How.{How}
use Rattle.kernel_core.specs.declared.open.How.TheVariants.{Fresh, Again}
use Rattle.simulation.specs.Stores.{Store, words_in}
use Rattle.task_image.specs.Packed.{packed}
use Rattle.task_image.specs.Unpacked.{unpacked}
use Rattle.script.specs.Parts as scripts
use Rattle.script.specs.Reading.{read}
use Rattle.script.specs.Fronts.{read_front}
use Rattle.script_text.specs.ScriptText.{script_text}
use Rattle.script.specs.declared.refusals.ScriptCause.TheVariants.{Long, Byte, Code}
use Rattle.script.specs.Causes.{ScriptError}
use Rattle.answers.specs.declared.status.Status.{Status}
use Rattle.answers.specs.declared.status.Status.TheVariants.{Done, Differs, Script, Packed, Report, Small, Image}
use Rattle.answers.specs.declared.status.ImageFault.TheVariants as fault
use Rattle.headline.specs.Runs.{all_lines}
use Rattle.simulation.specs.Counts.{tally_of}
use Rattle.sim_run.specs.Origins.{device_for, device_from, fresh_run}
use Rattle.sim_run.specs.Summary.{number_line, summary_text}
use Rattle.sim_run.specs.declared.command.Command.{Command}
use Rattle.sim_run.specs.declared.command.Command.TheVariants.{Run, Resume, Asm, Dis, Pack, Serial, Audit, Make}

-- a text, or the answer that refuses the input, or the one that tells what was found on the device
pub data Reply : Type 0 where
  Puts : (text : List ℕ) → Reply
  Refuses : (status : Status) → Reply
  Finds : (status : Status) → Reply

abbrev pub status_of : Reply → Status
status_of (Puts text) = Done
status_of (Refuses status) = status
status_of (Finds status) = status

-- the answer, where no text is put
abbrev pub refused_by : Reply → Option Status
refused_by (Puts text) = None
refused_by (Refuses status) = Some status
refused_by (Finds status) = Some status

-- the text that is put once the device is used, where it is
abbrev pub text_by : Reply → Option (List ℕ)
text_by (Puts text) = Some text
text_by (Refuses status) = None
text_by (Finds status) = Some []

-- how many bytes a call reads at most
abbrev pub most_input : ℕ
most_input = MAX_INPUT

-- more bytes than that, told of line 0
abbrev pub too_long : ScriptError
too_long = record { line = 0; cause = Long }

-- ---- `run` and `resume`: the event machine's report of a run on a formatted device, or from what a device holds

-- by what stands there: its state, unless it is worn
abbrev pub found_reply : TaskSet → List Event → stored.Stored → Reply
found_reply set events stored.Blank = Finds (Image fault.Blank)
found_reply set events (stored.Damaged place) = Finds (Image (fault.Damaged place))
found_reply set events (stored.Holds kind h) =
    if is_worn (durable_of h) then Finds (Image fault.Worn)
    else Puts (report_text (booting_origin (device_from set kind) h) events)

abbrev pub large_reply : How → TaskSet → Words → List Event → Reply
large_reply Fresh set words events = Puts (report_text (fresh_run set) events)
large_reply Again set words events = found_reply set events (decode set words)

-- on a device of so many words: fewer than the set needs are told before the device is used, and fewer than a migration needs behind word 0
abbrev pub sized_reply : How → (len : ℕ) → TaskSet → Words → List Event → Reply
sized_reply how len set words events =
    if nat_lt len (need_on (device_for set)) then Refuses (Small (need_on (device_for set)) len)
    else if nat_lt len (need_for how set words len) then Finds (Small (need_for how set words len) len)
    else large_reply how set words events

abbrev pub device_reply : How → Store → TaskSet → List Event → Reply
device_reply how s set events = sized_reply how (length s.start) set (words_in s) events

abbrev pub run_reply : How → Store → Result scripts.Script ScriptError → Reply
run_reply how s (Err e) = Refuses (Script e)
run_reply how s (Ok script) = device_reply how s script.set (events_of script.schedule)

-- ---- `asm`: the words of a text, each a line of 8 hexadecimal digits

abbrev pub words_text : List ℕ → List ℕ
words_text words = flat_map (λ word. hexadecimal 8 word ++ 10 ∷ []) words

abbrev pub assembly_reply : Result (List ℕ) AsmError → Reply
assembly_reply (Ok words) = Puts (words_text words)
assembly_reply (Err e) = Refuses (Script (record { line = e.line; cause = Code e.cause }))

-- the first line with a byte that is not allowed is told before each other fault
abbrev pub asm_reply_by : Option ℕ → List (List ℕ) → Reply
asm_reply_by (Some place) text = Refuses (Script (record { line = place + 1; cause = Byte }))
asm_reply_by None text = assembly_reply (assembled text)

abbrev pub asm_reply : List (List ℕ) → Reply
asm_reply text = asm_reply_by (position is_bad text) text

-- ---- `dis`: a packed set as a script

abbrev pub dis_reply : Result TaskSet ℕ → Reply
dis_reply (Ok set) = Puts (script_text set)
dis_reply (Err place) = Refuses (Packed place)

-- ---- `pack`: the set of a script, packed

abbrev pub pack_reply : Result scripts.Script ScriptError → Reply
pack_reply (Ok s) = Puts (packed s.set)
pack_reply (Err e) = Refuses (Script e)

-- ---- `make`: the summary of a run on a formatted device

-- a text in the place of the one that is put
abbrev pub in_place : List ℕ → Reply → Reply
in_place text (Puts other) = Puts text
in_place text (Refuses status) = Refuses status
in_place text (Finds status) = Finds status

-- as `run`, with how many lines of each kind the report has in its place
abbrev pub summed_reply : (seed : ℕ) → Store → TaskSet → List Event → Reply
summed_reply seed s set events = in_place (summary_text seed (tally_of (all_lines (fresh_run set) events))) (device_reply Fresh s set events)

abbrev pub made_reply : (seed : ℕ) → Store → Result scripts.Script ScriptError → Reply
made_reply seed s (Err e) = Refuses (Script e)
made_reply seed s (Ok script) = summed_reply seed s script.set (events_of script.schedule)

-- ---- `serial`: the first finishes of a script's tasks, each run whole, the least open id first, and the state that they leave

abbrev pub finishes_text : TaskSet → Finished → List ℕ
finishes_text set f = lines_text set (map (λ e. Finish e) f.entries) ++ end_part set f.state 0

abbrev pub serial_reply : (count : ℕ) → Result scripts.Script ScriptError → Reply
serial_reply count (Ok s) = Puts (finishes_text s.set (first_finishes s.set count (formatted s.set)))
serial_reply count (Err e) = Refuses (Script e)

-- ---- `audit`: the report behind a script, beside the serial replay of what it lists

-- how many finishes there are, where the report has no difference; the line of the first one; or that of the first line that can't stand there
abbrev pub Audits : TaskSet → List ℕ → Reply → Type 0
Audits set bytes (Puts text) = (r : reports.Report) × reports.IsReportOf set r bytes × IsFirstDifference set r None × (text ≡ number_line (codes "agreed ") (length r.listing))
Audits set bytes (Refuses (Differs line)) = (r : reports.Report) × reports.IsReportOf set r bytes × IsFirstDifference set r (Some line)
Audits set bytes (Refuses (Report line)) = reports.IsFirstBadLine set line bytes
Audits set bytes _ = ⊥

abbrev pub AuditReplies : (input : List ℕ) → Result (scripts.Script × ℕ) ScriptError → Reply → Type 0
AuditReplies input (Ok front) r = Audits front.0.set (drop front.1 input) r
AuditReplies input (Err e) r = r ≡ Refuses (Script e)

-- ---- all of them

abbrev pub RepliesWithin : Command → Store → List ℕ → Reply → Type 0
RepliesWithin Run s input r = run_reply Fresh s (read input) ≡ r
RepliesWithin Resume s input r = run_reply Again s (read input) ≡ r
RepliesWithin Asm s input r = asm_reply (lines input) ≡ r
RepliesWithin Dis s input r = dis_reply (unpacked input) ≡ r
RepliesWithin Pack s input r = pack_reply (read input) ≡ r
RepliesWithin (Serial count) s input r = serial_reply count (read input) ≡ r
RepliesWithin Audit s input r = AuditReplies input (read_front input) r
RepliesWithin (Make seed) s input r = made_reply seed s (read input) ≡ r

abbrev pub RepliesUnless : (long : Bool) → Command → Store → List ℕ → Reply → Type 0
RepliesUnless true c s input r = r ≡ Refuses (Script too_long)
RepliesUnless false c s input r = RepliesWithin c s input r

-- a command replies this to an input; to one of too many bytes, that it is too long
unfoldable pub Replies : Command → Store → List ℕ → Reply → Type 0
Replies c s input r = RepliesUnless (nat_lt most_input (length input)) c s input r
