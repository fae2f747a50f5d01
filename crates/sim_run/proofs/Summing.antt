-- A summary in the place of a report.
use Rattle.std.proofs.Common.{◌≡◌, ◌⊎◌, inl, inr, ℕ, List, [], Some, Result, Ok, refl, ap, sym, ◌∙◌, subst}
use Rattle.std.specs.Prelude.{◌≢◌}
use Rattle.nv_base.specs.Streams.{Stream}
use Rattle.kernel_model.specs.Events.{Event}
use Rattle.set_model.specs.Sets.{TaskSet}
use Rattle.headline.specs.Report.{report_text}
use Rattle.headline.specs.Runs.{Origin, all_lines}
use Rattle.kernel_core.specs.declared.kernel.Kernel.{Kernel}
use Rattle.kernel_core.specs.declared.open.How.{How}
use Rattle.kernel_core.specs.declared.open.How.TheVariants.{Fresh}
use Rattle.simulation.specs.Counts.{tally_of}
use Rattle.simulation.specs.Stores.{Store}
use Rattle.simulation.specs.declared.tally.Tally.{Tally}
use Rattle.schedule_model.specs.Failures.{events_of}
use Rattle.script.specs.Parts as scripts
use Rattle.script.specs.Causes.{ScriptError}
use Rattle.simulation.proofs.Halting.{no_start}
use Rattle.answers.specs.declared.status.Status.{Status}
use Rattle.answers.specs.declared.status.Status.TheVariants.{Done, Usage, ReadFault, WriteFault, NoMemory, DeviceLost, Image, Small, Script, Packed, Differs, Report}
use Rattle.sim_run.specs.BeforeAnswerLine.{LeavesStore, PutOrLost, PutReply}
use Rattle.sim_run.specs.Origins.{fresh_run}
use Rattle.sim_run.specs.Promises.{HasRunAll, IsBegun}
use Rattle.sim_run.specs.Replies.{Finds, Puts, Refuses, Reply, device_reply, in_place, refused_by, summed_reply, text_by}
use Rattle.sim_run.specs.Stopping.{StoppedUntold}
use Rattle.sim_run.specs.Summary.{summary_text}
use Rattle.sim_run.proofs.Answering.{none_lost}

-- ---- the answer is the same

same_refusal : (text : List ℕ) (r : Reply) (status : Status) → refused_by r ≡ Some status → refused_by (in_place text r) ≡ Some status
same_refusal text (Puts other) status e = absurd (cc e)
same_refusal text (Refuses other) status e = e
same_refusal text (Finds other) status e = e

-- where a call is lost before anything is put
nothing_put_of : (text put : List ℕ) (r : Reply) (o : Stream) → text_by r ≡ Some put → PutOrLost (in_place text r) o o DeviceLost
nothing_put_of text put (Puts other) o e = (text, refl, no_start text o)
nothing_put_of text put (Refuses status) o e = absurd (cc e)
nothing_put_of text put (Finds status) o e = ([], refl, no_start [] o)

pub same_answer : (text : List ℕ) (r : Reply) (o : Stream) (status : Status) → status ≢ Done → status ≢ WriteFault → PutOrLost r o o status → PutOrLost (in_place text r) o o status
same_answer text r o Done d w h = absurd (d refl)
same_answer text r o WriteFault d w h = absurd (w refl)
same_answer text r o Usage d w h = absurd h
same_answer text r o ReadFault d w h = absurd h
same_answer text r o NoMemory d w h = h
same_answer text r o DeviceLost d w h = nothing_put_of text h.0 r o h.1
same_answer text r o (Small need len) d w h = (same_refusal text r (Small need len) h.0, h.1)
same_answer text r o (Image fault) d w h = (same_refusal text r (Image fault) h.0, h.1)
same_answer text r o (Script e) d w h = (ap (in_place text) h.0, h.1)
same_answer text r o (Packed place) d w h = (ap (in_place text) h.0, h.1)
same_answer text r o (Report place) d w h = (ap (in_place text) h.0, h.1)
same_answer text r o (Differs place) d w h = (ap (in_place text) h.0, h.1)

-- ---- the run

-- where a kernel was found, a summary is put
pub sums_up : (seed : ℕ) (set : TaskSet) (events : List Event) (old mid : Store) (k : Kernel) (t : Tally) (b : IsBegun Fresh set events old mid k) → t ≡ tally_of (all_lines b.origin events) → summed_reply seed old set events ≡ Puts (summary_text seed t)
sums_up seed set events old mid k t b counts =
    let first : fresh_run set ≡ b.origin = let e : Some (fresh_run set) ≡ Some b.origin = b.is in cc e in
    let text = summary_text seed (tally_of (all_lines (fresh_run set) events)) in
    ap (in_place text) b.replies ∙ ap (λ (x : Tally). Puts (summary_text seed x)) (ap (λ (o : Origin). tally_of (all_lines o events)) first ∙ sym counts)

pub put_as : (r : Reply) (text : List ℕ) (o q : Stream) (status : Status) → r ≡ Puts text → PutReply (Puts text) o q status → PutOrLost r o q status
put_as r text o q status e h = none_lost r o q status (subst (λ (x : Reply). PutReply x o q status) (sym e) h)

pub lost_untold : (seed : ℕ) (set : TaskSet) (events : List Event) (old mid : Store) (k : Kernel) (o : Stream) → IsBegun Fresh set events old mid k → PutOrLost (summed_reply seed old set events) o o DeviceLost
lost_untold seed set events old mid k o b = nothing_put_of (summary_text seed (tally_of (all_lines (fresh_run set) events))) (report_text b.origin events) (device_reply Fresh old set events) o (ap text_by b.replies)

-- what was put last tells nothing of the device
pub left_after : (how : How) (old new : Store) (status : Status) → (status ≡ Done) ⊎ (status ≡ WriteFault) → LeavesStore how old new status
left_after how old new status (inl e) = subst (LeavesStore how old new) (sym e) tt
left_after how old new status (inr e) = subst (LeavesStore how old new) (sym e) tt

-- ---- what stops it

pub untold_after : (set : TaskSet) (events : List Event) (old new : Store) (sink now : Stream) (status : Status) → (status ≡ Done) ⊎ (status ≡ WriteFault) → HasRunAll Fresh set events old new → StoppedUntold set events old new sink now status
untold_after set events old new sink now status (inl e) all = subst (StoppedUntold set events old new sink now) (sym e) tt
untold_after set events old new sink now status (inr e) all = subst (StoppedUntold set events old new sink now) (sym e) all

pub untold_before : (set : TaskSet) (events : List Event) (old new : Store) (o : Stream) (status : Status) → status ≢ WriteFault → StoppedUntold set events old new o o status
untold_before set events old new o DeviceLost w = refl
untold_before set events old new o WriteFault w = absurd (w refl)
untold_before set events old new o Done w = tt
untold_before set events old new o Usage w = tt
untold_before set events old new o ReadFault w = tt
untold_before set events old new o NoMemory w = tt
untold_before set events old new o (Image fault) w = tt
untold_before set events old new o (Small need len) w = tt
untold_before set events old new o (Script e) w = tt
untold_before set events old new o (Packed place) w = tt
untold_before set events old new o (Report place) w = tt
untold_before set events old new o (Differs place) w = tt

-- a script is read as one alone
pub same_untold : (a b : scripts.Script) (r : Result scripts.Script ScriptError) (old new : Store) (sink now : Stream) (status : Status) → r ≡ Ok a → r ≡ Ok b → StoppedUntold a.set (events_of a.schedule) old new sink now status → StoppedUntold b.set (events_of b.schedule) old new sink now status
same_untold a b r old new sink now status e f h = let ok : Ok a ≡ Ok b = sym e ∙ f in let same : a ≡ b = cc ok in subst (λ (s : scripts.Script). StoppedUntold s.set (events_of s.schedule) old new sink now status) same h
