-- The report that was put is the one of which the headline holds.
use Rattle.std.proofs.Common.{◌≡◌, inl, arith, ℕ, Bool, true, false, cond, List, length, Option, Some, None, Result, Ok, refl, subst, sym, ap, ◌∙◌, ltb}
use Rattle.std.proofs.lemmas.List.{append-nil}
use Rattle.kernel_model.specs.Events.{Event}
use Rattle.set_model.specs.Sets.{TaskSet}
use Rattle.kernel_core.specs.Opening.{IsLeft}
use Rattle.schedule_model.specs.Failures.{events_of}
use Rattle.headline.specs.Headline.{Headline}
use Rattle.headline.specs.Report.{report_text}
use Rattle.headline.specs.Runs.{Origin, all_lines}
use Rattle.simulation.specs.Counts.{tally_of}
use Rattle.kernel_core.specs.declared.open.How.{How}
use Rattle.kernel_core.specs.declared.open.How.TheVariants.{Fresh, Again}
use Rattle.script.specs.Parts as scripts
use Rattle.script.specs.Causes.{ScriptError}
use Rattle.script.specs.Reading.{read}
use Rattle.simulation.specs.Stores.{Store, words_in}
use Rattle.nv_base.specs.declared.refusals.Refusal.{Refusal}
use Rattle.nv_base.specs.declared.refusals.Refusal.TheVariants as refusal
use Rattle.answers.specs.Refusals.{script_answer}
use Rattle.answers.specs.declared.status.Status.{Status}
use Rattle.answers.specs.declared.status.Status.TheVariants.{Done, Script}
use Rattle.sim_run.specs.declared.command.Command.{Command}
use Rattle.sim_run.specs.declared.command.Command.TheVariants.{Run, Resume, Asm, Dis, Pack, Serial, Audit, Make}
use Rattle.sim_run.specs.Origins.{begin_on, fresh_run}
use Rattle.sim_run.specs.MadeScript.{made_text}
use Rattle.sim_run.specs.Summary.{summary_text}
use Rattle.sim_run.specs.Replies.{Finds, Puts, Refuses, Replies, RepliesUnless, RepliesWithin, Reply, device_reply, in_place, made_reply, most_input, run_reply, too_long}
use Rattle.sim_run.specs.Answers.{Answered, Exchange, IsDone, OfInput, input_of}
use Rattle.sim_run.specs.Promises.{HasSerialFinishes, ImagesTo, IsHeadlined, IsImaged, IsPromised, IsSummedUp, KeepsHeadline, KeepsImages, KeepsPromise, MeansAudit, PromisesTo}
use Rattle.nv_base.specs.Streams.{PutsText, Stream}
use Rattle.sim_run.proofs.Amid.{unopened}
use Rattle.sim_run.proofs.Answering.{later, on_input}
use Rattle.sim_run.proofs.Sizes.{text_begun}

-- what a run puts is the report from where it begins
ran : (how : How) (d : Store) (r : Result scripts.Script ScriptError) (s : scripts.Script) (o : Origin) (text : List ℕ) → r ≡ Ok s → begin_on how s.set (words_in d) ≡ Some o → run_reply how d r ≡ Puts text → report_text o (events_of s.schedule) ≡ text
ran how d r s o text e b h = text_begun how (length d.start) s.set (words_in d) (events_of s.schedule) o text b (sym (ap (run_reply how d) e) ∙ h)

-- commands that run
record Runs (c : Command) (how : How) : Type 0 where
  says : (d : Store) (input text : List ℕ) → Replies c d input (Puts text) → run_reply how d (read input) ≡ Puts text

-- a text is put of no input that is too long
short : (long : Bool) (c : Command) (d : Store) (input text : List ℕ) → RepliesUnless long c d input (Puts text) → RepliesWithin c d input (Puts text)
short true c d input text h = absurd (cc h)
short false c d input text h = h

text_within : (c : Command) (d : Store) (input text : List ℕ) → Replies c d input (Puts text) → RepliesWithin c d input (Puts text)
unfolding Replies
text_within c d input text h = short (ltb most_input (length input)) c d input text h

headlined : (c : Command) (how : How) (x : Exchange) (input : List ℕ) → Runs c how → IsPromised how (words_in x.device) input → IsDone c x input → IsHeadlined how x input
headlined c how x input r p d =
    let o = p.run.origin in
    let events = events_of p.script.schedule in
    let same = ran how x.device (read input) p.script o d.text p.reads p.run.begins (r.says x.device input d.text d.replies) in record {
      script = p.script;
      reads = p.reads;
      origin = o;
      begins = p.run.begins;
      text = d.text;
      promise = subst (Headline o events) same p.run.promise;
      goes_on = p.run.goes_on;
      put = d.put;
    }

both : (c : Command) (how : How) (x : Exchange) (status : Status) (left : Option (List ℕ)) → Runs c how → status ≡ Done → OfInput left (λ input. status ≡ Done → IsPromised how (words_in x.device) input) → OfInput left (IsDone c x) → OfInput left (IsHeadlined how x)
both c how x status None r e p d = tt
both c how x status (Some input) r e p d = headlined c how x input r (p e) d

run_is : Runs Run Fresh
run_is = record { says = λ d input text h. text_within Run d input text h }

resume_is : Runs Resume Again
resume_is = record { says = λ d input text h. text_within Resume d input text h }

-- the summary is that of the report of which the headline holds
other_text : (text put : List ℕ) (r : Reply) → in_place text r ≡ Puts put → text ≡ put
other_text text put (Puts report) e = cc e
other_text text put (Refuses status) e = absurd (cc e)
other_text text put (Finds status) e = absurd (cc e)

summary_is : (seed : ℕ) (d : Store) (r : Result scripts.Script ScriptError) (s : scripts.Script) (o : Origin) (text : List ℕ) → r ≡ Ok s → begin_on Fresh s.set (words_in d) ≡ Some o → made_reply seed d r ≡ Puts text
    → summary_text seed (tally_of (all_lines o (events_of s.schedule))) ≡ text
summary_is seed d r s o text e b h =
    let same : fresh_run s.set ≡ o = cc b in
    let put = sym (ap (made_reply seed d) e) ∙ h in
    ap (λ (x : Origin). summary_text seed (tally_of (all_lines x (events_of s.schedule)))) (sym same) ∙ other_text (summary_text seed (tally_of (all_lines (fresh_run s.set) (events_of s.schedule)))) text (device_reply Fresh d s.set (events_of s.schedule)) put

summed_up : (seed : ℕ) (x : Exchange) (input : List ℕ) → IsPromised Fresh (words_in x.device) input → IsDone (Make seed) x input → IsSummedUp seed x input
summed_up seed x input p d =
    let o = p.run.origin in
    let events = events_of p.script.schedule in
    let same = summary_is seed x.device (read input) p.script o d.text p.reads p.run.begins (text_within (Make seed) x.device input d.text d.replies) in record {
      script = p.script;
      reads = p.reads;
      origin = o;
      begins = p.run.begins;
      promise = p.run.promise;
      goes_on = p.run.goes_on;
      put = subst (λ (t : List ℕ). PutsText t x.sink x.sink_now) (sym same) d.put;
    }

done_at : (c : Command) (x : Exchange) (status : Status) → status ≡ Done → Answered (Some c) x status → OfInput (input_of c x) (IsDone c x)
done_at c x status e h = let at : Answered (Some c) x Done = subst (λ (s : Status). Answered (Some c) x s) e h in at.1

pub keeps_headline : (command : Option Command) (x : Exchange) (status : Status) → Answered command x status → KeepsPromise command x status → KeepsHeadline command x status
keeps_headline None x status h p = tt
keeps_headline (Some Run) x status h p = λ e. both Run Fresh x status x.source.bytes run_is e p (done_at Run x status e h)
keeps_headline (Some Resume) x status h p = λ e. both Resume Again x status x.source.bytes resume_is e p (done_at Resume x status e h)
keeps_headline (Some Asm) x status h p = tt
keeps_headline (Some Dis) x status h p = tt
keeps_headline (Some Pack) x status h p = tt
keeps_headline (Some (Serial count)) x status h p = λ e. on_input x.source.bytes (PromisesTo (Serial count) (words_in x.device) status) (HasSerialFinishes count) (λ input q. q e) p
keeps_headline (Some Audit) x status h p = on_input x.source.bytes (PromisesTo Audit (words_in x.device) status) (MeansAudit status) (λ input q. q) p
keeps_headline (Some (Make seed)) x status h p = λ e. summed_up seed x (made_text seed) (p e) (done_at (Make seed) x status e h)

-- also behind the line that names the answer
pub promise_later : (command : Option Command) (x : Exchange) (new : Stream) (status : Status) → KeepsPromise command x status → KeepsPromise command (later x new) status
promise_later None x new status h = tt
promise_later (Some c) x new status h = h

pub images_later : (command : Option Command) (x : Exchange) (new : Stream) (status : Status) → KeepsImages command x status → KeepsImages command (later x new) status
images_later None x new status h = tt
images_later (Some c) x new status h = h

-- and where no input was read
pub none_written : (how : How) (set : TaskSet) (events : List Event) (old : Store) (status : Status) → (status ≡ Done → ⊥) → IsImaged how set events old old status
none_written how set events old status never = record {
  written = inl (record { front = (0, omega arith, sym (append-nil old.log)); left = same how });
  opened = unopened how set old;
  whole = λ done. absurd (never done);
}
  where
    same : (how : How) → IsLeft how set (words_in old) (words_in old)
    same Fresh = inl refl
    same Again = refl

none_imaged : (c : Command) (old : Store) (status : Status) (input : List ℕ) → (status ≡ Done → ⊥) → ImagesTo c old old status input
none_imaged Run old status input never = λ s e. none_written Fresh s.set (events_of s.schedule) old status never
none_imaged Resume old status input never = λ s e. none_written Again s.set (events_of s.schedule) old status never
none_imaged (Make seed) old status input never = λ s e. none_written Fresh s.set (events_of s.schedule) old status never
none_imaged Asm old status input never = tt
none_imaged Dis old status input never = tt
none_imaged Pack old status input never = tt
none_imaged (Serial count) old status input never = tt
none_imaged Audit old status input never = tt

pub images_unread : (c : Command) (old : Store) (status : Status) (left : Option (List ℕ)) → (status ≡ Done → ⊥) → OfInput left (ImagesTo c old old status)
images_unread c old status None never = tt
images_unread c old status (Some input) never = none_imaged c old status input never

pub script_refused : (r : Refusal ScriptError) → script_answer r ≡ Done → ⊥
script_refused (refusal.At e) done = cc done
script_refused refusal.NoMemory done = cc done
