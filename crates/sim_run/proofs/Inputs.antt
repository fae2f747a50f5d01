-- From what was read, or not read, to what a call has done.
use Rattle.std.proofs.Common.{◌≡◌, ℕ, ◌+◌, ◌≤◌, cond, true, List, [], length, Option, Some, None, inl, inr, ap, sym, ◌∙◌, subst, refl, arith, ltb}
use Rattle.std.proofs.lemmas.Bool.{lt-ltb}
use Rattle.nv_base.specs.Streams.{AreGone, GaveAll, Stream}
use Rattle.nv_base.specs.WholeInputs.{Stops}
use Rattle.nv_base.specs.declared.whole.ReadRefusal.{ReadRefusal}
use Rattle.nv_base.specs.declared.whole.ReadRefusal.TheVariants as reading
use Rattle.sim_run.specs.Replies.{Puts, Refuses, Replies, RepliesUnless, Reply, too_long, most_input}
use Rattle.sim_run.specs.Answers.{Exchange, HasReadFew, IsCutOff, IsDone, IsReadUnless, IsRefused, IsStopped, OfInput, RepliesIn, TellsReadFault, how_of, input_of, or_given, own_input}
use Rattle.sim_run.specs.BeforeAnswerLine.{BeforeAnswerLine, IsGiven, IsNotGiven, LeavesStore, PutOrLost, PutsSome, Unread}
use Rattle.simulation.specs.Stores.{Store}
use Rattle.sim_run.specs.Halts.{unread_as}
use Rattle.device_model.specs.Words.{Words}
use Rattle.sim_run.specs.Promises.{MeansAudit, PromisesTo}
use Rattle.sim_run.specs.declared.command.Command.{Command}
use Rattle.sim_run.specs.declared.command.Command.TheVariants.{Run, Resume, Asm, Dis, Pack, Serial, Audit, Make}
use Rattle.answers.specs.declared.status.Status.{Status}
use Rattle.answers.specs.declared.status.Status.TheVariants.{Done, Usage, ReadFault, WriteFault, NoMemory, DeviceLost, Image, Small, Script, Packed, Differs, Report}
use Rattle.sim_run.proofs.Answering.{stood}
use Rattle.sim_run.proofs.Gone.{all_gone, none_gone}

-- ---- an input that was not read

-- more bytes than a call reads
refuses_long : (c : Command) (s : Store) (input : List ℕ) → most_input + 1 ≤ length input → Replies c s input (Refuses (Script too_long))
unfolding Replies
refuses_long c s input h =
    let long : ltb most_input (length input) ≡ true = lt-ltb _ _ (omega arith) in
    subst (λ b. RepliesUnless b c s input (Refuses (Script too_long))) (sym long) refl

long_input : (c : Command) (s : Store) (left now : Option (List ℕ)) → AreGone left now (most_input + 1) → OfInput left (λ input. Replies c s input (Refuses (Script too_long)))
long_input c s None now h = tt
long_input c s (Some input) now h = refuses_long c s input h.0

unread : (c : Command) (x : Exchange) (status : Status) → own_input c ≡ None → x.sink_now ≡ x.sink → x.device_now ≡ x.device → Unread x.source x.source_now status → BeforeAnswerLine (Some c) x status
unread c x ReadFault o e f h = (o, h.1, f, e)
unread c x (Script s) o e f h = (
  inr (o, h.1.0),
  f,
  subst (λ own. OfInput (or_given own x.source.bytes) (λ input. RepliesIn x c input (Refuses (Script s)))) (sym o)
      (subst (λ t. OfInput x.source.bytes (λ input. RepliesIn x c input (Refuses (Script t)))) (sym h.0) (long_input c x.device x.source.bytes x.source_now.bytes h.1.0)),
  e,
)
unread c x NoMemory o e f h = (f, e)
unread c x Done o e f h = absurd h
unread c x Usage o e f h = absurd h
unread c x WriteFault o e f h = absurd h
unread c x DeviceLost o e f h = absurd h
unread c x (Small need len) o e f h = absurd h
unread c x (Image fault) o e f h = absurd h
unread c x (Packed p) o e f h = absurd h
unread c x (Report p) o e f h = absurd h
unread c x (Differs p) o e f h = absurd h

pub unread_stops : (old new : Stream) (r : ReadRefusal) → Stops most_input old new r → Unread old new (unread_as r)
unread_stops old new reading.ReadFault h = h
unread_stops old new reading.TooLong h = (refl, h)
unread_stops old new reading.NoMemory h = h

-- whether the command has an input of its own or not
pub not_given : (c : Command) (x : Exchange) (status : Status) → x.sink_now ≡ x.sink → x.device_now ≡ x.device → IsNotGiven (own_input c) x.source x.source_now status → BeforeAnswerLine (Some c) x status
not_given c x status e f h = at (own_input c) refl h
  where
    at : (own : Option (List ℕ)) → own_input c ≡ own → IsNotGiven own x.source x.source_now status → BeforeAnswerLine (Some c) x status
    at None o h = unread c x status o e f h
    at (Some text) o h = subst (λ s. BeforeAnswerLine (Some c) x s) (sym h.0) (f, e)

unread_few : (old new : Stream) (status : Status) → Unread old new status → HasReadFew old new status
unread_few old new ReadFault h = inl h.0
unread_few old new (Script s) h = inr (ap (λ t. Script t) h.0, h.1.0)
unread_few old new NoMemory h = inl h.0
unread_few old new Done h = absurd h
unread_few old new Usage h = absurd h
unread_few old new WriteFault h = absurd h
unread_few old new DeviceLost h = absurd h
unread_few old new (Small need len) h = absurd h
unread_few old new (Image fault) h = absurd h
unread_few old new (Packed p) h = absurd h
unread_few old new (Report p) h = absurd h
unread_few old new (Differs p) h = absurd h

unread_told : (old new : Stream) (status : Status) → Unread old new status → TellsReadFault old new status
unread_told old new ReadFault h = inr refl
unread_told old new (Script s) h = inl h.1.1
unread_told old new NoMemory h = inl h.1
unread_told old new Done h = absurd h
unread_told old new Usage h = absurd h
unread_told old new WriteFault h = absurd h
unread_told old new DeviceLost h = absurd h
unread_told old new (Small need len) h = absurd h
unread_told old new (Image fault) h = absurd h
unread_told old new (Packed p) h = absurd h
unread_told old new (Report p) h = absurd h
unread_told old new (Differs p) h = absurd h

unread_counts : (old new : Stream) (status : Status) → Unread old new status → old.faults ≤ new.faults
unread_counts old new ReadFault h = h.1.0
unread_counts old new (Script s) h = stood old.faults new.faults h.1.1
unread_counts old new NoMemory h = stood old.faults new.faults h.1
unread_counts old new Done h = absurd h
unread_counts old new Usage h = absurd h
unread_counts old new WriteFault h = absurd h
unread_counts old new DeviceLost h = absurd h
unread_counts old new (Small need len) h = absurd h
unread_counts old new (Image fault) h = absurd h
unread_counts old new (Packed p) h = absurd h
unread_counts old new (Report p) h = absurd h
unread_counts old new (Differs p) h = absurd h

pub not_given_few : (own : Option (List ℕ)) (old new : Stream) (status : Status) → IsNotGiven own old new status → HasReadFew old new status
not_given_few None old new status h = unread_few old new status h
not_given_few (Some text) old new status h = subst (λ (s : Stream). HasReadFew old s status) (sym h.1) (inl (none_gone old.bytes most_input))

pub not_given_told : (own : Option (List ℕ)) (old new : Stream) (status : Status) → IsNotGiven own old new status → TellsReadFault old new status
not_given_told None old new status h = unread_told old new status h
not_given_told (Some text) old new status h = inl (ap (λ (s : Stream). s.faults) h.1)

pub not_given_counts : (own : Option (List ℕ)) (old new : Stream) (status : Status) → IsNotGiven own old new status → old.faults ≤ new.faults
not_given_counts None old new status h = unread_counts old new status h
not_given_counts (Some text) old new status h = stood old.faults new.faults (ap (λ (s : Stream). s.faults) h.1)

pub not_given_undone : (own : Option (List ℕ)) (old new : Stream) (status : Status) → IsNotGiven own old new status → status ≡ Done → ⊥
not_given_undone None old new status h e = subst (Unread old new) e h
not_given_undone (Some text) old new status h e = let same : Done ≡ NoMemory = sym e ∙ h.0 in cc same

-- what is promised of answers that come once an input was read
audit_unread : (old new : Stream) (status : Status) (input : List ℕ) → Unread old new status → MeansAudit status input
audit_unread old new ReadFault input h = λ s n e. tt
audit_unread old new (Script e) input h = λ s n r. tt
audit_unread old new NoMemory input h = λ s n e. tt
audit_unread old new Done input h = absurd h
audit_unread old new Usage input h = absurd h
audit_unread old new WriteFault input h = absurd h
audit_unread old new DeviceLost input h = absurd h
audit_unread old new (Small need len) input h = absurd h
audit_unread old new (Image fault) input h = absurd h
audit_unread old new (Packed p) input h = absurd h
audit_unread old new (Report p) input h = absurd h
audit_unread old new (Differs p) input h = absurd h

audit_not_given : (own : Option (List ℕ)) (old new : Stream) (status : Status) (input : List ℕ) → IsNotGiven own old new status → MeansAudit status input
audit_not_given None old new status input h = audit_unread old new status input h
audit_not_given (Some text) old new status input h = subst (λ (s : Status). MeansAudit s input) (sym h.0) (λ s n e. tt)

promise_unread : (c : Command) (words : Words) (own : Option (List ℕ)) (old new : Stream) (status : Status) (input : List ℕ) → IsNotGiven own old new status → PromisesTo c words status input
promise_unread Run words own old new status input h = λ e. absurd (not_given_undone own old new status h e)
promise_unread Resume words own old new status input h = λ e. absurd (not_given_undone own old new status h e)
promise_unread Asm words own old new status input h = tt
promise_unread Dis words own old new status input h = tt
promise_unread Pack words own old new status input h = tt
promise_unread (Serial count) words own old new status input h = λ e. absurd (not_given_undone own old new status h e)
promise_unread Audit words own old new status input h = audit_not_given own old new status input h
promise_unread (Make seed) words own old new status input h = λ e. absurd (not_given_undone own old new status h e)

pub unread_promised : (c : Command) (words : Words) (own : Option (List ℕ)) (old new : Stream) (status : Status) (left : Option (List ℕ)) → IsNotGiven own old new status → OfInput left (PromisesTo c words status)
unread_promised c words own old new status None h = tt
unread_promised c words own old new status (Some input) h = promise_unread c words own old new status input h

-- ---- an input that was read

all_read : (left now : Option (List ℕ)) (bytes : List ℕ) → GaveAll left now bytes → OfInput left (λ input. now ≡ Some [])
all_read None now bytes h = tt
all_read (Some input) now bytes h = h.1

of_given : (left now : Option (List ℕ)) (bytes : List ℕ) (P : List ℕ → Type 0) → GaveAll left now bytes → P bytes → OfInput left P
of_given None now bytes P h p = tt
of_given (Some input) now bytes P h p = subst P (sym h.0) p

-- what holds of the bytes that are the input
pub of_input : (own : Option (List ℕ)) (old new : Stream) (bytes : List ℕ) (P : List ℕ → Type 0) → IsGiven own bytes old new → P bytes → OfInput (or_given own old.bytes) P
of_input None old new bytes P g p = of_given old.bytes new.bytes bytes P g.gave p
of_input (Some text) old new bytes P g p = subst P g.0 p

was_read : (own : Option (List ℕ)) (old new : Stream) (bytes : List ℕ) → IsGiven own bytes old new → IsReadUnless own old new
was_read None old new bytes g = all_read old.bytes new.bytes bytes g.gave
was_read (Some text) old new bytes g = g.1

found : (c : Command) (x : Exchange) (bytes : List ℕ) (status : Status) → IsGiven (own_input c) bytes x.source x.source_now → IsRefused c x status bytes → OfInput (input_of c x) (IsRefused c x status)
found c x bytes status g e = of_input (own_input c) x.source x.source_now bytes (IsRefused c x status) g e

refused : (c : Command) (x : Exchange) (bytes : List ℕ) (r : Reply) (status : Status) → IsGiven (own_input c) bytes x.source x.source_now → RepliesIn x c bytes r → r ≡ Refuses status
    → OfInput (input_of c x) (λ input. RepliesIn x c input (Refuses status))
refused c x bytes r status g s e = of_input (own_input c) x.source x.source_now bytes (λ input. RepliesIn x c input (Refuses status)) g (subst (RepliesIn x c bytes) e s)

by_reply : (c : Command) (x : Exchange) (bytes : List ℕ) (r : Reply) (status : Status) → IsGiven (own_input c) bytes x.source x.source_now → RepliesIn x c bytes r → PutOrLost r x.sink x.sink_now status
    → LeavesStore (how_of c) x.device x.device_now status → BeforeAnswerLine (Some c) x status
by_reply c x bytes r Done g s h f = (was_read (own_input c) x.source x.source_now bytes g, of_input (own_input c) x.source x.source_now bytes (IsDone c x) g (record { text = h.0; replies = subst (RepliesIn x c bytes) h.1 s; put = h.2 }))
by_reply c x bytes r Usage g s h f = absurd h
by_reply c x bytes r ReadFault g s h f = absurd h
by_reply c x bytes r WriteFault g s h f =
    (h.2.counted, was_read (own_input c) x.source x.source_now bytes g, of_input (own_input c) x.source x.source_now bytes (IsCutOff c x) g (record { text = h.0; replies = subst (RepliesIn x c bytes) h.1 s; put = h.2 }))
by_reply c x bytes r NoMemory g s h f = (f, h)
by_reply c x bytes r DeviceLost g s h f =
    (f, was_read (own_input c) x.source x.source_now bytes g, of_input (own_input c) x.source x.source_now bytes (IsStopped (λ from status. x.sink_now ≡ from) c x) g (record { text = h.0; reply = r; replies = s; with_text = h.1; middle = x.sink_now; put = h.2; named = refl }))
by_reply c x bytes r (Small need len) g s h f = (inl (was_read (own_input c) x.source x.source_now bytes g), f, found c x bytes (Small need len) g (r, s, h.0), h.1)
by_reply c x bytes r (Image fault) g s h f = (inl (was_read (own_input c) x.source x.source_now bytes g), f, found c x bytes (Image fault) g (r, s, h.0), h.1)
by_reply c x bytes r (Script e) g s h f = (inl (was_read (own_input c) x.source x.source_now bytes g), f, refused c x bytes r (Script e) g s h.0, h.1)
by_reply c x bytes r (Packed p) g s h f = (inl (was_read (own_input c) x.source x.source_now bytes g), f, refused c x bytes r (Packed p) g s h.0, h.1)
by_reply c x bytes r (Report p) g s h f = (inl (was_read (own_input c) x.source x.source_now bytes g), f, refused c x bytes r (Report p) g s h.0, h.1)
by_reply c x bytes r (Differs p) g s h f = (inl (was_read (own_input c) x.source x.source_now bytes g), f, refused c x bytes r (Differs p) g s h.0, h.1)

pub replied : (c : Command) (x : Exchange) (bytes : List ℕ) (status : Status) → IsGiven (own_input c) bytes x.source x.source_now → PutsSome PutOrLost (RepliesIn x c bytes) x.sink x.sink_now status
    → LeavesStore (how_of c) x.device x.device_now status → BeforeAnswerLine (Some c) x status
replied c x bytes status g (inl h) f =
    let left : LeavesStore (how_of c) x.device x.device_now NoMemory = subst (LeavesStore (how_of c) x.device x.device_now) h.0 f in
    subst (λ (s : Status). BeforeAnswerLine (Some c) x s) (sym h.0) (left, h.1)
replied c x bytes status g (inr h) f = by_reply c x bytes h.0 status g h.1 h.2 f

pub given_few : (own : Option (List ℕ)) (old new : Stream) (bytes : List ℕ) (status : Status) → IsGiven own bytes old new → length bytes ≤ most_input → HasReadFew old new status
given_few None old new bytes status g l = inl (all_gone old.bytes new.bytes bytes most_input g.gave l)
given_few (Some text) old new bytes status g l = subst (λ (s : Stream). HasReadFew old s status) (sym g.1) (inl (none_gone old.bytes most_input))

-- the source did not fail
pub given_still : (own : Option (List ℕ)) (old new : Stream) (bytes : List ℕ) → IsGiven own bytes old new → new.faults ≡ old.faults
given_still None old new bytes g = g.still
given_still (Some text) old new bytes g = ap (λ (s : Stream). s.faults) g.1
