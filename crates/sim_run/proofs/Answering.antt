-- From what a call has done, and the line that names its answer, to the answer.
use Rattle.std.proofs.Common.{◌≡◌, ℕ, ◌≤◌, ◌⊎◌, false, List, [], length, ltb, Option, Some, None, inl, inr, refl, ap, sym, subst, arith}
use Rattle.std.proofs.lemmas.Bool.{le-ltb}
use Rattle.nv_base.specs.Streams.{PutsFront, PutsText, FaultCounted, Stream}
use Rattle.sim_run.specs.Replies.{Finds, Puts, Refuses, Replies, RepliesUnless, RepliesWithin, Reply, most_input, refused_by, status_of}
use Rattle.answers.specs.Names.{PutsName}
use Rattle.sim_run.specs.Answers.{Answered, AnsweredTo, Exchange, IsComplete, IsCutOff, IsDone, IsRefused, IsReplied, IsSpared, IsStopped, NoFault, OfInput, RepliesIn, input_of}
use Rattle.sim_run.specs.BeforeAnswerLine.{BeforeAnswerLine, LeavesStore, PutOrLost, PutReply, PutsSome}
use Rattle.simulation.specs.Stores.{Store}
use Rattle.kernel_core.specs.declared.open.How.{How}
use Rattle.kernel_core.specs.declared.open.How.TheVariants.{Fresh, Again}
use Rattle.sim_run.specs.declared.command.Command.{Command}
use Rattle.answers.specs.declared.status.Status.{Status}
use Rattle.answers.specs.declared.status.Status.TheVariants.{Done, Usage, ReadFault, WriteFault, NoMemory, DeviceLost, Image, Small, Script, Packed, Differs, Report}
use Rattle.simulation.proofs.Fronts.{nothing_cut, nothing_put}

-- ---- counts

pub stood : (m n : ℕ) → n ≡ m → m ≤ n
stood m n e = omega (arith, e)

same_count : (o q : Stream) → q ≡ o → o.faults ≤ q.faults
same_count o q e = stood o.faults q.faults (ap (λ s. s.faults) e)

pub reply_counts : (r : Reply) (o q : Stream) (status : Status) → PutOrLost r o q status → o.faults ≤ q.faults
reply_counts r o q Done h = stood o.faults q.faults h.2.still
reply_counts r o q Usage h = absurd h
reply_counts r o q ReadFault h = absurd h
reply_counts r o q WriteFault h = h.2.counted.0
reply_counts r o q NoMemory h = same_count o q h
reply_counts r o q DeviceLost h = stood o.faults q.faults h.2.put.still
reply_counts r o q (Small need len) h = same_count o q h.1
reply_counts r o q (Image fault) h = same_count o q h.1
reply_counts r o q (Script e) h = same_count o q h.1
reply_counts r o q (Packed p) h = same_count o q h.1
reply_counts r o q (Report p) h = same_count o q h.1
reply_counts r o q (Differs p) h = same_count o q h.1

-- a command that uses no device
pub none_lost : (r : Reply) (o q : Stream) (status : Status) → PutReply r o q status → PutOrLost r o q status
none_lost r o q Done h = h
none_lost r o q Usage h = h
none_lost r o q ReadFault h = h
none_lost r o q WriteFault h = h
none_lost r o q NoMemory h = h
none_lost r o q DeviceLost h = absurd h
none_lost r o q (Small need len) h = (ap refused_by h.0, h.1)
none_lost r o q (Image fault) h = (ap refused_by h.0, h.1)
none_lost r o q (Script e) h = h
none_lost r o q (Packed p) h = h
none_lost r o q (Report p) h = h
none_lost r o q (Differs p) h = h

spared_same : (how : How) (s : Store) → IsSpared how s s
spared_same Fresh s = refl
spared_same Again s = record { start = refl; log = refl; losses = omega arith }

pub none_left : (how : How) (r : Reply) (o q : Stream) (s : Store) (status : Status) → PutReply r o q status → LeavesStore how s s status
none_left how r o q s Done h = tt
none_left how r o q s Usage h = refl
none_left how r o q s ReadFault h = refl
none_left how r o q s WriteFault h = tt
none_left how r o q s NoMemory h = refl
none_left how r o q s DeviceLost h = absurd h
none_left how r o q s (Small need len) h = spared_same how s
none_left how r o q s (Image fault) h = spared_same how s
none_left how r o q s (Script e) h = refl
none_left how r o q s (Packed p) h = refl
none_left how r o q s (Report p) h = refl
none_left how r o q s (Differs p) h = refl

-- by way of some reply
pub some_counts : (Of : Reply → Type 0) (o q : Stream) (status : Status) → PutsSome PutOrLost Of o q status → o.faults ≤ q.faults
some_counts Of o q status (inl h) = same_count o q h.1
some_counts Of o q status (inr h) = reply_counts h.0 o q status h.2

pub some_left : (how : How) (Of : Reply → Type 0) (o q : Stream) (s : Store) (status : Status) → PutsSome PutReply Of o q status → LeavesStore how s s status
some_left how Of o q s status (inl h) = subst (LeavesStore how s s) (sym h.0) refl
some_left how Of o q s status (inr h) = none_left how h.0 o q s status h.2

-- an input that is not too long
pub within : (c : Command) (s : Store) (input : List ℕ) (r : Reply) → length input ≤ most_input → RepliesWithin c s input r → Replies c s input r
unfolding Replies
within c s input r l h =
    let short : ltb most_input (length input) ≡ false = le-ltb _ _ l in
    subst (λ b. RepliesUnless b c s input r) (sym short) h

pub by_reply : (c d : Command) (s : Store) (input : List ℕ) (r : Reply) (o q : Stream) (status : Status) → c ≡ d → length input ≤ most_input → RepliesWithin d s input r → PutOrLost r o q status → PutsSome PutOrLost (Replies c s input) o q status
by_reply c d s input r o q status e l h p = inr (r, within c s input r l (subst (λ (x : Command). RepliesWithin x s input r) (sym e) h), p)

pub by_some : (c d : Command) (s : Store) (input : List ℕ) (o q : Stream) (status : Status) → c ≡ d → length input ≤ most_input → PutsSome PutReply (RepliesWithin d s input) o q status → PutsSome PutOrLost (Replies c s input) o q status
by_some c d s input o q status e l (inl h) = inl h
by_some c d s input o q status e l (inr h) = by_reply c d s input h.0 o q status e l h.1 (none_lost h.0 o q status h.2)

pub name_counts : (status : Status) (o q : Stream) → PutsName status o q → o.faults ≤ q.faults
name_counts status o q (inl h) = stood o.faults q.faults h.still
name_counts status o q (inr h) = h.counted.0

-- ---- the line

-- an answer without a line leaves the sink as it was
no_line : (mid new : Stream) → PutsText [] mid new ⊎ PutsFront [] mid new → new ≡ mid
no_line mid new (inl h) = nothing_put mid new h
no_line mid new (inr h) = absurd (nothing_cut mid new h)

-- an exchange after the line
abbrev pub later : Exchange → Stream → Exchange
later x new = record x { sink_now = new }

-- the line is all that was put
named : (x : Exchange) (new : Stream) (status : Status) → x.sink_now ≡ x.sink → PutsName status x.sink_now new → PutsName status x.sink new
named x new status e h = subst (λ s. PutsName status s new) e h

pub on_input : (left : Option (List ℕ)) (P Q : List ℕ → Type 0) → ((input : List ℕ) → P input → Q input) → OfInput left P → OfInput left Q
on_input None P Q f h = tt
on_input (Some input) P Q f h = f input h

still_done : (c : Command) (x : Exchange) (new : Stream) (input : List ℕ) → new ≡ x.sink_now → IsDone c x input → IsDone c (later x new) input
still_done c x new input e d = record { text = d.text; replies = d.replies; put = subst (λ s. PutsText d.text x.sink s) (sym e) d.put }

still_cut : (c : Command) (x : Exchange) (new : Stream) (input : List ℕ) → new ≡ x.sink_now → IsCutOff c x input → IsCutOff c (later x new) input
still_cut c x new input e d = record { text = d.text; replies = d.replies; put = subst (λ s. PutsFront d.text x.sink s) (sym e) d.put }

still_stopped : (c : Command) (x : Exchange) (new : Stream) (input : List ℕ) → PutsName DeviceLost x.sink_now new → IsStopped (λ from status. x.sink_now ≡ from) c x input → IsStopped (λ from status. PutsName status from new) c (later x new) input
still_stopped c x new input name d = record {
  text = d.text;
  reply = d.reply;
  replies = d.replies;
  with_text = d.with_text;
  middle = d.middle;
  put = d.put;
  named = subst (λ (s : Stream). PutsName DeviceLost s new) d.named name;
}

abbrev Unnamed : Exchange → Stream → Status → Type 0
Unnamed x from status = x.sink_now ≡ from

abbrev Named : Stream → Stream → Status → Type 0
Named new from status = PutsName status from new

answered_to : (c : Command) (x : Exchange) (new : Stream) (status : Status)
    → PutsName status x.sink_now new → AnsweredTo (Unnamed x) c x status → AnsweredTo (Named new) c (later x new) status
answered_to c x new Done name h =
    (h.0, on_input (input_of c x) (IsDone c x) (IsDone c (later x new)) (λ input d. still_done c x new input (no_line x.sink_now new name) d) h.1)
answered_to c x new Usage name h = h
answered_to c x new ReadFault name h = (h.0, h.1, h.2, named x new ReadFault h.3 name)
answered_to c x new WriteFault name h =
    let e : new ≡ x.sink_now = no_line x.sink_now new name in (
      subst (λ s. FaultCounted x.sink.faults s.faults) (sym e) h.0,
      h.1,
      on_input (input_of c x) (IsCutOff c x) (IsCutOff c (later x new)) (λ input d. still_cut c x new input e d) h.2,
    )
answered_to c x new NoMemory name h = (h.0, named x new NoMemory h.1 name)
answered_to c x new DeviceLost name h =
    (h.0, h.1, on_input (input_of c x) (IsStopped (Unnamed x) c x) (IsStopped (Named new) c (later x new)) (λ input d. still_stopped c x new input name d) h.2)
answered_to c x new (Small need len) name h = (h.0, h.1, h.2, named x new (Small need len) h.3 name)
answered_to c x new (Image fault) name h = (h.0, h.1, h.2, named x new (Image fault) h.3 name)
answered_to c x new (Script e) name h = (h.0, h.1, h.2, named x new (Script e) h.3 name)
answered_to c x new (Packed place) name h = (h.0, h.1, h.2, named x new (Packed place) h.3 name)
answered_to c x new (Report place) name h = (h.0, h.1, h.2, named x new (Report place) h.3 name)
answered_to c x new (Differs place) name h = (h.0, h.1, h.2, named x new (Differs place) h.3 name)

pub answered : (command : Option Command) (x : Exchange) (new : Stream) (status : Status)
    → PutsName status x.sink_now new → BeforeAnswerLine command x status → Answered command (later x new) status
answered (Some c) x new status name h = answered_to c x new status name h
answered None x new status name h = (h.0, h.1, h.2, named x new Usage h.3 (subst (λ s. PutsName s x.sink_now new) h.0 name))

-- ---- what a reply names

abbrev IsReply : Exchange → Command → Status → List ℕ → Type 0
IsReply x c status input = IsReplied c x status input ⊎ (status ≡ NoMemory)

out_of_memory : (x : Exchange) (c : Command) (left : Option (List ℕ)) → OfInput left (IsReply x c NoMemory)
out_of_memory x c None = tt
out_of_memory x c (Some input) = inr refl

refused : (c : Command) (x : Exchange) (status : Status) → OfInput (input_of c x) (λ input. RepliesIn x c input (Refuses status)) → OfInput (input_of c x) (IsReply x c status)
refused c x status h = on_input (input_of c x) (λ input. RepliesIn x c input (Refuses status)) (IsReply x c status) (λ input d. inl (Refuses status, d, refl)) h

by_refused : (r : Reply) (status : Status) → refused_by r ≡ Some status → status ≡ status_of r
by_refused (Puts text) status e = absurd (cc e)
by_refused (Refuses other) status e = cc e
by_refused (Finds other) status e = cc e

found : (c : Command) (x : Exchange) (status : Status) → OfInput (input_of c x) (IsRefused c x status) → OfInput (input_of c x) (IsReply x c status)
found c x status h = on_input (input_of c x) (IsRefused c x status) (IsReply x c status) (λ input d. inl (d.0, d.1, by_refused d.0 status d.2)) h

complete_to : (Names : Stream → Status → Type 0) (c : Command) (x : Exchange) (status : Status) → AnsweredTo Names c x status → NoFault x → OfInput (input_of c x) (IsReply x c status)
complete_to Names c x Done h ok = on_input (input_of c x) (IsDone c x) (IsReply x c Done) (λ input d. inl (Puts d.text, d.replies, refl)) h.1
complete_to Names c x Usage h ok = absurd h
complete_to Names c x ReadFault h ok = absurd (ok.0 h.1)
complete_to Names c x WriteFault h ok = absurd (ok.1 h.0)
complete_to Names c x NoMemory h ok = out_of_memory x c (input_of c x)
complete_to Names c x DeviceLost h ok = absurd (ok.2 h.0)
complete_to Names c x (Small need len) h ok = found c x (Small need len) h.2
complete_to Names c x (Image fault) h ok = found c x (Image fault) h.2
complete_to Names c x (Script e) h ok = refused c x (Script e) h.2
complete_to Names c x (Packed p) h ok = refused c x (Packed p) h.2
complete_to Names c x (Report p) h ok = refused c x (Report p) h.2
complete_to Names c x (Differs p) h ok = refused c x (Differs p) h.2

pub complete : (command : Option Command) (x : Exchange) (status : Status) → Answered command x status → IsComplete command x status
complete (Some c) x status h = complete_to (λ from named. PutsName named from x.sink_now) c x status h
complete None x status h = h.0
