-- A finish that is granted, all of whose writes are made, and one that joins on another core.
use Rattle.std.proofs.Common.{◌≡◌, ℕ, ◌||◌, Bool, true, false, List, [], ◌∷◌, Option, Some, None, refl, sym, ap, ◌∙◌, subst}
use Rattle.std.specs.Prelude.{is_some}
use Rattle.std.specs.List.{list_any}
use Rattle.object_sets.specs.ObjectSets.{is_among}
use Rattle.rv_core.specs.State.{MachineState}
use Rattle.nv_base.specs.declared.lines.Entry.{Entry}
use Rattle.kernel_model.specs.Chain.{cut}
use Rattle.kernel_model.specs.Effects.{Write, written}
use Rattle.kernel_model.specs.Intervals.{Interval}
use Rattle.kernel_model.specs.Items.{FinishRecord}
use Rattle.device_model.specs.IndexWords.{Index}
use Rattle.interval.specs.Ranges.{range_of}
use Rattle.interval.specs.declared.ranges.Interval as own
use Rattle.table_machine.specs.Tables as table
use Rattle.table_machine.specs.Tables.{Saves}
use Rattle.table_machine.specs.Events.{cut_seat}
use Rattle.vol_copy.specs.declared.attempt.Attempt.{Attempt}
use Rattle.vol_copy.specs.Tries.{IsSeat, has_read}
use Rattle.core_seats.specs.declared.seat.Seat.{Seat}
use Rattle.core_seats.specs.declared.seat.Saving.{Saving}
use Rattle.core_seats.specs.Holding.{IsFromSlot, StandsForBy}
use Rattle.core_seats.specs.Steps.{Completes, Grants, IsCutBy}

pub grants : (s : Seat) (e : Entry) → Grants s e (record s { saving = Some (record { entry = e; is_whole = false }) })
unfolding Grants
grants s e = λ o i after left ready entry task run some. record {
  finish = i;
  left = left;
  is = refl;
  whole = λ e. absurd (cc e);
  begun = λ e. some;
  entry = entry;
  outcome = o;
  ended = ready;
  task = task;
  run = run;
}

pub completes : (s : Seat) (v : Saving) → s.saving ≡ Some v → Completes s (record s { saving = Some (record v { is_whole = true }) })
unfolding Completes
completes s v e = λ i after left h.
    let g = subst (λ w. StandsForBy s after w (Saves i after left)) e h in
    let same : i ≡ g.finish = cc g.is in
    record {
      finish = g.finish;
      left = 0;
      is = ap (λ (j : FinishRecord). Saves j after 0) same;
      whole = λ f. refl;
      begun = λ f. absurd (cc f);
      entry = g.entry;
      outcome = g.outcome;
      ended = g.ended;
      task = g.task;
      run = g.run;
    }

-- what a set of objects is to a finish that wrote them
pub read_same : (objects reads : List ℕ) (ws : List Write) → ((o : ℕ) → is_some (written ws o) ≡ is_among o objects) → list_any (λ o. is_some (written ws o)) reads ≡ list_any (λ o. is_among o objects) reads
read_same objects [] ws e = refl
read_same objects (o ∷ reads) ws e = ap (λ b. b || list_any (λ o. is_some (written ws o)) reads) (e o) ∙ ap (λ b. is_among o objects || b) (read_same objects reads ws e)

-- the law of attempts that are cut
abbrev pub CutLaw : Type 0
CutLaw = (a : Attempt) (i : Interval) (seat : table.Seat MachineState) (f : FinishRecord) → IsSeat a i seat → IsSeat a (cut f.point (has_read a f.run.writes) i) (cut_seat f seat)

from_cut : (slot : ℕ) (f : FinishRecord) (seat : table.Seat MachineState) → IsFromSlot slot seat → IsFromSlot slot (cut_seat f seat)
from_cut slot f table.Vacant h = tt
from_cut slot f (table.Runs t) h = tt
from_cut slot f (table.Copies t k) h = h
from_cut slot f (table.Waits t o) h = tt
from_cut slot f (table.Saves i after left) h = tt

pub is_cut : (s : Seat) (point : ℕ) (objects : List ℕ) (reads : own.Interval) → CutLaw → range_of reads ≡ cut point (list_any (λ o. is_among o objects) s.attempt.reads) (range_of s.reads) → IsCutBy point objects s (record s { reads = reads })
unfolding IsCutBy
is_cut s point objects reads law e = λ after i seat p w h. at after i seat p w s.saving h
  where
    at : (after : Index) (i : FinishRecord) (seat : table.Seat MachineState) → i.point ≡ point → ((o : ℕ) → is_some (written i.run.writes o) ≡ is_among o objects) → (v : Option Saving) → StandsForBy s after v seat → StandsForBy (record s { reads = reads }) after v (cut_seat i seat)
    at after i seat p w None h =
        let same : cut i.point (has_read s.attempt i.run.writes) (range_of s.reads) ≡ range_of reads =
        ap (λ (k : ℕ). cut k (has_read s.attempt i.run.writes) (range_of s.reads)) p ∙ ap (λ (b : Bool). cut point b (range_of s.reads)) (read_same objects s.attempt.reads i.run.writes w) ∙ sym e in
        (subst (λ k. IsSeat s.attempt k (cut_seat i seat)) same (law s.attempt (range_of s.reads) seat i h.0), from_cut s.slot i seat h.1)
    at after i seat p w (Some v) h = record {
      finish = h.finish;
      left = h.left;
      is = ap (cut_seat i) h.is;
      whole = h.whole;
      begun = h.begun;
      entry = h.entry;
      outcome = h.outcome;
      ended = h.ended;
      task = h.task;
      run = h.run;
    }

-- ---- a common object of two sets, of which the first is walked over

pub common_now : (objects os all : List ℕ) (o : ℕ) → all ≡ o ∷ os → is_among o objects ≡ true → list_any (λ x. is_among x objects) all ≡ true
common_now objects os all o e f = ap (list_any (λ x. is_among x objects)) e ∙ ap (λ b. b || list_any (λ x. is_among x objects) os) f

pub common_later : (objects os all : List ℕ) (o : ℕ) → all ≡ o ∷ os → is_among o objects ≡ false → list_any (λ x. is_among x objects) all ≡ list_any (λ x. is_among x objects) os
common_later objects os all o e f = ap (list_any (λ x. is_among x objects)) e ∙ ap (λ b. b || list_any (λ x. is_among x objects) os) f
