-- An outside read by the table is that of the table machine.
use Rattle.std.proofs.Common.{◌≡◌, ◌<◌, ℕ, Bool, true, false, cond, List, Option, Some, None, refl, sym, ap, ap₂, ◌∙◌}
use Rattle.std.specs.Prelude.{IsSome, unwrap_or}
use Rattle.rv_core.specs.State.{MachineState}
use Rattle.nv_base.specs.declared.ids.ObjId.{ObjId}
use Rattle.kernel_model.specs.Intervals as model
use Rattle.kernel_model.specs.Turns.{Stale}
use Rattle.interval.specs.Ranges.{number_of, range_of}
use Rattle.interval.specs.declared.ranges.Interval.{Interval}
use Rattle.interval.specs.declared.version.Version.{Version}
use Rattle.slot_model.specs.Tabled.{Place, chosen_place}
use Rattle.table_machine.specs.Tables as machine
use Rattle.table_machine.specs.Places.{places_at}
use Rattle.table_machine.specs.Seats.{SeatTurn, fetch_version, open_copy}
use Rattle.ver_table.specs.Chains.{Chain, chain_at, in_slot, newest_before}
use Rattle.ver_table.specs.Tabled.{all_tabled}
use Rattle.ver_table.proofs.ChainsTabled.{chain_is, chosen_is}
use Rattle.validate.specs.Reading.{IsAdmitted, IsStale}
use Rattle.validate.specs.declared.reading.Stale as own

-- what an option has
pub some_place : (o : Option Place) → IsSome o → (p : Place) × (o ≡ Some p)
some_place None s = absurd (cc s)
some_place (Some p) s = (p, refl)

-- what the table machine makes of an outside read, by the test of the interval and by what it chooses
abbrev pub read_by : (n : ℕ) (t : machine.Try MachineState) (m : MachineState) (object : ℕ) → model.Interval → Bool → Option Place → SeatTurn MachineState
read_by n t m object i b p = cond b (record { seat = machine.Vacant; line = Stale n t.task i.lo (unwrap_or i.hi 0) }) (open_copy t m object p)

-- it is this one of the interval alone
read_at : (chains : List Chain) (n : ℕ) (t : machine.Try MachineState) (m : MachineState) (object : ℕ) (i : model.Interval) → t.interval ≡ i
    → fetch_version (all_tabled chains) n t m object ≡ read_by n t m object i (model.is_empty i) (chosen_place i.hi (places_at (all_tabled chains) object))
read_at chains n t m object i e = ap (λ (j : model.Interval). read_by n t m object j (model.is_empty j) (chosen_place j.hi (places_at (all_tabled chains) object))) e

pub admitted : (chains : List Chain) (reads : Interval) (object : ObjId) (v : Version) (p : Place) → model.is_empty (range_of reads) ≡ false → v.object ≡ object → v.slot < (chain_at chains object.0).slots → newest_before (number_of reads.hi) (chain_at chains object.0).stored ≡ Some p
    → v.slot ≡ p.slot → v.begin.0 ≡ p.begin → in_slot v.slot (chain_at chains object.0).stored ≡ Some p → IsAdmitted chains reads object.0 v
admitted chains reads object v p some same inside found slot begin stands =
    let chosen : chosen_place (range_of reads).hi (places_at (all_tabled chains) object.0) ≡ Some p =
    ap (λ (c : machine.Chain). chosen_place (range_of reads).hi c.places) (chain_is chains object.0) ∙ chosen_is (range_of reads).hi (chain_at chains object.0).stored ∙ found in
    record {
      some = some;
      named = ap (λ (o : ObjId). o.0) same;
      inside = inside;
      place = p;
      chosen = chosen;
      version = record { slot = slot; begin = begin; stands = ap (λ (o : ObjId). in_slot v.slot (chain_at chains o.0).stored) same ∙ stands };
      fetched = λ n t m e.
          read_at chains n t m object.0 (range_of reads) e
          ∙ ap (λ (b : Bool). read_by n t m object.0 (range_of reads) b (chosen_place (range_of reads).hi (places_at (all_tabled chains) object.0))) some
          ∙ ap (λ (x : Option Place). open_copy t m object.0 x) chosen;
    }

pub is_stale : (chains : List Chain) (reads : Interval) (object : ℕ) (s : own.Stale) → model.is_empty (range_of reads) ≡ true → s.lo.0 ≡ (range_of reads).lo → s.hi.0 ≡ unwrap_or (range_of reads).hi 0 → IsStale chains reads object s
is_stale chains reads object s none lo hi = record {
  none = none;
  lo = lo;
  hi = hi;
  fetched = λ n t m e.
      read_at chains n t m object (range_of reads) e
      ∙ ap (λ (b : Bool). read_by n t m object (range_of reads) b (chosen_place (range_of reads).hi (places_at (all_tabled chains) object))) none
      ∙ sym (ap₂ (λ (l h : ℕ). let u : SeatTurn MachineState = record { seat = machine.Vacant; line = Stale n t.task l h } in u) lo hi);
}
