-- What a finish makes of the table of versions, and what an opened table is, as the kernel over tables has them.
use Rattle.std.proofs.Common.{◌≡◌, ℕ, ◌<◌, Bool, true, false, List, cond, length, Option, Some, None, refl, sym, ap, ◌∙◌, arith}
use Rattle.std.specs.Prelude.{is_some, slice_index}
use Rattle.object_sets.specs.ObjectSets.{is_among}
use Rattle.kernel_model.specs.Effects.{written}
use Rattle.kernel_model.specs.Items.{FinishRecord}
use Rattle.table_machine.specs.Events.{touched}
use Rattle.ver_table.specs.Chains.{Chain, chain_at, holds_newest, installed, noted}
use Rattle.ver_table.specs.Tabled.{AreTouched, tabled}
use Rattle.committed_state.specs.Committed.{IsFinishOf}
use Rattle.committed_state.specs.Joining.{AreTouchedBy, IsFreeAt, touched_by}
use Rattle.committed_state.specs.declared.joining.Joining.{Joining}

-- what the law of the table says of one object
pub record Touches (i : FinishRecord) : Type 0 where
  pub writes : (o k : ℕ) (words : List ℕ) (c : Chain) → holds_newest k c.stored ≡ false → touched i o k (Some words) (tabled c) ≡ tabled (installed k i.point c)
  pub reads : (o k : ℕ) (c : Chain) → is_among o i.run.reads ≡ true → touched i o k None (tabled c) ≡ tabled (noted i.point c)
  pub neither : (o k : ℕ) (c : Chain) → is_among o i.run.reads ≡ false → touched i o k None (tabled c) ≡ tabled c

-- one object is what the finish makes of it
pub one_tabled : (i : FinishRecord) (j : Joining) (o slot : ℕ) (c : Chain) → Touches i → IsFinishOf j i → (is_among o j.written ≡ true → IsFreeAt slot j.point.0 c) → tabled (touched_by j o slot c) ≡ touched i o slot (written i.run.writes o) (tabled c)
one_tabled i j o slot c t f free =
    at (is_among o j.written) (is_among o j.reads) (written i.run.writes o) refl refl (f.writes o)
  where
    reads : is_among o i.run.reads ≡ is_among o j.reads
    reads = ap (is_among o) f.reads

    at : (w r : Bool) (ws : Option (List ℕ)) → is_among o j.written ≡ w → is_among o j.reads ≡ r → is_some ws ≡ is_among o j.written → tabled (cond w (installed slot j.point.0 c) (cond r (noted j.point.0 c) c)) ≡ touched i o slot ws (tabled c)
    at true r (Some words) e g h = ap (λ (p : ℕ). tabled (installed slot p c)) (sym f.point) ∙ sym (t.writes o slot words c (free e).older)
    at true r None e g h = absurd (cc (h, e))
    at false r (Some words) e g h = absurd (cc (h, e))
    at false true None e g h = ap (λ (p : ℕ). tabled (noted p c)) (sym f.point) ∙ sym (t.reads o slot c (reads ∙ g))
    at false false None e g h = sym (t.neither o slot c (reads ∙ g))

-- so are all
pub all_touched_by : (i : FinishRecord) (j : Joining) (slots : List ℕ) (count : ℕ) (old new : List Chain) → Touches i → IsFinishOf j i → length old ≡ count → ((o : ℕ) → o < count → is_among o j.written ≡ true → IsFreeAt (slice_index slots o) j.point.0 (chain_at old o)) → AreTouchedBy j slots count old new → AreTouched i slots old new
all_touched_by i j slots count old new t f l free h = record {
  number = h.number;
  each = λ o b. ap tabled (h.first o (omega (arith, b, l))) ∙ one_tabled i j o (slice_index slots o) (chain_at old o) t f (free o (omega (arith, b, l)));
}
