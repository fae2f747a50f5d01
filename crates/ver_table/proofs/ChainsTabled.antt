-- The chains of the table are those of the table machine, and change as they do.
use Rattle.std.proofs.Common.{◌≡◌, ℕ, zero, suc, ◌+◌, ◌<◌, true, false, cond, ltb, List, [], ◌∷◌, length, map, set, Option, Some, None, refl, sym, ap, ap₂, ◌∙◌, arith, add-zero}
use Rattle.std.proofs.lemmas.List.{length-map}
use Rattle.std.specs.Prelude.{slice_index}
use Rattle.object_sets.specs.ObjectSets.{is_among}
use Rattle.kernel_model.specs.Effects.{written}
use Rattle.kernel_model.specs.Items.{FinishRecord}
use Rattle.slot_model.specs.Tabled.{Place, chosen_place, installed}
use Rattle.set_model.specs.Sets.{TaskSet}
use Rattle.device_model.specs.IndexWords.{Index}
use Rattle.table_machine.specs.Tables.{Chain, chain_at, each_from}
use Rattle.table_machine.specs.Events.{all_touched, one_version, reopened, touched}
use Rattle.ver_table.specs.Chains as own
use Rattle.ver_table.specs.Tabled.{AreTouched, all_tabled, tabled}
use Rattle.ver_table.proofs.Reopens.{slots_told}

-- each object is where it was
pub chain_is : (chains : List own.Chain) (o : ℕ) → chain_at (all_tabled chains) o ≡ tabled (own.chain_at chains o)
chain_is [] o = refl
chain_is (c ∷ chains) zero = refl
chain_is (c ∷ chains) (suc o) = chain_is chains o

-- both choose the same version
pub chosen_is : (hi : Option ℕ) (vs : List Place) → chosen_place hi vs ≡ own.newest_before hi vs
chosen_is hi [] = refl
chosen_is None (v ∷ vs) = refl
chosen_is (Some hi) (v ∷ vs) = ap (λ (x : Option Place). cond (ltb v.begin hi) (Some v) x) (chosen_is (Some hi) vs)

-- a new version comes into a slot that does not hold the newest
pub installed_is : (k p : ℕ) (c : own.Chain) → own.holds_newest k c.stored ≡ false → (own.installed k p c).stored ≡ installed p k c.stored
installed_is k p c e = at c.stored e
  where
    at : (vs : List Place) → own.holds_newest k vs ≡ false → record { slot = k; begin = p; end = None } ∷ own.newest_ended p (own.without k vs) ≡ installed p k vs
    at [] e = refl
    at (v ∷ vs) e = rw e refl

-- an object that a finish writes
pub written_is : (i : FinishRecord) (o k : ℕ) (words : List ℕ) (c : own.Chain) → own.holds_newest k c.stored ≡ false → touched i o k (Some words) (tabled c) ≡ tabled (own.installed k i.point c)
written_is i o k words c e = ap (λ (ps : List Place). let x : Chain = record { bound = i.point; places = ps } in x) (sym (installed_is k i.point c e))

-- one that it reads
pub read_is : (i : FinishRecord) (o k : ℕ) (c : own.Chain) → is_among o i.run.reads ≡ true → touched i o k None (tabled c) ≡ tabled (own.noted i.point c)
read_is i o k c e = rw e refl

-- and any other
pub other_is : (i : FinishRecord) (o k : ℕ) (c : own.Chain) → is_among o i.run.reads ≡ false → touched i o k None (tabled c) ≡ tabled c
other_is i o k c e = rw e refl

-- all objects, from number k on
touched_from : (i : FinishRecord) (slots : List ℕ) (k : ℕ) (old new : List own.Chain) → length new ≡ length old
    → ((o : ℕ) → o < length old → tabled (own.chain_at new o) ≡ touched i (k + o) (slice_index slots (k + o)) (written i.run.writes (k + o)) (tabled (own.chain_at old o)))
    → all_touched i slots k (all_tabled old) ≡ all_tabled new
touched_from i slots k [] [] n e = refl
touched_from i slots k [] (c ∷ new) n e = absurd (omega (arith, n))
touched_from i slots k (d ∷ old) [] n e = absurd (omega (arith, n))
touched_from i slots k (d ∷ old) (c ∷ new) n e =
    let here = λ (m : ℕ) (x : Chain). touched i m (slice_index slots m) (written i.run.writes m) x in
    let first : tabled c ≡ here (k + 0) (tabled d) = e 0 (omega arith) in
    let z : k + 0 ≡ k = add-zero k in
    let rest = touched_from i slots (k + 1) old new (omega (arith, n)) (λ o l.
    let next : tabled (own.chain_at new o) ≡ here (k + suc o) (tabled (own.chain_at old o)) = e (suc o) (omega (arith, l)) in
    let m : k + suc o ≡ k + 1 + o = omega arith in
    next ∙ ap (λ (j : ℕ). here j (tabled (own.chain_at old o))) m) in
    ap (λ (x : Chain). x ∷ all_touched i slots (k + 1) (all_tabled old)) (sym (first ∙ ap (λ (j : ℕ). here j (tabled d)) z))
    ∙ ap (λ (xs : List Chain). tabled c ∷ xs) rest

pub all_are_touched : (i : FinishRecord) (slots : List ℕ) (old new : List own.Chain) → AreTouched i slots old new → all_touched i slots 0 (all_tabled old) ≡ all_tabled new
all_are_touched i slots old new h = touched_from i slots 0 old new h.number (λ o l.
    let here = λ (m : ℕ). touched i m (slice_index slots m) (written i.run.writes m) (tabled (own.chain_at old o)) in
    let z : o ≡ 0 + o = omega arith in
    h.each o l ∙ ap here z)

-- one after another, from number k on
opened_from : (k n : ℕ) (f : ℕ → Chain) (chains : List own.Chain) → length chains ≡ n → ((o : ℕ) → o < n → tabled (own.chain_at chains o) ≡ f (k + o)) → all_tabled chains ≡ each_from k n f
opened_from k zero f [] n e = refl
opened_from k zero f (c ∷ chains) n e = absurd (omega (arith, n))
opened_from k (suc m) f [] n e = absurd (omega (arith, n))
opened_from k (suc m) f (c ∷ chains) n e =
    let first : tabled c ≡ f (k + 0) = e 0 (omega arith) in
    let z : k + 0 ≡ k = add-zero k in
    let rest = opened_from (k + 1) m f chains (omega (arith, n)) (λ o l.
    let j : k + suc o ≡ k + 1 + o = omega arith in
    e (suc o) (omega (arith, l)) ∙ ap f j) in
    ap (λ (x : Chain). x ∷ all_tabled chains) (first ∙ ap f z) ∙ ap (λ (xs : List Chain). f k ∷ xs) rest

pub opened_is : (slots named : List ℕ) (p : ℕ) (chains : List own.Chain) → own.AreOpened slots named p chains → all_tabled chains ≡ each_from 0 (length slots) (λ o. one_version (slice_index named o) p)
opened_is slots named p chains h = opened_from 0 (length slots) (λ o. one_version (slice_index named o) p) chains h.number (λ o l.
    let z : o ≡ 0 + o = omega arith in
    ap tabled (h.each o l) ∙ ap (λ (m : ℕ). one_version (slice_index named m) p) z)

pub reopened_is : (set : TaskSet) (x : Index) (slots : List ℕ) (chains : List own.Chain) → length slots ≡ length set.objects → own.AreOpened slots x.slots x.clock chains → all_tabled chains ≡ reopened set x
reopened_is set x slots chains n h = opened_is slots x.slots x.clock chains h ∙ ap (λ (m : ℕ). each_from 0 m (λ o. one_version (slice_index x.slots o) x.clock)) n

-- lists are the same that are as long and have the same numbers
same_numbers : (xs ys : List ℕ) → length xs ≡ length ys → ((o : ℕ) → o < length ys → slice_index xs o ≡ slice_index ys o) → xs ≡ ys
same_numbers [] [] n e = refl
same_numbers [] (y ∷ ys) n e = absurd (omega (arith, n))
same_numbers (x ∷ xs) [] n e = absurd (omega (arith, n))
same_numbers (x ∷ xs) (y ∷ ys) n e = ap₂ (λ (z : ℕ) (zs : List ℕ). z ∷ zs) (e 0 (omega arith)) (same_numbers xs ys (omega (arith, n)) (λ o l. e (suc o) (omega (arith, l))))

pub slots_opened : (slots named : List ℕ) (p : ℕ) (chains : List own.Chain) → own.AreOpened slots named p chains → map (λ (c : own.Chain). c.slots) chains ≡ slots
slots_opened slots named p chains h =
    let long = length-map chains (λ (c : own.Chain). c.slots) in
    same_numbers (map (λ (c : own.Chain). c.slots) chains) slots (long ∙ h.number) (λ o l. slots_told chains o ∙ ap (λ (c : own.Chain). c.slots) (h.each o l))

pub slots_changed : (chains : List own.Chain) (o : ℕ) (c : own.Chain) → c.slots ≡ (own.chain_at chains o).slots → map (λ (d : own.Chain). d.slots) (set chains o c) ≡ map (λ (d : own.Chain). d.slots) chains
slots_changed [] o c e = refl
slots_changed (d ∷ chains) zero c e = ap (λ (n : ℕ). n ∷ map (λ (x : own.Chain). x.slots) chains) e
slots_changed (d ∷ chains) (suc o) c e = ap (λ (ns : List ℕ). d.slots ∷ ns) (slots_changed chains o c e)
