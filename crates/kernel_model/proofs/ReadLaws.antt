-- An outside read leaves its attempt an interval that is not empty.
use Rattle.std.proofs.Common.{◌≡◌, ℕ, ◌<◌, Bool, true, false, cond, eqb, List, [], ◌∷◌, Option, Some, None, max, min, leb, ltb, refl, sym, ap, arith, ◌∙◌}
use Rattle.std.specs.Prelude.{◌&&◌, is_none}
use Rattle.std.specs.List.{AllByRecursion}
use Rattle.std.proofs.lemmas.Bool.{eq-eqb, eqb-false, eqb-true, ne_eqb, leb-false, ltb-true, lt-leb}
use Rattle.kernel_model.specs.Effects.{object_words, written}
use Rattle.kernel_model.specs.Items.{FinishRecord}
use Rattle.kernel_model.specs.Replay.{DeviceState}
use Rattle.kernel_model.specs.Versions.{Read, Version, chosen, find_version, older, version_read, versions, versions_to}
use Rattle.kernel_model.specs.Intervals.{Interval, is_empty, is_reached, sooner, within}
use Rattle.kernel_model.specs.Room.{is_below, meet}
use Rattle.kernel_model.specs.History.{IsNumbered}
use Rattle.kernel_model.specs.Chain.{is_newest}
use Rattle.kernel_model.proofs.Points.{found}
use Rattle.kernel_model.proofs.RoomLaws.{chosen-all, chosen-meets}
use Rattle.kernel_model.proofs.VersionLaws.{tops}

-- the newest version ends where all do
newest-end : (end : Option ℕ) (base : DeviceState) (o : ℕ) (history : List FinishRecord) (u : Version) → chosen None (versions_to end base o history) ≡ Some u → u.end ≡ end
newest-end end base o [] u e = let same : record { writer = base.number; begin = base.clock; end = end; words = object_words base.objects o } ≡ u = cc in ap (λ (x : Version). x.end) (sym same)
newest-end end base o (i ∷ history) u e = go (newest-end end base o history u) (written i.run.writes o) e
  where
    go : (chosen None (versions_to end base o history) ≡ Some u → u.end ≡ end) → (w : Option (List ℕ)) → chosen None (tops end base o i history w) ≡ Some u → u.end ≡ end
    go rest None e = rest e
    go rest (Some words) e = let same : record { writer = i.number; begin = i.point; end = end; words = words } ≡ u = cc in ap (λ (x : Version). x.end) (sym same)

-- below two ends is below the sooner of them
below_both : (p : ℕ) (a b : Option ℕ) → (is_below p a && is_below p b) ≡ true → is_reached p (sooner a b) ≡ false
below_both p None None h = refl
below_both p None (Some b) h = lt-leb b p (ltb-true p b h)
below_both p (Some a) None h = lt-leb a p (go (ltb p a) refl h)
  where
    go : (t : Bool) → ltb p a ≡ t → (t && true) ≡ true → p < a
    go true e f = ltb-true p a e
    go false e f = absurd (cc f)
below_both p (Some a) (Some b) h = go (ltb p a) (ltb p b) refl refl h
  where
    go : (t u : Bool) → ltb p a ≡ t → ltb p b ≡ u → (t && u) ≡ true → leb (min a b) p ≡ false
    go true true e f g = lt-leb (min a b) p (omega (arith, ltb-true p a e, ltb-true p b f))
    go true false e f g = absurd (cc g)
    go false u e f g = absurd (cc g)

-- so with a version that meets it an interval is not empty
meets-place : (v : Version) (i : Interval) → meet v i ≡ true → is_empty (within (Some v) i) ≡ false
meets-place v i h = below_both (max v.begin i.lo) v.end i.hi h

-- and the chosen version meets it
pub chosen-place : (base : DeviceState) (history : List FinishRecord) (o : ℕ) (i : Interval) (v : Version) → IsNumbered base history → is_empty i ≡ false → chosen i.hi (versions base o history) ≡ Some v → is_empty (within (Some v) i) ≡ false
chosen-place base history o i v n ne e = go i.hi refl ne e
  where
    go : (hi : Option ℕ) → i.hi ≡ hi → is_reached i.lo hi ≡ false → chosen hi (versions base o history) ≡ Some v → is_empty (within (Some v) (record { lo = i.lo; hi = i.hi })) ≡ false
    go None f ne e = rw (f, newest-end None base o history v e) refl
    go (Some hi) f ne e =
        rw f (meets-place v (record { lo = i.lo; hi = Some hi })
        (chosen-all (λ u. u.writer ≡ v.writer → meet u (record { lo = i.lo; hi = Some hi }) ≡ true) (Some hi) (versions base o history) v
        (chosen-meets i.lo hi (leb-false hi i.lo ne) base o history n None tt v e) e refl))

-- what ends at some point has an end, and so has all that is older
all_ended : (p : ℕ) (base : DeviceState) (o : ℕ) (history : List FinishRecord) → AllByRecursion (λ v. is_none v.end ≡ false) (versions_to (Some p) base o history)
all_ended p base o [] = (refl, tt)
all_ended p base o (i ∷ history) =
    elim (written i.run.writes o) as (λ w. AllByRecursion (λ v. is_none v.end ≡ false) (tops (Some p) base o i history w)) [
      | None ↦ all_ended p base o history
      | Some words ↦ (refl, all_ended i.point base o history)
    ]

older_ended : (base : DeviceState) (o : ℕ) (history : List FinishRecord) → AllByRecursion (λ v. is_none v.end ≡ false) (older (versions base o history))
older_ended base o [] = tt
older_ended base o (i ∷ history) =
    elim (written i.run.writes o) as (λ w. AllByRecursion (λ v. is_none v.end ≡ false) (older (tops None base o i history w))) [
      | None ↦ older_ended base o history
      | Some words ↦ all_ended i.point base o history
    ]

-- of some versions, where only the first has no end
first_unended : (vs : List Version) (n : ℕ) (u v : Version) → AllByRecursion (λ v. is_none v.end ≡ false) (older vs) → chosen None vs ≡ Some u → u.end ≡ None → find_version n vs ≡ Some v → is_none v.end ≡ eqb n u.writer
first_unended [] n u v h c d e = absurd (cc c)
first_unended (x ∷ xs) n u v h c d e = go (eqb x.writer n) refl e
  where
    same : x ≡ u
    same = cc

    go : (b : Bool) → eqb x.writer n ≡ b → cond b (Some x) (find_version n xs) ≡ Some v → is_none v.end ≡ eqb n u.writer
    go true f e =
        let here : u ≡ v = sym same ∙ cc in
        let at : u.writer ≡ n = ap (λ (y : Version). y.writer) (sym same) ∙ eqb-true x.writer n f in
        rw (← here, d, eq-eqb n u.writer (sym at)) refl
    go false f e =
        let other : n ≡ u.writer → ⊥ = λ g. eqb-false x.writer n f (ap (λ (y : Version). y.writer) same ∙ sym g) in
        rw (ne_eqb n u.writer other) (found (λ v. is_none v.end ≡ false) n xs v h e)

-- the version that was read has not ended just where its writer is that of the newest
pub newest-read : (base : DeviceState) (history : List FinishRecord) (r : Read) (u v : Version) → version_read base history r ≡ Some v → chosen None (versions base r.object history) ≡ Some u → is_newest (Some v) ≡ eqb r.writer u.writer
newest-read base history r u v e c = first_unended (versions base r.object history) r.writer u v (older_ended base r.object history) c (newest-end None base r.object history u c) e
