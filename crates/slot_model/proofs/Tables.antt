-- The tables change as what is kept does, and choose the same.
use Rattle.std.proofs.Common.{◌≡◌, ℕ, ◌≤◌, Bool, true, false, cond, eqb, ltb, not, max, min, List, [], ◌∷◌, Option, Some, None, refl, sym, ap, ◌∙◌, subst, arith, ⊎_elim}
use Rattle.std.specs.Prelude.{filter, is_none, is_some, ◌&&◌, ◌||◌, option_map}
use Rattle.std.specs.List.{AllByRecursion}
use Rattle.std.proofs.lemmas.Bool.{or_cases, or_parts}
use Rattle.kernel_model.specs.Effects.{written}
use Rattle.kernel_model.specs.Items.{FinishRecord}
use Rattle.kernel_model.specs.Replay.{DeviceState}
use Rattle.kernel_model.specs.Versions.{Read, Version, find_version, version_read, versions, versions_to}
use Rattle.kernel_model.specs.Intervals.{Interval, read_interval, sooner, within}
use Rattle.kernel_model.specs.History.{AreFound, IsNumbered}
use Rattle.kernel_model.specs.Chain.{cut, floored, is_newest, is_overwritten}
use Rattle.kernel_model.proofs.ForCallers.{EndsBy, IsLawful, IsOlder, ends_by, found, interval_cut, tops, written_by}
use Rattle.slot_model.specs.Kept.{Held, chosen_held, with_held, without_slot}
use Rattle.slot_model.specs.Tabled.{Place, chosen_place, installed, is_written_read, place_of, places_of, with_place}

-- the tables choose the same
pub choose_places : (hi : Option ℕ) (chain : List Held) → chosen_place hi (places_of chain) ≡ option_map place_of (chosen_held hi chain)
choose_places hi [] = refl
choose_places None (h ∷ hs) = refl
choose_places (Some hi) (h ∷ hs) = go (choose_places (Some hi) hs) (ltb h.version.begin hi)
  where
    go : chosen_place (Some hi) (places_of hs) ≡ option_map place_of (chosen_held (Some hi) hs) → (b : Bool) → cond b (Some (place_of h)) (chosen_place (Some hi) (places_of hs)) ≡ option_map place_of (cond b (Some h) (chosen_held (Some hi) hs))
    go rest true = refl
    go rest false = rest

places_without : (k : ℕ) (hs : List Held) → places_of (without_slot k hs) ≡ filter (λ q. not (eqb q.slot k)) (places_of hs)
places_without k [] = refl
places_without k (h ∷ hs) = go (places_without k hs) (eqb h.slot k)
  where
    go : places_of (without_slot k hs) ≡ filter (λ q. not (eqb q.slot k)) (places_of hs) → (b : Bool) → places_of (cond (not b) (h ∷ without_slot k hs) (without_slot k hs)) ≡ cond (not b) (place_of h ∷ filter (λ q. not (eqb q.slot k)) (places_of hs)) (filter (λ q. not (eqb q.slot k)) (places_of hs))
    go rest true = rest
    go rest false = ap (λ ps. place_of h ∷ ps) rest

-- the tables after a finish
pub install_places : (i : FinishRecord) (words : List ℕ) (k : ℕ) (chain : List Held) → places_of (with_held i (Some words) k chain) ≡ installed i.point k (places_of chain)
install_places i words k [] = refl
install_places i words k (h ∷ hs) = ap (λ (ps : List Place). (let a : Place = record { slot = k; begin = i.point; end = None } in a) ∷ (let b : Place = record { slot = h.slot; begin = h.version.begin; end = Some i.point } in b) ∷ ps) (places_without k hs)

-- an interval is cut by a place as by the version
pub cut_by_place : (floor : ℕ) (h : Held) (v : Version) (i : Interval) → h.version ≡ floored floor v → floor ≤ i.lo → within (Some v) i ≡ with_place (place_of h) i
cut_by_place floor h v i e l =
    let m : max v.begin i.lo ≡ max (max floor v.begin) i.lo = omega (arith, l) in
    ap (λ (n : ℕ). let j : Interval = record { lo = n; hi = sooner v.end i.hi } in j) m ∙ sym (ap (λ (x : Version). let j : Interval = record { lo = max x.begin i.lo; hi = sooner x.end i.hi } in j) e)

-- an end that comes by p
abbrev pub ComesBy : ℕ → Option ℕ → Type 0
ComesBy p None = ⊥
ComesBy p (Some e) = e ≤ p

-- an end by p cuts as p does
cut_idle : (p : ℕ) (i : Interval) → ComesBy p i.hi → cut p true i ≡ i
cut_idle p i h = go i.hi refl h
  where
    go : (hi : Option ℕ) → i.hi ≡ hi → ComesBy p hi → record { lo = i.lo; hi = sooner (Some p) i.hi } ≡ i
    go None e h = absurd h
    go (Some e) f h =
        let z : min p e ≡ e = omega (arith, h) in
        ap (λ (x : Option ℕ). let j : Interval = record { lo = i.lo; hi = x } in j) (ap (sooner (Some p)) f ∙ ap (λ (n : ℕ). Some n) z ∙ sym f)

-- the sooner of two ends comes by when one does
sooner_left : (p : ℕ) (a b : Option ℕ) → ComesBy p a → ComesBy p (sooner a b)
sooner_left p None b h = absurd h
sooner_left p (Some a) None h = h
sooner_left p (Some a) (Some b) h = omega (arith, h)

sooner_right : (p : ℕ) (a b : Option ℕ) → ComesBy p b → ComesBy p (sooner a b)
sooner_right p None b h = h
sooner_right p (Some a) None h = absurd h
sooner_right p (Some a) (Some b) h = omega (arith, h)

-- a version of an object that the finish writes has ended by its point, or is the newest
old_end : (base : DeviceState) (i : FinishRecord) (o : ℕ) (words : List ℕ) (history : List FinishRecord) → IsLawful (i ∷ history) → written i.run.writes o ≡ Some words → (n : ℕ) (v : Version) → find_version n (versions base o history) ≡ Some v → is_none v.end ≡ false → ComesBy i.point v.end
old_end base i o words history h w n v e f = found (λ v. is_none v.end ≡ false → ComesBy i.point v.end) n (versions base o history) v (go history h.0 h.1) e f
  where
    same : (e : Option ℕ) → EndsBy i.point e → ComesBy i.point e
    same None k = k
    same (Some e) k = k

    all : (vs : List Version) → AllByRecursion (λ v. EndsBy i.point v.end) vs → AllByRecursion (λ v. is_none v.end ≡ false → ComesBy i.point v.end) vs
    all [] k = tt
    all (v ∷ vs) k = (λ e. same v.end k.0, all vs k.1)

    go : (history : List FinishRecord) → AllByRecursion (IsOlder i) history → IsLawful history → AllByRecursion (λ v. is_none v.end ≡ false → ComesBy i.point v.end) (versions base o history)
    go [] a l = ((λ f. absurd (cc f)), tt)
    go (x ∷ history) a l = by (go history a.1 l.1) (written x.run.writes o) refl
      where
        by : AllByRecursion (λ v. is_none v.end ≡ false → ComesBy i.point v.end) (versions base o history) → (u : Option (List ℕ)) → written x.run.writes o ≡ u → AllByRecursion (λ v. is_none v.end ≡ false → ComesBy i.point v.end) (tops None base o x history u)
        by rest None g = rest
        by rest (Some others) g =
            let before : x.point ≤ i.point = (written_by i o words w (x ∷ history) a).0 others g in
            ((λ f. absurd (cc f)), all (versions_to (Some x.point) base o history) (ends_by i.point x.point base o history before l.1 (written_by x o others g history l.0)))

-- what is overwritten was read and is written
over_read : (base : DeviceState) (history : List FinishRecord) (i : FinishRecord) (reads : List Read) → is_overwritten base history i reads ≡ true → is_written_read i reads ≡ true
over_read base history i [] e = e
over_read base history i (r ∷ reads) e = by (over_read base history i reads) (is_some (written i.run.writes r.object)) e
  where
    by : (is_overwritten base history i reads ≡ true → is_written_read i reads ≡ true) → (b : Bool) → ((b && is_newest (version_read base history r)) || is_overwritten base history i reads) ≡ true → (b || is_written_read i reads) ≡ true
    by rest true e = refl
    by rest false e = rest e

-- a finish that joins cuts the intervals of those that read what it writes
pub cut_readers : (base : DeviceState) (i : FinishRecord) (history : List FinishRecord) → IsLawful (i ∷ history) → IsNumbered base (i ∷ history) → (start : ℕ) (reads : List Read) → AreFound base history reads →
    read_interval base (i ∷ history) start reads ≡ cut i.point (is_written_read i reads) (read_interval base history start reads)
cut_readers base i history h n start reads k = interval_cut base i history n start reads k ∙ go (is_overwritten base history i reads) refl (is_written_read i reads) refl
  where
    some_written : (w : Option (List ℕ)) → is_some w ≡ true → (words : List ℕ) × (w ≡ Some words)
    some_written None e = absurd (cc e)
    some_written (Some words) e = (words, refl)

    ended : (reads : List Read) → AreFound base history reads → is_overwritten base history i reads ≡ false → is_written_read i reads ≡ true → ComesBy i.point (read_interval base history start reads).hi
    ended [] k e f = absurd (cc f)
    ended (r ∷ reads) k e f = rw k.0.1 (⊎_elim here (λ g. sooner_right i.point k.0.0.end (read_interval base history start reads).hi (ended reads k.1 parts.1 g)) (or_cases (is_some (written i.run.writes r.object)) (is_written_read i reads) f))
      where
        parts : ((is_some (written i.run.writes r.object) && is_newest (version_read base history r)) ≡ false) × (is_overwritten base history i reads ≡ false)
        parts = or_parts (is_some (written i.run.writes r.object) && is_newest (version_read base history r)) (is_overwritten base history i reads) e

        here : is_some (written i.run.writes r.object) ≡ true → ComesBy i.point (sooner k.0.0.end (read_interval base history start reads).hi)
        here g =
            let w = some_written (written i.run.writes r.object) g in
            let old : is_none k.0.0.end ≡ false = (let p = parts.0 in let q : (true && is_newest (Some k.0.0)) ≡ false = subst (λ b. (b && is_newest (Some k.0.0)) ≡ false) g (subst (λ x. (is_some (written i.run.writes r.object) && is_newest x) ≡ false) k.0.1 p) in q) in
            sooner_left i.point k.0.0.end (read_interval base history start reads).hi (old_end base i r.object w.0 history h w.1 r.writer k.0.0 k.0.1 old)

    go : (a : Bool) → is_overwritten base history i reads ≡ a → (b : Bool) → is_written_read i reads ≡ b → cut i.point a (read_interval base history start reads) ≡ cut i.point b (read_interval base history start reads)
    go true e true f = refl
    go false e false f = refl
    go true e false f = absurd (let g = over_read base history i reads e in cc (f, g))
    go false e true f = sym (cut_idle i.point (read_interval base history start reads) (ended reads k e f))
