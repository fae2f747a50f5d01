-- A new version in a slot: what the order and the slots then have.
use Rattle.std.proofs.Common.{◌≡◌, ℕ, ◌<◌, ◌≤◌, Bool, true, false, cond, eqb, not, ◌||◌, List, [], ◌∷◌, length, set, map, filter, Option, Some, None, refl, sym, ap, ap₂, ◌∙◌, arith, get_or-set_same, get_or-set_other}
use Rattle.std.proofs.lemmas.List.{length-set}
use Rattle.std.proofs.lemmas.Bool.{eqb-false}
use Rattle.object_sets.specs.ObjectSets.{is_among}
use Rattle.nv_base.specs.declared.ids.Point.{Point}
use Rattle.interval.specs.Ranges.{number_of}
use Rattle.ver_table.specs.Chains.{Place, newest_ended, without}
use Rattle.ver_table.specs.Slots.{AreSlots, begin_at, stored_at}
use Rattle.ver_table.proofs.Counts.{below-gap, below-slots}

-- all but one slot
abbrev pub others : ℕ → List ℕ → List ℕ
others k ks = filter (λ j. not (eqb j k)) ks

not-among : (k : ℕ) (ks : List ℕ) → is_among k (others k ks) ≡ false
not-among k [] = refl
not-among k (j ∷ ks) = at (eqb j k) refl (not-among k ks)
  where
    at : (b : Bool) → eqb j k ≡ b → is_among k (others k ks) ≡ false → is_among k (cond (not b) (j ∷ others k ks) (others k ks)) ≡ false
    at true f e = e
    at false f e = rw f e

others-among : (k x : ℕ) (ks : List ℕ) → is_among x ks ≡ false → is_among x (others k ks) ≡ false
others-among k x [] e = e
others-among k x (j ∷ ks) e = at (others-among k x ks) (not (eqb j k)) (eqb j x) refl e
  where
    at : (is_among x ks ≡ false → is_among x (others k ks) ≡ false) → (b c : Bool) → eqb j x ≡ c → (c || is_among x ks) ≡ false → is_among x (cond b (j ∷ others k ks) (others k ks)) ≡ false
    at rest b true f e = absurd (cc e)
    at rest true false f e = rw f (rest e)
    at rest false false f e = rest e

pub others-slots : (n k : ℕ) (ks : List ℕ) → AreSlots n ks → AreSlots n (others k ks)
others-slots n k [] s = s
others-slots n k (j ∷ ks) s = at (others-slots n k ks s.2) (not (eqb j k))
  where
    at : AreSlots n (others k ks) → (b : Bool) → AreSlots n (cond b (j ∷ others k ks) (others k ks))
    at rest true = (s.0, others-among k j ks s.1, rest)
    at rest false = rest

-- with the slot in front they are slots again
pub front-slots : (n k : ℕ) (ks : List ℕ) → k < n → AreSlots n ks → AreSlots n (k ∷ others k ks)
front-slots n k ks l s = (l, not-among k ks, others-slots n k ks s)

-- there is room for one more
pub others-few : (n k : ℕ) (ks : List ℕ) → k < n → n ≤ 8 → AreSlots n ks → length (others k ks) < 8
others-few n k ks l few s =
    let gap = below-gap n (λ j. is_among j (others k ks)) k l (not-among k ks) in
    let all = below-slots n (others k ks) (others-slots n k ks s) in
    omega (arith, gap, all, few)

without-map : (begins : List Point) (ends : List (Option Point)) (k : ℕ) (ks : List ℕ) → without k (map (stored_at begins ends) ks) ≡ map (stored_at begins ends) (others k ks)
without-map begins ends k [] = refl
without-map begins ends k (j ∷ ks) = at (not (eqb j k)) (without-map begins ends k ks)
  where
    at : (b : Bool) → without k (map (stored_at begins ends) ks) ≡ map (stored_at begins ends) (others k ks) →
        cond b (stored_at begins ends j ∷ without k (map (stored_at begins ends) ks)) (without k (map (stored_at begins ends) ks)) ≡ map (stored_at begins ends) (cond b (j ∷ others k ks) (others k ks))
    at true e = ap (λ (vs : List Place). stored_at begins ends j ∷ vs) e
    at false e = e

-- a slot that is not written has what it had
stored_other : (begins : List Point) (ends : List (Option Point)) (p : Point) (k0 k j : ℕ) → (j ≡ k → ⊥) → (j ≡ k0 → ⊥) → stored_at (set begins k p) (set (set ends k0 (Some p)) k None) j ≡ stored_at begins ends j
stored_other begins ends p k0 k j n m =
    ap₂ (λ (b : ℕ) (e : Option ℕ). let v : Place = record { slot = j; begin = b; end = e } in v)
    (ap (λ (q : Point). q.0) (get_or-set_other begins k j p (record { 0 = 0 }) n))
    (ap number_of (get_or-set_other (set ends k0 (Some p)) k j None None n ∙ get_or-set_other ends k0 j (Some p) None m))

map-other : (begins : List Point) (ends : List (Option Point)) (p : Point) (k0 k : ℕ) (ks : List ℕ) → is_among k ks ≡ false → is_among k0 ks ≡ false →
    map (stored_at (set begins k p) (set (set ends k0 (Some p)) k None)) ks ≡ map (stored_at begins ends) ks
map-other begins ends p k0 k [] n m = refl
map-other begins ends p k0 k (j ∷ ks) n m = at (map-other begins ends p k0 k ks) (eqb j k) (eqb j k0) refl refl n m
  where
    at : (is_among k ks ≡ false → is_among k0 ks ≡ false → map (stored_at (set begins k p) (set (set ends k0 (Some p)) k None)) ks ≡ map (stored_at begins ends) ks) → (b c : Bool) → eqb j k ≡ b → eqb j k0 ≡ c → (b || is_among k ks) ≡ false → (c || is_among k0 ks) ≡ false →
        stored_at (set begins k p) (set (set ends k0 (Some p)) k None) j ∷ map (stored_at (set begins k p) (set (set ends k0 (Some p)) k None)) ks ≡ stored_at begins ends j ∷ map (stored_at begins ends) ks
    at rest true c f g n m = absurd (cc n)
    at rest false true f g n m = absurd (cc m)
    at rest false false f g n m = ap₂ (λ (v : Place) (vs : List Place). v ∷ vs) (stored_other begins ends p k0 k j (eqb-false j k f) (eqb-false j k0 g)) (rest n m)

-- the chain after a new version
pub stored_installed : (begins : List Point) (ends : List (Option Point)) (p : Point) (k0 k n : ℕ) (ks : List ℕ) → AreSlots n (k0 ∷ ks) → k < length begins → k < length ends → k0 < length ends → eqb k0 k ≡ false →
    map (stored_at (set begins k p) (set (set ends k0 (Some p)) k None)) (k ∷ others k (k0 ∷ ks)) ≡ record { slot = k; begin = p.0; end = None } ∷ newest_ended p.0 (without k (map (stored_at begins ends) (k0 ∷ ks)))
stored_installed begins ends p k0 k n ks s kb ke k0e e =
    rw e
    (ap₂ (λ (v : Place) (vs : List Place). v ∷ vs)
    (new kb ke)
    (ap₂ (λ (v : Place) (vs : List Place). v ∷ vs)
    (old (eqb-false k0 k e) k0e)
    (map-other begins ends p k0 k (others k ks) (not-among k ks) (others-among k k0 ks s.1) ∙ sym (without-map begins ends k ks))))
  where
    new : k < length begins → k < length ends → stored_at (set begins k p) (set (set ends k0 (Some p)) k None) k ≡ record { slot = k; begin = p.0; end = None }
    new lb le =
        let long : k < length (set ends k0 (Some p)) = omega (arith, le, length-set ends k0 (Some p)) in
        ap₂ (λ (b : ℕ) (e : Option ℕ). let v : Place = record { slot = k; begin = b; end = e } in v)
        (ap (λ (q : Point). q.0) (get_or-set_same begins k p (record { 0 = 0 }) lb))
        (ap number_of (get_or-set_same (set ends k0 (Some p)) k None None long))

    old : (k0 ≡ k → ⊥) → k0 < length ends → stored_at (set begins k p) (set (set ends k0 (Some p)) k None) k0 ≡ record { slot = k0; begin = begin_at begins k0; end = Some p.0 }
    old n l =
        ap₂ (λ (b : ℕ) (e : Option ℕ). let v : Place = record { slot = k0; begin = b; end = e } in v)
        (ap (λ (q : Point). q.0) (get_or-set_other begins k k0 p (record { 0 = 0 }) n))
        (ap number_of (get_or-set_other (set ends k0 (Some p)) k k0 None None n ∙ get_or-set_same ends k0 (Some p) None l))
