-- What one more write makes of the objects, and of the set of those written.
use Rattle.std.proofs.Common.{◌≡◌, ℕ, zero, suc, zero-add, ◌+◌, ◌<◌, ◌≤◌, Bool, true, false, cond, ltb, eqb, ◌||◌, List, [], ◌∷◌, map, set, Some, unwrap_or, refl, sym, ap, ◌∙◌, ne_eqb, arith}
use Rattle.std.specs.List.{AllByRecursion}
use Rattle.std.proofs.lemmas.Bool.{eqb-true, eqb-false, ltb-true, ltb-false}
use Rattle.object_sets.specs.ObjectSets.{inserted, is_among, with_object, IsIncreasing}
use Rattle.kernel_model.specs.Effects.{Objects, Write, put, put_from, reads_after, with_write, written}
use Rattle.kernel_model.proofs.ForCallers.{written-with_write}

-- nothing is put in
pub put_from-none : (k : ℕ) (m : Objects) → put_from k [] m ≡ m
put_from-none k [] = refl
put_from-none k (x ∷ xs) = ap (λ rest. x ∷ rest) (put_from-none (k + 1) xs)

-- a write of an object before k leaves those from k on
put_from-behind : (k : ℕ) (w : Write) (ws : List Write) (m : Objects) → w.object < k → put_from k (with_write w ws) m ≡ put_from k ws m
put_from-behind k w ws [] h = refl
put_from-behind k w ws (x ∷ xs) h =
    let e : written (with_write w ws) k ≡ written ws k = written-with_write w ws k ∙ ap (λ b. cond b (Some w.words) (written ws k)) (ne_eqb w.object k (λ f. omega (arith, h, f))) in
    ap (λ v. unwrap_or v x ∷ put_from (k + 1) (with_write w ws) xs) e ∙ ap (λ rest. unwrap_or (written ws k) x ∷ rest) (put_from-behind (k + 1) w ws xs (omega (arith, h)))

written_now : (k : ℕ) (w : Write) (ws : List Write) → w.object ≡ k → written (with_write w ws) k ≡ Some w.words
written_now k w ws e = written-with_write w ws k ∙ ap (λ b. cond b (Some w.words) (written ws k)) (let f : eqb w.object k ≡ true = rw e (grind arith) in f)

-- a write is put in at its object
put_from-with_write : (k j : ℕ) (w : Write) (ws : List Write) (m : Objects) → w.object ≡ k + j → put_from k (with_write w ws) m ≡ set (put_from k ws m) j w.words
put_from-with_write k j w ws [] e = refl
put_from-with_write k zero w ws (x ∷ xs) e =
    ap (λ v. unwrap_or v x ∷ put_from (k + 1) (with_write w ws) xs) (written_now k w ws (omega (arith, e)))
    ∙ ap (λ rest. w.words ∷ rest) (put_from-behind (k + 1) w ws xs (omega (arith, e)))
put_from-with_write k (suc j) w ws (x ∷ xs) e =
    let f : written (with_write w ws) k ≡ written ws k = written-with_write w ws k ∙ ap (λ b. cond b (Some w.words) (written ws k)) (ne_eqb w.object k (λ g. omega (arith, e, g))) in
    ap (λ v. unwrap_or v x ∷ put_from (k + 1) (with_write w ws) xs) f ∙ ap (λ rest. unwrap_or (written ws k) x ∷ rest) (put_from-with_write (k + 1) j w ws xs (omega (arith, e)))

pub put-with_write : (w : Write) (ws : List Write) (m : Objects) → put (with_write w ws) m ≡ set (put ws m) w.object w.words
put-with_write w ws m = put_from-with_write 0 w.object w ws m (sym (zero-add w.object))

-- the objects written
abbrev pub objects_in : List Write → List ℕ
objects_in ws = map (λ w. w.object) ws

-- a read is from outside just where the object is not among those written
pub reads_after-is : (ws : List Write) (o : ℕ) (reads : List ℕ) → reads_after (written ws o) o reads ≡ cond (is_among o (objects_in ws)) reads (with_object o reads)
reads_after-is [] o reads = refl
reads_after-is (w ∷ ws) o reads = at (eqb w.object o) (reads_after-is ws o reads)
  where
    at : (b : Bool) → reads_after (written ws o) o reads ≡ cond (is_among o (objects_in ws)) reads (with_object o reads)
        → reads_after (cond b (Some w.words) (written ws o)) o reads ≡ cond (b || is_among o (objects_in ws)) reads (with_object o reads)
    at true rest = refl
    at false rest = rest

not_among : (o x : ℕ) (xs : List ℕ) → o < x → AllByRecursion (λ y. x < y) xs → is_among o xs ≡ false
not_among o x [] l h = refl
not_among o x (y ∷ ys) l h = ap (λ b. b || is_among o ys) (ne_eqb y o (λ e. omega (arith, l, h.0, e))) ∙ not_among o x ys l h.1

-- the objects written, with one more
pub objects_in-with_write : (w : Write) (ws : List Write) → IsIncreasing (objects_in ws) → objects_in (with_write w ws) ≡ with_object w.object (objects_in ws)
objects_in-with_write w [] h = refl
objects_in-with_write w (x ∷ ws) h = at (objects_in-with_write w ws h.1) (ltb x.object w.object) refl (eqb x.object w.object) refl (ltb w.object x.object) refl
  where
    xs : List ℕ
    xs = objects_in ws

    behind : (b : Bool) → x.object ∷ cond b xs (inserted w.object xs) ≡ cond b (x.object ∷ xs) (x.object ∷ inserted w.object xs)
    behind true = refl
    behind false = refl

    at : objects_in (with_write w ws) ≡ with_object w.object xs
        → (b : Bool) → ltb x.object w.object ≡ b → (c : Bool) → eqb x.object w.object ≡ c → (d : Bool) → ltb w.object x.object ≡ d
        → objects_in (cond b (x ∷ with_write w ws) (cond c (w ∷ ws) (w ∷ x ∷ ws))) ≡ cond (c || is_among w.object xs) (x.object ∷ xs) (cond d (w.object ∷ x.object ∷ xs) (x.object ∷ inserted w.object xs))
    at rest true e true f d g = absurd (omega (arith, ltb-true _ _ e, eqb-true _ _ f))
    at rest true e false f true g = absurd (omega (arith, ltb-true _ _ e, ltb-true _ _ g))
    at rest true e false f false g = ap (λ r. x.object ∷ r) rest ∙ behind (is_among w.object xs)
    at rest false e true f d g = ap (λ o. o ∷ xs) (sym (eqb-true _ _ f))
    at rest false e false f false g = absurd (let a : w.object ≤ x.object = ltb-false _ _ e in let b : x.object ≤ w.object = ltb-false _ _ g in let n : x.object ≡ w.object → ⊥ = eqb-false _ _ f in omega (arith, a, b, n))
    at rest false e false f true g = let none : is_among w.object xs ≡ false = not_among w.object x.object xs (ltb-true _ _ g) h.0 in rw none refl
