-- What was read so far.
use Rattle.std.proofs.Common.{◌≡◌, ℕ, ◌+◌, ◌≤◌, List, ◌++◌, length, drop, Option, Some, None, subst, ap, sym, ◌∙◌, arith}
use Rattle.std.proofs.Math.Seq.{drop-append-add}
use Rattle.std.proofs.lemmas.Grind.{common_steps}
use Rattle.nv_base.specs.Streams.{AreGone, Took}

-- these bytes were the first of those left, and the rest is left
abbrev pub HasGiven : Option (List ℕ) → Option (List ℕ) → List ℕ → Type 0
HasGiven None new bytes = new ≡ None
HasGiven (Some left) new bytes = (rest : List ℕ) × (left ≡ bytes ++ rest) × (new ≡ Some rest)

gone_behind : (left bytes rest : List ℕ) (q : Option (List ℕ)) (n m : ℕ) → left ≡ bytes ++ rest → n ≤ length rest → q ≡ Some (drop n rest) → length bytes + n ≡ m → (m ≤ length left) × (q ≡ Some (drop m left))
gone_behind left bytes rest q n m e l f g = (grind (arith, common_steps), q_is)
  where
    q_is : q ≡ Some (drop m left)
    q_is =
        let h : drop (length bytes + n) (bytes ++ rest) ≡ drop n rest = drop-append-add bytes rest n in
        f ∙ ap (λ x. Some x) (sym h ∙ ap (λ k. drop k (bytes ++ rest)) g ∙ ap (λ l. drop m l) (sym e))

-- so many more were taken, and no others are gone
pub more_gone : (o p q : Option (List ℕ)) (bytes buffer : List ℕ) (n m : ℕ) → HasGiven o p bytes → Took p q buffer n → length bytes + n ≡ m → AreGone o q m
more_gone None None q bytes buffer n m h t e = t
more_gone None (Some x) q bytes buffer n m h t e = absurd (cc h)
more_gone (Some left) None q bytes buffer n m h t e = absurd (cc h.2)
more_gone (Some left) (Some x) q bytes buffer n m h t e =
    let f : x ≡ h.0 = cc h.2 in
    gone_behind left bytes x q n m (subst (λ y. left ≡ bytes ++ y) (let g : h.0 ≡ x = cc f in g) h.1) t.0 t.2 e
