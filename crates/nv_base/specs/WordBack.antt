-- The word of the objects of a word is that word, so a set in one word gives its word back.
use Rattle.std.proofs.Common.{◌≡◌, ℕ, zero, suc, ◌+◌, ◌*◌, ◌/◌, ◌%◌, ◌^◌, ◌<◌, Bool, true, false, cond, eqb, ◌∷◌, refl, sym, ap, ◌∙◌, arith}
use Rattle.std.specs.Int.{bit_at}
use Rattle.std.proofs.lemmas.Bool.{eqb-true, eqb-false}
use Rattle.std.proofs.lemmas.Nat.{mod-pow-add, pow-add, shr-shr}
use Rattle.std.proofs.lemmas.Nat.Bits.{bit_at-lt}
use Rattle.nv_base.specs.Bits.{objects_of, ones_from, bits_word}

distributed : (q m b p r : ℕ) → q ≡ m * 2 + b → r ≡ m * (p * 2) → q * p ≡ b * p + r
distributed q m b p r e f = rw (e, f) (omega arith)

-- one more bit at the low end
low_bit : (n k w r : ℕ) → r ≡ (w / 2 ^ (k + 1) % 2 ^ n) * 2 ^ (k + 1) → (w / 2 ^ k % 2 ^ (n + 1)) * 2 ^ k ≡ bit_at w k * 2 ^ k + r
low_bit n k w r f =
    let g : w / 2 ^ k % 2 ^ (n + 1) ≡ (w / 2 ^ k / 2 ^ 1 % 2 ^ n) * 2 ^ 1 + w / 2 ^ k % 2 ^ 1 = mod-pow-add (w / 2 ^ k) n 1 in
    let h : w / 2 ^ k / 2 ^ 1 ≡ w / 2 ^ (k + 1) = shr-shr w k 1 in
    let i : 2 ^ (k + 1) ≡ 2 ^ k * 2 = pow-add 2 k 1 in
    distributed (w / 2 ^ k % 2 ^ (n + 1)) (w / 2 ^ (k + 1) % 2 ^ n) (bit_at w k) (2 ^ k) r (g ∙ ap (λ x. (x % 2 ^ n) * 2 + w / 2 ^ k % 2) h) (f ∙ ap (λ x. (w / 2 ^ (k + 1) % 2 ^ n) * x) i)

word_of-ones_from : (n k w : ℕ) → bits_word (ones_from n k w) ≡ (w / 2 ^ k % 2 ^ n) * 2 ^ k
word_of-ones_from zero k w = none (w / 2 ^ k)
  where
    none : (q : ℕ) → 0 ≡ (q % 1) * 2 ^ k
    none q = let e : q % 1 ≡ 0 = omega arith in rw e (omega arith)
word_of-ones_from (suc n) k w =
    let e : n + 1 ≡ suc n = omega arith in
    go (low_bit n k w (bits_word (ones_from n (k + 1) w)) (word_of-ones_from n (k + 1) w)) (eqb (bit_at w k) 1) refl ∙ ap (λ m. (w / 2 ^ k % 2 ^ m) * 2 ^ k) e
  where
    go : (w / 2 ^ k % 2 ^ (n + 1)) * 2 ^ k ≡ bit_at w k * 2 ^ k + bits_word (ones_from n (k + 1) w) → (b : Bool) → eqb (bit_at w k) 1 ≡ b
        → bits_word (cond b (k ∷ ones_from n (k + 1) w) (ones_from n (k + 1) w)) ≡ (w / 2 ^ k % 2 ^ (n + 1)) * 2 ^ k
    go e true f = let g : bit_at w k ≡ 1 = eqb-true (bit_at w k) 1 f in sym (e ∙ rw g (omega arith))
    go e false f = let g : bit_at w k ≡ 0 = omega (arith, eqb-false (bit_at w k) 1 f, bit_at-lt w k) in sym (e ∙ rw g (omega arith))

pub bits_word-objects_of : (w : ℕ) → w < 2 ^ 128 → bits_word (objects_of w) ≡ w
unfolding objects_of
bits_word-objects_of w l = word_of-ones_from 128 0 w ∙ whole w l
  where
    whole : (w : ℕ) → w < 2 ^ 128 → (w / 1 % 2 ^ 128) * 1 ≡ w
    whole w l = omega arith
