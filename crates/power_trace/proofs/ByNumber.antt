-- A step of an item by its number.
use Rattle.std.proofs.Common.{◌≡◌, ℕ, zero, suc, ◌+◌, ◌-◌, ◌*◌, ◌%◌, ◌<◌, ◌≤◌, List, map, length, Some, inl, inr, refl, ap, ◌∙◌, sym, arith}
use Rattle.std.specs.List.{slice_get}
use Rattle.std.proofs.lemmas.Bool.{cases_lt}
use Rattle.std.proofs.Math.Nat.{mod-eq_of_lt, add-mod_right}
use Rattle.rand_pcg.specs.Lcg.{Lcg, state_after, advance, started, increment_of}
use Rattle.rand_pcg.specs.Pcg.{multiplier_64, pcg32}
use Rattle.schedule_model.specs.CoreSteps.{repeated, words, core_of_word, generator_of}
use Rattle.power_trace.proofs.Places.{get-left, get-past}

mod-less : (n m : ℕ) → m ≤ n → (n - m) % m ≡ n % m
mod-less n m h =
    let e : n ≡ (n - m) + m = omega arith in
    sym (ap (λ k. k % m) e ∙ add-mod_right (n - m) m)

mod-small : (n m : ℕ) → n < m → n % m ≡ n
mod-small n m h = mod-eq_of_lt h

pub repeated-at : (times : ℕ) (xs : List ℕ) (n : ℕ) → 0 < length xs → n < length xs * times
    → slice_get (repeated times xs) n ≡ slice_get xs (n % length xs)
unfolding repeated
repeated-at zero xs n p h = absurd (omega arith)
repeated-at (suc times) xs n p h = elim (cases_lt n (length xs)) [
  | inl g ↦ get-left xs (repeated times xs) n g ∙ ap (slice_get xs) (sym (mod-small n (length xs) g))
  | inr g ↦ get-past xs (repeated times xs) n g
      ∙ repeated-at times xs (n - length xs) p (omega arith)
      ∙ ap (slice_get xs) (mod-less n (length xs) g)
]

-- a word is what the generator gives after a jump
pub drawn-at : (cores count : ℕ) (g : Lcg) (n : ℕ) → n < count
    → slice_get (map (core_of_word cores) (words count g)) n ≡ Some (core_of_word cores (pcg32 (advance 64 multiplier_64 n g)).0)
unfolding words state_after
drawn-at cores zero g n h = absurd (omega arith)
drawn-at cores (suc count) g zero h = refl
drawn-at cores (suc count) g (suc n) h = drawn-at cores count (pcg32 g).1 n (omega arith)

-- the word after a jump, from what each call gave
pub drawn_word : (cores count seed n s m cores' word : ℕ) (g0 g1 g2 : Lcg)
    → s ≡ seed → m ≡ n → cores' ≡ cores
    → g0 ≡ started 64 multiplier_64 s (increment_of 64 0)
    → g1 ≡ advance 64 multiplier_64 m g0
    → (let p : ℕ × Lcg = (word, g2) in p ≡ pcg32 g1)
    → n < count
    → slice_get (map (core_of_word cores) (words count (generator_of seed))) n ≡ Some (word % cores')
drawn_word cores count seed n s m cores' word g0 g1 g2 es em ec e0 e1 ew h =
    let given : word ≡ (pcg32 (advance 64 multiplier_64 n (generator_of seed))).0 =
    ap (λ p. p.0) ew
    ∙ ap (λ g. (pcg32 g).0) e1
    ∙ ap (λ k. (pcg32 (advance 64 multiplier_64 k g0)).0) em
    ∙ ap (λ g. (pcg32 (advance 64 multiplier_64 n g)).0) e0
    ∙ ap (λ k. (pcg32 (advance 64 multiplier_64 n (started 64 multiplier_64 k (increment_of 64 0)))).0) es in
    drawn-at cores count (generator_of seed) n h
    ∙ ap (λ w. Some (w % cores)) (sym given)
    ∙ ap (λ k. Some (word % k)) (sym ec)
