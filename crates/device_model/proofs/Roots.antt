-- The root word: the bits that a commit turns, and those that stay.
use Rattle.std.proofs.Common.{◌≡◌, ℕ, zero, suc, ◌+◌, ◌-◌, ◌*◌, ◌/◌, ◌%◌, ◌^◌, ◌<◌, ◌≤◌, Bool, true, false, cond, arith, refl, ap, sym, ◌∙◌}
use Rattle.std.proofs.lemmas.Nat.{pow-add, shl-shr, shr-shr}
use Rattle.device_model.specs.Layouts.{bit, turned_bits}

halved : (n k : ℕ) → n / 2 ^ (1 + k) ≡ n / 2 / 2 ^ k
halved n k = sym (shr-shr n 1 k)

bit-suc : (n k : ℕ) → bit n (suc k) ≡ bit (n / 2) k
bit-suc n k = ap (λ (m : ℕ). m % 2) (let e : suc k ≡ 1 + k = omega arith in ap (λ (j : ℕ). n / 2 ^ j) e ∙ halved n k)

low : (b : Bool) (n rest : ℕ) → (cond b (1 - n % 2) (n % 2) + 2 * rest) % 2 ≡ cond b (1 - n % 2) (n % 2)
low true n rest = omega arith
low false n rest = omega arith

high : (b : Bool) (n rest : ℕ) → (cond b (1 - n % 2) (n % 2) + 2 * rest) / 2 ≡ rest
high true n rest = omega arith
high false n rest = omega arith

-- the bits that are turned
pub bit-turned : (turns : ℕ → Bool) (from n r k : ℕ) → k < n → bit (turned_bits turns from n r) k ≡ cond (turns (from + k)) (1 - bit r k) (bit r k)
bit-turned turns from zero r k l = absurd (omega arith)
bit-turned turns from (suc n) r zero l =
    let e : from + 0 ≡ from = omega arith in
    let one : (m : ℕ) → bit m 0 ≡ m % 2 = λ m. omega arith in
    one (turned_bits turns from (suc n) r) ∙ low (turns from) r (turned_bits turns (from + 1) n (r / 2))
    ∙ ap (λ (m : ℕ). cond (turns from) (1 - m) m) (sym (one r)) ∙ ap (λ (j : ℕ). cond (turns j) (1 - bit r 0) (bit r 0)) (sym e)
bit-turned turns from (suc n) r (suc k) l =
    let e : from + 1 + k ≡ from + suc k = omega arith in
    bit-suc (turned_bits turns from (suc n) r) k
    ∙ ap (λ (m : ℕ). bit m k) (high (turns from) r (turned_bits turns (from + 1) n (r / 2)))
    ∙ bit-turned turns (from + 1) n (r / 2) k (omega arith)
    ∙ ap (λ (j : ℕ). cond (turns j) (1 - bit (r / 2) k) (bit (r / 2) k)) e
    ∙ ap (λ (m : ℕ). cond (turns (from + suc k)) (1 - m) m) (sym (bit-suc r k))

-- and those above stay
pub high-turned : (turns : ℕ → Bool) (from n r : ℕ) → turned_bits turns from n r / 2 ^ n ≡ r / 2 ^ n
high-turned turns from zero r = refl
high-turned turns from (suc n) r =
    let e : suc n ≡ 1 + n = omega arith in
    ap (λ (j : ℕ). turned_bits turns from (suc n) r / 2 ^ j) e ∙ halved (turned_bits turns from (suc n) r) n
    ∙ ap (λ (m : ℕ). m / 2 ^ n) (high (turns from) r (turned_bits turns (from + 1) n (r / 2)))
    ∙ high-turned turns (from + 1) n (r / 2)
    ∙ sym (halved r n) ∙ ap (λ (j : ℕ). r / 2 ^ j) (sym e)

pub bit-lt : (n k : ℕ) → bit n k < 2
bit-lt n k = omega arith

quotient : (q d : ℕ) → 2 ^ (q + d) / 2 ^ q ≡ 2 ^ d
quotient q d = ap (λ (m : ℕ). m / 2 ^ q) (pow-add 2 q d ∙ turn (2 ^ q) (2 ^ d)) ∙ shl-shr (2 ^ d) q
  where
    turn : (a b : ℕ) → a * b ≡ b * a
    turn a b = omega arith

-- bit 31 alone
pub top : (q : ℕ) → q ≤ 31 → 2 ^ 31 / 2 ^ q ≡ 2 ^ (31 - q)
top q l = let e : 31 ≡ q + (31 - q) = omega arith in ap (λ (m : ℕ). 2 ^ m / 2 ^ q) e ∙ quotient q (31 - q)

even : (d : ℕ) → 0 < d → 2 ^ d % 2 ≡ 0
even zero l = absurd (omega arith)
even (suc d) l = let e : suc d ≡ 1 + d = omega arith in ap (λ (m : ℕ). 2 ^ m % 2) e ∙ ap (λ (m : ℕ). m % 2) (pow-add 2 1 d) ∙ twice (2 ^ d)
  where
    twice : (m : ℕ) → (2 * m) % 2 ≡ 0
    twice m = omega arith

pub top-bit : (k : ℕ) → k < 31 → bit (2 ^ 31) k ≡ 0
top-bit k l = ap (λ (m : ℕ). m % 2) (top k (omega arith)) ∙ even (31 - k) (omega arith)

-- two numbers with the same low bits and the same rest are one
pub same_bits : (n a b : ℕ) → a / 2 ^ n ≡ b / 2 ^ n → ((k : ℕ) → k < n → bit a k ≡ bit b k) → a ≡ b
same_bits zero a b h f = one a ∙ h ∙ sym (one b)
  where
    one : (m : ℕ) → m ≡ m / 2 ^ 0
    one m = omega arith
same_bits (suc n) a b h f =
    let e : suc n ≡ 1 + n = omega arith in
    let rest : a / 2 ≡ b / 2 = same_bits n (a / 2) (b / 2) (sym (halved a n) ∙ ap (λ (j : ℕ). a / 2 ^ j) (sym e) ∙ h ∙ ap (λ (j : ℕ). b / 2 ^ j) e ∙ halved b n) (λ k l. sym (bit-suc a k) ∙ f (suc k) (omega arith) ∙ bit-suc b k) in
    let one : (m : ℕ) → bit m 0 ≡ m % 2 = λ m. omega arith in
    let low : a % 2 ≡ b % 2 = sym (one a) ∙ f 0 (omega arith) ∙ one b in
    omega (arith, rest, low)
