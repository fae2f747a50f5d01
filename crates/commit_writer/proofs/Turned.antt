-- The root, with one bit more turned.
use Rattle.std.proofs.Common.{◌≡◌, ℕ, zero, suc, ◌+◌, ◌-◌, ◌*◌, ◌/◌, ◌%◌, ◌^◌, ◌<◌, ◌≤◌, Bool, true, false, cond, ⊎_elim, arith, refl, ap, ap₂, sym, ◌∙◌, subst}
use Rattle.std.proofs.Math.Nat.{mul-le-mul_left, one-le-pow}
use Rattle.std.proofs.lemmas.Bool.{cases_lt}
use Rattle.std.proofs.lemmas.Nat.{pow-add, shr-shr}
use Rattle.device_model.specs.Layouts.{bit, turned_bits}
use Rattle.device_model.proofs.Roots.{high-turned}

half_bit : (r n : ℕ) → bit r (suc n) ≡ bit (r / 2) n
half_bit r n = ap (λ (m : ℕ). m % 2) (let e : suc n ≡ 1 + n = omega arith in ap (λ (k : ℕ). r / 2 ^ k) e ∙ sym (shr-shr r 1 n))

double : (n : ℕ) → 2 ^ suc n ≡ 2 * 2 ^ n
double n = let e : suc n ≡ 1 + n = omega arith in ap (λ (k : ℕ). 2 ^ k) e ∙ pow-add 2 1 n

first_step : (b : Bool) (r : ℕ) → cond b (1 - r % 2) (r % 2) + 2 * (r / 2) + r % 2 * 1 ≡ r + cond b (1 - r % 2) (r % 2) * 1
first_step true r = omega arith
first_step false r = omega arith

-- one more step, of numbers
next_step : (h a b old new p q : ℕ) → q ≡ 2 * p → a + old * p ≡ b + new * p → h + 2 * a + old * q ≡ h + 2 * b + new * q
next_step h a b old new p q e f =
    let x : old * q ≡ 2 * (old * p) = ap (λ (m : ℕ). old * m) e ∙ twice old p in
    let y : new * q ≡ 2 * (new * p) = ap (λ (m : ℕ). new * m) e ∙ twice new p in
    omega (arith, x, y, f)
  where
    twice : (a b : ℕ) → a * (2 * b) ≡ 2 * (a * b)
    twice a b = omega arith

pub turned_more : (turns : ℕ → Bool) (from n r : ℕ) → turned_bits turns from (suc n) r + bit r n * 2 ^ n ≡ turned_bits turns from n r + cond (turns (from + n)) (1 - bit r n) (bit r n) * 2 ^ n
turned_more turns from zero r =
    let e : from + 0 ≡ from = omega arith in
    let one : bit r 0 ≡ r % 2 = omega arith in
    ap (λ (b : ℕ). turned_bits turns from 1 r + b * 1) one
    ∙ first_step (turns from) r
    ∙ ap (λ (k : ℕ). r + cond (turns k) (1 - r % 2) (r % 2) * 1) (sym e)
    ∙ ap (λ (b : ℕ). r + cond (turns (from + 0)) (1 - b) b * 1) (sym one)
turned_more turns from (suc n) r =
    let e : from + 1 + n ≡ from + suc n = omega arith in
    let rest : turned_bits turns (from + 1) (suc n) (r / 2) + bit (r / 2) n * 2 ^ n ≡ turned_bits turns (from + 1) n (r / 2) + cond (turns (from + suc n)) (1 - bit (r / 2) n) (bit (r / 2) n) * 2 ^ n =
    turned_more turns (from + 1) n (r / 2) ∙ ap (λ (k : ℕ). turned_bits turns (from + 1) n (r / 2) + cond (turns k) (1 - bit (r / 2) n) (bit (r / 2) n) * 2 ^ n) e in
    ap (λ (b : ℕ). turned_bits turns from (suc (suc n)) r + b * 2 ^ suc n) (half_bit r n)
    ∙ next_step (cond (turns from) (1 - r % 2) (r % 2)) (turned_bits turns (from + 1) (suc n) (r / 2)) (turned_bits turns (from + 1) n (r / 2)) (bit (r / 2) n) (cond (turns (from + suc n)) (1 - bit (r / 2) n) (bit (r / 2) n)) (2 ^ n) (2 ^ suc n) (double n) rest
    ∙ ap (λ (b : ℕ). turned_bits turns from (suc n) r + cond (turns (from + suc n)) (1 - b) b * 2 ^ suc n) (sym (half_bit r n))

low_step : (b : Bool) (r a p q : ℕ) → q ≡ 2 * p → a < p → cond b (1 - r % 2) (r % 2) + 2 * a < q
low_step true r a p q e l = omega (arith, e, l)
low_step false r a p q e l = omega (arith, e, l)

-- no bit above is set
pub turned_low : (turns : ℕ → Bool) (from n m r : ℕ) → r < 2 ^ (n + m) → turned_bits turns from n r < 2 ^ (n + m)
turned_low turns from zero m r l = l
turned_low turns from (suc n) m r l =
    let e : suc n + m ≡ suc (n + m) = omega arith in
    let d : 2 ^ (suc n + m) ≡ 2 * 2 ^ (n + m) = ap (λ (k : ℕ). 2 ^ k) e ∙ double (n + m) in
    low_step (turns from) r (turned_bits turns (from + 1) n (r / 2)) (2 ^ (n + m)) (2 ^ (suc n + m)) d (turned_low turns (from + 1) n m (r / 2) (omega (arith, l, d)))

-- ---- one bit of a word

pub bit_stays : (turns : ℕ → Bool) (n r : ℕ) → bit (turned_bits turns 0 n r) n ≡ bit r n
bit_stays turns n r = ap (λ (m : ℕ). m % 2) (high-turned turns 0 n r)

room_of : (w p h : ℕ) → 0 < p → w < p * (2 * h) → w / p % 2 ≡ 0 → w + p < p * (2 * h)
room_of w p h z a b =
    let low : p * (w / p) ≤ w = omega arith in
    let high : w < p * (w / p) + p = omega arith in
    let less : w / p < 2 * h = ⊎_elim (λ l. l) (λ l. absurd (omega (arith, low, a, mul-le-mul_left p l))) (cases_lt (w / p) (2 * h)) in
    let two : w / p + 2 ≤ 2 * h = omega (arith, less, b) in
    omega (arith, high, mul-le-mul_left p two)

pub has_room : (w k : ℕ) → k < 31 → w < 2 ^ 32 → bit w k ≡ 0 → w + 2 ^ k < 2 ^ 32
has_room w k l a b =
    let e : 32 ≡ k + (32 - k) = omega arith in
    let f : 32 - k ≡ suc (31 - k) = omega arith in
    let d : 2 ^ (32 - k) ≡ 2 * 2 ^ (31 - k) = ap (λ (n : ℕ). 2 ^ n) f ∙ double (31 - k) in
    let all : 2 ^ 32 ≡ 2 ^ k * (2 * 2 ^ (31 - k)) = ap (λ (n : ℕ). 2 ^ n) e ∙ pow-add 2 k (32 - k) ∙ ap (λ (m : ℕ). 2 ^ k * m) d in
    let P : ℕ → Type 0 = λ m. w < m → w + 2 ^ k < m in
    subst P (sym all) (λ c. room_of w (2 ^ k) (2 ^ (31 - k)) (one-le-pow k 2 (omega arith)) c b) a

cancel : (u v a c : ℕ) → u + a ≡ c → v + a ≡ c → u ≡ v
cancel u v a c e f = omega (arith, e, f)

pub turned_taken : (turns : ℕ → Bool) (n r t u : ℕ) → turns n ≡ true → t ≡ turned_bits turns 0 n r → u + bit t n * 2 ^ n ≡ t + (1 - bit t n) * 2 ^ n → u ≡ turned_bits turns 0 (n + 1) r
turned_taken turns n r t u h te ue =
    let z : 0 + n ≡ n = omega arith in
    let s : suc n ≡ n + 1 = omega arith in
    let e : bit t n ≡ bit r n = ap (λ (x : ℕ). bit x n) te ∙ bit_stays turns n r in
    let c : ℕ = turned_bits turns 0 n r + (1 - bit r n) * 2 ^ n in
    let f : u + bit r n * 2 ^ n ≡ c = ap (λ (x : ℕ). u + x * 2 ^ n) (sym e) ∙ ue ∙ ap₂ (λ (x y : ℕ). x + (1 - y) * 2 ^ n) te e in
    let g : turned_bits turns 0 (suc n) r + bit r n * 2 ^ n ≡ c = turned_more turns 0 n r ∙ ap (λ (b : Bool). turned_bits turns 0 n r + cond b (1 - bit r n) (bit r n) * 2 ^ n) (ap turns z ∙ h) in
    cancel u (turned_bits turns 0 (suc n) r) (bit r n * 2 ^ n) c f g ∙ ap (λ (m : ℕ). turned_bits turns 0 m r) s

pub turned_passed : (turns : ℕ → Bool) (n r t : ℕ) → turns n ≡ false → t ≡ turned_bits turns 0 n r → t ≡ turned_bits turns 0 (n + 1) r
turned_passed turns n r t h te =
    let z : 0 + n ≡ n = omega arith in
    let s : suc n ≡ n + 1 = omega arith in
    let c : ℕ = turned_bits turns 0 n r + bit r n * 2 ^ n in
    let g : turned_bits turns 0 (suc n) r + bit r n * 2 ^ n ≡ c = turned_more turns 0 n r ∙ ap (λ (b : Bool). turned_bits turns 0 n r + cond b (1 - bit r n) (bit r n) * 2 ^ n) (ap turns z ∙ h) in
    te ∙ cancel (turned_bits turns 0 n r) (turned_bits turns 0 (suc n) r) (bit r n * 2 ^ n) c refl g ∙ ap (λ (m : ℕ). turned_bits turns 0 m r) s
