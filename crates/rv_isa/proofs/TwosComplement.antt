-- Numbers in two's complement, there and back.
use Rattle.std.proofs.Common.{◌≡◌, ℕ, ◌*◌, ◌<◌, ◌^◌, ◌-◌, ℤ, pos, negsuc, arith, refl, true, false, cond, nat_lt, suc, zero}
use Rattle.std.proofs.lemmas.Grind.{common_steps}
use Rattle.std.proofs.Math.Nat.{pow-suc}
use Rattle.std.proofs.Math.Numerals.{sub-one}
use Rattle.rv_isa.specs.Fields.{signed, unsigned, IsSigned}

pub unsigned-signed : (k n : ℕ) → 0 < k → n < 2 ^ k → unsigned k (signed k n) ≡ n
unsigned-signed k n p h = grind (arith, common_steps)

pub signed-unsigned : (k : ℕ) (z : ℤ) → 0 < k → IsSigned k z → signed k (unsigned k z) ≡ z
signed-unsigned k (pos n) p h = grind (arith, common_steps)
signed-unsigned k (negsuc n) p h = grind (arith, common_steps)

pub unsigned_below : (k : ℕ) (z : ℤ) → 0 < k → IsSigned k z → unsigned k z < 2 ^ k
unsigned_below k (pos n) p h = grind (arith, common_steps)
unsigned_below k (negsuc n) p h = grind (arith, common_steps)

doubled : (k : ℕ) → 0 < k → 2 ^ k ≡ 2 * 2 ^ (k - 1)
doubled zero p = elim p [ ]
doubled (suc k) p = simp (sub-one, pow-suc) (omega arith)

pub IsSigned-signed : (k n : ℕ) → 0 < k → n < 2 ^ k → IsSigned k (signed k n)
IsSigned-signed k n p h = elim (nat_lt n (2 ^ (k - 1))) as (λ b. nat_lt n (2 ^ (k - 1)) ≡ b → IsSigned k (cond b (pos n) (negsuc (2 ^ k - 1 - n)))) [ true ↦ λ e. lt_of e | false ↦ λ e. high e ] refl
  where
    lt_of : nat_lt n (2 ^ (k - 1)) ≡ true → n < 2 ^ (k - 1)
    lt_of e = grind (arith, common_steps)

    high : nat_lt n (2 ^ (k - 1)) ≡ false → 2 ^ k - 1 - n < 2 ^ (k - 1)
    high e = let half : 2 ^ k ≡ 2 * 2 ^ (k - 1) = doubled k p in grind (arith, common_steps)
