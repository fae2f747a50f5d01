-- What the writer needs of bytes.
use Rattle.std.proofs.Common.{◌≡◌, ℕ, ◌%◌, ◌<◌, [], ◌∷◌, ap, arith}
use Rattle.byteorder.specs.Endian.{little_bytes}

pub one_byte : (n : ℕ) → n < 256 → little_bytes 1 n ≡ n ∷ []
one_byte n h = let e : n % 256 ≡ n = omega arith in ap (λ (b : ℕ). b ∷ []) e
