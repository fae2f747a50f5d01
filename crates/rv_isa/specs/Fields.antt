-- Fields of a word, and numbers in two's complement.
use Rattle.std.specs.Prelude.{ℕ, ◌-◌, ◌/◌, ◌%◌, ◌^◌, ℤ, pos, negsuc, nat_lt, ◌<◌, if◌then◌else◌}

-- the bits of a word from low on, as many as width
abbrev pub bits : ℕ → ℕ → ℕ → ℕ
bits low width word = word / 2 ^ low % 2 ^ width

-- what the number of width bits is in two's complement
abbrev pub signed : ℕ → ℕ → ℤ
signed width n = if nat_lt n (2 ^ (width - 1)) then pos n else negsuc (2 ^ width - 1 - n)

-- the two's complement of a number at that width
abbrev pub unsigned : ℕ → ℤ → ℕ
unsigned width (pos n) = n
unsigned width (negsuc n) = 2 ^ width - 1 - n

-- the number has a two's complement at that width
abbrev pub IsSigned : ℕ → ℤ → Type 0
IsSigned width (pos n) = n < 2 ^ (width - 1)
IsSigned width (negsuc n) = n < 2 ^ (width - 1)
