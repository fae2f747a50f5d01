-- The fields of a word that is a sum of fields.
use Rattle.std.proofs.Common.{◌≡◌, ℕ, ◌+◌, ◌*◌, ◌<◌, ◌%◌, arith}
use Rattle.rv_isa.specs.Fields.{bits}
use Rattle.rv_isa.specs.Words.{i_word, b_word, j_word, u_word, s_word}

pub section_j : (r u : ℕ) → r < 32 → u < 2097152 → u % 2 ≡ 0
    → let w = j_word 111 r u in (bits 0 7 w ≡ 111) × (bits 7 5 w ≡ r) × (bits 31 1 w * 1048576 + bits 12 8 w * 4096 + bits 20 1 w * 2048 + bits 21 10 w * 2 ≡ u)
section_j r u a b c = (omega arith, omega arith, omega arith)

pub section_b : (f r s u : ℕ) → f < 8 → r < 32 → s < 32 → u < 8192 → u % 2 ≡ 0
    → let w = b_word 99 f r s u in (bits 0 7 w ≡ 99) × (bits 12 3 w ≡ f) × (bits 15 5 w ≡ r) × (bits 20 5 w ≡ s) × (bits 31 1 w * 4096 + bits 7 1 w * 2048 + bits 25 6 w * 32 + bits 8 4 w * 2 ≡ u)
section_b f r s u a b c d e = (omega arith, omega arith, omega arith, omega arith, omega arith)

pub section_u : (o r u : ℕ) → o < 128 → r < 32 → u < 1048576
    → let w = u_word o r u in (bits 0 7 w ≡ o) × (bits 7 5 w ≡ r) × (bits 12 20 w ≡ u)
section_u o r u a b c = (omega arith, omega arith, omega arith)

pub section_st : (f r s u : ℕ) → f < 8 → r < 32 → s < 32 → u < 4096
    → let w = s_word 35 f r s u in (bits 0 7 w ≡ 35) × (bits 12 3 w ≡ f) × (bits 15 5 w ≡ r) × (bits 20 5 w ≡ s) × (bits 25 7 w * 32 + bits 7 5 w ≡ u)
section_st f r s u a b c d = (omega arith, omega arith, omega arith, omega arith, omega arith)

pub section_i : (o r f s u : ℕ) → o < 128 → r < 32 → f < 8 → s < 32 → u < 4096
    → let w = i_word o r f s u in (bits 0 7 w ≡ o) × (bits 7 5 w ≡ r) × (bits 12 3 w ≡ f) × (bits 15 5 w ≡ s) × (bits 20 12 w ≡ u)
section_i o r f s u a b c d e = (omega arith, omega arith, omega arith, omega arith, omega arith)

-- the shift rows: the amount and the high bits
pub section_s : (o r f s u g n : ℕ) → o < 128 → u ≡ g * 32 + n → r < 32 → f < 8 → s < 32 → g < 128 → n < 32
    → let w = i_word o r f s u in (bits 0 7 w ≡ o) × (bits 7 5 w ≡ r) × (bits 12 3 w ≡ f) × (bits 15 5 w ≡ s) × (bits 20 5 w ≡ n) × (bits 25 7 w ≡ g)
section_s o r f s u g n small split a b c d e = (omega arith, omega arith, omega arith, omega arith, omega arith, omega arith)
