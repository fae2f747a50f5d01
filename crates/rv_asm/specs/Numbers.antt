-- Numbers as an assembler's line writes them, and the ranges that they are held against. This project's own.
use Rattle.std.specs.Prelude.{ℕ, zero, suc, ◌==◌, ◌%◌, ◌^◌, ◌-◌, ◌&&◌, nat_le, nat_lt, min, ℤ, pos, negsuc, Bool, List, [], ◌∷◌, length, Option, Some, None, option_map, if◌then◌else◌}
use Rattle.std.specs.Str.Parse.{digits_value}
use Rattle.plain_text.specs.Numbers.{is_numeral}

abbrev pub minus : ℕ → ℤ
minus zero = pos 0
minus (suc n) = negsuc n

-- one digit or more of a radix; 2 ^ 33, which is out of each range, stands for each larger number
abbrev pub numeral : ℕ → List ℕ → Option ℕ
numeral radix digits = if is_numeral radix (length digits) digits then Some (min (2 ^ 33) (digits_value radix digits)) else None

-- decimal digits, behind a `-` or not, or hexadecimal digits behind `0x`
abbrev pub number_of : List ℕ → Option ℤ
number_of [] = None
number_of (a ∷ []) = option_map pos (numeral 10 (a ∷ []))
number_of (a ∷ b ∷ digits) =
    if a == 45 then option_map minus (numeral 10 (b ∷ digits))
    else if (a == 48) && (b == 120) then option_map pos (numeral 16 digits)
    else option_map pos (numeral 10 (a ∷ b ∷ digits))

-- from minus below to above
abbrev pub is_within : ℕ → ℕ → ℤ → Bool
is_within below above (pos n) = nat_le n above
is_within below above (negsuc n) = nat_lt n below

abbrev pub is_even : ℤ → Bool
is_even (pos n) = n % 2 == 0
is_even (negsuc n) = n % 2 == 1

-- a number that a word of 32 bits can hold, with a sign or without
abbrev pub is_word : ℤ → Bool
is_word z = is_within (2 ^ 31) (2 ^ 32 - 1) z
