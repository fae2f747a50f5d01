-- Numbers of so many digits, within limits, and word values. This project's own.
use Rattle.std.specs.Prelude.{ℕ, ◌==◌, nat_le, nat_lt, ◌&&◌, ◌||◌, ◌-◌, ◌^◌, ◌%◌, Bool, not, List, [], ◌∷◌, length, Option, Some, None, Result, Ok, Err, if◌then◌else◌}
use Rattle.std.specs.List.{list_all}
use Rattle.std.specs.Char.{digit_value}
use Rattle.std.specs.Str.Parse.{digits_value}
use Rattle.plain_text.specs.declared.numbers.NumberFault.{NumberFault}
use Rattle.plain_text.specs.declared.numbers.NumberFault.TheVariants.{Number, Range}

-- one digit or more, at most so many, and nothing else
abbrev pub is_numeral : ℕ → ℕ → List ℕ → Bool
is_numeral radix most digits = not (length digits == 0) && nat_le (length digits) most && list_all (λ d. nat_lt (digit_value d) radix) digits

-- the number that they write
abbrev pub value_in : ℕ → ℕ → List ℕ → Option ℕ
value_in radix most digits = if is_numeral radix most digits then Some (digits_value radix digits) else None

abbrev pub within : ℕ → ℕ → Option ℕ → Result ℕ NumberFault
within low high None = Err Number
within low high (Some n) = if nat_lt n low || nat_lt high n then Err Range else Ok n

-- one to ten decimal digits
abbrev pub number_in : ℕ → ℕ → List ℕ → Result ℕ NumberFault
number_in low high word = within low high (value_in 10 10 word)

-- minus n, as a word
abbrev pub negated : Result ℕ NumberFault → Result ℕ NumberFault
negated (Ok n) = Ok ((2 ^ 32 - n) % 2 ^ 32)
negated (Err fault) = Err fault

-- a number, one behind a minus, or hexadecimal digits behind `0x`
abbrev pub word_value : List ℕ → Result ℕ NumberFault
word_value [] = Err Number
word_value (a ∷ []) = number_in 0 (2 ^ 32 - 1) (a ∷ [])
word_value (a ∷ b ∷ digits) = if a == 45 then negated (number_in 0 (2 ^ 31) (b ∷ digits)) else if (a == 48) && (b == 120) then within 0 (2 ^ 32 - 1) (value_in 16 8 digits) else number_in 0 (2 ^ 32 - 1) (a ∷ b ∷ digits)
