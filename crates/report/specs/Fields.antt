-- How a line of a report is read: bytes as they stand, each with a value behind it that goes to the next space. This project's own.
use Rattle.std.specs.Prelude.{ℕ, ◌-◌, ◌^◌, ◌==◌, nat_eq, nat_lt, ◌&&◌, Bool, List, [], ◌∷◌, length, get_or, take, drop, map, Option, Some, None, option_map, Result, Ok, Err, if◌then◌else◌, position}
use Rattle.std.specs.Cmp.Lexicographic.{pointwise}
use Rattle.std.specs.List.{before_first, position_or_len, find}
use Rattle.std.specs.Option.{option_and_then, is_some}
use Rattle.nv_base.specs.Causes.{cause_number, cause_word}
use Rattle.nv_base.specs.declared.causes.TrapCause.{TrapCause}
use Rattle.plain_text.specs.Numbers.{number_in}
use Rattle.report_text.specs.Causes.{causes}
use Rattle.set_model.specs.Sets.{TaskSet}

-- ---- values

abbrev pub is_space : ℕ → Bool
is_space b = b == 32

abbrev pub has_leading_zero : List ℕ → Bool
has_leading_zero word = nat_lt 1 (length word) && (get_or word 0 0 == 48)

abbrev pub if_ok : {A E : Type 0} → Result A E → Option A
if_ok (Ok x) = Some x
if_ok (Err e) = None

-- a number of 32 bits, as `decimal` writes it
abbrev pub number_of : List ℕ → Option ℕ
number_of word = if has_leading_zero word then None else if_ok (number_in 0 (2 ^ 32 - 1) word)

abbrev pub if_below : ℕ → ℕ → Option ℕ
if_below most n = if nat_lt n most then Some n else None

-- the cause of a trap by its word
abbrev pub cause_of : List ℕ → Option TrapCause
cause_of word = find (λ cause. pointwise nat_eq (cause_word cause) word) causes

-- the place of a name
abbrev pub place_of : List (List ℕ) → List ℕ → Option ℕ
place_of names word = position (λ name. pointwise nat_eq name word) names

-- what a value may be
pub data Kind : Type 0 where
  Number : Kind
  Core : Kind  -- of the set
  Object : Kind  -- by its name
  Program : Kind  -- by its name
  Cause : Kind  -- by its word

abbrev pub cause_number_of : List ℕ → Option ℕ
cause_number_of word = option_map cause_number (cause_of word)

abbrev pub value_of : TaskSet → Kind → List ℕ → Option ℕ
value_of set Number word = number_of word
value_of set Core word = option_and_then (if_below set.cores) (number_of word)
value_of set Object word = place_of (map (λ o. o.name) set.objects) word
value_of set Program word = place_of (map (λ p. p.name) set.programs) word
value_of set Cause word = cause_number_of word

-- ---- lines of values

-- what stands behind these bytes, where the text begins with them
abbrev pub behind : List ℕ → List ℕ → Option (List ℕ)
behind front text = if pointwise nat_eq (take (length front) text) front then Some (drop (length front) text) else None

-- a text up to the next space, and from there
abbrev pub cut : List ℕ → List ℕ × List ℕ
cut text = (before_first is_space text, drop (position_or_len is_space text) text)

abbrev pub word_behind : List ℕ → List ℕ → Option (List ℕ × List ℕ)
word_behind front text = option_map cut (behind front text)

abbrev pub with_rest : List ℕ → Option ℕ → Option (ℕ × List ℕ)
with_rest rest value = option_map (λ v. (v, rest)) value

-- the value behind some bytes, and what is left behind it
abbrev pub field_in : (List ℕ → Option ℕ) → List ℕ → List ℕ → Option (ℕ × List ℕ)
field_in value front text = option_and_then (λ p. with_rest p.1 (value p.0)) (word_behind front text)

-- the bytes before each value of a line, and what the value is
abbrev pub Shape : Type 0
Shape = List (List ℕ × Kind)

-- nothing is left
abbrev pub nothing_in : List ℕ → Option (List ℕ)
nothing_in [] = Some []
nothing_in (b ∷ text) = None

-- the values of a line of this shape
abbrev pub values_in : TaskSet → Shape → List ℕ → Option (List ℕ)
values_in set [] text = nothing_in text
values_in set (f ∷ shape) text = option_and_then (λ p. option_map (λ values. p.0 ∷ values) (values_in set shape p.1)) (field_in (value_of set f.1) f.0 text)

abbrev pub fits : TaskSet → Shape → List ℕ → Bool
fits set shape text = is_some (values_in set shape text)
