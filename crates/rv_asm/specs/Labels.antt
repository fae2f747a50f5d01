-- Where labels stand, and how many words a line has. This project's own.
use Rattle.std.specs.Prelude.{ℕ, ◌+◌, Bool, false, List, [], ◌∷◌, length, Option, Some, None, is_some, Result, Ok, Err, if◌then◌else◌, nat_eq}
use Rattle.std.specs.Cmp.Lexicographic.{pointwise}
use Rattle.std.specs.Option.{option_or}
use Rattle.rv_isa.specs.Fields.{unsigned}
use Rattle.rv_asm.specs.declared.cause.AsmCause.{AsmCause}
use Rattle.rv_asm.specs.declared.labels.Spot.{Spot}
use Rattle.rv_asm.specs.Numbers.{is_word}
use Rattle.rv_asm.specs.Lines.{Body, Nothing, Instruction, Word, Load, Line}
use Rattle.rv_asm.specs.Loads.{loads}

-- labels with the lines on which they first stand, and the number of words before these
abbrev pub Found : Type 0
Found = List ℕ → Option Spot

abbrev pub spot : ℕ → ℕ → Spot
spot line place = record { line = line; place = place }

-- one more label, unless it was there
abbrev pub noted : Found → Option (List ℕ) → Spot → Found
noted found None s name = found name
noted found (Some label) s name = option_or (found name) (if pointwise nat_eq name label then Some s else None)

abbrev pub is_found : Found → Option (List ℕ) → Bool
is_found found None = false
is_found found (Some label) = is_some (found label)

-- how many words a body has; an `li` of no word has none
abbrev pub word_count : Body → ℕ
word_count Nothing = 0
word_count (Instruction o) = 1
word_count (Word z) = 1
word_count (Load rd z) = if is_word z then length (loads rd (unsigned 32 z)) else 0

-- a line that repeats a label, or whose body is faulty, has no words
abbrev pub body_count : Result Body AsmCause → ℕ
body_count (Ok body) = word_count body
body_count (Err cause) = 0

abbrev pub line_count : Found → Line → ℕ
line_count found l = if is_found found l.label then 0 else body_count l.body

-- the labels of lines after those found so far, from a line and a place on
unfoldable pub labels_from : Found → ℕ → ℕ → List Line → Found
labels_from found n place [] = found
labels_from found n place (l ∷ ls) = labels_from (noted found l.label (spot n place)) (n + 1) (place + line_count found l) ls

abbrev pub labels_of : List Line → Found
labels_of ls = labels_from (λ name. None) 1 0 ls
