-- What the words of a line say, one by one. This project's own.
use Rattle.std.specs.Prelude.{ℕ, not, is_some, List, [], ◌∷◌, Option, Some, None, Result, Ok, Err, if◌then◌else◌, position, nat_eq}
use Rattle.std.specs.Cmp.Lexicographic.{pointwise}
use Rattle.plain_text.specs.Names.{is_name}
use Rattle.plain_text.specs.Numbers.{number_in, word_value}
use Rattle.plain_text.specs.declared.numbers.NumberFault.{NumberFault}
use Rattle.plain_text.specs.declared.numbers.NumberFault.TheVariants as faults
use Rattle.script.specs.declared.refusals.ScriptCause.{ScriptCause}
use Rattle.script.specs.declared.refusals.ScriptCause.TheVariants.{Word, Count, Name, Twice, Unknown, Number, Range}
use Rattle.script.specs.declared.keyword.Stage.{Stage}
use Rattle.script.specs.Keywords.{may_follow}

abbrev pub cause_of : NumberFault → ScriptCause
cause_of faults.Number = Number
cause_of faults.Range = Range

abbrev pub by_cause : Result ℕ NumberFault → Result ℕ ScriptCause
by_cause (Ok n) = Ok n
by_cause (Err fault) = Err (cause_of fault)

-- a number within its limits
abbrev pub number : ℕ → ℕ → List ℕ → Result ℕ ScriptCause
number low high word = by_cause (number_in low high word)

-- a word value
abbrev pub value : List ℕ → Result ℕ ScriptCause
value word = by_cause (word_value word)

-- exactly one word
abbrev pub one : List (List ℕ) → Result (List ℕ) ScriptCause
one (a ∷ []) = Ok a
one _ = Err Count

-- exactly two words
abbrev pub two : List (List ℕ) → Result (List ℕ × List ℕ) ScriptCause
two (a ∷ b ∷ []) = Ok (a, b)
two _ = Err Count

-- three words, and those after them
abbrev pub three : List (List ℕ) → Result (List ℕ × List ℕ × List ℕ × List (List ℕ)) ScriptCause
three (a ∷ b ∷ c ∷ words) = Ok (a, b, c, words)
three _ = Err Count

-- where the first of some things stands that has this name
abbrev pub place_of : {X : Type 0} → (X → List ℕ) → List ℕ → List X → Option ℕ
place_of name_of name things = position (λ thing. pointwise nat_eq (name_of thing) name) things

-- a name that none of these things has
abbrev pub new_name : {X : Type 0} → (X → List ℕ) → List X → List ℕ → Result (List ℕ) ScriptCause
new_name name_of things word =
    if not (is_name word) then Err Name
    else if is_some (place_of name_of word things) then Err Twice
    else Ok word

abbrev pub known : Option ℕ → Result ℕ ScriptCause
known None = Err Unknown
known (Some place) = Ok place

-- where a thing of this name stands
abbrev pub known_name : {X : Type 0} → (X → List ℕ) → List X → List ℕ → Result ℕ ScriptCause
known_name name_of things word = if not (is_name word) then Err Name else known (place_of name_of word things)

-- a line may stand where it comes
abbrev pub allowed : Option Stage → Stage → Result Stage ScriptCause
allowed last stage = if may_follow last stage then Ok stage else Err Word
