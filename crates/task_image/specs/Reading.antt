-- Reading fields from left to right: each is refused at its own place, where it is cut and else where it breaks its rule. This project's own.
use Rattle.std.specs.Prelude.{ℕ, zero, suc, ◌+◌, ◌<◌, ◌&&◌, Bool, List, [], ◌∷◌, ◌++◌, length, take, drop, get_or, nat_le, nat_eq, ◌==◌, Result, Ok, Err, if◌then◌else◌}
use Rattle.std.specs.Cmp.Lexicographic.{pointwise}
use Rattle.byteorder.specs.Endian.{little_number}
use Rattle.plain_text.specs.Names.{is_name}
use Rattle.set_model.specs.Names.{is_new}

-- each is a byte
abbrev pub AreBytes : List ℕ → Type 0
AreBytes bytes = (i : ℕ) → get_or bytes i 0 < 256

-- a place in the bytes, and the bytes from there on
pub record Here : Type 0 where
  pub place : ℕ
  pub left : List ℕ

-- a value with where reading goes on, or the place of the field that is refused
abbrev pub Reader : Type 0 → Type 0
Reader A = Here → Result (A × Here) ℕ

abbrev pub and_then : {A B : Type 0} → Result (A × Here) ℕ → (A → Reader B) → Result (B × Here) ℕ
and_then (Ok read) next = next read.0 read.1
and_then (Err place) next = Err place

-- one after another
infixl 10 ◌>>=◌
abbrev pub ◌>>=◌ : {A B : Type 0} → Reader A → (A → Reader B) → Reader B
(first >>= next) here = and_then (first here) next

-- no field
abbrev pub done : {A : Type 0} → A → Reader A
done value here = Ok (value, here)

-- behind so many bytes
abbrev pub past : ℕ → Here → Here
past n here = record { place = here.place + n; left = drop n here.left }

-- a field of n bytes that keeps a rule, and what it stands for
unfoldable pub field : {A : Type 0} → ℕ → (List ℕ → Bool) → (List ℕ → A) → Reader A
field n rule value here =
    if nat_le n (length here.left) && rule (take n here.left)
    then Ok (value (take n here.left), past n here)
    else Err here.place

-- a number of n bytes that keeps a rule
abbrev pub number : ℕ → (ℕ → Bool) → Reader ℕ
number n rule = field n (λ bytes. rule (little_number n bytes)) (little_number n)

-- these bytes
abbrev pub literal : List ℕ → Reader (Unit {0})
literal text = field (length text) (pointwise nat_eq text) (λ _. tt)

-- a name of n bytes that is none of those before
abbrev pub new_name : List (List ℕ) → ℕ → Reader (List ℕ)
new_name taken n = field n (λ name. is_name name && is_new taken name) (λ name. name)

-- n of a kind, each read in view of those before it
unfoldable pub several : {A : Type 0} → ℕ → (List A → Reader A) → List A → Reader (List A)
several zero next before = done before
several (suc n) next before = next before >>= λ one. several n next (before ++ one ∷ [])

-- nothing is left
unfoldable pub end : Reader (Unit {0})
end here = if length here.left == 0 then Ok (tt, here) else Err here.place
