-- Names of objects, programs and labels. This project's own.
use Rattle.std.specs.Prelude.{◌≡◌, ◌≤◌, ℕ, List, Bool, false, not, ◌||◌, ◌&&◌, ◌==◌, length, get_or}
use Rattle.std.specs.Char.{is_ascii_alphanumeric, is_ascii_digit}
use Rattle.std.specs.Int.{is_in_range}
use Rattle.std.specs.List.{AllPass, list_all}
use Rattle.nv_base.specs.declared.limits.TheConstants.{MAX_NAME}

-- a letter, a digit or `_`
abbrev pub is_name_byte : ℕ → Bool
is_name_byte b = is_ascii_alphanumeric b || b == 95

-- 1 to 16 letters, digits or `_`, of which the first is no digit
abbrev pub is_name : List ℕ → Bool
is_name name = is_in_range 1 MAX_NAME (length name) && not (is_ascii_digit (get_or name 0 0)) && list_all is_name_byte name

-- the same as facts
pub record IsName (name : List ℕ) : Type 0 where
  pub size : (1 ≤ length name) × (length name ≤ MAX_NAME)
  pub bytes : AllPass is_name_byte name
  pub first : is_ascii_digit (get_or name 0 0) ≡ false
