-- The test for a name, and what it says.
use Rattle.std.proofs.Common.{◌≡◌, ℕ, ◌≤◌, Bool, true, false, MatchBool, List, length, get_or, sym, ◌∙◌}
use Rattle.std.specs.List.{list_all}
use Rattle.std.specs.Char.{is_ascii_digit}
use Rattle.std.proofs.lemmas.List.Sums.{AllPass-from_list_all, list_all-from_AllPass}
use Rattle.plain_text.specs.Names.{IsName, is_name_byte}

pub name_by_bytes : (name : List ℕ) (b : Bool) → b ≡ list_all is_name_byte name → (1 ≤ length name) × (length name ≤ 16) → is_ascii_digit (get_or name 0 0) ≡ false
    → MatchBool b (IsName name) (IsName name → ⊥)
name_by_bytes name true e w d = record { size = w; bytes = AllPass-from_list_all is_name_byte name (sym e); first = d }
name_by_bytes name false e w d = λ h. let f : false ≡ true = e ∙ list_all-from_AllPass is_name_byte name h.bytes in cc
