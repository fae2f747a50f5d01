-- The names of a set are text.
use Rattle.std.proofs.Common.{◌≡◌, ℕ, zero, suc, ◌<◌, true, List, [], ◌∷◌, arith}
use Rattle.std.proofs.lemmas.Bool.{and_parts}
use Rattle.std.proofs.lemmas.Bool.Decides.{nat_tests}
use Rattle.std.proofs.lemmas.List.Sums.{list_all-from_AllPass}
use Rattle.std.specs.Str.{IsAscii, IsUtf8}
use Rattle.std.specs.List.{list_all}
use Rattle.std.proofs.lemmas.Str.{IsUtf8-from_ascii}
use Rattle.set_model.specs.Names.{IsName, is_name_byte}

byte_is_ascii : (b : ℕ) → is_name_byte b ≡ true → b < 128
byte_is_ascii b h = grind (arith, nat_tests)

bytes_are_ascii : (name : List ℕ) → list_all is_name_byte name ≡ true → IsAscii name
bytes_are_ascii [] h i = omega arith
bytes_are_ascii (b ∷ name) h zero = byte_is_ascii b (and_parts (is_name_byte b) (list_all is_name_byte name) h).0
bytes_are_ascii (b ∷ name) h (suc i) = bytes_are_ascii name (and_parts (is_name_byte b) (list_all is_name_byte name) h).1 i

pub name_is_text : (name : List ℕ) → IsName name → IsUtf8 name
name_is_text name h = IsUtf8-from_ascii name (bytes_are_ascii name (list_all-from_AllPass is_name_byte name h.bytes))
