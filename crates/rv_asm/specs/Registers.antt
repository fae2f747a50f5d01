-- Registers by their names in a text: those of the ABI, `fp`, and `x0` to `x31` (the RISC-V unprivileged ISA
-- manual, chapter "RISC-V Assembly Programmer's Handbook").
use Rattle.std.specs.Prelude.{ℕ, List, [], ◌∷◌, Option, Some, position, option_map, nat_eq, codes, if◌then◌else◌}
use Rattle.std.specs.Cmp.Lexicographic.{pointwise}
use Rattle.std.specs.Option.{option_or}
use Rattle.rv_isa.specs.Names.{register_names}
use Rattle.rv_isa.specs.declared.instruction.Reg.{Reg}

abbrev pub numbered_names : List (List ℕ)
numbered_names =
    codes "x0" ∷ codes "x1" ∷ codes "x2" ∷ codes "x3" ∷ codes "x4" ∷ codes "x5" ∷ codes "x6" ∷ codes "x7" ∷
    codes "x8" ∷ codes "x9" ∷ codes "x10" ∷ codes "x11" ∷ codes "x12" ∷ codes "x13" ∷ codes "x14" ∷ codes "x15" ∷
    codes "x16" ∷ codes "x17" ∷ codes "x18" ∷ codes "x19" ∷ codes "x20" ∷ codes "x21" ∷ codes "x22" ∷ codes "x23" ∷
    codes "x24" ∷ codes "x25" ∷ codes "x26" ∷ codes "x27" ∷ codes "x28" ∷ codes "x29" ∷ codes "x30" ∷ codes "x31" ∷ []

-- a number as the register with it
abbrev pub numbered : Option ℕ → Option Reg
numbered place = option_map (λ n. record { 0 = n }) place

-- the register at whose place a word stands among names
abbrev pub register_among : List (List ℕ) → List ℕ → Option Reg
register_among names word = numbered (position (λ name. pointwise nat_eq name word) names)

unfoldable pub register_of : List ℕ → Option Reg
register_of word =
    if pointwise nat_eq word (codes "fp") then Some (record { 0 = 8 })
    else option_or (register_among register_names word) (register_among numbered_names word)
