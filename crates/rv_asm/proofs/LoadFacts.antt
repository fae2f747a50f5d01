-- `li` leaves its value, in one instruction where one is enough.
use Rattle.std.proofs.Common.{◌≡◌, ◌≢◌, ℕ, ◌+◌, ◌-◌, ◌*◌, ◌/◌, ◌%◌, ◌<◌, ◌≤◌, length, refl, arith, eqb, inl, inr, ℤ, pos, negsuc}
use Rattle.std.proofs.lemmas.Bool.{cases_Bool, cases_lt, lt-ltb, le-ltb, le-leb, eqb-true, ne_eqb, eq-eqb}
use Rattle.rv_isa.specs.Fields.{signed, unsigned, IsSigned}
use Rattle.rv_isa.specs.declared.instruction.Reg.{Reg}
use Rattle.rv_asm.specs.Numbers.{is_within}
use Rattle.rv_asm.specs.Laws.{values_after}
use Rattle.rv_asm.specs.Loads.{loads}

-- a number with its sign, and back
there_and_back : (v : ℕ) → v < 4294967296 → unsigned 32 (signed 32 v) ≡ v
there_and_back v lt = elim (cases_lt v 2147483648) [
  | inl small ↦ rw (lt-ltb v 2147483648 small) refl
  | inr large ↦ rw (le-ltb v 2147483648 large) (omega arith)
]

low_back : (n : ℕ) → n < 4096 → (n < 2048 → unsigned 32 (signed 12 n) ≡ n) × (2048 ≤ n → unsigned 32 (signed 12 n) ≡ 4294963200 + n)
low_back n lt = (λ small. rw (lt-ltb n 2048 small) refl, λ large. rw (le-ltb n 2048 large) (omega arith))

whole_sum : (v low : ℕ) → v < 4294967296 → (v % 4096 < 2048 → low ≡ v % 4096) → (2048 ≤ v % 4096 → low ≡ 4294963200 + v % 4096)
    → ((v + 2048) % 4294967296 / 4096 * 4096 + low) % 4294967296 ≡ v
whole_sum v low lt small large = elim (cases_lt (v % 4096) 2048) [
  | inl s ↦ let e = small s in omega arith
  | inr l ↦ let e = large l in omega arith
]

pub load_value : (rd : Reg) (v x : ℕ) → rd.0 ≢ 0 → v < 4294967296 → values_after (loads rd v) x ≡ v
unfolding loads
load_value rd v x some lt = elim (cases_Bool (is_within 2048 2047 (signed 32 v))) [
  | inl e ↦ rw (e, there_and_back v lt) (omega arith)
  | inr e ↦ elim (cases_Bool (eqb (v % 4096) 0)) [
    | inl z ↦ let zero = eqb-true (v % 4096) 0 z in rw (e, z) (omega arith)
    | inr z ↦
        let back = low_back (v % 4096) (omega arith) in
        rw (e, z, ne_eqb rd.0 0 some) (whole_sum v (unsigned 32 (signed 12 (v % 4096))) lt back.0 back.1)
  ]
]

pub load_small : (rd : Reg) (v : ℕ) (z : ℤ) → IsSigned 12 z → unsigned 32 z ≡ v → length (loads rd v) ≡ 1
unfolding loads
load_small rd v (pos n) h e =
    let small : v < 2147483648 = omega arith in
    rw (lt-ltb v 2147483648 small, le-leb v 2047 (omega arith)) refl
load_small rd v (negsuc n) h e =
    let large : 2147483648 ≤ v = omega arith in
    rw (le-ltb v 2147483648 large, lt-ltb (4294967295 - v) 2048 (omega arith)) refl

pub load_upper : (rd : Reg) (v h : ℕ) → h < 1048576 → h * 4096 ≡ v → length (loads rd v) ≡ 1
unfolding loads
load_upper rd v h lt e = elim (cases_Bool (is_within 2048 2047 (signed 32 v))) [
  | inl s ↦ rw s refl
  | inr s ↦ let zero : v % 4096 ≡ 0 = omega arith in rw (s, eq-eqb (v % 4096) 0 zero) refl
]
