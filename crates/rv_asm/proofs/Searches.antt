-- The first place in a list that passes a test.
use Rattle.std.proofs.Common.{◌≡◌, ℕ, ◌<◌, ◌≤◌, Bool, true, false, List, length, get_or, position, Some, None, nat_eq, refl, arith}
use Rattle.std.specs.Cmp.Lexicographic.{pointwise}
use Rattle.rv_asm.specs.declared.registers.TheConstants.{NUMBERED_NAMES}
use Rattle.rv_asm.specs.Registers.{numbered_names}
use Rattle.std.proofs.lemmas.Bool.{lt-ltb, le-ltb}
use Rattle.std.proofs.lemmas.List.Sums.{position_or_len_is}

pub first_at : {X : Type 0} (p : X → Bool) (xs : List X) (i : ℕ) (d : X) → i < length xs → ((k : ℕ) → k < i → p (get_or xs k d) ≡ false) → p (get_or xs i d) ≡ true → position p xs ≡ Some i
first_at p xs i d lt before here =
    rw (position_or_len_is p xs i d (omega arith) before (λ _. here), lt-ltb _ _ lt) refl

pub first_nowhere : {X : Type 0} (p : X → Bool) (xs : List X) (d : X) → ((k : ℕ) → k < length xs → p (get_or xs k d) ≡ false) → position p xs ≡ None
first_nowhere p xs d before =
    let same : length xs ≤ length xs = omega arith in
    rw (position_or_len_is p xs (length xs) d same before (λ lt. absurd (omega arith)), le-ltb _ _ same) refl

pub same_names : (word : List ℕ) → position (λ name. pointwise nat_eq name.now word) NUMBERED_NAMES ≡ position (λ name. pointwise nat_eq name word) numbered_names
same_names word = refl
