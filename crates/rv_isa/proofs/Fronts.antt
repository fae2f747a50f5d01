-- A front of a text that is written part by part.
use Rattle.std.proofs.Common.{◌≡◌, ℕ, zero, suc, ◌+◌, ◌-◌, ◌/◌, ◌%◌, ◌≤◌, ◌<◌, List, [], ◌∷◌, ◌++◌, length, take, drop, get_or, codes, refl, sym, ap, ◌∙◌, append_assoc, length-append, arith, Result, Ok, Err, OnErr, is_ok, if◌then◌else◌}
use Rattle.std.proofs.lemmas.List.{take-append-le, take-append-drop}
use Rattle.std.proofs.lemmas.Grind.{flat_map-append}
use Rattle.std.specs.List.{flat_map}
use Rattle.std.proofs.Math.Seq.{take-append-add, take-append_seam, take-length, drop-cons}
use Rattle.std.specs.Char.{digit_char}
use Rattle.rv_isa.specs.Names.{mnemonic_of}
use Rattle.rv_isa.specs.Texts.{HasFront, hexadecimal, operand_text, operands_of, operands_text, row_text}
use Rattle.rv_isa.specs.declared.syntax.Operand.{Operand}
use Rattle.rv_isa.specs.declared.instruction.Instr.{Instr}

-- a fact holds on errors where it holds
pub on_err : {T E P : Type 0} (r : Result T E) → P → OnErr r P
on_err (Ok x) p = tt
on_err (Err e) p = p

-- what is done of a text stands there, and nothing more
pub front_done : (old done rest text new : List ℕ) → text ≡ done ++ rest → new ≡ old ++ done → HasFront old text new
front_done old done rest text new e f = record {
  count = length done;
  short = rw (e, length-append) (omega arith);
  is_put = rw (e, take-append_seam) f;
}

-- the same, where a call that failed put nothing more
pub front_if_err : {T E : Type 0} (r : Result T E) (old done rest text mid full new : List ℕ) → text ≡ done ++ rest → mid ≡ old ++ done → new ≡ (if is_ok r then full else mid) → OnErr r (HasFront old text new)
front_if_err (Ok x) old done rest text mid full new e f g = tt
front_if_err (Err x) old done rest text mid full new e f g = front_done old done rest text new e (g ∙ f)

-- what is done of a text stands there, and a front of the next part
pub front_of_part : (old done next rest text mid new : List ℕ) → text ≡ done ++ (next ++ rest) → mid ≡ old ++ done → HasFront mid next new → HasFront old text new
front_of_part old done next rest text mid new e f h = record {
  count = length done + h.count;
  short = rw (e, length-append, length-append) (omega (arith, h.short));
  is_put = h.is_put ∙ rw (e, f, take-append-add) (append_assoc old done (take h.count next) ∙ ap (λ xs. old ++ (done ++ xs)) (sym (within h.count next rest h.short)));
}
  where
    within : (n : ℕ) (xs ys : List ℕ) → n ≤ length xs → take n (xs ++ ys) ≡ take n xs
    within n xs ys l = take-append-le n xs ys l

-- the same, where the next part's call failed
pub part_if_err : {T E : Type 0} (r : Result T E) (old done next rest text mid new : List ℕ) → text ≡ done ++ (next ++ rest) → mid ≡ old ++ done → OnErr r (HasFront mid next new) → OnErr r (HasFront old text new)
part_if_err (Ok x) old done next rest text mid new e f h = tt
part_if_err (Err x) old done next rest text mid new e f h = front_of_part old done next rest text mid new e f h

-- a number of some digits is one of a digit less, and the last digit
pub one_digit_more : (digits n : ℕ) → (digits ≡ 0 → ⊥) → hexadecimal digits n ≡ hexadecimal (digits - 1) (n / 16) ++ digit_char (n % 16) ∷ []
unfolding hexadecimal
one_digit_more zero n h = absurd (h refl)
one_digit_more (suc digits) n h = let e : suc digits - 1 ≡ digits = omega arith in rw e refl

-- parts that are put one after another
pub grown : (old a mid b new : List ℕ) → mid ≡ old ++ a → new ≡ mid ++ b → new ≡ old ++ (a ++ b)
grown old a mid b new e f = f ∙ ap (λ xs. xs ++ b) e ∙ append_assoc old a b

-- the operands behind the first, and the text of one
abbrev pub others_of : List Operand → List Operand
others_of xs = take (length xs - 1) (drop 1 xs)

abbrev pub other_text : Instr → Operand → List ℕ
other_text i operand = codes ", " ++ operand_text i operand

-- the operands of a line: the first, and the others
pub operands_in_parts : (i : Instr) (xs : List Operand) (d : Operand) → 1 ≤ length xs → operands_text i xs ≡ (codes " " ++ operand_text i (get_or xs 0 d)) ++ flat_map (other_text i) (others_of xs)
operands_in_parts i [] d h = absurd (omega arith)
operands_in_parts i (x ∷ xs) d h =
    let e : suc (length xs) - 1 ≡ length xs = omega arith in
    ap (λ others. (codes " " ++ operand_text i x) ++ flat_map (other_text i) others) (sym (rw (e, take-length) refl))

-- the texts of a list: those before one of them, that one, and those behind it
pub texts_in_parts : (f : Operand → List ℕ) (xs : List Operand) (k : ℕ) (d : Operand) → k < length xs → flat_map f xs ≡ flat_map f (take k xs) ++ (f (get_or xs k d) ++ flat_map f (drop (suc k) xs))
texts_in_parts f xs k d h =
    ap (flat_map f) (sym (take-append-drop k xs)) ∙ flat_map-append f (take k xs) (drop k xs) ∙ ap (λ ys. flat_map f (take k xs) ++ flat_map f ys) (drop-cons xs k d h)

-- the text of an instruction, with another operand of those behind the first
pub row_in_parts : (i : Instr) (xs : List Operand) (k : ℕ) (d : Operand) → xs ≡ operands_of i → 1 ≤ length xs → k < length (others_of xs)
    → row_text i ≡ mnemonic_of i ++ ((codes " " ++ operand_text i (get_or xs 0 d)) ++ (flat_map (other_text i) (take k (others_of xs)) ++ (other_text i (get_or (others_of xs) k d) ++ flat_map (other_text i) (drop (suc k) (others_of xs)))))
row_in_parts i xs k d e h l =
    ap (λ ops. mnemonic_of i ++ operands_text i ops) (sym e) ∙ ap (λ text. mnemonic_of i ++ text) (operands_in_parts i xs d h)
    ∙ ap (λ text. mnemonic_of i ++ ((codes " " ++ operand_text i (get_or xs 0 d)) ++ text)) (texts_in_parts (other_text i) (others_of xs) k d l)

-- a front of two parts and of what stands before the third, grouped as it is put
pub regrouped : (a b c d : List ℕ) → a ++ ((b ++ c) ++ d) ≡ (a ++ b) ++ (c ++ d)
regrouped a b c d = simp append_assoc

pub regrouped_before : (a b c d e : List ℕ) → a ++ ((b ++ c) ++ (d ++ e)) ≡ (((a ++ b) ++ c) ++ d) ++ e
regrouped_before a b c d e = simp append_assoc

pub regrouped_inside : (a b c d e f g : List ℕ) → a ++ ((b ++ c) ++ (d ++ ((e ++ f) ++ g))) ≡ ((((a ++ b) ++ c) ++ d) ++ e) ++ (f ++ g)
regrouped_inside a b c d e f g = simp append_assoc
