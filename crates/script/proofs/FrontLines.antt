-- Lines are passed one by one, up to the `run` line: what was passed and what is left give the front of the whole.
use Rattle.std.proofs.Common.{◌≡◌, ℕ, suc, ◌+◌, ◌-◌, ◌&&◌, Bool, false, not, List, [], ◌∷◌, ◌++◌, length, take, drop, position, Option, Some, None, refl, sym, ap, ◌∙◌, append_assoc, take-append-drop, length-drop, eqb, arith}
use Rattle.std.specs.Str.Lines.{lines, strip_carriage_return}
use Rattle.std.proofs.lemmas.List.{drop_all, take_all}
use Rattle.plain_text.proofs.Cuts.{lines-fed, lines-last}
use Rattle.script.specs.Fronts.{behind_feed, first_lines, front_of, is_open_after, is_run, line_end, lines_to_run}

-- these lines were passed, of which none is the `run` line, and this is left
pub record HasPassed (bytes : List ℕ) (open_before : Bool) (rest : List ℕ) : Type 0 where
  pub passed : List ℕ
  pub whole : passed ++ rest ≡ bytes
  pub front : passed ++ first_lines (lines_to_run open_before (lines rest)) rest ≡ front_of bytes

-- the lines behind the first one
pub lines_behind : (rest line : List ℕ) (others : List (List ℕ)) → lines rest ≡ line ∷ others → others ≡ lines (drop (line_end rest) rest)
lines_behind [] line others e = absurd (let l : 0 ≡ suc (length others) = ap length e in omega (arith, l))
lines_behind (b ∷ rest) line others e = go (position (λ c. eqb c 10) (b ∷ rest)) refl
  where
    tail : (xs ys : List (List ℕ)) (x y : List ℕ) → x ∷ xs ≡ y ∷ ys → xs ≡ ys
    tail xs ys x y f = ap (λ l. drop 1 l) f

    go : (o : Option ℕ) → position (λ c. eqb c 10) (b ∷ rest) ≡ o → others ≡ lines (drop (behind_feed (length (b ∷ rest)) o) (b ∷ rest))
    go None f =
        let none : drop (length (b ∷ rest)) (b ∷ rest) ≡ [] = drop_all (length (b ∷ rest)) (b ∷ rest) (omega arith) in
        rw none (tail others [] line (b ∷ rest) (sym e ∙ lines-last (b ∷ rest) f (omega arith)))
    go (Some i) f = tail others (lines (drop (i + 1) (b ∷ rest))) line (strip_carriage_return (take i (b ∷ rest))) (sym e ∙ lines-fed (b ∷ rest) i f)

pub one_passed : (bytes rest line : List ℕ) (others : List (List ℕ)) (was : Bool) → HasPassed bytes was rest → lines rest ≡ line ∷ others → (not was && is_run line) ≡ false → HasPassed bytes (is_open_after was line) (drop (line_end rest) rest)
one_passed bytes rest line others was h e goes_on =
    let k = line_end rest in
    let left = drop k rest in
    let count : lines_to_run was (lines rest) ≡ suc (lines_to_run (is_open_after was line) (lines left)) =
    ap (lines_to_run was) e ∙ rw goes_on (ap (λ ls. suc (lines_to_run (is_open_after was line) ls)) (lines_behind rest line others e)) in
    record {
      passed = h.passed ++ take k rest;
      whole = append_assoc h.passed (take k rest) left ∙ ap (λ t. h.passed ++ t) (take-append-drop k rest) ∙ h.whole;
      front = append_assoc h.passed (take k rest) (first_lines (lines_to_run (is_open_after was line) (lines left)) left)
          ∙ ap (λ n. h.passed ++ first_lines n rest) (sym count) ∙ h.front;
    }

-- what a slice from there on is
pub slice_left : (rest : List ℕ) (k : ℕ) → k ≡ line_end rest → take (length rest - k) (drop k rest) ≡ drop (line_end rest) rest
slice_left rest k is = take_all (length rest - k) (drop k rest) (omega (arith, length-drop k rest)) ∙ ap (λ m. drop m rest) is
