-- The lines of a block, as they are gone over.
use Rattle.std.proofs.Common.{◌≡◌, ℕ, suc, zero, ◌+◌, ◌<◌, ◌≤◌, List, [], ◌∷◌, length, get_or, drop, map, None, Bor, refl, ap, arith, add-one}
use Rattle.std.specs.List.{position, position_or_len}
use Rattle.std.proofs.lemmas.List.{drop_all}
use Rattle.plain_text.specs.Words.{is_plain}
use Rattle.plain_text.specs.BadLines.{is_bad}
use Rattle.plain_text.proofs.ForCallers.{nowhere, skip_step}
use Rattle.script.specs.Blocks.{or_empty}

abbrev now : Bor (List ℕ) → List ℕ
now line = line.now

next : (xs : List (Bor (List ℕ))) (i : ℕ) (d : Bor (List ℕ)) → i < length xs → map now (drop i xs) ≡ (get_or xs i d).now ∷ map now (drop (suc i) xs)
next [] i d h = absurd (omega arith)
next (x ∷ xs) zero d h = refl
next (x ∷ xs) (suc i) d h = next xs i d (omega arith)

pub lines_next : (xs : List (Bor (List ℕ))) (i : ℕ) (d : Bor (List ℕ)) → i < length xs
    → map (λ line. line.now) (drop i xs) ≡ (get_or xs i d).now ∷ map (λ line. line.now) (drop (i + 1) xs)
lines_next xs i d h = rw add-one (next xs i d h)

pub lines_over : (xs : List (Bor (List ℕ))) (i : ℕ) → length xs ≤ i → map (λ line. line.now) (drop i xs) ≡ []
lines_over xs i h = ap (λ (ys : List (Bor (List ℕ))). map now ys) (drop_all i xs h)

each_plain : (xs : List (List ℕ)) → length xs ≤ position_or_len is_bad xs → map or_empty xs ≡ xs
each_plain [] le = refl
each_plain (x ∷ xs) le =
    let s = skip_step (is_plain x) (length xs) (position_or_len is_bad xs) le in
    rw (s.0, each_plain xs s.1) refl

-- lines without a byte that is not allowed stay as they are
pub all_plain : (xs : List (List ℕ)) → position is_bad xs ≡ None → map or_empty xs ≡ xs
all_plain xs e = each_plain xs (nowhere is_bad xs e)

pub or_empty_map : (xs : List (Bor (List ℕ))) → map (λ line. or_empty line.now) xs ≡ map or_empty (map (λ line. line.now) xs)
or_empty_map [] = refl
or_empty_map (x ∷ xs) = ap (λ (ys : List (List ℕ)). or_empty x.now ∷ ys) (or_empty_map xs)
