-- How many of the bytes left were read.
use Rattle.std.proofs.Common.{◌≡◌, ℕ, ◌≤◌, List, [], ◌∷◌, length, drop, Option, Some, None, refl, ap, sym, ◌∙◌, subst, arith}
use Rattle.nv_base.specs.Streams.{AtMostGone, GaveAll}

pub none_gone : (o : Option (List ℕ)) (n : ℕ) → AtMostGone o o n
none_gone None n = (0, omega arith, refl)
none_gone (Some left) n = (0, omega arith, (omega arith, refl))

drop_all : (xs : List ℕ) → drop (length xs) xs ≡ []
drop_all [] = refl
drop_all (x ∷ xs) = drop_all xs

pub all_gone : (o now : Option (List ℕ)) (bytes : List ℕ) (n : ℕ) → GaveAll o now bytes → length bytes ≤ n → AtMostGone o now n
all_gone None now bytes n h l = (0, omega arith, h)
all_gone (Some left) now bytes n h l =
    (length left, subst (λ b. length b ≤ n) (sym h.0) l, (omega arith, h.1 ∙ ap (λ b. Some b) (sym (drop_all left))))
