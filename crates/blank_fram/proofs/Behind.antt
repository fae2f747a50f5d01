-- A word that is put behind those that are kept, and zeros between.
use Rattle.std.proofs.Common.{arith, ◌≡◌, ◌+◌, ◌-◌, ◌<◌, ◌≤◌, ℕ, List, [], ◌∷◌, ◌++◌, length, set, replicate, refl, ◌∙◌, suc, ap}
use Rattle.std.proofs.lemmas.List.{drop-replicate, length-append, length-replicate, set-append_right, set_split, take-replicate}

-- zeros of which one becomes a word
set-zeros : (n k v : ℕ) → k < n → set (replicate n 0) k v ≡ replicate k 0 ++ v ∷ replicate (n - suc k) 0
set-zeros n k v h =
    let l : length (replicate {A = ℕ} n 0) ≡ n = length-replicate n 0 in
    let within : k < length (replicate {A = ℕ} n 0) = rw l h in
    set_split (replicate n 0) k v within
    ∙ rw (take-replicate {X = ℕ} k n 0 (omega (arith, h)), drop-replicate {X = ℕ} (suc k) n 0) refl

seam : (xs zs rest : List ℕ) (v : ℕ) → (xs ++ zs ++ v ∷ []) ++ rest ≡ xs ++ (zs ++ v ∷ rest)
seam [] [] rest v = refl
seam [] (z ∷ zs) rest v = ap (λ (ys : List ℕ). z ∷ ys) (seam [] zs rest v)
seam (x ∷ xs) zs rest v = ap (λ (ys : List ℕ). x ∷ ys) (seam xs zs rest v)

-- the word in its place, of what is kept and of the zeros behind that
set_behind : (xs : List ℕ) (zeros more at v : ℕ) → length xs ≤ at → at < length xs + zeros → length xs + more ≡ at + 1
    → (xs ++ replicate (at - length xs) 0 ++ v ∷ []) ++ replicate (zeros - more) 0 ≡ set (xs ++ replicate zeros 0) at v
set_behind xs zeros more at v behind within count =
    let k : more ≡ suc (at - length xs) = omega (arith, behind, count) in
    let lies : at - length xs < zeros = omega (arith, behind, within) in
    rw (k, set-append_right xs (replicate zeros 0) (length xs) at v refl behind, set-zeros zeros (at - length xs) v lies) (seam xs (replicate (at - length xs) 0) (replicate (zeros - suc (at - length xs)) 0) v)

pub put_behind : (xs new all : List ℕ) (zeros more at v : ℕ) → xs ++ replicate zeros 0 ≡ all → at < length all → length xs ≤ at → length xs + more ≡ at + 1
    → new ≡ xs ++ replicate (at - length xs) 0 ++ v ∷ [] → new ++ replicate (zeros - more) 0 ≡ set all at v
put_behind xs new all zeros more at v same within behind count is =
    let l : length (xs ++ replicate zeros 0) ≡ length xs + zeros = rw (length-append xs (replicate zeros 0), length-replicate {A = ℕ} zeros 0) refl in
    let far : at < length xs + zeros = rw (← l, same) within in
    rw (is, ← same) (set_behind xs zeros more at v behind far count)
