-- How logs grow by all writes of a format or of a migration, or by the first of them.
use Rattle.std.proofs.Common.{◌≡◌, ◌⊎◌, ⊎_elim, ℕ, ◌+◌, ◌-◌, List, [], ◌∷◌, ◌++◌, length, take, arith, refl, ap, sym, ◌∙◌}
use Rattle.std.proofs.lemmas.List.{append_assoc, append-nil, length-append}
use Rattle.std.proofs.Math.Seq.{take-append_seam}
use Rattle.device_model.specs.Words.{Change, Words}
use Rattle.device_format.specs.Puts.{HasFront, HasPut, HasPutFront, puts}
use Rattle.device_format.proofs.Putting.{puts-append}

-- what some writes begin with
pub is_front : (writes xs ys a b : List Change) → b ≡ a ++ xs → writes ≡ xs ++ ys → HasFront writes a b
is_front writes xs ys a b e f = (
  length xs,
  let l : length writes ≡ length xs + length ys = ap length f ∙ length-append xs ys in omega (arith, l),
  e ∙ ap (λ (log : List Change). a ++ log) (sym (ap (λ (log : List Change). take (length xs) log) f ∙ take-append_seam xs ys)),
)

-- first some writes, then words that are put, and at last one write
pub all_writes : (w : Words) (p n : ℕ) (first : List Change) (z : Change) (a b c d : List Change) → b ≡ a ++ first → HasPut w p n b c → d ≡ c ++ z ∷ [] → d ≡ a ++ (first ++ puts w p n ++ z ∷ [])
all_writes w p n first z a b c d h k l =
    l ∙ ap (λ (log : List Change). log ++ z ∷ []) (k ∙ ap (λ (log : List Change). log ++ puts w p n) h ∙ append_assoc a first (puts w p n))
    ∙ append_assoc a (first ++ puts w p n) (z ∷ [])

-- the first write is made, or not
pub front_first : (w : Words) (p n : ℕ) (x z : Change) (a b : List Change) → (b ≡ a) ⊎ (b ≡ a ++ x ∷ []) → HasFront ((x ∷ []) ++ puts w p n ++ z ∷ []) a b
front_first w p n x z a b = ⊎_elim
    (λ e. is_front ((x ∷ []) ++ puts w p n ++ z ∷ []) [] ((x ∷ []) ++ puts w p n ++ z ∷ []) a b (e ∙ sym (append-nil a)) refl)
    (λ e. is_front ((x ∷ []) ++ puts w p n ++ z ∷ []) (x ∷ []) (puts w p n ++ z ∷ []) a b e (append_assoc (x ∷ []) (puts w p n) (z ∷ [])))

-- some words are put
pub front_middle : (w : Words) (p n : ℕ) (first : List Change) (z : Change) (a b c : List Change) → b ≡ a ++ first → HasPutFront w p n b c → HasFront (first ++ puts w p n ++ z ∷ []) a c
front_middle w p n first z a b c h k =
    let j = k.0 in
    let m : n ≡ j + (n - j) = let l = k.1 in omega (arith, l) in
    let split : puts w p n ≡ puts w p j ++ puts w (p + j) (n - j) = ap (puts w p) m ∙ sym (puts-append w p j (n - j)) in
    is_front (first ++ puts w p n ++ z ∷ []) (first ++ puts w p j) (puts w (p + j) (n - j) ++ z ∷ []) a c
    (k.2 ∙ ap (λ (log : List Change). log ++ puts w p j) h ∙ append_assoc a first (puts w p j))
    (ap (λ (log : List Change). first ++ log ++ z ∷ []) split
    ∙ ap (λ (log : List Change). log ++ z ∷ []) (sym (append_assoc first (puts w p j) (puts w (p + j) (n - j))))
    ∙ append_assoc (first ++ puts w p j) (puts w (p + j) (n - j)) (z ∷ []))

-- all words are put, and the last write is made, or not
pub front_last : (w : Words) (p n : ℕ) (first : List Change) (z : Change) (a b c d : List Change) → b ≡ a ++ first → HasPut w p n b c → (d ≡ c) ⊎ (d ≡ c ++ z ∷ []) → HasFront (first ++ puts w p n ++ z ∷ []) a d
front_last w p n first z a b c d h k = ⊎_elim
    (λ e. is_front (first ++ puts w p n ++ z ∷ []) (first ++ puts w p n) (z ∷ []) a d (e ∙ k ∙ ap (λ (log : List Change). log ++ puts w p n) h ∙ append_assoc a first (puts w p n)) refl)
    (λ e. is_front (first ++ puts w p n ++ z ∷ []) (first ++ puts w p n ++ z ∷ []) [] a d (all_writes w p n first z a b c d h k e) (sym (append-nil (first ++ puts w p n ++ z ∷ []))))
