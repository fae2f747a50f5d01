-- Lines that are lent, and the lines that they are.
use Rattle.std.proofs.Common.{◌≡◌, ℕ, Bool, List, [], ◌∷◌, map, Bor, refl}
use Rattle.std.specs.List.{position, position_or_len}
use Rattle.std.proofs.lemmas.List.{length-map}

place-map : {X Y : Type 0} (p : Y → Bool) (f : X → Y) (xs : List X) → position_or_len p (map f xs) ≡ position_or_len (λ x. p (f x)) xs
place-map p f [] = refl
place-map p f (x ∷ xs) = rw (place-map p f xs) refl

pub position_map : (p : List ℕ → Bool) (xs : List (Bor (List ℕ))) → position p (map (λ line. line.now) xs) ≡ position (λ line. p line.now) xs
position_map p xs = rw (place-map p (λ (line : Bor (List ℕ)). line.now) xs, length-map) refl
