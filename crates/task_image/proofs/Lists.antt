-- Several of a kind keep what each of them owes.
use Rattle.std.proofs.Common.{◌≡◌, ℕ, zero, suc, ◌+◌, ◌-◌, ◌*◌, ◌≤◌, List, [], ◌∷◌, ◌++◌, length, take, drop, Result, sym, ap, subst, ◌∙◌, append_assoc, arith, inl, inr}
use Rattle.std.proofs.lemmas.List.{append-nil, length-append}
use Rattle.std.specs.List.{flat_map}
use Rattle.task_image.specs.Reading.{Here, Reader, and_then, several, AreBytes}
use Rattle.task_image.proofs.Fields.{Reads, Takes, Stops, Takes-then, Stops-then, Stops-more, went_on, stopped, at, gives, refused, same_front, same_behind, same_gift}

-- so many, each in view of those before it
abbrev pub Each : {A : Type 0} → (List A → A → Type 0) → ℕ → List A → List A → Type 0
Each P zero before [] = Unit {0}
Each P zero before (x ∷ xs) = ⊥
Each P (suc n) before [] = ⊥
Each P (suc n) before (x ∷ xs) = P before x × Each P n (before ++ x ∷ []) xs

-- what several of them took
pub record Took {A : Type 0} (text : A → List ℕ) (P : List A → A → Type 0) (n : ℕ) (before : List A) (here there : Here) (all : List A) : Type 0 where
  pub more : List A
  pub all_is : all ≡ before ++ more
  pub takes : Takes here (flat_map text more) there
  pub fits : Each P n before more

module _ {A : Type 0} (next : List A → Reader A) (text : A → List ℕ) (P : List A → A → Type 0) (m : ℕ) (f : (before : List A) → Reads (next before) text (P before) m) where
  abbrev rest_of : ℕ → List A → A → Reader (List A)
  rest_of n before one = several n next (before ++ one ∷ [])

  several_takes : (n : ℕ) (before : List A) (here there : Here) (all : List A) → AreBytes here.left → several n next before here ≡ gives all there → Took text P n before here there all
  unfolding several
  several_takes zero before here there all h e =
      let s = same_gift before all here there e in
      let place : there.place ≡ here.place = ap (λ (x : Here). x.place) (sym s.1) in
      record {
        more = [];
        all_is = sym s.0 ∙ sym (append-nil before);
        takes = record { left = ap (λ (x : Here). x.left) s.1; place = omega (arith, place); bytes = subst (λ (x : Here). AreBytes x.left) s.1 h };
        fits = tt;
      }
  several_takes (suc n) before here there all h e =
      let w = went_on (next before here) (rest_of n before) all there e in
      let t = (f before).takes here w.mid w.value h w.first in
      let u = several_takes n (before ++ w.value ∷ []) w.mid there all t.0.bytes w.second in
      record {
        more = w.value ∷ u.more;
        all_is = u.all_is ∙ append_assoc before (w.value ∷ []) u.more;
        takes = Takes-then here w.mid there (text w.value) (flat_map text u.more) t.0 u.takes;
        fits = (t.1, u.fits);
      }

  several_again : (n : ℕ) (before xs : List A) (place : ℕ) (rest : List ℕ) → Each P n before xs → several n next before (at place (flat_map text xs ++ rest)) ≡ gives (before ++ xs) (at (place + length (flat_map text xs)) rest)
  unfolding several
  several_again zero before [] place rest q =
      let z : place ≡ place + 0 = omega arith in
      ap (λ (ys : List A). gives ys (at place rest)) (sym (append-nil before)) ∙ ap (λ (p : ℕ). gives (before ++ []) (at p rest)) z
  several_again zero before (x ∷ xs) place rest q = absurd q
  several_again (suc n) before [] place rest q = absurd q
  several_again (suc n) before (x ∷ xs) place rest q =
      let tail = flat_map text xs in
      let one = (f before).again x place (tail ++ rest) q.0 in
      let two = several_again n (before ++ x ∷ []) xs (place + length (text x)) rest q.1 in
      let long : place + length (text x) + length tail ≡ place + length (text x ++ tail) = omega (arith, length-append (text x) tail) in
      ap (λ (t : List ℕ). and_then (next before (at place t)) (rest_of n before)) (append_assoc (text x) tail rest)
      ∙ ap (λ (r : Result (A × Here) ℕ). and_then r (rest_of n before)) one ∙ two
      ∙ ap (λ (ys : List A). gives ys (at (place + length (text x) + length tail) rest)) (append_assoc before (x ∷ []) xs)
      ∙ ap (λ (p : ℕ). gives (before ++ x ∷ xs) (at p rest)) long

  several_few : (n : ℕ) (before xs : List A) → Each P n before xs → length (flat_map text xs) ≤ n * m
  several_few zero before [] q = omega arith
  several_few zero before (x ∷ xs) q = absurd q
  several_few (suc n) before [] q = absurd q
  several_few (suc n) before (x ∷ xs) q =
      let l = (f before).few x q.0 in
      let k = several_few n (before ++ x ∷ []) xs q.1 in
      omega (arith, l, k, length-append (text x) (flat_map text xs))

  several_stops : (n : ℕ) (before : List A) (here : Here) (place : ℕ) → AreBytes here.left → several n next before here ≡ refused place → Stops here place (n * m)
  unfolding several
  several_stops zero before here place h e = absurd cc
  several_stops (suc n) before here place h e =
      let more : m + n * m ≤ suc n * m = omega arith in
      elim (stopped (next before here) (rest_of n before) place e) [
        | inl r ↦ Stops-more here place m (suc n * m) (omega arith) ((f before).stops here place h r)
        | inr w ↦
            let t = (f before).takes here w.mid w.value h w.first in
            Stops-more here place (m + n * m) (suc n * m) more
            (Stops-then here w.mid (text w.value) place m (n * m) t.0 ((f before).few w.value t.1) (several_stops n (before ++ w.value ∷ []) w.mid place t.0.bytes w.second))
      ]

  several_near : (n : ℕ) (before : List A) (here : Here) (place k : ℕ) (other : List ℕ) → AreBytes here.left → several n next before here ≡ refused place → place + 16 ≤ here.place + k → take k other ≡ take k here.left
      → several n next before (at here.place other) ≡ refused place
  unfolding several
  several_near zero before here place k other h e far agree = absurd cc
  several_near (suc n) before here place k other h e far agree =
      elim (stopped (next before here) (rest_of n before) place e) [
        | inl r ↦ ap (λ (q : Result (A × Here) ℕ). and_then q (rest_of n before)) ((f before).near here place k other h r far agree)
        | inr w ↦
            let t = (f before).takes here w.mid w.value h w.first in
            let s = several_stops n (before ++ w.value ∷ []) w.mid place t.0.bytes w.second in
            let one_text = text w.value in
            let l : length one_text ≤ k = omega (arith, t.0.place, s.low) in
            let e' : take k other ≡ take k (one_text ++ w.mid.left) = agree ∙ ap (take k) t.0.left in
            let one = ap (λ (u : List ℕ). next before (at here.place u)) (same_front k one_text w.mid.left other l e') ∙ (f before).again w.value here.place (drop (length one_text) other) t.1 in
            let two = several_near n (before ++ w.value ∷ []) w.mid place (k - length one_text) (drop (length one_text) other) t.0.bytes w.second (omega (arith, t.0.place)) (same_behind k one_text w.mid.left other l e') in
            ap (λ (r : Result (A × Here) ℕ). and_then r (rest_of n before)) one ∙ ap (λ (p : ℕ). rest_of n before w.value (at p (drop (length one_text) other))) (sym t.0.place) ∙ two
      ]

pub several_read : {A : Type 0} (next : List A → Reader A) (text : A → List ℕ) (P : List A → A → Type 0) (m n : ℕ) → ((before : List A) → Reads (next before) text (P before) m)
    → Reads (several n next []) (flat_map text) (Each P n []) (n * m)
several_read {A = A} next text P m n f = record {
  takes = λ here there all h e.
      let t = several_takes next text P m f n [] here there all h e in
      subst (λ (xs : List A). Takes here (flat_map text xs) there × Each P n [] xs) (sym t.all_is) (t.takes, t.fits);
  again = λ xs place rest q. several_again next text P m f n [] xs place rest q;
  few = λ xs q. several_few next text P m f n [] xs q;
  stops = several_stops next text P m f n [];
  near = several_near next text P m f n [];
}
