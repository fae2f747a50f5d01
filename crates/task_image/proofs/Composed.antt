-- One reader after another keeps what each of them owes.
use Rattle.std.proofs.Common.{◌≡◌, ℕ, ◌+◌, ◌-◌, ◌≤◌, List, [], ◌++◌, length, take, drop, Result, sym, ap, subst, ◌∙◌, append_assoc, arith, inl, inr}
use Rattle.std.proofs.lemmas.List.{length-append}
use Rattle.task_image.specs.Reading.{Here, Reader, and_then, ◌>>=◌, done, AreBytes}
use Rattle.task_image.proofs.Fields.{Reads, Takes, Stops, Takes-then, Stops-then, Stops-more, went_on, StoppedLater, stopped, at, gives, refused, same_front, same_behind, same_gift}

module _ {A B : Type 0} (first : Reader A) (next : A → Reader B) (a : A → List ℕ) (P : A → Type 0) (m : ℕ) (part : B → A) (b : B → List ℕ) (Q : A → B → Type 0) (n : ℕ)
    (f : Reads first a P m) (g : (x : A) → P x → Reads (next x) b (Q x) n) (same : (x : A) (y : B) → P x → Q x y → part y ≡ x) where
  then_takes : (here there : Here) (y : B) → AreBytes here.left → and_then (first here) next ≡ gives y there → Takes here (a (part y) ++ b y) there × (P (part y) × Q (part y) y)
  then_takes here there y h e =
      let w = went_on (first here) next y there e in
      let t = f.takes here w.mid w.value h w.first in
      let u = (g w.value t.1).takes w.mid there y t.0.bytes w.second in
      let s : part y ≡ w.value = same w.value y t.1 u.1 in
      subst (λ (x : A). Takes here (a x ++ b y) there × (P x × Q x y)) (sym s) (Takes-then here w.mid there (a w.value) (b y) t.0 u.0, (t.1, u.1))

  then_again : (y : B) (place : ℕ) (rest : List ℕ) → P (part y) × Q (part y) y → and_then (first (at place ((a (part y) ++ b y) ++ rest))) next ≡ gives y (at (place + length (a (part y) ++ b y)) rest)
  then_again y place rest fits =
      let x = part y in
      let one = f.again x place (b y ++ rest) fits.0 in
      let two = (g x fits.0).again y (place + length (a x)) rest fits.1 in
      let long : place + length (a x) + length (b y) ≡ place + length (a x ++ b y) = omega (arith, length-append (a x) (b y)) in
      ap (λ (text : List ℕ). and_then (first (at place text)) next) (append_assoc (a x) (b y) rest)
      ∙ ap (λ (r : Result (A × Here) ℕ). and_then r next) one ∙ two ∙ ap (λ (p : ℕ). gives y (at p rest)) long

  then_few : (y : B) → P (part y) × Q (part y) y → length (a (part y) ++ b y) ≤ m + n
  then_few y fits =
      let l = f.few (part y) fits.0 in
      let k = (g (part y) fits.0).few y fits.1 in
      omega (arith, l, k, length-append (a (part y)) (b y))

  then_stops : (here : Here) (place : ℕ) → AreBytes here.left → and_then (first here) next ≡ refused place → Stops here place (m + n)
  then_stops here place h e =
      elim (stopped (first here) next place e) [
        | inl r ↦ Stops-more here place m (m + n) (omega arith) (f.stops here place h r)
        | inr w ↦
            let t = f.takes here w.mid w.value h w.first in
            Stops-then here w.mid (a w.value) place m n t.0 (f.few w.value t.1) ((g w.value t.1).stops w.mid place t.0.bytes w.second)
      ]

  later_near : (here : Here) (place k : ℕ) (other : List ℕ) → AreBytes here.left → StoppedLater (first here) next place → place + 16 ≤ here.place + k → take k other ≡ take k here.left → and_then (first (at here.place other)) next ≡ refused place
  later_near here place k other h w far agree =
      let t = f.takes here w.mid w.value h w.first in
      let then = g w.value t.1 in
      let s = then.stops w.mid place t.0.bytes w.second in
      let text = a w.value in
      let l : length text ≤ k = omega (arith, t.0.place, s.low) in
      let e : take k other ≡ take k (text ++ w.mid.left) = agree ∙ ap (take k) t.0.left in
      let one = ap (λ (u : List ℕ). first (at here.place u)) (same_front k text w.mid.left other l e) ∙ f.again w.value here.place (drop (length text) other) t.1 in
      let two = then.near w.mid place (k - length text) (drop (length text) other) t.0.bytes w.second (omega (arith, t.0.place)) (same_behind k text w.mid.left other l e) in
      ap (λ (r : Result (A × Here) ℕ). and_then r next) one ∙ ap (λ (p : ℕ). next w.value (at p (drop (length text) other))) (sym t.0.place) ∙ two

  then_near : (here : Here) (place k : ℕ) (other : List ℕ) → AreBytes here.left → and_then (first here) next ≡ refused place → place + 16 ≤ here.place + k → take k other ≡ take k here.left → and_then (first (at here.place other)) next ≡ refused place
  then_near here place k other h e far agree =
      elim (stopped (first here) next place e) [
        | inl r ↦ ap (λ (q : Result (A × Here) ℕ). and_then q next) (f.near here place k other h r far agree)
        | inr w ↦ later_near here place k other h w far agree
      ]

pub then : {A B : Type 0} {first : Reader A} {next : A → Reader B} {a : A → List ℕ} {P : A → Type 0} {m : ℕ} {b : B → List ℕ} {Q : A → B → Type 0} {n : ℕ} (part : B → A)
    → Reads first a P m → ((x : A) → P x → Reads (next x) b (Q x) n) → ((x : A) (y : B) → P x → Q x y → part y ≡ x)
    → Reads (first >>= next) (λ y. a (part y) ++ b y) (λ y. P (part y) × Q (part y) y) (m + n)
then {first = first} {next = next} {a = a} {P = P} {m = m} {b = b} {Q = Q} {n = n} part f g same = record {
  takes = then_takes first next a P m part b Q n f g same;
  again = then_again first next a P m part b Q n f g same;
  few = then_few first next a P m part b Q n f g same;
  stops = then_stops first next a P m part b Q n f g same;
  near = then_near first next a P m part b Q n f g same;
}

pub nothing_more : {B : Type 0} (v : B) → Reads (done v) (λ _. []) (λ y. y ≡ v) 0
nothing_more v = record {
  takes = λ here there y h e.
      let s = same_gift v y here there e in
      let place : there.place ≡ here.place = ap (λ (x : Here). x.place) (sym s.1) in
      (record { left = ap (λ (x : Here). x.left) s.1; place = omega (arith, place); bytes = subst (λ (x : Here). AreBytes x.left) s.1 h }, sym s.0);
  again = λ y place rest e. let z : place ≡ place + 0 = omega arith in ap (λ x. gives x (at place rest)) (sym e) ∙ ap (λ (p : ℕ). gives y (at p rest)) z;
  few = λ y e. omega arith;
  stops = λ here place h e. absurd (cc);
  near = λ here place k other h e far agree. absurd (cc);
}

-- the same in other words
pub reworded : {A : Type 0} {read : Reader A} {a : A → List ℕ} {P : A → Type 0} {m : ℕ} (b : A → List ℕ) (Q : A → Type 0) (n : ℕ)
    → Reads read a P m → ((x : A) → P x → a x ≡ b x) → ((x : A) → P x → Q x) → ((x : A) → Q x → P x) → m ≤ n → Reads read b Q n
reworded {read = read} b Q n r same to from le = record {
  takes = λ here there x h e. let t = r.takes here there x h e in (subst (λ (text : List ℕ). Takes here text there) (same x t.1) t.0, to x t.1);
  again = λ x place rest q. subst (λ (text : List ℕ). read (at place (text ++ rest)) ≡ gives x (at (place + length text) rest)) (same x (from x q)) (r.again x place rest (from x q));
  few = λ x q. let l = r.few x (from x q) in let e = ap (λ (t : List ℕ). length t) (same x (from x q)) in omega (arith, l, e, le);
  stops = λ here place h e. Stops-more here place _ n le (r.stops here place h e);
  near = r.near;
}
