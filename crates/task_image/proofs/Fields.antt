-- What a reader and a spelling owe each other, and that it holds of a field and of one reader after another.
use Rattle.std.proofs.Common.{◌≡◌, ℕ, ◌+◌, ◌-◌, ◌≤◌, List, ◌++◌, length, take, drop, Result, Ok, Err, refl, sym, ap, subst, ◌∙◌, append_assoc, arith, inl, inr, ◌⊎◌}
use Rattle.std.proofs.lemmas.List.{take_at, drop_at, take-append-drop, length-append, get_or-drop, drop-take, take-take}
use Rattle.task_image.specs.Reading.{Here, Reader, and_then, AreBytes}

abbrev pub at : ℕ → List ℕ → Here
at place left = record { place = place; left = left }

abbrev pub gives : {A : Type 0} → A → Here → Result (A × Here) ℕ
gives x here = Ok (x, here)

abbrev pub refused : {A : Type 0} → ℕ → Result (A × Here) ℕ
refused place = Err place

-- from here to there stands this text
pub record Takes (here : Here) (text : List ℕ) (there : Here) : Type 0 where
  pub left : here.left ≡ text ++ there.left
  pub place : there.place ≡ here.place + length text
  pub bytes : AreBytes there.left

-- a refusal from here on, of a reader that takes at most so many bytes
pub record Stops (here : Here) (place most : ℕ) : Type 0 where
  pub low : here.place ≤ place
  pub high : place ≤ here.place + length here.left
  pub short : place ≤ here.place + most

pub record Reads {A : Type 0} (read : Reader A) (text : A → List ℕ) (Fits : A → Type 0) (most : ℕ) : Type 0 where
  pub takes : (here there : Here) (x : A) → AreBytes here.left → read here ≡ gives x there → Takes here (text x) there × Fits x
  pub again : (x : A) (place : ℕ) (rest : List ℕ) → Fits x → read (at place (text x ++ rest)) ≡ gives x (at (place + length (text x)) rest)
  pub few : (x : A) → Fits x → length (text x) ≤ most
  pub stops : (here : Here) (place : ℕ) → AreBytes here.left → read here ≡ refused place → Stops here place most
  pub near : (here : Here) (place k : ℕ) (other : List ℕ) → AreBytes here.left → read here ≡ refused place → place + 16 ≤ here.place + k → take k other ≡ take k here.left → read (at here.place other) ≡ refused place

pub bytes_from : (n : ℕ) (bytes : List ℕ) → AreBytes bytes → AreBytes (drop n bytes)
bytes_from n bytes h i = rw get_or-drop (h (n + i))

pub bytes_behind : (text rest : List ℕ) → AreBytes (text ++ rest) → AreBytes rest
bytes_behind text rest h = let e : drop (length text) (text ++ rest) ≡ rest = drop_at text rest (length text) refl in subst AreBytes e (bytes_from (length text) (text ++ rest) h)

-- ---- one after another

pub record WentOn {A B : Type 0} (read : Result (A × Here) ℕ) (next : A → Reader B) (y : B) (there : Here) : Type 0 where
  pub value : A
  pub mid : Here
  pub first : read ≡ gives value mid
  pub second : next value mid ≡ gives y there

pub went_on : {A B : Type 0} (read : Result (A × Here) ℕ) (next : A → Reader B) (y : B) (there : Here) → and_then read next ≡ gives y there → WentOn read next y there
went_on (Ok x) next y there e = record { value = x.0; mid = x.1; first = refl; second = e }
went_on (Err p) next y there e = absurd cc

pub record StoppedLater {A B : Type 0} (read : Result (A × Here) ℕ) (next : A → Reader B) (place : ℕ) : Type 0 where
  pub value : A
  pub mid : Here
  pub first : read ≡ gives value mid
  pub second : next value mid ≡ refused place

pub stopped : {A B : Type 0} (read : Result (A × Here) ℕ) (next : A → Reader B) (place : ℕ) → and_then read next ≡ refused place → (read ≡ refused place) ⊎ StoppedLater read next place
stopped (Ok x) next place e = inr (record { value = x.0; mid = x.1; first = refl; second = e })
stopped (Err p) next place e = inl cc

pub Takes-then : (a b c : Here) (s t : List ℕ) → Takes a s b → Takes b t c → Takes a (s ++ t) c
Takes-then a b c s t p q = record {
  left = p.left ∙ ap (λ (u : List ℕ). s ++ u) q.left ∙ sym (append_assoc s t c.left);
  place = omega (arith, p.place, q.place, length-append s t);
  bytes = q.bytes;
}

pub Stops-then : (here mid : Here) (text : List ℕ) (place m n : ℕ) → Takes here text mid → length text ≤ m → Stops mid place n → Stops here place (m + n)
Stops-then here mid text place m n t l s =
    let long : length here.left ≡ length text + length mid.left = ap length t.left ∙ length-append text mid.left in
    record { low = omega (arith, t.place, s.low); high = omega (arith, t.place, s.high, long); short = omega (arith, t.place, s.short, l) }

pub Stops-more : (here : Here) (place m n : ℕ) → m ≤ n → Stops here place m → Stops here place n
Stops-more here place m n l s = record { low = s.low; high = s.high; short = omega (arith, s.short, l) }

-- what agrees so far begins with the same text
pub same_front : (k : ℕ) (text rest other : List ℕ) → length text ≤ k → take k other ≡ take k (text ++ rest) → other ≡ text ++ drop (length text) other
same_front k text rest other l e =
    let cut : take (length text) other ≡ text =
    sym (take-take (length text) k other l) ∙ ap (take (length text)) e ∙ take-take (length text) k (text ++ rest) l ∙ take_at text rest (length text) refl in
    sym (take-append-drop (length text) other) ∙ ap (λ (u : List ℕ). u ++ drop (length text) other) cut

pub same_behind : (k : ℕ) (text rest other : List ℕ) → length text ≤ k → take k other ≡ take k (text ++ rest) → take (k - length text) (drop (length text) other) ≡ take (k - length text) rest
same_behind k text rest other l e =
    let n = length text in
    let w : n + (k - n) ≡ k = omega arith in
    let one : take (k - n) (drop n other) ≡ drop n (take k other) = sym (drop-take n (k - n) other) ∙ ap (λ (j : ℕ). drop n (take j other)) w in
    let two : drop n (take k (text ++ rest)) ≡ take (k - n) (drop n (text ++ rest)) = ap (λ (j : ℕ). drop n (take j (text ++ rest))) (sym w) ∙ drop-take n (k - n) (text ++ rest) in
    one ∙ ap (drop n) e ∙ two ∙ ap (take (k - n)) (drop_at text rest n refl)

pub same_gift : {A : Type 0} (x y : A) (a b : Here) → gives x a ≡ gives y b → (x ≡ y) × (a ≡ b)
same_gift {A = A} x y a b e =
    let left : A × Here = (x, a) in
    let right : A × Here = (y, b) in
    let p : left ≡ right = cc in
    (ap (λ (q : A × Here). q.0) p, ap (λ (q : A × Here). q.1) p)
