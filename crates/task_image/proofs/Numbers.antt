-- A field, and the numbers, names and literal bytes that are fields.
use Rattle.std.proofs.Common.{◌≡◌, ℕ, zero, suc, ◌+◌, ◌*◌, ◌/◌, ◌%◌, ◌^◌, ◌<◌, ◌≤◌, ◌&&◌, Bool, true, false, cond, leb, min, List, [], ◌∷◌, ◌++◌, length, get_or, take, drop, refl, sym, ap, subst, ◌∙◌, arith}
use Rattle.std.proofs.Math.Nat.{div-div-eq-div-mul, pow-succ'}
use Rattle.std.proofs.lemmas.Bool.{leb-true, le-leb, and_parts}
use Rattle.std.proofs.lemmas.Bool.Decides.{nat_tests}
use Rattle.std.proofs.lemmas.List.{append-nil, take_at, drop_at, take-append-drop, length-append, length-take, take-take, get_or-take, get_or_past}
use Rattle.std.specs.Int.{byte_at, bytes_low_first}
use Rattle.byteorder.specs.Endian.{little_bytes, little_number, little_from}
use Rattle.byteorder.specs.Numbers.{little_from-cons, little_from-lt, little_number-reads_back, length-bytes_low_first}
use Rattle.task_image.specs.Reading.{Here, field, number, past, AreBytes}
use Rattle.task_image.proofs.Fields.{Reads, Takes, at, gives, refused, bytes_from, same_gift}

-- ---- any field

abbrev holds : ℕ → (List ℕ → Bool) → List ℕ → Bool
holds n rule left = leb n (length left) && rule (take n left)

field_is : {A : Type 0} (n : ℕ) (rule : List ℕ → Bool) (value : List ℕ → A) (here : Here) → holds n rule here.left ≡ true → field n rule value here ≡ gives (value (take n here.left)) (past n here)
unfolding field
field_is n rule value here e = ap (λ (b : Bool). cond b (gives (value (take n here.left)) (past n here)) (refused here.place)) e

field_not : {A : Type 0} (n : ℕ) (rule : List ℕ → Bool) (value : List ℕ → A) (here : Here) → holds n rule here.left ≡ false → field n rule value here ≡ refused here.place
unfolding field
field_not n rule value here e = ap (λ (b : Bool). cond b (gives (value (take n here.left)) (past n here)) (refused here.place)) e

pub record Kept {A : Type 0} (n : ℕ) (rule : List ℕ → Bool) (value : List ℕ → A) (here there : Here) (x : A) : Type 0 where
  pub long : n ≤ length here.left
  pub rule_kept : rule (take n here.left) ≡ true
  pub value_is : value (take n here.left) ≡ x
  pub there_is : past n here ≡ there

kept : {A : Type 0} (n : ℕ) (rule : List ℕ → Bool) (value : List ℕ → A) (here there : Here) (x : A) → field n rule value here ≡ gives x there → Kept n rule value here there x
kept n rule value here there x e = by (holds n rule here.left) refl
  where
    by : (b : Bool) → holds n rule here.left ≡ b → Kept n rule value here there x
    by true h =
        let s = same_gift _ x (past n here) there (sym (field_is n rule value here h) ∙ e) in
        let t = and_parts _ _ h in
        record { long = leb-true n (length here.left) t.0; rule_kept = t.1; value_is = s.0; there_is = s.1 }
    by false h = let f : refused here.place ≡ gives x there = sym (field_not n rule value here h) ∙ e in absurd cc

broken : {A : Type 0} (n : ℕ) (rule : List ℕ → Bool) (value : List ℕ → A) (here : Here) (place : ℕ) → field n rule value here ≡ refused place → (holds n rule here.left ≡ false) × (here.place ≡ place)
broken {A = A} n rule value here place e = by (holds n rule here.left) refl
  where
    by : (b : Bool) → holds n rule here.left ≡ b → (holds n rule here.left ≡ false) × (here.place ≡ place)
    by true h = let f : gives (value (take n here.left)) (past n here) ≡ refused place = sym (field_is n rule value here h) ∙ e in absurd cc
    by false h = let f : refused {A = A} here.place ≡ refused {A = A} place = sym (field_not n rule value here h) ∙ e in (h, cc)

shorter : (n a b : ℕ) → min n a ≡ min n b → leb n a ≡ leb n b
shorter n a b e = grind (arith, nat_tests)

same_test : (n : ℕ) (rule : List ℕ → Bool) (a b : List ℕ) → take n a ≡ take n b → holds n rule a ≡ holds n rule b
same_test n rule a b e =
    let l : min n (length a) ≡ min n (length b) = sym (length-take n a) ∙ ap (λ (t : List ℕ). length t) e ∙ length-take n b in
    ap (λ (c : Bool). c && rule (take n a)) (shorter n (length a) (length b) l) ∙ ap (λ (t : List ℕ). leb n (length b) && rule t) e

bytes_of_first : (n : ℕ) (bytes : List ℕ) → AreBytes bytes → AreBytes (take n bytes)
bytes_of_first n bytes h i = by (leb n i) refl
  where
    by : (b : Bool) → leb n i ≡ b → get_or (take n bytes) i 0 < 256
    by true e = rw (get_or_past (take n bytes) i 0 (omega (arith, length-take n bytes, leb-true n i e))) (omega arith)
    by false e = let l : i < n = grind (arith, nat_tests) in rw (get_or-take n bytes i 0 l) (h i)

pub field_reads : {A : Type 0} (n : ℕ) (rule : List ℕ → Bool) (value : List ℕ → A) (text : A → List ℕ) (Fits : A → Type 0) → n ≤ 16
    → ((bytes : List ℕ) → length bytes ≡ n → AreBytes bytes → rule bytes ≡ true → (text (value bytes) ≡ bytes) × Fits (value bytes))
    → ((x : A) → Fits x → (length (text x) ≡ n) × (rule (text x) ≡ true) × (value (text x) ≡ x))
    → Reads (field n rule value) text Fits n
field_reads {A = A} n rule value text Fits small back forth = record {
  takes = field_takes;
  again = field_again;
  few = λ x q. let l = (forth x q).0 in omega (arith, l);
  stops = λ here place h e. let s = (broken n rule value here place e).1 in record { low = omega (arith, s); high = omega (arith, s); short = omega (arith, s) };
  near = field_near;
}
  where
    field_takes : (here there : Here) (x : A) → AreBytes here.left → field n rule value here ≡ gives x there → Takes here (text x) there × Fits x
    field_takes here there x h e =
        let k = kept n rule value here there x e in
        let bytes = take n here.left in
        let l : length bytes ≡ n = omega (arith, length-take n here.left, k.long) in
        let b = back bytes l (bytes_of_first n here.left h) k.rule_kept in
        let t : Takes here (text (value bytes)) (past n here) = record {
          left = sym (take-append-drop n here.left) ∙ ap (λ (u : List ℕ). u ++ drop n here.left) (sym b.0);
          place = omega (arith, ap (λ (u : List ℕ). length u) b.0, l);
          bytes = bytes_from n here.left h;
        } in
        subst (λ (q : Here). Takes here (text x) q × Fits x) k.there_is (subst (λ (y : A). Takes here (text y) (past n here) × Fits y) k.value_is (t, b.1))

    field_again : (x : A) (place : ℕ) (rest : List ℕ) → Fits x → field n rule value (at place (text x ++ rest)) ≡ gives x (at (place + length (text x)) rest)
    field_again x place rest q =
        let f = forth x q in
        let first : take n (text x ++ rest) ≡ text x = take_at (text x) rest n f.0 in
        let behind : drop n (text x ++ rest) ≡ rest = drop_at (text x) rest n f.0 in
        let long : leb n (length (text x ++ rest)) ≡ true = le-leb n _ (omega (arith, length-append (text x) rest, f.0)) in
        let test : holds n rule (text x ++ rest) ≡ true = ap (λ (b : Bool). b && rule (take n (text x ++ rest))) long ∙ ap rule first ∙ f.1 in
        field_is n rule value (at place (text x ++ rest)) test
        ∙ ap (λ (u : List ℕ). gives (value u) (at (place + n) (drop n (text x ++ rest)))) first
        ∙ ap (λ (u : List ℕ). gives (value (text x)) (at (place + n) u)) behind
        ∙ ap (λ (y : A). gives y (at (place + n) rest)) f.2
        ∙ ap (λ (k : ℕ). gives x (at (place + k) rest)) (sym f.0)

    field_near : (here : Here) (place k : ℕ) (other : List ℕ) → AreBytes here.left → field n rule value here ≡ refused place → place + 16 ≤ here.place + k → take k other ≡ take k here.left → field n rule value (at here.place other) ≡ refused place
    field_near here place k other h e far agree =
        let b = broken n rule value here place e in
        let l : n ≤ k = omega (arith, b.1) in
        let first : take n other ≡ take n here.left = sym (take-take n k other l) ∙ ap (take n) agree ∙ take-take n k here.left l in
        field_not n rule value (at here.place other) (same_test n rule other here.left first ∙ b.0) ∙ ap (λ (p : ℕ). refused p) b.1

-- ---- numbers

byte_on : (j x : ℕ) → byte_at (suc j) x ≡ byte_at j (x / 256)
byte_on zero x = refl
byte_on (suc j) x = ap (λ (p : ℕ). x / p % 256) (pow-succ' 256 (suc j)) ∙ ap (λ (p : ℕ). p % 256) (sym (div-div-eq-div-mul x 256 (256 ^ suc j)))

bytes_on : (j n x : ℕ) → bytes_low_first (suc j) n x ≡ bytes_low_first j n (x / 256)
bytes_on j zero x = refl
bytes_on j (suc n) x = ap (λ (b : ℕ). b ∷ bytes_low_first (suc (suc j)) n x) (byte_on j x) ∙ ap (λ (bs : List ℕ). byte_at j (x / 256) ∷ bs) (bytes_on (suc j) n x)

pub number_back : (n : ℕ) (bytes : List ℕ) → length bytes ≡ n → AreBytes bytes → bytes_low_first 0 n (little_from 0 n bytes) ≡ bytes
number_back zero [] l h = refl
number_back zero (b ∷ bytes) l h = absurd (omega (arith, l))
number_back (suc n) [] l h = absurd (omega (arith, l))
number_back (suc n) (b ∷ bytes) l h =
    let rest = little_from 0 n bytes in
    let small : b < 256 = h 0 in
    let moved : little_from 0 (suc n) (b ∷ bytes) ≡ b + 256 * rest = ap (λ (r : ℕ). b + 256 * r) (little_from-cons 0 n b bytes) in
    let low : (b + 256 * rest) % 256 ≡ b = omega arith in
    let high : (b + 256 * rest) / 256 ≡ rest = omega arith in
    ap (bytes_low_first 0 (suc n)) moved
    ∙ ap (λ (c : ℕ). c ∷ bytes_low_first 1 n (b + 256 * rest)) low
    ∙ ap (λ (bs : List ℕ). b ∷ bs) (bytes_on 0 n (b + 256 * rest) ∙ ap (bytes_low_first 0 n) high ∙ number_back n bytes (omega (arith, l)) (λ i. h (suc i)))

-- a number that keeps a rule, and has so many bytes
pub record IsNumber (n : ℕ) (rule : ℕ → Bool) (x : ℕ) : Type 0 where
  pub kept : rule x ≡ true
  pub small : x < 256 ^ n

pub number_reads : (n : ℕ) (rule : ℕ → Bool) → n ≤ 16 → Reads (number n rule) (little_bytes n) (IsNumber n rule) n
number_reads n rule small =
    field_reads n (λ bytes. rule (little_number n bytes)) (little_number n) (little_bytes n) (IsNumber n rule) small
    (λ bytes l h e. (number_back n bytes l h, record { kept = e; small = little_from-lt 0 n bytes h }))
    (λ x q. let again : little_number n (little_bytes n x) ≡ x = ap (little_number n) (sym (append-nil (little_bytes n x))) ∙ little_number-reads_back n x [] q.small in (length-bytes_low_first 0 n x, ap rule again ∙ q.kept, again))
