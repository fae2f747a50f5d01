-- What a sink took, piece by piece.
use Rattle.std.proofs.Common.{◌≡◌, ℕ, ◌+◌, ◌≤◌, List, [], ◌++◌, length, take, Option, Some, None, refl, ap, sym, subst, ◌∙◌, append_assoc, length-append, inl, inr, arith}
use Rattle.std.proofs.lemmas.List.{append-nil, take-append-le}
use Rattle.std.proofs.Math.Seq.{take-append-add}
use Rattle.nv_base.specs.Streams.{PutFront, PutsFront, PutsText, FaultCounted, Stream, appended}
use Rattle.nv_base.proofs.ForCallers.{appended_twice}

grown_nothing : (o : Option (List ℕ)) → o ≡ appended o []
grown_nothing None = refl
grown_nothing (Some x) = ap (λ y. Some y) (sym (append-nil x))

grown_more : (o p q : Option (List ℕ)) (a b : List ℕ) → p ≡ appended o a → q ≡ appended p b → q ≡ appended o (a ++ b)
grown_more o p q a b e f = f ∙ ap (λ x. appended x b) e ∙ appended_twice o a b

pub puts_nothing : (o : Stream) → PutsText [] o o
puts_nothing o = record { put = grown_nothing o.bytes; still = refl }

-- an empty text is put, and nothing is changed
pub nothing_put : (o p : Stream) → PutsText [] o p → p ≡ o
nothing_put o p h =
    let e : p.bytes ≡ o.bytes = h.put ∙ sym (grown_nothing o.bytes) in
    ap (λ b. record { bytes = b; faults = p.faults }) e ∙ ap (λ n. record { bytes = o.bytes; faults = n }) h.still

-- of an empty text there is no front
pub nothing_cut : (o p : Stream) → PutsFront [] o p → ⊥
nothing_cut o p h = absurd (omega (arith, h.front.1))

-- one text and the next
pub puts_more : (o p q : Stream) (a b : List ℕ) → PutsText a o p → PutsText b p q → PutsText (a ++ b) o q
puts_more o p q a b e f = record { put = grown_more o.bytes p.bytes q.bytes a b e.put f.put; still = f.still ∙ e.still }

-- a fault after a text
counted_later : (o p q : Stream) (a b : List ℕ) → PutsText a o p → PutsFront b p q → FaultCounted o.faults q.faults
counted_later o p q a b e h = subst (λ n. FaultCounted n q.faults) e.still h.counted

front_in_middle : (o p q : Option (List ℕ)) (a b rest whole : List ℕ) → whole ≡ (a ++ b) ++ rest → p ≡ appended o a → PutFront p q b → PutFront o q whole
front_in_middle o p q a b rest whole e f h =
    let n : ℕ = h.0 in
    let l : n ≤ length b = omega (arith, h.1) in
    let t : take (length a + n) ((a ++ b) ++ rest) ≡ a ++ take n b =
    ap (take (length a + n)) (append_assoc a b rest) ∙ take-append-add a (b ++ rest) n ∙ ap (λ x. a ++ x) (take-append-le n b rest l) in
    (length a + n, rw e (rw (length-append (a ++ b) rest, length-append a b) (omega (arith, h.1))), grown_more o p q a (take n b) f h.2 ∙ ap (appended o) (sym t) ∙ ap (λ w. appended o (take (length a + n) w)) (sym e))

-- a front of the next piece is a front of the whole
pub front_later : (o p q : Stream) (a b rest whole : List ℕ) → whole ≡ (a ++ b) ++ rest → PutsText a o p → PutsFront b p q → PutsFront whole o q
front_later o p q a b rest whole e f h = record {
  front = front_in_middle o.bytes p.bytes q.bytes a b rest whole e f.put h.front;
  counted = counted_later o p q a b f h;
}

-- a front of a piece is a front of it and what follows
pub front_here : (o q : Stream) (a rest : List ℕ) → PutsFront a o q → PutsFront (a ++ rest) o q
front_here o q a rest h =
    let n : ℕ = h.front.0 in
    let l : n ≤ length a = omega (arith, h.front.1) in
    record {
      front = (n, rw (length-append a rest) (omega (arith, h.front.1)), h.front.2 ∙ ap (appended o.bytes) (sym (take-append-le n a rest l)));
      counted = h.counted;
    }

-- so is all of a piece and a front of the next
pub front_next : (o p q : Stream) (a b : List ℕ) → PutsText a o p → PutsFront b p q → PutsFront (a ++ b) o q
front_next o p q a b e h = record {
  front = (
    length a + h.front.0,
    rw (length-append a b) (omega (arith, h.front.1)),
    grown_more o.bytes p.bytes q.bytes a (take h.front.0 b) e.put h.front.2 ∙ ap (appended o.bytes) (sym (take-append-add a b h.front.0)),
  );
  counted = counted_later o p q a b e h;
}

-- a count that rose at last rose in all
pub rose_later : (a b c : ℕ) → a ≤ b → FaultCounted b c → FaultCounted a c
rose_later a b c l h = (omega (arith, h.0), elim h.1 [ inl x ↦ inl (omega arith) | inr e ↦ inr e ])
