-- What a sink took, piece by piece.
use Rattle.std.proofs.Common.{◌≡◌, ℕ, ◌+◌, List, ◌++◌, Option, Some, None, refl, ap, ◌∙◌, sym, take, drop, take-add, append_assoc, ◌≤◌, ◌-◌, length, arith}
use Rattle.std.proofs.lemmas.Grind.{common_steps}
use Rattle.nv_base.specs.Streams.{PutsText, Stream, appended}

pub appended_twice : (o : Option (List ℕ)) (a b : List ℕ) → appended (appended o a) b ≡ appended o (a ++ b)
appended_twice None a b = refl
appended_twice (Some x) a b = ap (λ y. Some y) (append_assoc x a b)

put_more : (o p q : Option (List ℕ)) (bytes : List ℕ) (i n : ℕ) → p ≡ appended o (take i bytes) → q ≡ appended p (take n (drop i bytes)) → q ≡ appended o (take (i + n) bytes)
put_more o p q bytes i n e f = f ∙ ap (λ x. appended x (take n (drop i bytes))) e ∙ appended_twice o _ _ ∙ ap (appended o) (sym (take-add i n bytes))

cut : (bytes : List ℕ) (i n : ℕ) → i ≤ length bytes → n ≤ length (take (length bytes - i) (drop i bytes)) → take n (take (length bytes - i) (drop i bytes)) ≡ take n (drop i bytes)
cut bytes i n h k = grind (arith, common_steps)

-- the piece is the rest of the bytes, as the code's `&bytes[i..]` has it
pub put_rest : (o p q : Stream) (bytes : List ℕ) (i n : ℕ) → i ≤ length bytes → n ≤ length (take (length bytes - i) (drop i bytes))
    → PutsText (take i bytes) o p → PutsText (take n (take (length bytes - i) (drop i bytes))) p q → PutsText (take (i + n) bytes) o q
put_rest o p q bytes i n h k e f = record {
  put = put_more o.bytes p.bytes q.bytes bytes i n e.put (f.put ∙ ap (appended p.bytes) (cut bytes i n h k));
  still = f.still ∙ e.still;
}
