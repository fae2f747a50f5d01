-- Objects of the same shape, and how they keep it.
use Rattle.std.proofs.Common.{◌≡◌, ◌≢◌, ℕ, ◌<◌, Bool, true, false, eqb, List, length, set, get_or-set_other, get_or-set_same, refl, sym, ◌∙◌, subst, arith}
use Rattle.std.proofs.Math.ListN.{length-set}
use Rattle.std.proofs.lemmas.Bool.{eqb-true, eqb-false}
use Rattle.kernel_model.specs.Effects.{Objects, object_words}
use Rattle.set_model.specs.Sets.{TaskSet, object_at}
use Rattle.task_model.specs.Shape.{AreAlike, HasShape}

-- as many words take an object's place
pub shape-set : (s : TaskSet) (objects : Objects) (o : ℕ) (words : List ℕ) → HasShape s objects → length words ≡ (object_at s o).size → HasShape s (set objects o words)
shape-set s objects o words h k = record {
  number = length-set objects o words ∙ h.number;
  sizes = λ i l. at i (let m : i < length objects = omega (arith, l, length-set objects o words) in m) (eqb i o) refl;
}
  where
    at : (i : ℕ) → i < length objects → (b : Bool) → eqb i o ≡ b → length (object_words (set objects o words) i) ≡ (object_at s i).size
    at i l true e =
        let same : i ≡ o = eqb-true i o e in
        subst (λ j. length (object_words (set objects o words) j) ≡ (object_at s j).size) (sym same)
        (let inside : o < length objects = omega (arith, l, same) in rw get_or-set_same k)
    at i l false e = let other : i ≢ o = eqb-false i o e in rw get_or-set_other (h.sizes i l)

pub alike : (s : TaskSet) (objects others : Objects) → HasShape s objects → HasShape s others → AreAlike objects others
alike s objects others h k = record {
  number = h.number ∙ sym k.number;
  sizes = λ o l. h.sizes o l ∙ sym (k.sizes o (let m : o < length others = omega (arith, l, h.number, k.number) in m));
}

pub has_shape : (s : TaskSet) (objects others : Objects) → AreAlike objects others → HasShape s others → HasShape s objects
has_shape s objects others a h = record {
  number = a.number ∙ h.number;
  sizes = λ o l. a.sizes o l ∙ h.sizes o (let m : o < length others = omega (arith, l, a.number) in m);
}
