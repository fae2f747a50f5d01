-- Copies by the objects that were read and a table of their words.
use Rattle.std.proofs.Common.{◌≡◌, ℕ, Bool, true, false, cond, eqb, ◌||◌, List, [], ◌∷◌, set, Some, None, refl, sym, ap, ◌∙◌, get_or-set_other}
use Rattle.std.specs.List.{AllByRecursion}
use Rattle.std.proofs.lemmas.Bool.{eqb-true, eqb-false}
use Rattle.object_sets.specs.ObjectSets.{is_among}
use Rattle.object_sets.proofs.ForCallers.{is_among-with_object}
use Rattle.kernel_model.specs.Effects.{Objects, object_words}
use Rattle.table_machine.specs.Tables.{Copy}
use Rattle.table_machine.specs.Places.{objects_of}
use Rattle.table_machine.specs.Seats.{copy_of}

-- an object that was read is found, with its words
pub found : (o : ℕ) (kept : Objects) (copies : List Copy) → AllByRecursion (λ c. c.words ≡ object_words kept c.object) copies → is_among o (objects_of copies) ≡ true
    → (x : Copy) × (copy_of o copies ≡ Some x) × (x.words ≡ object_words kept o)
found o kept [] h e = absurd (cc e)
found o kept (c ∷ copies) h e = at (eqb c.object o) refl (sym (is_among-with_object c.object o (objects_of copies)) ∙ e) (found o kept copies h.1)
  where
    at : (b : Bool) → eqb c.object o ≡ b → (b || is_among o (objects_of copies)) ≡ true
        → (is_among o (objects_of copies) ≡ true → (x : Copy) × (copy_of o copies ≡ Some x) × (x.words ≡ object_words kept o))
        → (x : Copy) × (cond b (Some c) (copy_of o copies) ≡ Some x) × (x.words ≡ object_words kept o)
    at true f g rest = (c, refl, h.0 ∙ ap (object_words kept) (eqb-true c.object o f))
    at false f g rest = rest g

-- another is not
pub none_found : (o : ℕ) (copies : List Copy) → is_among o (objects_of copies) ≡ false → copy_of o copies ≡ None
none_found o [] e = refl
none_found o (c ∷ copies) e = at (eqb c.object o) (sym (is_among-with_object c.object o (objects_of copies)) ∙ e) (none_found o copies)
  where
    at : (b : Bool) → (b || is_among o (objects_of copies)) ≡ false → (is_among o (objects_of copies) ≡ false → copy_of o copies ≡ None) → cond b (Some c) (copy_of o copies) ≡ None
    at true g rest = absurd (cc g)
    at false g rest = rest g

-- and is none of theirs
pub all_apart : (o : ℕ) (copies : List Copy) → is_among o (objects_of copies) ≡ false → AllByRecursion (λ d. o ≡ d.object → ⊥) copies
all_apart o [] e = tt
all_apart o (c ∷ copies) e = at (all_apart o copies) (eqb c.object o) refl (sym (is_among-with_object c.object o (objects_of copies)) ∙ e)
  where
    at : (is_among o (objects_of copies) ≡ false → AllByRecursion (λ d. o ≡ d.object → ⊥) copies)
        → (b : Bool) → eqb c.object o ≡ b → (b || is_among o (objects_of copies)) ≡ false → (o ≡ c.object → ⊥) × AllByRecursion (λ d. o ≡ d.object → ⊥) copies
    at rest true f g = absurd (cc g)
    at rest false f g = (λ s. eqb-false c.object o f (sym s), rest g)

-- new words of an object leave the copies of others
pub words_stay : (o : ℕ) (new : List ℕ) (kept : Objects) (copies : List Copy) → AllByRecursion (λ d. o ≡ d.object → ⊥) copies → AllByRecursion (λ c. c.words ≡ object_words kept c.object) copies
    → AllByRecursion (λ c. c.words ≡ object_words (set kept o new) c.object) copies
words_stay o new kept [] a h = tt
words_stay o new kept (c ∷ copies) a h = (h.0 ∙ sym (get_or-set_other kept o c.object new [] (λ e. a.0 (sym e))), words_stay o new kept copies a.1 h.1)
