-- Lines of values: a line that was written is read back, and a line that is read is as it is written.
use Rattle.std.proofs.Common.{◌≡◌, ℕ, zero, suc, ◌<◌, ◌≤◌, ◌^◌, Bool, true, false, List, [], ◌∷◌, ◌++◌, length, take, drop, Option, Some, None, option_map, nat_eq, refl, sym, ap, ◌∙◌, subst, ltb, eqb, arith, true≢false, append_assoc, take-append-drop}
use Rattle.std.specs.List.{list_all, position_or_len}
use Rattle.std.specs.Option.{option_and_then}
use Rattle.std.specs.Cmp.Lexicographic.{pointwise, same_text}
use Rattle.std.specs.Fmt.{decimal}
use Rattle.std.specs.Str.Parse.{AllDigits}
use Rattle.std.proofs.Math.Seq.{drop-append_seam, take-append_seam}
use Rattle.std.proofs.lemmas.Bool.{and_parts, and_from, lt-ltb, ltb-true, ne_eqb, eqb-true}
use Rattle.std.proofs.lemmas.Fmt.{decimal_is_IsNumeral}
use Rattle.std.proofs.lemmas.List.Sums.{list_all-from_AllPass}
use Rattle.std.proofs.lemmas.Bool.Decides.{nat_tests}
use Rattle.std.proofs.lemmas.Option.{none-some, same_Some, cond_some, some_pair_parts}
use Rattle.std.proofs.lemmas.Str.Parse.{digit_from_value}
use Rattle.plain_text.specs.Names.{IsName, is_name_byte}
use Rattle.report_text.specs.Causes.{numbered_cause_word}
use Rattle.set_model.specs.Sets.{TaskSet}
use Rattle.set_model.specs.Names.{IsNamed}
use Rattle.report.specs.Fields.{Kind, Number, Core, Object, Program, Cause, Shape, is_space, behind, cut, with_rest, field_in, value_of, values_in}
use Rattle.report.proofs.Values.{value_text, IsOf, value_back, value_means, same, at_place, no_object, no_program}

-- ---- lines as they are written

abbrev pub shape_text : TaskSet → Shape → List ℕ → List ℕ
shape_text set [] values = []
shape_text set (f ∷ shape) [] = []
shape_text set (f ∷ shape) (v ∷ values) = (f.0 ++ value_text set f.1 v) ++ shape_text set shape values

abbrev pub AreOf : TaskSet → Shape → List ℕ → Type 0
AreOf set [] [] = Unit {0}
AreOf set (f ∷ shape) (v ∷ values) = IsOf set f.1 v × AreOf set shape values
AreOf set _ _ = ⊥

-- ---- what is read is as it is written

pub behind_means : (front text rest : List ℕ) → behind front text ≡ Some rest → front ++ rest ≡ text
behind_means front text rest e =
    let h = cond_some (pointwise nat_eq (take (length front) text) front) (drop (length front) text) rest e in
    let f : take (length front) text ≡ front = same_text _ _ (sym h.0) in
    rw (sym h.1) (ap (λ x. x ++ drop (length front) text) (sym f) ∙ take-append-drop (length front) text)

field_means : (set : TaskSet) (kind : Kind) (front text : List ℕ) (o : Option (List ℕ)) (v : ℕ) (rest : List ℕ) → behind front text ≡ o
    → option_and_then (λ p. with_rest p.1 (value_of set kind p.0)) (option_map cut o) ≡ Some (v, rest)
    → ((front ++ value_text set kind v) ++ rest ≡ text) × IsOf set kind v
field_means set kind front text None v rest b e = absurd (none-some _ e)
field_means set kind front text (Some behind_it) v rest b e = go (value_of set kind (cut behind_it).0) refl e
  where
    go : (o : Option ℕ) → value_of set kind (cut behind_it).0 ≡ o → with_rest (cut behind_it).1 o ≡ Some (v, rest) → ((front ++ value_text set kind v) ++ rest ≡ text) × IsOf set kind v
    go None is f = absurd (none-some _ f)
    go (Some w) is f =
        let p = some_pair_parts w v (cut behind_it).1 rest f in
        let h = value_means set kind (cut behind_it).0 v (is ∙ ap Some p.0) in
        let whole : value_text set kind v ++ rest ≡ behind_it = rw (h.0, sym p.1) (take-append-drop (position_or_len is_space behind_it) behind_it) in
        (append_assoc front (value_text set kind v) rest ∙ ap (λ x. front ++ x) whole ∙ behind_means front text behind_it b, h.1)

pub values_mean : (set : TaskSet) (shape : Shape) (text values : List ℕ) → values_in set shape text ≡ Some values → (shape_text set shape values ≡ text) × AreOf set shape values
values_mean set [] [] values e = let h : [] ≡ values = same_Some [] values e in subst (λ vs. (shape_text set [] vs ≡ []) × AreOf set [] vs) h (refl, tt)
values_mean set [] (b ∷ text) values e = absurd (none-some values e)
values_mean set (f ∷ shape) text values e = first (λ rest others told. values_mean set shape rest others told) (field_in (value_of set f.1) f.0 text) refl e
  where
    more : ((rest others : List ℕ) → values_in set shape rest ≡ Some others → (shape_text set shape others ≡ rest) × AreOf set shape others) → (v : ℕ) (rest : List ℕ) → field_in (value_of set f.1) f.0 text ≡ Some (v, rest) → (o : Option (List ℕ)) → values_in set shape rest ≡ o → option_map (λ vs. v ∷ vs) o ≡ Some values
        → (shape_text set (f ∷ shape) values ≡ text) × AreOf set (f ∷ shape) values
    more later v rest is None told g = absurd (none-some values g)
    more later v rest is (Some others) told g =
        let here = field_means set f.1 f.0 text (behind f.0 text) v rest refl is in
        let there = later rest others told in
        let eq : v ∷ others ≡ values = same_Some _ _ g in
        subst (λ vs. (shape_text set (f ∷ shape) vs ≡ text) × AreOf set (f ∷ shape) vs) eq
        (ap (λ x. (f.0 ++ value_text set f.1 v) ++ x) there.0 ∙ here.0, (here.1, there.1))

    first : ((rest others : List ℕ) → values_in set shape rest ≡ Some others → (shape_text set shape others ≡ rest) × AreOf set shape others) → (o : Option (ℕ × List ℕ)) → field_in (value_of set f.1) f.0 text ≡ o → option_and_then (λ p. option_map (λ values. p.0 ∷ values) (values_in set shape p.1)) o ≡ Some values
        → (shape_text set (f ∷ shape) values ≡ text) × AreOf set (f ∷ shape) values
    first later None is g = absurd (none-some values g)
    first later (Some p) is g = more later p.0 p.1 is (values_in set shape p.1) refl g

-- ---- words have no space in them

abbrev pub is_ink : ℕ → Bool
is_ink b = ltb 32 b

digits_ink : (ds : List ℕ) → AllDigits 10 ds → list_all is_ink ds ≡ true
digits_ink [] all = refl
digits_ink (d ∷ ds) all = let range = digit_from_value d all.0 in let one : ltb 32 d ≡ true = lt-ltb _ _ (omega arith) in rw (one, digits_ink ds all.1) refl

decimal_ink : (n : ℕ) → n < 2 ^ 64 → list_all is_ink (decimal n) ≡ true
decimal_ink n small = digits_ink (decimal n) (decimal_is_IsNumeral n small).0.1

name_byte_ink : (b : ℕ) → is_name_byte b ≡ true → is_ink b ≡ true
name_byte_ink b h = grind (arith, nat_tests)

name_ink : (name : List ℕ) → list_all is_name_byte name ≡ true → list_all is_ink name ≡ true
name_ink [] e = refl
name_ink (b ∷ name) e =
    let h = and_parts (is_name_byte b) (list_all is_name_byte name) e in
    and_from (is_ink b) (list_all is_ink name) (name_byte_ink b h.0) (name_ink name h.1)

pub named_ink : (name : List ℕ) → IsName name → list_all is_ink name ≡ true
named_ink name h = name_ink name (list_all-from_AllPass is_name_byte name h.bytes)

cause_ink : (n : ℕ) → list_all is_ink (numbered_cause_word n) ≡ true
cause_ink zero = refl
cause_ink (suc zero) = refl
cause_ink (suc (suc zero)) = refl
cause_ink (suc (suc (suc zero))) = refl
cause_ink (suc (suc (suc (suc zero)))) = refl
cause_ink (suc (suc (suc (suc (suc zero))))) = refl
cause_ink (suc (suc (suc (suc (suc (suc zero)))))) = refl
cause_ink (suc (suc (suc (suc (suc (suc (suc zero))))))) = refl
cause_ink (suc (suc (suc (suc (suc (suc (suc (suc zero)))))))) = refl
cause_ink (suc (suc (suc (suc (suc (suc (suc (suc (suc zero))))))))) = refl
cause_ink (suc (suc (suc (suc (suc (suc (suc (suc (suc (suc zero)))))))))) = refl
cause_ink (suc (suc (suc (suc (suc (suc (suc (suc (suc (suc (suc zero))))))))))) = refl
cause_ink (suc (suc (suc (suc (suc (suc (suc (suc (suc (suc (suc (suc zero)))))))))))) = refl
cause_ink (suc (suc (suc (suc (suc (suc (suc (suc (suc (suc (suc (suc (suc zero))))))))))))) = refl
cause_ink (suc (suc (suc (suc (suc (suc (suc (suc (suc (suc (suc (suc (suc (suc zero)))))))))))))) = refl
cause_ink (suc (suc (suc (suc (suc (suc (suc (suc (suc (suc (suc (suc (suc (suc (suc zero))))))))))))))) = refl
cause_ink (suc (suc (suc (suc (suc (suc (suc (suc (suc (suc (suc (suc (suc (suc (suc (suc n)))))))))))))))) = refl

-- ---- what is written is read back

-- it is empty, or begins with a space
abbrev pub Opens : List ℕ → Type 0
Opens [] = Unit {0}
Opens (b ∷ more) = b ≡ 32

space_at : (token rest : List ℕ) → list_all is_ink token ≡ true → Opens rest → position_or_len is_space (token ++ rest) ≡ length token
space_at [] [] ink opens = refl
space_at [] (b ∷ rest) ink opens = rw opens refl
space_at (b ∷ token) rest ink opens =
    let h = and_parts (is_ink b) (list_all is_ink token) ink in
    let no : eqb b 32 ≡ false = ne_eqb b 32 (omega (arith, ltb-true 32 b h.0)) in
    rw (no, space_at token rest h.1 opens) (omega arith)

cut_back : (token rest : List ℕ) → list_all is_ink token ≡ true → Opens rest → cut (token ++ rest) ≡ (token, rest)
cut_back token rest ink opens = rw (space_at token rest ink opens, take-append_seam token rest, drop-append_seam token rest) refl

pub behind_back : (front rest : List ℕ) → behind front (front ++ rest) ≡ Some rest
behind_back front rest = rw (take-append_seam front rest, drop-append_seam front rest, same front) refl

-- each but the first has a space before its value
abbrev pub starts_spaced : List ℕ → Bool
starts_spaced [] = false
starts_spaced (b ∷ more) = eqb b 32

abbrev pub is_spaced : Shape → Bool
is_spaced shape = list_all (λ f. starts_spaced f.0) shape

opened : (set : TaskSet) (shape : Shape) (values : List ℕ) → is_spaced shape ≡ true → AreOf set shape values → Opens (shape_text set shape values)
opened set [] values spaced h = tt
opened set (f ∷ shape) [] spaced h = tt
opened set (f ∷ shape) (v ∷ values) spaced h = go f.0 (and_parts (starts_spaced f.0) (is_spaced shape) spaced).0
  where
    go : (front : List ℕ) → starts_spaced front ≡ true → Opens ((front ++ value_text set f.1 v) ++ shape_text set shape values)
    go [] e = absurd (true≢false (sym e))
    go (b ∷ front) e = eqb-true b 32 e

module _ (set : TaskSet) (named : IsNamed set) (few : set.cores ≤ 8) where
  pub value_ink : (kind : Kind) (v : ℕ) → IsOf set kind v → list_all is_ink (value_text set kind v) ≡ true
  value_ink Number v h = decimal_ink v (omega arith)
  value_ink Core v h = decimal_ink v (omega arith)
  value_ink Object v h = named_ink (value_text set Object v) (at_place (λ o. o.name) IsName set.objects v no_object named.objects.each h)
  value_ink Program v h = named_ink (value_text set Program v) (at_place (λ p. p.name) IsName set.programs v no_program named.programs.each h)
  value_ink Cause v h = cause_ink v

  pub field_back : (kind : Kind) (front : List ℕ) (v : ℕ) (rest : List ℕ) → IsOf set kind v → Opens rest → field_in (value_of set kind) front ((front ++ value_text set kind v) ++ rest) ≡ Some (v, rest)
  field_back kind front v rest h opens =
      ap (field_in (value_of set kind) front) (append_assoc front (value_text set kind v) rest)
      ∙ ap (λ o. option_and_then (λ p. with_rest p.1 (value_of set kind p.0)) (option_map cut o)) (behind_back front (value_text set kind v ++ rest))
      ∙ ap (λ (p : List ℕ × List ℕ). with_rest p.1 (value_of set kind p.0)) (cut_back (value_text set kind v) rest (value_ink kind v h) opens)
      ∙ ap (with_rest rest) (value_back set named few kind v h)

  pub rest_back : (shape : Shape) (values : List ℕ) → is_spaced shape ≡ true → AreOf set shape values → values_in set shape (shape_text set shape values) ≡ Some values
  rest_back [] [] spaced h = refl
  rest_back [] (v ∷ values) spaced h = absurd h
  rest_back (f ∷ shape) [] spaced h = absurd h
  rest_back (f ∷ shape) (v ∷ values) spaced h =
      let later = (and_parts (starts_spaced f.0) (is_spaced shape) spaced).1 in
      rw (field_back f.1 f.0 v (shape_text set shape values) h.0 (opened set shape values later h.1), rest_back shape values later h.1) refl

  pub values_back : (f : List ℕ × Kind) (shape : Shape) (values : List ℕ) → is_spaced shape ≡ true → AreOf set (f ∷ shape) values → values_in set (f ∷ shape) (shape_text set (f ∷ shape) values) ≡ Some values
  values_back f shape [] spaced h = absurd h
  values_back f shape (v ∷ values) spaced h =
      rw (field_back f.1 f.0 v (shape_text set shape values) h.0 (opened set shape values spaced h.1), rest_back shape values spaced h.1) refl
