-- What stands behind a word of a line: a value that was written is read back, and what is read is as the value is written.
use Rattle.std.proofs.Common.{◌≡◌, ℕ, zero, suc, ◌+◌, ◌<◌, ◌≤◌, ◌≢◌, Bool, true, false, List, [], ◌∷◌, length, get_or, map, Option, Some, None, option_map, nat_eq, find, position, refl, sym, ◌∙◌, subst, ltb, arith, inl, inr, not, cond, lit<, lit≤, unwrap_or}
use Rattle.std.specs.List.{AllByRecursion, position_or_len}
use Rattle.std.specs.Option.{option_and_then}
use Rattle.std.specs.Cmp.Lexicographic.{pointwise, same_text, other_text}
use Rattle.std.specs.Fmt.{decimal}
use Rattle.std.proofs.lemmas.List.{length-map}
use Rattle.std.proofs.lemmas.List.Sums.{prefix_len-le-length}
use Rattle.nv_base.specs.Causes.{cause_number, cause_word}
use Rattle.nv_base.specs.declared.causes.TrapCause.{TrapCause}
use Rattle.nv_base.specs.declared.causes.TrapCause.TheVariants as variants
use Rattle.nv_base.specs.declared.causes.TrapCause.TheVariants.{Illegal, Jump, Fetch, LoadAlign, Load, StoreAlign, Store, Break, Call, CallAlign, CallRange, Spawns, Fuel}
use Rattle.std.proofs.lemmas.Bool.{cases_Bool, cases_lt, lt-ltb, le-ltb, ltb-true}
use Rattle.std.proofs.lemmas.Option.{none-some, same_Some, cond_some}
use Rattle.report_text.specs.Causes.{causes, numbered_cause_word}
use Rattle.set_model.specs.Sets.{TaskSet, ObjPart, ProgPart, object_at, program_at}
use Rattle.set_model.specs.Limits.{IsWord}
use Rattle.set_model.specs.Names.{IsNamed, AreDistinct}
use Rattle.report.specs.Fields.{Kind, Number, Core, Object, Program, Cause, number_of, if_below, cause_of, place_of, value_of}
use Rattle.report.proofs.Numbers.{number_back, number_means}

-- what stands where there is no object, and no program
abbrev pub no_object : ObjPart
no_object = record { name = []; size = 0; slots = 0; first = [] }

abbrev pub no_program : ProgPart
no_program = record { name = []; fuel = 0; code = [] }

-- ---- as values are written

abbrev pub value_text : TaskSet → Kind → ℕ → List ℕ
value_text set Number n = decimal n
value_text set Core n = decimal n
value_text set Object o = (object_at set o).name
value_text set Program p = (program_at set p).name
value_text set Cause n = numbered_cause_word n

abbrev pub IsOf : TaskSet → Kind → ℕ → Type 0
IsOf set Number n = IsWord n
IsOf set Core n = n < set.cores
IsOf set Object o = o < length set.objects
IsOf set Program p = p < length set.programs
IsOf set Cause n = (0 < n) × (n ≤ 15)

-- ---- where the first item stands that passes

pub position-or : {X : Type 0} (p : X → Bool) (xs : List X) → unwrap_or (position p xs) (length xs) ≡ position_or_len p xs
position-or p xs = elim (cases_lt (position_or_len p xs) (length xs)) [
  | inl lt ↦ rw (lt-ltb _ _ lt) refl
  | inr le ↦ let small = prefix_len-le-length (λ x. not (p x)) xs in rw (le-ltb _ _ le) (omega arith)
]

-- ---- names

pub same : (a : List ℕ) → pointwise nat_eq a a ≡ true
same a = elim (cases_Bool (pointwise nat_eq a a)) [
  | inl t ↦ t
  | inr f ↦ absurd (other_text a a (sym f) refl)
]

differ : (a b : List ℕ) → a ≢ b → pointwise nat_eq a b ≡ false
differ a b ne = elim (cases_Bool (pointwise nat_eq a b)) [
  | inl t ↦ absurd (ne (same_text a b (sym t)))
  | inr f ↦ f
]

pub at_place : {X : Type 0} (f : X → List ℕ) (P : List ℕ → Type 0) (xs : List X) (i : ℕ) (none : X) → AllByRecursion P (map f xs) → i < length xs → P (f (get_or xs i none))
at_place f P [] i none all lt = absurd (omega arith)
at_place f P (x ∷ xs) zero none all lt = all.0
at_place f P (x ∷ xs) (suc i) none all lt = at_place f P xs i none all.1 (omega arith)

module _ {X : Type 0} (name_of : X → List ℕ) where
  abbrev place_in : List X → List ℕ → ℕ
  place_in things word = position_or_len (λ name. pointwise nat_eq name word) (map name_of things)

  found_at : (things : List X) (i : ℕ) (none : X) → AreDistinct (map name_of things) → i < length things → place_in things (name_of (get_or things i none)) ≡ i
  found_at [] i none once lt = absurd (omega arith)
  found_at (thing ∷ things) zero none once lt = rw (same (name_of thing)) refl
  found_at (thing ∷ things) (suc i) none once lt =
      let one = differ (name_of thing) (name_of (get_or things i none)) (at_place name_of (λ later. name_of thing ≢ later) things i none once.0 (omega arith)) in
      rw (one, found_at things i none once.1 (omega arith)) (omega arith)

  -- a name is found at its own place
  pub place_back : (things : List X) (i : ℕ) (none : X) → AreDistinct (map name_of things) → i < length things → place_of (map name_of things) (name_of (get_or things i none)) ≡ Some i
  place_back things i none once lt =
      let within : ltb i (length (map name_of things)) ≡ true = lt-ltb _ _ (omega (arith, length-map things name_of)) in
      rw (found_at things i none once lt, within) refl

  stands_at : (things : List X) (word : List ℕ) (none : X) → place_in things word < length things → name_of (get_or things (place_in things word) none) ≡ word
  stands_at [] word none lt = absurd (omega arith)
  stands_at (thing ∷ things) word none lt = go (stands_at things word none) (pointwise nat_eq (name_of thing) word) refl lt
    where
      go : (place_in things word < length things → name_of (get_or things (place_in things word) none) ≡ word) → (b : Bool) → pointwise nat_eq (name_of thing) word ≡ b → cond (not b) (1 + place_in things word) 0 < suc (length things) → name_of (get_or (thing ∷ things) (cond (not b) (1 + place_in things word) 0) none) ≡ word
      go later true t l = same_text (name_of thing) word (sym t)
      go later false f l = let e : 1 + place_in things word ≡ suc (place_in things word) = omega arith in rw e (later (omega arith))

  -- where a word is found its name stands
  pub place_means : (things : List X) (word : List ℕ) (i : ℕ) (none : X) → place_of (map name_of things) word ≡ Some i → (name_of (get_or things i none) ≡ word) × (i < length things)
  place_means things word i none e =
      let h = cond_some (ltb (place_in things word) (length (map name_of things))) (place_in things word) i e in
      let lt : place_in things word < length things = omega (arith, ltb-true _ _ h.0, length-map things name_of) in
      (subst (λ k. name_of (get_or things k none) ≡ word) h.1 (stands_at things word none lt), omega (arith, h.1, lt))

  -- where the search stands: at the name, or behind it
  at_or_behind : (things : List X) (word : List ℕ) (i : ℕ) (none : X) (b : Bool) → i ≤ place_in things word → i < length things → pointwise nat_eq (name_of (get_or things i none)) word ≡ b
      → cond b (place_in things word ≡ i) (i + 1 ≤ place_in things word)
  at_or_behind [] word i none b le lt e = absurd (omega arith)
  at_or_behind (thing ∷ things) word zero none true le lt e = rw e refl
  at_or_behind (thing ∷ things) word zero none false le lt e = rw e (omega arith)
  at_or_behind (thing ∷ things) word (suc i) none b le lt e = go (λ l. at_or_behind things word i none b l (omega arith) e) (pointwise nat_eq (name_of thing) word) le
    where
      more : (c : Bool) → cond c (place_in things word ≡ i) (i + 1 ≤ place_in things word) → cond c (1 + place_in things word ≡ suc i) (suc i + 1 ≤ 1 + place_in things word)
      more true h = omega arith
      more false h = omega arith

      go : (i ≤ place_in things word → cond b (place_in things word ≡ i) (i + 1 ≤ place_in things word)) → (first : Bool) → suc i ≤ cond (not first) (1 + place_in things word) 0 → cond b (cond (not first) (1 + place_in things word) 0 ≡ suc i) (suc i + 1 ≤ cond (not first) (1 + place_in things word) 0)
      go later true l = absurd (omega arith)
      go later false l = more b (later (omega arith))

  pub found : (things : List X) (word : List ℕ) (i : ℕ) (none : X) → i ≤ place_in things word → i < length things → pointwise nat_eq (name_of (get_or things i none)) word ≡ true → Some i ≡ place_of (map name_of things) word
  found things word i none le lt e =
      let at = at_or_behind things word i none true le lt e in
      let within : ltb i (length (map name_of things)) ≡ true = lt-ltb _ _ (omega (arith, length-map things name_of)) in
      rw (at, within) refl

  pub passed : (things : List X) (word : List ℕ) (i : ℕ) (none : X) → i ≤ place_in things word → i < length things → pointwise nat_eq (name_of (get_or things i none)) word ≡ false → i + 1 ≤ place_in things word
  passed things word i none le lt e = at_or_behind things word i none false le lt e

-- ---- causes

cause_back : (n : ℕ) → 0 < n → n ≤ 15 → option_map cause_number (cause_of (numbered_cause_word n)) ≡ Some n
cause_back zero some few = absurd (omega arith)
cause_back (suc zero) some few = refl
cause_back (suc (suc zero)) some few = refl
cause_back (suc (suc (suc zero))) some few = refl
cause_back (suc (suc (suc (suc zero)))) some few = refl
cause_back (suc (suc (suc (suc (suc zero))))) some few = refl
cause_back (suc (suc (suc (suc (suc (suc zero)))))) some few = refl
cause_back (suc (suc (suc (suc (suc (suc (suc zero))))))) some few = refl
cause_back (suc (suc (suc (suc (suc (suc (suc (suc zero)))))))) some few = refl
cause_back (suc (suc (suc (suc (suc (suc (suc (suc (suc zero))))))))) some few = refl
cause_back (suc (suc (suc (suc (suc (suc (suc (suc (suc (suc zero)))))))))) some few = refl
cause_back (suc (suc (suc (suc (suc (suc (suc (suc (suc (suc (suc zero))))))))))) some few = refl
cause_back (suc (suc (suc (suc (suc (suc (suc (suc (suc (suc (suc (suc zero)))))))))))) some few = refl
cause_back (suc (suc (suc (suc (suc (suc (suc (suc (suc (suc (suc (suc (suc zero))))))))))))) some few = refl
cause_back (suc (suc (suc (suc (suc (suc (suc (suc (suc (suc (suc (suc (suc (suc zero)))))))))))))) some few = refl
cause_back (suc (suc (suc (suc (suc (suc (suc (suc (suc (suc (suc (suc (suc (suc (suc zero))))))))))))))) some few = refl
cause_back (suc (suc (suc (suc (suc (suc (suc (suc (suc (suc (suc (suc (suc (suc (suc (suc n)))))))))))))))) some few = absurd (omega arith)

numbered : (cause : TrapCause) → (numbered_cause_word (cause_number cause) ≡ cause_word cause) × (0 < cause_number cause) × (cause_number cause ≤ 15)
numbered Illegal = (refl, lit< tt, lit≤ tt)
numbered Jump = (refl, lit< tt, lit≤ tt)
numbered Fetch = (refl, lit< tt, lit≤ tt)
numbered LoadAlign = (refl, lit< tt, lit≤ tt)
numbered Load = (refl, lit< tt, lit≤ tt)
numbered StoreAlign = (refl, lit< tt, lit≤ tt)
numbered Store = (refl, lit< tt, lit≤ tt)
numbered Break = (refl, lit< tt, lit≤ tt)
numbered Call = (refl, lit< tt, lit≤ tt)
numbered variants.Object = (refl, lit< tt, lit≤ tt)
numbered CallAlign = (refl, lit< tt, lit≤ tt)
numbered CallRange = (refl, lit< tt, lit≤ tt)
numbered variants.Program = (refl, lit< tt, lit≤ tt)
numbered Spawns = (refl, lit< tt, lit≤ tt)
numbered Fuel = (refl, lit< tt, lit≤ tt)

find_means : {X : Type 0} (p : X → Bool) (xs : List X) (x : X) → find p xs ≡ Some x → p x ≡ true
find_means p [] x e = absurd (none-some x e)
find_means p (y ∷ xs) x e = go (find_means p xs x) (p y) refl e
  where
    go : (find p xs ≡ Some x → p x ≡ true) → (b : Bool) → p y ≡ b → cond b (Some y) (find p xs) ≡ Some x → p x ≡ true
    go later true t f = subst (λ z. p z ≡ true) (same_Some y x f) t
    go later false t f = later f

cause_means : (word : List ℕ) (o : Option TrapCause) (n : ℕ) → cause_of word ≡ o → option_map cause_number o ≡ Some n → (numbered_cause_word n ≡ word) × (0 < n) × (n ≤ 15)
cause_means word None n is e = absurd (none-some n e)
cause_means word (Some cause) n told e =
    let is : cause_number cause ≡ n = same_Some _ _ e in
    let so = numbered cause in
    let text : cause_word cause ≡ word = same_text (cause_word cause) word (sym (find_means (λ cause. pointwise nat_eq (cause_word cause) word) causes cause told)) in
    subst (λ k. (numbered_cause_word k ≡ word) × (0 < k) × (k ≤ 15)) is (so.0 ∙ text, so.1, so.2)

-- ---- all kinds

module _ (set : TaskSet) (named : IsNamed set) (few : set.cores ≤ 8) where
  pub value_back : (kind : Kind) (v : ℕ) → IsOf set kind v → value_of set kind (value_text set kind v) ≡ Some v
  value_back Number v h = number_back v h
  value_back Core v h = let below : ltb v set.cores ≡ true = lt-ltb _ _ h in rw (number_back v (omega arith), below) refl
  value_back Object v h = place_back (λ o. o.name) set.objects v no_object named.objects.once h
  value_back Program v h = place_back (λ p. p.name) set.programs v no_program named.programs.once h
  value_back Cause v h = cause_back v h.0 h.1

below_means : (most : ℕ) (word : List ℕ) (o : Option ℕ) (v : ℕ) → number_of word ≡ o → option_and_then (if_below most) o ≡ Some v → (decimal v ≡ word) × (v < most)
below_means most word None v told e = absurd (none-some v e)
below_means most word (Some n) v told e =
    let h = cond_some (ltb n most) n v e in
    (subst (λ k. decimal k ≡ word) h.1 (number_means word n told).0, omega (arith, ltb-true n most h.0, h.1))

pub value_means : (set : TaskSet) (kind : Kind) (word : List ℕ) (v : ℕ) → value_of set kind word ≡ Some v → (value_text set kind v ≡ word) × IsOf set kind v
value_means set Number word v e = number_means word v e
value_means set Core word v e = below_means set.cores word (number_of word) v refl e
value_means set Object word v e = place_means (λ o. o.name) set.objects word v no_object e
value_means set Program word v e = place_means (λ p. p.name) set.programs word v no_program e
value_means set Cause word v e = let h = cause_means word (cause_of word) v refl e in (h.0, (h.1, h.2))
