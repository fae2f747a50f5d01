-- A slot is free just where the model says that there is room.
use Rattle.std.proofs.Common.{◌≡◌, ℕ, suc, ◌+◌, ◌<◌, inl, inr, Bool, true, false, cond, eqb, leb, ◌||◌, List, [], ◌∷◌, length, Option, Some, None, refl, sym, ap, ◌∙◌, subst, arith, add-one, one-add}
use Rattle.std.specs.Prelude.{◌&&◌, is_none, is_some}
use Rattle.std.specs.List.{AllByRecursion}
use Rattle.std.proofs.lemmas.Bool.{eq-eqb, le-leb, lt-leb, or_parts}
use Rattle.kernel_model.specs.Sizes.{Sizes}
use Rattle.kernel_model.specs.Effects.{Write}
use Rattle.kernel_model.specs.Items.{FinishRecord}
use Rattle.kernel_model.specs.Replay.{DeviceState}
use Rattle.kernel_model.specs.Versions.{Version, chosen, older}
use Rattle.kernel_model.specs.Cores.{Core}
use Rattle.kernel_model.specs.Room.{count_needed, has_room, is_needed, without_room}
use Rattle.kernel_model.specs.Chain.{IsPart}
use Rattle.slot_model.specs.Kept.{Held, Kept, AreApart, must_stand, versions_in}
use Rattle.slot_model.specs.Places.{free_from, free_slot, is_taken}
use Rattle.slot_model.specs.Standing.{AreStanding, IsSpare}
use Rattle.slot_model.proofs.Chains.{HasNewest, IsSeen, each_held, newest_must}
use Rattle.slot_model.proofs.Pigeons.{AreDistinct, covers, fits, has, lacks, none_free, one_free}

-- the slots of what must stand
abbrev pub musts : (Held → Bool) → List Held → List ℕ
musts must [] = []
musts must (h ∷ hs) = cond (must h) (h.slot ∷ musts must hs) (musts must hs)

has_musts : (must : Held → Bool) (k : ℕ) (hs : List Held) → has k (musts must hs) ≡ is_taken must hs k
has_musts must k [] = refl
has_musts must k (h ∷ hs) = go (has_musts must k hs) (must h)
  where
    both : (a : Bool) → a ≡ (a && true)
    both true = refl
    both false = refl

    none : (a : Bool) → false ≡ (a && false)
    none true = refl
    none false = refl

    go : has k (musts must hs) ≡ is_taken must hs k → (b : Bool) → has k (cond b (h.slot ∷ musts must hs) (musts must hs)) ≡ ((eqb h.slot k && b) || is_taken must hs k)
    go rest true = ap (λ x. eqb h.slot k || x) rest ∙ ap (λ x. x || is_taken must hs k) (both (eqb h.slot k))
    go rest false = rest ∙ ap (λ x. x || is_taken must hs k) (none (eqb h.slot k))

musts_all : (P : ℕ → Type 0) (must : Held → Bool) (hs : List Held) → AllByRecursion (λ h. P h.slot) hs → AllByRecursion P (musts must hs)
musts_all P must [] p = tt
musts_all P must (h ∷ hs) p = go (musts_all P must hs p.1) (must h)
  where
    go : AllByRecursion P (musts must hs) → (b : Bool) → AllByRecursion P (cond b (h.slot ∷ musts must hs) (musts must hs))
    go rest true = (p.0, rest)
    go rest false = rest

musts_distinct : (must : Held → Bool) (hs : List Held) → AreApart hs → AreDistinct (musts must hs)
musts_distinct must [] a = tt
musts_distinct must (h ∷ hs) a = go (musts_distinct must hs a.1) (must h)
  where
    go : AreDistinct (musts must hs) → (b : Bool) → AreDistinct (cond b (h.slot ∷ musts must hs) (musts must hs))
    go rest true = (musts_all (λ k. h.slot ≡ k → ⊥) must hs a.0, rest)
    go rest false = rest

-- as many as are needed
musts_count : {M : Type 0} → (base : DeviceState) (history : List FinishRecord) (o : ℕ) (others : List (Core M)) (hs : List Held) → AllByRecursion (λ h. is_none h.version.end ≡ false) hs →
    length (musts (must_stand (is_needed base history o others)) hs) ≡ count_needed base history o others (versions_in hs)
musts_count base history o others [] n = refl
musts_count {M} base history o others (h ∷ hs) n = rw n.0 (go (musts_count base history o others hs n.1) (is_needed base history o others h.version))
  where
    go : length (musts (must_stand (is_needed base history o others)) hs) ≡ count_needed base history o others (versions_in hs) → (b : Bool) →
        length (cond b (h.slot ∷ musts (must_stand (is_needed base history o others)) hs) (musts (must_stand (is_needed base history o others)) hs)) ≡ cond b (count_needed base history o others (versions_in hs) + 1) (count_needed base history o others (versions_in hs))
    go rest true = ap suc rest ∙ sym (add-one _)
    go rest false = rest

-- a part counts as all do, where what is gone is not needed
part_count : {M : Type 0} → (base : DeviceState) (history : List FinishRecord) (floor o : ℕ) (others : List (Core M)) → IsSeen floor (is_needed base history o others) → (needed : Version → Bool) → ((v : Version) → needed v ≡ false → is_needed base history o others v ≡ false) →
    (part vs : List Version) → IsPart floor needed part vs → count_needed base history o others part ≡ count_needed base history o others vs
part_count base history floor o others seen needed n part [] p = rw p refl
part_count {M} base history floor o others seen needed n part (v ∷ vs) (inl p) =
    let rest = part_count base history floor o others seen needed n p.0 vs p.2 in
    rw (p.1, seen v, rest) refl
part_count {M} base history floor o others seen needed n part (v ∷ vs) (inr p) =
    let gone : is_needed base history o others v ≡ false = n v p.0 in
    rw gone (part_count base history floor o others seen needed n part vs p.1)

-- older versions have ended
abbrev pub HaveEnded : List Version → Type 0
HaveEnded vs = AllByRecursion (λ v. is_none v.end ≡ false) (older vs)

-- a slot is free where there is room
pub free_is_room : {M : Type 0} → (base : DeviceState) (history : List FinishRecord) (floor o slots : ℕ) (needed : Version → Bool) (words_at : ℕ → List ℕ) (others : List (Core M)) → IsSeen floor (is_needed base history o others) → ((v : Version) → needed v ≡ false → is_needed base history o others v ≡ false) →
    (vs : List Version) (v : Version) → chosen None vs ≡ Some v → HasNewest vs → HaveEnded vs → (chain : List Held) → AreStanding slots floor needed words_at vs chain →
    is_some (free_from 0 slots (is_taken (must_stand (is_needed base history o others)) chain)) ≡ leb (1 + count_needed base history o others (older vs) + 1) slots
free_is_room base history floor o slots needed words_at others seen fewer [] v e new ended chain s = absurd (cc e)
free_is_room base history floor o slots needed words_at others seen fewer (x ∷ vs) v e new ended [] s = absurd (let k = s.chained.1 in cc k)
free_is_room {M} base history floor o slots needed words_at others seen fewer (x ∷ vs) v e new ended (h ∷ hs) s = go (free_from 0 slots (is_taken must (h ∷ hs))) refl
  where
    must : Held → Bool
    must = must_stand (is_needed base history o others)

    rest : versions_in hs ≡ s.chained.0
    rest = cc s.chained.1

    part : IsPart floor needed (versions_in hs) vs
    part = subst (λ p. IsPart floor needed p vs) (sym rest) s.chained.2

    ends : AllByRecursion (λ h. is_none h.version.end ≡ false) hs
    ends = each_held floor needed (λ v. is_none v.end ≡ false) (λ v. is_none v.end ≡ false) (λ v k. k) vs ended hs part

    counted : length (musts must (h ∷ hs)) ≡ 1 + count_needed base history o others vs
    counted =
        ap (λ b. length (cond b (h.slot ∷ musts must hs) (musts must hs))) (newest_must floor needed (is_needed base history o others) h hs (x ∷ vs) new s.chained)
        ∙ ap suc (musts_count base history o others hs ends ∙ part_count base history floor o others seen needed fewer (versions_in hs) vs part) ∙ sym (one-add _)

    go : (f : Option ℕ) → free_from 0 slots (is_taken must (h ∷ hs)) ≡ f → is_some f ≡ leb (1 + count_needed base history o others vs + 1) slots
    go None f =
        let all = covers slots (musts must (h ∷ hs)) (λ j l. has_musts must j (h ∷ hs) ∙ none_free 0 slots (is_taken must (h ∷ hs)) f j (omega arith) (omega (arith, l))) in
        sym (lt-leb (1 + count_needed base history o others vs + 1) slots (omega (arith, all, counted)))
    go (Some k) f =
        let least = one_free 0 slots (is_taken must (h ∷ hs)) k f in
        let low : k < slots = let l = least.below in omega (arith, l) in
        let few = fits slots (k ∷ musts must (h ∷ hs)) (lacks k (musts must (h ∷ hs)) (has_musts must k (h ∷ hs) ∙ least.is_free), musts_distinct must (h ∷ hs) s.apart) (low, musts_all (λ x. x < slots) must (h ∷ hs) s.places) in
        sym (le-leb (1 + count_needed base history o others vs + 1) slots (omega (arith, few, counted)))

-- what is not taken is spare
pub free_is_spare : (slots : ℕ) (needed : Version → Bool) (chain : List Held) (k : ℕ) → k < slots → is_taken (must_stand needed) chain k ≡ false → IsSpare slots needed chain k
free_is_spare slots needed chain k l e = record { place = l; spare = go chain e }
  where
    at : (h : Held) (b : Bool) → (eqb h.slot k && b) ≡ false → b ≡ true → h.slot ≡ k → ⊥
    at h true e f g = let one : eqb h.slot k ≡ true = eq-eqb h.slot k g in let none : (true && true) ≡ false = subst (λ x. (x && true) ≡ false) one e in cc none
    at h false e f g = cc f

    go : (hs : List Held) → is_taken (must_stand needed) hs k ≡ false → AllByRecursion (λ h. must_stand needed h ≡ true → h.slot ≡ k → ⊥) hs
    go [] e = tt
    go (h ∷ hs) e = let p = or_parts (eqb h.slot k && must_stand needed h) (is_taken (must_stand needed) hs k) e in (λ f. at h (must_stand needed h) p.0 f, go hs p.1)

-- no written object lacks room
pub all_room : {M : Type 0} → (sizes : Sizes) (base : DeviceState) (history : List FinishRecord) (others : List (Core M)) (ws : List Write) → without_room sizes base history others ws ≡ None → AllByRecursion (λ w. has_room sizes base history others w.object ≡ true) ws
all_room sizes base history others [] e = tt
all_room {M} sizes base history others (w ∷ ws) e = go (all_room sizes base history others ws) (has_room sizes base history others w.object) refl e
  where
    go : (without_room sizes base history others ws ≡ None → AllByRecursion (λ w. has_room sizes base history others w.object ≡ true) ws) → (b : Bool) → has_room sizes base history others w.object ≡ b →
        cond b (without_room sizes base history others ws) (Some w.object) ≡ None → AllByRecursion (λ w. has_room sizes base history others w.object ≡ true) (w ∷ ws)
    go rest true f e = (f, rest e)
    go rest false f e = absurd (cc e)

-- the least free slot is spare, and all below are taken
pub free_least : {M : Type 0} → (sizes : Sizes) (base : DeviceState) (history : List FinishRecord) (others : List (Core M)) (kept : Kept) (o k : ℕ) → free_slot sizes base history others kept o ≡ Some k →
    IsSpare (sizes.slots o) (is_needed base history o others) (kept.chains o) k × ((j : ℕ) → j < k → is_taken (must_stand (is_needed base history o others)) (kept.chains o) j ≡ true)
free_least sizes base history others kept o k e =
    let least = one_free 0 (sizes.slots o) (is_taken (must_stand (is_needed base history o others)) (kept.chains o)) k e in
    (free_is_spare (sizes.slots o) (is_needed base history o others) (kept.chains o) k (let m = least.below in omega (arith, m)) least.is_free, λ j l. least.least j (omega arith) l)
