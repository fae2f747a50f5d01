-- What stands of one object, where less is needed, where a version joins, and after a failure.
use Rattle.std.proofs.Common.{◌≡◌, ℕ, ◌<◌, inl, inr, Bool, true, false, cond, eqb, not, ◌||◌, List, [], ◌∷◌, Option, Some, None, refl, sym, ap, ◌∙◌, subst}
use Rattle.std.specs.Prelude.{is_none}
use Rattle.std.specs.List.{AllByRecursion}
use Rattle.std.proofs.lemmas.Bool.{eqb-true, eqb-false, ne_eqb, or_right}
use Rattle.kernel_model.specs.Items.{FinishRecord}
use Rattle.kernel_model.specs.Versions.{Version, chosen, older}
use Rattle.kernel_model.specs.Chain.{IsChain, IsPart, floored, with_version}
use Rattle.kernel_model.proofs.ForCallers.{chain-less}
use Rattle.slot_model.specs.Kept.{Held, AreApart, must_stand, newest_alone, versions_in, with_held, without_slot}
use Rattle.slot_model.specs.Standing.{AreStanding, IsSpare}

-- what holds of each version holds of each that is held, as it is seen after a boot
pub each_held : (floor : ℕ) (n : Version → Bool) (Q R : Version → Type 0) → ((v : Version) → Q v → R (floored floor v)) → (vs : List Version) → AllByRecursion Q vs → (hs : List Held) → IsPart floor n (versions_in hs) vs → AllByRecursion (λ h. R h.version) hs
each_held floor n Q R f [] q [] p = tt
each_held floor n Q R f [] q (h ∷ hs) p = absurd (cc p)
each_held floor n Q R f (v ∷ vs) q [] p = tt
each_held floor n Q R f (v ∷ vs) q (h ∷ hs) (inl p) =
    let first : h.version ≡ floored floor v = cc p.1 in
    let rest : versions_in hs ≡ p.0 = cc p.1 in
    (subst R (sym first) (f v q.0), each_held floor n Q R f vs q.1 hs (subst (λ x. IsPart floor n x vs) (sym rest) p.2))
each_held floor n Q R f (v ∷ vs) q (h ∷ hs) (inr p) = each_held floor n Q R f vs q.1 (h ∷ hs) p.1

-- the first of a chain is the newest version
pub newest_held : (floor : ℕ) (n : Version → Bool) (h : Held) (hs : List Held) (vs : List Version) → IsChain floor n (versions_in (h ∷ hs)) vs →
    (v : Version) × (rest : List Version) × (vs ≡ v ∷ rest) × (h.version ≡ floored floor v) × IsPart floor n (versions_in hs) rest
newest_held floor n h hs [] c = absurd (cc c)
newest_held floor n h hs (v ∷ vs) c =
    let first : h.version ≡ floored floor v = cc c.1 in
    let rest : versions_in hs ≡ c.0 = cc c.1 in
    (v, vs, refl, first, subst (λ x. IsPart floor n x vs) (sym rest) c.2)

-- the newest has not ended
abbrev pub HasNewest : List Version → Type 0
HasNewest vs = (v : Version) → chosen None vs ≡ Some v → v.end ≡ None

-- seen after a boot, it is needed as before
abbrev pub IsSeen : ℕ → (Version → Bool) → Type 0
IsSeen floor n = (v : Version) → n (floored floor v) ≡ n v

-- where less is needed, less must stand
pub must_less : (floor : ℕ) (n m : Version → Bool) → IsSeen floor n → IsSeen floor m → (vs : List Version) → HasNewest vs → AllByRecursion (λ v. m v ≡ true → n v ≡ true) (older vs) → (chain : List Held) → IsChain floor n (versions_in chain) vs →
    AllByRecursion (λ h. must_stand m h ≡ true → must_stand n h ≡ true) chain
must_less floor n m fn fm vs new less [] c = tt
must_less floor n m fn fm [] new less (h ∷ hs) c = absurd (cc c)
must_less floor n m fn fm (v ∷ vs) new less (h ∷ hs) c =
    let k = newest_held floor n h hs (v ∷ vs) c in
    let first : h.version ≡ floored floor v = cc c.1 in
    let rest : versions_in hs ≡ c.0 = cc c.1 in
    let none : h.version.end ≡ None = ap (λ (x : Version). x.end) first ∙ new v refl in
    (λ e. rw none refl, each_held floor n (λ v. m v ≡ true → n v ≡ true) (λ u. (is_none u.end || m u) ≡ true → (is_none u.end || n u) ≡ true) at vs less hs (subst (λ x. IsPart floor n x vs) (sym rest) c.2))
  where
    at : (v : Version) → (m v ≡ true → n v ≡ true) → (is_none v.end || m (floored floor v)) ≡ true → (is_none v.end || n (floored floor v)) ≡ true
    at v k e = go (is_none v.end) e
      where
        go : (b : Bool) → (b || m (floored floor v)) ≡ true → (b || n (floored floor v)) ≡ true
        go true e = refl
        go false e = fn v ∙ k (sym (fm v) ∙ e)

-- of two facts on each
pub both_held : (P Q R : Held → Type 0) → ((h : Held) → P h → Q h → R h) → (hs : List Held) → AllByRecursion P hs → AllByRecursion Q hs → AllByRecursion R hs
both_held P Q R f [] p q = tt
both_held P Q R f (h ∷ hs) p q = (f h p.0 q.0, both_held P Q R f hs p.1 q.1)

-- of some that stay
pub stay_held : (P : Held → Type 0) (k : ℕ) (hs : List Held) → AllByRecursion P hs → AllByRecursion P (without_slot k hs)
stay_held P k [] p = tt
stay_held P k (h ∷ hs) p = go (stay_held P k hs p.1) (eqb h.slot k)
  where
    go : AllByRecursion P (without_slot k hs) → (b : Bool) → AllByRecursion P (cond (not b) (h ∷ without_slot k hs) (without_slot k hs))
    go rest true = rest
    go rest false = (p.0, rest)

-- none of those that stay is in the slot
others_stay : (k : ℕ) (hs : List Held) → AllByRecursion (λ h. k ≡ h.slot → ⊥) (without_slot k hs)
others_stay k [] = tt
others_stay k (h ∷ hs) = go (others_stay k hs) (eqb h.slot k) refl
  where
    go : AllByRecursion (λ h. k ≡ h.slot → ⊥) (without_slot k hs) → (b : Bool) → eqb h.slot k ≡ b → AllByRecursion (λ h. k ≡ h.slot → ⊥) (cond (not b) (h ∷ without_slot k hs) (without_slot k hs))
    go rest true e = rest
    go rest false e = (λ f. eqb-false h.slot k e (sym f), rest)

apart_stay : (k : ℕ) (hs : List Held) → AreApart hs → AreApart (without_slot k hs)
apart_stay k [] a = tt
apart_stay k (h ∷ hs) a = go (apart_stay k hs a.1) (eqb h.slot k)
  where
    go : AreApart (without_slot k hs) → (b : Bool) → AreApart (cond (not b) (h ∷ without_slot k hs) (without_slot k hs))
    go rest true = rest
    go rest false = (stay_held (λ g. h.slot ≡ g.slot → ⊥) k hs a.0, rest)

-- what stands, where less is needed
pub standing_less : (slots floor : ℕ) (n m : Version → Bool) (words_at : ℕ → List ℕ) (vs : List Version) (chain : List Held) → IsSeen floor n → IsSeen floor m → HasNewest vs → AllByRecursion (λ v. m v ≡ true → n v ≡ true) (older vs) →
    AreStanding slots floor n words_at vs chain → AreStanding slots floor m words_at vs chain
standing_less slots floor n m words_at vs chain fn fm new less s = record {
  chained = chain-less floor n m (versions_in chain) vs less s.chained;
  places = s.places;
  apart = s.apart;
  words = both_held (λ h. must_stand m h ≡ true → must_stand n h ≡ true) (λ h. must_stand n h ≡ true → words_at h.slot ≡ h.version.words) (λ h. must_stand m h ≡ true → words_at h.slot ≡ h.version.words) (λ h f g e. g (f e)) chain (must_less floor n m fn fm vs new less chain s.chained) s.words;
}

-- a spare slot stays one
pub spare_less : (slots floor : ℕ) (n m : Version → Bool) (vs : List Version) (chain : List Held) (k : ℕ) → IsSeen floor n → IsSeen floor m → HasNewest vs → AllByRecursion (λ v. m v ≡ true → n v ≡ true) (older vs) → IsChain floor n (versions_in chain) vs →
    IsSpare slots n chain k → IsSpare slots m chain k
spare_less slots floor n m vs chain k fn fm new less c s = record {
  place = s.place;
  spare = both_held (λ h. must_stand m h ≡ true → must_stand n h ≡ true) (λ h. must_stand n h ≡ true → h.slot ≡ k → ⊥) (λ h. must_stand m h ≡ true → h.slot ≡ k → ⊥) (λ h f g e. g (f e)) chain (must_less floor n m fn fm vs new less chain c) s.spare;
}

-- with other words in slots that need not stand
pub standing_words : (slots floor : ℕ) (n : Version → Bool) (before after : ℕ → List ℕ) (vs : List Version) (chain : List Held) → AllByRecursion (λ h. must_stand n h ≡ true → after h.slot ≡ before h.slot) chain →
    AreStanding slots floor n before vs chain → AreStanding slots floor n after vs chain
standing_words slots floor n before after vs chain same s = record {
  chained = s.chained;
  places = s.places;
  apart = s.apart;
  words = both_held (λ h. must_stand n h ≡ true → after h.slot ≡ before h.slot) (λ h. must_stand n h ≡ true → before h.slot ≡ h.version.words) (λ h. must_stand n h ≡ true → after h.slot ≡ h.version.words) (λ h f g e. f e ∙ g e) chain same s.words;
}

-- the newest must stand
pub newest_must : (floor : ℕ) (n m : Version → Bool) (h : Held) (hs : List Held) (vs : List Version) → HasNewest vs → IsChain floor n (versions_in (h ∷ hs)) vs → must_stand m h ≡ true
newest_must floor n m h hs [] new c = absurd (cc c)
newest_must floor n m h hs (v ∷ vs) new c =
    let first : h.version ≡ floored floor v = cc c.1 in
    let none : h.version.end ≡ None = ap (λ (x : Version). x.end) first ∙ new v refl in
    rw none refl

-- what nobody needs may go out of a slot
part_without : (floor k : ℕ) (m : Version → Bool) → (IsSeen floor m) → (hs : List Held) (vs : List Version) → AllByRecursion (λ h. h.slot ≡ k → m h.version ≡ false) hs → IsPart floor m (versions_in hs) vs → IsPart floor m (versions_in (without_slot k hs)) vs
part_without floor k m seen [] [] u p = p
part_without floor k m seen (h ∷ hs) [] u p = absurd (cc p)
part_without floor k m seen [] (v ∷ vs) u p = p
part_without floor k m seen (h ∷ hs) (v ∷ vs) u (inr p) = inr (p.0, part_without floor k m seen (h ∷ hs) vs u p.1)
part_without floor k m seen (h ∷ hs) (v ∷ vs) u (inl p) =
    let first : h.version ≡ floored floor v = cc p.1 in
    let rest : versions_in hs ≡ p.0 = cc p.1 in
    go first (part_without floor k m seen hs vs u.1 (subst (λ x. IsPart floor m x vs) (sym rest) p.2)) (eqb h.slot k) refl
  where
    go : h.version ≡ floored floor v → IsPart floor m (versions_in (without_slot k hs)) vs → (b : Bool) → eqb h.slot k ≡ b → IsPart floor m (versions_in (cond (not b) (h ∷ without_slot k hs) (without_slot k hs))) (v ∷ vs)
    go first rest true e = let gone : m v ≡ false = sym (seen v) ∙ ap m (sym first) ∙ u.0 (eqb-true h.slot k e) in inr (gone, rest)
    go first rest false e = inl (versions_in (without_slot k hs), ap (λ (x : Version). x ∷ versions_in (without_slot k hs)) first, rest)

-- what is in a spare slot is not needed
spare_unneeded : (n m : Version → Bool) (k : ℕ) (hs : List Held) → AllByRecursion (λ h. must_stand m h ≡ true → must_stand n h ≡ true) hs → AllByRecursion (λ h. must_stand n h ≡ true → h.slot ≡ k → ⊥) hs → AllByRecursion (λ h. h.slot ≡ k → m h.version ≡ false) hs
spare_unneeded n m k hs less spare = both_held (λ h. must_stand m h ≡ true → must_stand n h ≡ true) (λ h. must_stand n h ≡ true → h.slot ≡ k → ⊥) (λ h. h.slot ≡ k → m h.version ≡ false) at hs less spare
  where
    at : (h : Held) → (must_stand m h ≡ true → must_stand n h ≡ true) → (must_stand n h ≡ true → h.slot ≡ k → ⊥) → h.slot ≡ k → m h.version ≡ false
    at h f g e = go (m h.version) refl
      where
        go : (b : Bool) → m h.version ≡ b → m h.version ≡ false
        go true q = absurd (g (f (or_right (is_none h.version.end) (m h.version) q)) e)
        go false q = q

-- what stands, where a version joins in a spare slot
pub standing_with : (slots floor : ℕ) (n m : Version → Bool) (words_at : ℕ → List ℕ) (vs later : List Version) (chain : List Held) (i : FinishRecord) (w : Option (List ℕ)) (k : ℕ) → IsSeen floor n → IsSeen floor m → HasNewest vs →
    AllByRecursion (λ v. m v ≡ true → n v ≡ true) (older vs) → IsChain floor m (with_version i w (versions_in chain)) later → ((words : List ℕ) → w ≡ Some words → IsSpare slots n chain k × (words_at k ≡ words)) →
    AreStanding slots floor n words_at vs chain → AreStanding slots floor m words_at later (with_held i w k chain)
standing_with slots floor n m words_at vs later chain i None k fn fm new less c given s = record {
  chained = c;
  places = s.places;
  apart = s.apart;
  words = both_held (λ h. must_stand m h ≡ true → must_stand n h ≡ true) (λ h. must_stand n h ≡ true → words_at h.slot ≡ h.version.words) (λ h. must_stand m h ≡ true → words_at h.slot ≡ h.version.words) (λ h f g e. g (f e)) chain (must_less floor n m fn fm vs new less chain s.chained) s.words;
}
standing_with slots floor n m words_at vs later [] i (Some words) k fn fm new less c given s =
    let g = given words refl in
    record { chained = c; places = (g.0.place, tt); apart = (tt, tt); words = (λ e. g.1, tt) }
standing_with slots floor n m words_at vs later (h ∷ hs) i (Some words) k fn fm new less c given s = record {
  chained = chained later c;
  places = (g.0.place, (s.places.0, stay_held (λ h. h.slot < slots) k hs s.places.1));
  apart = ((λ e. free (sym e), others_stay k hs), (stay_held (λ g. h.slot ≡ g.slot → ⊥) k hs s.apart.0, apart_stay k hs s.apart.1));
  words = (
    λ e. g.1,
    (
      λ e. s.words.0 first,
      stay_held (λ h. must_stand m h ≡ true → words_at h.slot ≡ h.version.words) k hs
          (both_held (λ h. must_stand m h ≡ true → must_stand n h ≡ true) (λ h. must_stand n h ≡ true → words_at h.slot ≡ h.version.words) (λ h. must_stand m h ≡ true → words_at h.slot ≡ h.version.words) (λ h f g e. g (f e)) hs fewer.1 s.words.1),
    ),
  );
}
  where
    g : IsSpare slots n (h ∷ hs) k × (words_at k ≡ words)
    g = given words refl

    first : must_stand n h ≡ true
    first = newest_must floor n n h hs vs new s.chained

    free : h.slot ≡ k → ⊥
    free = g.0.spare.0 first

    fewer : AllByRecursion (λ h. must_stand m h ≡ true → must_stand n h ≡ true) (h ∷ hs)
    fewer = must_less floor n m fn fm vs new less (h ∷ hs) s.chained

    ended : Held
    ended = record h { version = record h.version { end = Some i.point } }

    fresh : Held
    fresh = record { slot = k; version = record { writer = i.number; begin = i.point; end = None; words = words } }

    chained : (later : List Version) → IsChain floor m (versions_in (fresh ∷ ended ∷ hs)) later → IsChain floor m (versions_in (fresh ∷ ended ∷ without_slot k hs)) later
    chained [] c = absurd (cc c)
    chained (x ∷ xs) c =
        let top : fresh.version ≡ floored floor x = cc c.1 in
        let rest : versions_in (ended ∷ hs) ≡ c.0 = cc c.1 in
        let part : IsPart floor m (versions_in (ended ∷ hs)) xs = subst (λ p. IsPart floor m p xs) (sym rest) c.2 in
        let fewer : IsPart floor m (versions_in (without_slot k (ended ∷ hs))) xs = part_without floor k m fm (ended ∷ hs) xs (λ e. absurd (free e), spare_unneeded n m k hs fewer.1 g.0.spare.1) part in
        let kept : IsPart floor m (versions_in (ended ∷ without_slot k hs)) xs = subst (λ b. IsPart floor m (versions_in (cond (not b) (ended ∷ without_slot k hs) (without_slot k hs))) xs) (ne_eqb h.slot k free) fewer in
        (versions_in (ended ∷ without_slot k hs), ap (λ (y : Version). y ∷ versions_in (ended ∷ without_slot k hs)) top, kept)

-- after a failure the newest alone stands
pub standing_alone : (slots floor clock : ℕ) (n m : Version → Bool) (words_at : ℕ → List ℕ) (vs : List Version) (chain : List Held) → HasNewest vs → ((v : Version) → chosen None vs ≡ Some v → IsChain clock m (record v { begin = clock } ∷ []) vs) →
    AreStanding slots floor n words_at vs chain → AreStanding slots clock m words_at vs (newest_alone clock chain)
standing_alone slots floor clock n m words_at [] [] new one s = record { chained = refl; places = tt; apart = tt; words = tt }
standing_alone slots floor clock n m words_at (v ∷ vs) [] new one s = absurd (let e = s.chained.1 in cc e)
standing_alone slots floor clock n m words_at [] (h ∷ hs) new one s = absurd (let e = s.chained in cc e)
standing_alone slots floor clock n m words_at (v ∷ vs) (h ∷ hs) new one s =
    let first : h.version ≡ floored floor v = cc s.chained.1 in
    let same : record h.version { begin = clock } ≡ record v { begin = clock } = ap (λ (x : Version). record x { begin = clock }) first in
    record {
      chained = subst (λ (x : Version). IsChain clock m (x ∷ []) (v ∷ vs)) (sym same) (one v refl);
      places = (s.places.0, tt);
      apart = (tt, tt);
      words = (λ e. s.words.0 (newest_must floor n n h hs (v ∷ vs) new s.chained), tt);
    }
