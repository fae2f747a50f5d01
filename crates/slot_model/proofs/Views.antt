-- What the others need, by what tables keep of them.
use Rattle.std.proofs.Common.{◌≡◌, ℕ, suc, ◌+◌, ◌<◌, Bool, true, false, eqb, ◌||◌, List, [], ◌∷◌, get_or, set, Option, Some, None, refl, sym, ap, ap₂, ◌∙◌, subst, arith, add-zero}
use mathlib.Core.Path.{fun_ext}
use Rattle.std.specs.Prelude.{◌&&◌, is_none}
use Rattle.std.specs.List.{AllByRecursion}
use Rattle.std.proofs.lemmas.Bool.{eqb-true, eqb-false}
use Rattle.kernel_model.specs.Sizes.{Sizes}
use Rattle.kernel_model.specs.Items.{FinishRecord}
use Rattle.kernel_model.specs.Replay.{DeviceState}
use Rattle.kernel_model.specs.Versions.{Read, versions}
use Rattle.kernel_model.specs.Intervals.{read_interval}
use Rattle.kernel_model.specs.Cores.{Attempt, Committing, Copying, Core, Idle, Ready, Running, all_but}
use Rattle.kernel_model.specs.Room.{is_needed, is_needed_by, is_newest_read, meet}
use Rattle.kernel_model.specs.History.{IsNumbered}
use Rattle.kernel_model.proofs.ForCallers.{IsAfter, as_before, core_at, no_core, part_of_chain, turned_now}
use Rattle.slot_model.specs.Slots.{Image}
use Rattle.slot_model.specs.Kept.{Held, Kept, is_there, must_stand, versions_in}
use Rattle.slot_model.specs.Places.{free_from, free_slot, is_taken}
use Rattle.slot_model.specs.Tabled.{Place, View, free_place, is_copied_from, is_needed_at, is_taken_at, meets_at, pin_of, place_of, places_of, view_of, views_of, with_view}
use Rattle.slot_model.specs.Standing.{AreStanding, IsPinned, IsServed, Stands}
use Rattle.slot_model.proofs.Turning.{idle_needs}
use Rattle.slot_model.proofs.Uniques.{AreUnique, part_unique, slot_tells, versions_fall}

-- where a core copies this object, its slot tells its writer
abbrev pub Tells : {M : Type 0} → ℕ → (pins : ℕ → ℕ) → ℕ → Core M → Held → Type 0
Tells {M} o pins k c h = (a : Attempt M) (copied : ℕ) (r : Read) (reads : List Read) → c ≡ Copying a copied → a.reads ≡ r ∷ reads → r.object ≡ o → eqb (pins k) h.slot ≡ eqb r.writer h.version.writer

-- whether one of the attempts needs a place
abbrev pub needs_at : ℕ → Option View → Place → Bool
needs_at o None p = false
needs_at o (Some v) p = is_copied_from o p v.copying || meets_at p v.interval

needed_with : (o : ℕ) (v : Option View) (views : List View) (p : Place) → is_needed_at o (with_view v views) p ≡ (needs_at o v p || is_needed_at o views p)
needed_with o None views p = refl
needed_with o (Some v) views p = refl

-- one core
needed_by_view : {M : Type 0} → (base : DeviceState) (history : List FinishRecord) (o : ℕ) (pins : ℕ → ℕ) (k : ℕ) (c : Core M) (h : Held) → Tells o pins k c h → is_needed_by base history o h.version c ≡ needs_at o (view_of base history (pins k) c) (place_of h)
needed_by_view base history o pins k Idle h t = refl
needed_by_view base history o pins k (Running a) h t = refl
needed_by_view {M} base history o pins k (Copying a copied) h t = ap (λ b. b || meet h.version (read_interval base history a.start a.reads)) (go a.reads refl)
  where
    go : (reads : List Read) → a.reads ≡ reads → is_newest_read o h.version reads ≡ is_copied_from o (place_of h) (pin_of (pins k) reads)
    go [] e = refl
    go (r ∷ reads) e = by (eqb r.object o) refl
      where
        by : (b : Bool) → eqb r.object o ≡ b → (b && eqb r.writer h.version.writer) ≡ (b && eqb (pins k) h.slot)
        by true f = sym (t a copied r reads refl e (eqb-true r.object o f))
        by false f = refl
needed_by_view base history o pins k (Ready a outcome) h t = refl
needed_by_view base history o pins k (Committing i left) h t = refl

-- all cores
needed_by_views : {M : Type 0} → (base : DeviceState) (history : List FinishRecord) (o : ℕ) (pins : ℕ → ℕ) (k : ℕ) (cores : List (Core M)) (h : Held) → ((j : ℕ) → Tells o pins (k + j) (get_or cores j Idle) h) → is_needed base history o cores h.version ≡ is_needed_at o (views_of base history pins k cores) (place_of h)
needed_by_views base history o pins k [] h t = refl
needed_by_views {M} base history o pins k (c ∷ cores) h t =
    let z : k + 0 ≡ k = add-zero k in
    ap₂ (λ (x y : Bool). x || y) (needed_by_view base history o pins k c h (subst (λ m. Tells o pins m c h) z (t 0)))
    (needed_by_views base history o pins (suc k) cores h (λ j. let e : k + suc j ≡ suc k + j = omega arith in subst (λ m. Tells o pins m (get_or cores j Idle) h) e (t (suc j))))
    ∙ sym (needed_with o (view_of base history (pins k) c) (views_of base history pins (suc k) cores) (place_of h))

-- what holds of each for each number
all_numbers : (P : ℕ → Held → Type 0) (hs : List Held) → ((j : ℕ) → AllByRecursion (P j) hs) → AllByRecursion (λ h. (j : ℕ) → P j h) hs
all_numbers P [] f = tt
all_numbers P (h ∷ hs) f = ((λ j. (f j).0), all_numbers P hs (λ j. (f j).1))

-- of each version that is held
pub others_needed_at : {M : Type 0} → (sizes : Sizes) (base : DeviceState) (floor : ℕ) (history : List FinishRecord) (cores : List (Core M)) (kept : Kept) (image : Image) → IsNumbered base history → Stands sizes base floor history cores kept image → (n o : ℕ) → o < sizes.objects →
    AllByRecursion (λ h. is_needed base history o (all_but n cores) h.version ≡ is_needed_at o (views_of base history kept.pins 0 (set cores n Idle)) (place_of h)) (kept.chains o)
others_needed_at {M} sizes base floor history cores kept image num s n o l = go (kept.chains o) (all_numbers (λ j h. Tells o kept.pins (0 + j) (get_or (set cores n Idle) j Idle) h) (kept.chains o) tells)
  where
    stand : AreStanding (sizes.slots o) floor (is_needed base history o cores) (image o) (versions base o history) (kept.chains o)
    stand = s.objects o l

    unique : AreUnique (kept.chains o)
    unique = part_unique floor (is_needed base history o cores) (versions base o history) (versions_fall None base o history num) (kept.chains o) (part_of_chain floor (is_needed base history o cores) (versions_in (kept.chains o)) (versions base o history) stand.chained)

    none : (j : ℕ) (hs : List Held) (c : Core M) → c ≡ Idle → AllByRecursion (Tells o kept.pins j c) hs
    none j [] c e = tt
    none j (h ∷ hs) c e = ((λ a copied r reads f g x. absurd (cc (e, f))), none j hs c e)

    of_core : (j : ℕ) (c : Core M) → IsServed sizes base history cores kept image j c → AllByRecursion (Tells o kept.pins j c) (kept.chains o)
    of_core j c served = by c served
      where
        other : (c : Core M) → ((a : Attempt M) (copied : ℕ) → c ≡ Copying a copied → ⊥) → (hs : List Held) → AllByRecursion (Tells o kept.pins j c) hs
        other c ne [] = tt
        other c ne (h ∷ hs) = ((λ a copied r reads f g x. absurd (ne a copied f)), other c ne hs)

        copies : (a : Attempt M) (copied : ℕ) (rs : List Read) → a.reads ≡ rs → IsPinned kept.chains (kept.pins j) rs → AllByRecursion (Tells o kept.pins j (Copying a copied)) (kept.chains o)
        copies a copied [] e p = all (kept.chains o)
          where
            all : (hs : List Held) → AllByRecursion (Tells o kept.pins j (Copying a copied)) hs
            all [] = tt
            all (h ∷ hs) = ((λ b m r reads f g x. absurd (let same : a ≡ b = cc f in let z : [] ≡ r ∷ reads = sym e ∙ ap (λ (y : Attempt M). y.reads) same ∙ g in cc z)), all hs)
        copies a copied (q ∷ qs) e p = cases (eqb q.object o) refl
          where
            first : (b : Attempt M) (m : ℕ) (r : Read) (reads : List Read) → Copying a copied ≡ Copying b m → b.reads ≡ r ∷ reads → q ≡ r
            first b m r reads f g = let same : a ≡ b = cc f in let z : q ∷ qs ≡ r ∷ reads = sym e ∙ ap (λ (y : Attempt M). y.reads) same ∙ g in cc z

            cases : (t : Bool) → eqb q.object o ≡ t → AllByRecursion (Tells o kept.pins j (Copying a copied)) (kept.chains o)
            cases true f = each (kept.chains o) (slot_tells (kept.pins j) q.writer (kept.chains o) stand.apart unique (subst (λ x. is_there (kept.pins j) q.writer (kept.chains x) ≡ true) (eqb-true q.object o f) p))
              where
                each : (hs : List Held) → AllByRecursion (λ h. eqb (kept.pins j) h.slot ≡ eqb q.writer h.version.writer) hs → AllByRecursion (Tells o kept.pins j (Copying a copied)) hs
                each [] k = tt
                each (h ∷ hs) k = ((λ b m r reads x y z. k.0 ∙ ap (λ (u : Read). eqb u.writer h.version.writer) (first b m r reads x y)), each hs k.1)
            cases false f = each (kept.chains o)
              where
                each : (hs : List Held) → AllByRecursion (Tells o kept.pins j (Copying a copied)) hs
                each [] = tt
                each (h ∷ hs) = ((λ b m r reads x y z. absurd (eqb-false q.object o f (ap (λ (u : Read). u.object) (first b m r reads x y) ∙ z))), each hs)

        by : (c : Core M) → IsServed sizes base history cores kept image j c → AllByRecursion (Tells o kept.pins j c) (kept.chains o)
        by Idle served = other Idle (λ a copied f. cc f) (kept.chains o)
        by (Running a) served = other (Running a) (λ b copied f. cc f) (kept.chains o)
        by (Copying a copied) served = copies a copied a.reads refl served
        by (Ready a outcome) served = other (Ready a outcome) (λ b copied f. cc f) (kept.chains o)
        by (Committing i left) served = other (Committing i left) (λ b copied f. cc f) (kept.chains o)

    tells : (j : ℕ) → AllByRecursion (Tells o kept.pins (0 + j) (get_or (set cores n Idle) j Idle)) (kept.chains o)
    tells j = let z : 0 + j ≡ j = omega arith in subst (λ m. AllByRecursion (Tells o kept.pins m (get_or (set cores n Idle) j Idle)) (kept.chains o)) (sym z) (at (get_or (set cores n Idle) j Idle) (core_at cores n Idle j))
      where
        at : (x : Core M) → IsAfter cores n Idle j x → AllByRecursion (Tells o kept.pins j x) (kept.chains o)
        at x (turned_now e f) = none j (kept.chains o) x f
        at x (as_before ne f) = rw f (of_core j (get_or cores j Idle) (s.served j))
        at x (no_core f) = none j (kept.chains o) x f

    go : (hs : List Held) → AllByRecursion (λ h. (j : ℕ) → Tells o kept.pins (0 + j) (get_or (set cores n Idle) j Idle) h) hs →
        AllByRecursion (λ h. is_needed base history o (all_but n cores) h.version ≡ is_needed_at o (views_of base history kept.pins 0 (set cores n Idle)) (place_of h)) hs
    go [] t = tt
    go (h ∷ hs) t = (sym (idle_needs base history o h.version cores n Idle refl) ∙ needed_by_views base history o kept.pins 0 (set cores n Idle) h t.0, go hs t.1)

-- the least free slot, by tables alone
pub free_at : {M : Type 0} → (sizes : Sizes) (base : DeviceState) (floor : ℕ) (history : List FinishRecord) (cores : List (Core M)) (kept : Kept) (image : Image) → IsNumbered base history → Stands sizes base floor history cores kept image → (n o : ℕ) → o < sizes.objects →
    free_place (sizes.slots o) o (views_of base history kept.pins 0 (set cores n Idle)) (places_of (kept.chains o)) ≡ free_slot sizes base history (all_but n cores) kept o
free_at {M} sizes base floor history cores kept image num s n o l = ap (free_from 0 (sizes.slots o)) (fun_ext (λ k. go k (kept.chains o) (others_needed_at sizes base floor history cores kept image num s n o l)))
  where
    views : List View
    views = views_of base history kept.pins 0 (set cores n Idle)

    go : (k : ℕ) (hs : List Held) → AllByRecursion (λ h. is_needed base history o (all_but n cores) h.version ≡ is_needed_at o views (place_of h)) hs → is_taken_at o views (places_of hs) k ≡ is_taken (must_stand (is_needed base history o (all_but n cores))) hs k
    go k [] t = refl
    go k (h ∷ hs) t = ap₂ (λ (x y : Bool). x || y) (ap (λ b. eqb h.slot k && (is_none h.version.end || b)) (sym t.0)) (go k hs t.1)
