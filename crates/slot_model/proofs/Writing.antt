-- The words of a commit stand one after another in the slots of its plan.
use Rattle.std.proofs.Common.{◌≡◌, ℕ, suc, ◌+◌, ◌-◌, ◌<◌, ◌≤◌, Bool, true, false, cond, ltb, eqb, List, [], ◌∷◌, ◌++◌, get_or, set, take, length, Option, Some, None, refl, sym, ap, ◌∙◌, subst, arith, add-one, take-suc, take-suc-set, take_all, length-set, eq-eqb, eqb-true}
use Rattle.std.specs.Prelude.{◌&&◌, sum_by}
use Rattle.std.specs.List.{AllByRecursion}
use Rattle.std.proofs.lemmas.List.Sums.{sum_by-cons}
use Rattle.std.proofs.lemmas.Bool.{ltb-true, ltb-false}
use Rattle.kernel_model.specs.Sizes.{Sizes}
use Rattle.kernel_model.specs.Effects.{Write, written}
use Rattle.kernel_model.specs.Items.{FinishRecord}
use Rattle.kernel_model.specs.Replay.{DeviceState}
use Rattle.kernel_model.specs.Turns.{commit_writes}
use Rattle.kernel_model.specs.Fit.{InObjectOrder}
use Rattle.slot_model.specs.Slots.{Image, IsSized, with_word}
use Rattle.slot_model.specs.Store.{AreWritten, Target, after_write, late_writes, target}

-- all words of the objects that are written
abbrev pub all_words : Sizes → List Write → ℕ
all_words sizes [] = 0
all_words sizes (w ∷ ws) = sizes.size w.object + all_words sizes ws

pub commit_writes-all : (sizes : Sizes) (base : DeviceState) (history : List FinishRecord) (i : FinishRecord) → commit_writes sizes base history i ≡ all_words sizes i.run.writes + late_writes sizes base history i
commit_writes-all sizes base history i = ap (λ n. n + late_writes sizes base history i) (go i.run.writes)
  where
    go : (ws : List Write) → sum_by (λ (w : Write). sizes.size w.object) ws ≡ all_words sizes ws
    go [] = refl
    go (w ∷ ws) = sum_by-cons (λ (w : Write). sizes.size w.object) w ws ∙ ap (λ n. sizes.size w.object + n) (go ws)

-- what a write leaves in its place
here_after : (o k place word : ℕ) (image : Image) → with_word o k place word image o k ≡ set (image o k) place word
here_after o k place word image = rw (eq-eqb o o refl, eq-eqb k k refl) refl

-- and in others
other_after : (o k place word : ℕ) (image : Image) (p q : ℕ) → (p ≡ o → q ≡ k → ⊥) → with_word o k place word image p q ≡ image p q
other_after o k place word image p q ne = go (eqb p o) (eqb q k) refl refl
  where
    go : (a b : Bool) → eqb p o ≡ a → eqb q k ≡ b → cond (a && b) (set (image p q) place word) (image p q) ≡ image p q
    go true true e f = absurd (ne (eqb-true p o e) (eqb-true q k f))
    go true false e f = refl
    go false b e f = refl

-- a slot that is none of a commit's keeps its words
pub write_other : (sizes : Sizes) (plan : ℕ → ℕ) (image : Image) (o q made : ℕ) (ws : List Write) → AllByRecursion (λ w. w.object ≡ o → q ≡ plan w.object → ⊥) ws → after_write plan (target sizes made ws) image o q ≡ image o q
write_other sizes plan image o q made [] h = refl
write_other sizes plan image o q made (w ∷ ws) h = go (write_other sizes plan image o q (made - sizes.size w.object) ws h.1) (ltb made (sizes.size w.object))
  where
    go : after_write plan (target sizes (made - sizes.size w.object) ws) image o q ≡ image o q → (b : Bool) →
        after_write plan (cond b (Some (let t : Target = record { object = w.object; place = made; word = get_or w.words made 0 } in t)) (target sizes (made - sizes.size w.object) ws)) image o q ≡ image o q
    go rest true = other_after w.object (plan w.object) made (get_or w.words made 0) image o q (λ e f. h.0 (sym e) f)
    go rest false = rest

-- each slot keeps its length
pub write_length : (plan : ℕ → ℕ) (t : Option Target) (image : Image) (p q : ℕ) → length (after_write plan t image p q) ≡ length (image p q)
write_length plan None image p q = refl
write_length plan (Some t) image p q = go (eqb p t.object && eqb q (plan t.object))
  where
    go : (b : Bool) → length (cond b (set (image p q) t.place t.word) (image p q)) ≡ length (image p q)
    go true = length-set (image p q) t.place t.word
    go false = refl

pub write_sized : (sizes : Sizes) (plan : ℕ → ℕ) (t : Option Target) (image : Image) → IsSized sizes image → IsSized sizes (after_write plan t image)
write_sized sizes plan t image h o k l m = write_length plan t image o k ∙ h o k l m

-- nothing is written at first
pub none_written : (sizes : Sizes) (plan : ℕ → ℕ) (image : Image) (made : ℕ) (ws : List Write) → made ≡ 0 → AreWritten sizes plan image made ws
none_written sizes plan image made [] e = tt
none_written sizes plan image made (w ∷ ws) e = let z : made - sizes.size w.object ≡ 0 = omega (arith, e) in (rw e refl, none_written sizes plan image (made - sizes.size w.object) ws z)

-- the slot of the plan and the words to write are as long as the object
pub record IsLong (sizes : Sizes) (plan : ℕ → ℕ) (image : Image) (w : Write) : Type 0 where
  pub slot : length (image w.object (plan w.object)) ≡ sizes.size w.object
  pub words : length w.words ≡ sizes.size w.object

-- one word more
one_more : (xs ys : List ℕ) (n : ℕ) → n < length xs → n < length ys → take n xs ≡ take n ys → take (n + 1) (set xs n (get_or ys n 0)) ≡ take (n + 1) ys
one_more xs ys n l m e =
    let a : take (suc n) (set xs n (get_or ys n 0)) ≡ take n xs ++ get_or ys n 0 ∷ [] = take-suc-set xs n (get_or ys n 0) l in
    let b : take (suc n) ys ≡ take n ys ++ get_or ys n 0 ∷ [] = take-suc ys n 0 m in
    let z : n + 1 ≡ suc n = add-one n in
    rw z (a ∙ ap (λ (zs : List ℕ). zs ++ get_or ys n 0 ∷ []) e ∙ sym b)

all_taken : (xs ys : List ℕ) (n k : ℕ) → length xs ≤ n → length ys ≤ n → take n xs ≡ take n ys → xs ≡ ys
all_taken xs ys n k l m e = sym (take_all n xs l) ∙ e ∙ take_all n ys m

-- after a write one word more stands
pub one_written : (sizes : Sizes) (plan : ℕ → ℕ) (image : Image) (made : ℕ) (ws : List Write) → InObjectOrder ws → AllByRecursion (IsLong sizes plan image) ws → AreWritten sizes plan image made ws →
    AreWritten sizes plan (after_write plan (target sizes made ws) image) (made + 1) ws
one_written sizes plan image made [] o l h = tt
one_written sizes plan image made (w ∷ ws) o l h = go (one_written sizes plan image (made - sizes.size w.object) ws o.1 l.1 h.1) (ltb made (sizes.size w.object)) refl
  where
    apart : (vs : List Write) → AllByRecursion (λ v. w.object < v.object) vs → AllByRecursion (λ v. v.object ≡ w.object → plan w.object ≡ plan v.object → ⊥) vs
    apart [] h = tt
    apart (v ∷ vs) h = (λ e f. absurd (let l : w.object < v.object = h.0 in omega (arith, e, l)), apart vs h.1)

    go : AreWritten sizes plan (after_write plan (target sizes (made - sizes.size w.object) ws) image) ((made - sizes.size w.object) + 1) ws → (b : Bool) → ltb made (sizes.size w.object) ≡ b →
        AreWritten sizes plan (after_write plan (cond b (Some (let t : Target = record { object = w.object; place = made; word = get_or w.words made 0 } in t)) (target sizes (made - sizes.size w.object) ws)) image) (made + 1) (w ∷ ws)
    go rest true e =
        let m : made < sizes.size w.object = ltb-true made (sizes.size w.object) e in
        let z : (made + 1) - sizes.size w.object ≡ 0 = omega (arith, m) in (
          ap (take (made + 1)) (here_after w.object (plan w.object) made (get_or w.words made 0) image)
              ∙ one_more (image w.object (plan w.object)) w.words made (omega (arith, m, l.0.slot)) (omega (arith, m, l.0.words)) h.0,
          none_written sizes plan (after_write plan (Some (let t : Target = record { object = w.object; place = made; word = get_or w.words made 0 } in t)) image) ((made + 1) - sizes.size w.object) ws z,
        )
    go rest false e =
        let m : sizes.size w.object ≤ made = ltb-false made (sizes.size w.object) e in
        let z : (made + 1) - sizes.size w.object ≡ (made - sizes.size w.object) + 1 = omega (arith, m) in (
          ap (take (made + 1)) (write_other sizes plan image w.object (plan w.object) (made - sizes.size w.object) ws (apart ws o.0)
              ∙ all_taken (image w.object (plan w.object)) w.words made 0 (omega (arith, m, l.0.slot)) (omega (arith, m, l.0.words)) h.0),
          subst (λ n. AreWritten sizes plan (after_write plan (target sizes (made - sizes.size w.object) ws) image) n ws) (sym z) rest,
        )

-- once all object words are written, the slots of the plan have them
pub all_written : (sizes : Sizes) (plan : ℕ → ℕ) (image : Image) (made : ℕ) (ws : List Write) → all_words sizes ws ≤ made → AllByRecursion (IsLong sizes plan image) ws → AreWritten sizes plan image made ws →
    AllByRecursion (λ w. image w.object (plan w.object) ≡ w.words) ws
all_written sizes plan image made [] m l h = tt
all_written sizes plan image made (w ∷ ws) m l h = (
  all_taken (image w.object (plan w.object)) w.words made 0 (omega (arith, m, l.0.slot)) (omega (arith, m, l.0.words)) h.0,
  all_written sizes plan image (made - sizes.size w.object) ws (omega (arith, m)) l.1 h.1,
)

-- no object word is left
pub no_target : (sizes : Sizes) (made : ℕ) (ws : List Write) → all_words sizes ws ≤ made → target sizes made ws ≡ None
no_target sizes made [] l = refl
no_target sizes made (w ∷ ws) l = go (no_target sizes (made - sizes.size w.object) ws (omega (arith, l))) (ltb made (sizes.size w.object)) refl
  where
    go : target sizes (made - sizes.size w.object) ws ≡ None → (b : Bool) → ltb made (sizes.size w.object) ≡ b →
        cond b (Some (let t : Target = record { object = w.object; place = made; word = get_or w.words made 0 } in t)) (target sizes (made - sizes.size w.object) ws) ≡ None
    go rest true e = absurd (let m : made < sizes.size w.object = ltb-true made (sizes.size w.object) e in omega (arith, l, m))
    go rest false e = rest

-- what holds of each write holds of the one to an object
pub write_of : (P : Write → Type 0) (ws : List Write) (o : ℕ) (words : List ℕ) → AllByRecursion P ws → written ws o ≡ Some words → (w : Write) × P w × (w.object ≡ o) × (w.words ≡ words)
write_of P [] o words h e = absurd (cc e)
write_of P (w ∷ ws) o words h e = go (write_of P ws o words h.1) (eqb w.object o) refl e
  where
    go : (written ws o ≡ Some words → (w : Write) × P w × (w.object ≡ o) × (w.words ≡ words)) → (b : Bool) → eqb w.object o ≡ b → cond b (Some w.words) (written ws o) ≡ Some words → (w : Write) × P w × (w.object ≡ o) × (w.words ≡ words)
    go rest true f e = (w, h.0, eqb-true w.object o f, cc e)
    go rest false f e = rest e
