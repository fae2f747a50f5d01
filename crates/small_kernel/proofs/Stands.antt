-- Versions that stand in a table, and that still do when an object has changed.
use Rattle.std.proofs.Common.{◌≡◌, ℕ, ◌<◌, Bool, true, false, cond, eqb, not, ◌&&◌, ◌||◌, IsSome, filter, map, List, [], ◌∷◌, length, set, get_or, Option, Some, None, refl, sym, ap, ◌∙◌, subst, eqb-true, get_or-set_same, get_or-set_other}
use Rattle.std.proofs.lemmas.Bool.{eqb-false}
use Rattle.std.specs.Prelude.{slice_index}
use Rattle.std.specs.List.{AllByRecursion, list_any}
use Rattle.kernel_model.specs.Effects.{Spawn}
use Rattle.kernel_model.specs.Replay.{task_under}
use Rattle.kernel_model.specs.Room.{is_below}
use Rattle.nv_base.specs.declared.ids.Point.{Point}
use Rattle.nv_base.specs.declared.lines.TaskRec as base
use Rattle.set_model.specs.Views.{task_of}
use Rattle.ver_table.specs.Chains.{AreOpened, newest_before, one_version, Chain, Place, chain_at, in_slot, installed, newest_ended, without}
use Rattle.interval.specs.declared.version.Version.{Version}
use Rattle.validate.specs.Reading.{IsVersionAt}

eqb_same : (n : ℕ) → eqb n n ≡ true
eqb_same n = at (eqb n n) refl
  where
    at : (b : Bool) → eqb n n ≡ b → b ≡ true
    at true e = refl
    at false e = absurd (eqb-false n n e refl)

-- a slot has a version that begins so
abbrev pub Begun : ℕ → ℕ → List Place → Type 0
Begun k b vs = (p : Place) × (k ≡ p.slot) × (b ≡ p.begin) × (in_slot k vs ≡ Some p)

-- it begins so when it has ended
ended_begun : (p k b : ℕ) (vs : List Place) → Begun k b vs → Begun k b (newest_ended p vs)
ended_begun p k b [] h = h
ended_begun p k b (v ∷ vs) h = at (eqb v.slot k) refl h.3
  where
    at : (c : Bool) → eqb v.slot k ≡ c → cond c (Some v) (in_slot k vs) ≡ Some h.0 → Begun k b (newest_ended p (v ∷ vs))
    at true f e = let same : v ≡ h.0 = cc e in (record v { end = Some p }, h.1 ∙ ap (λ (x : Place). x.slot) (sym same), h.2 ∙ ap (λ (x : Place). x.begin) (sym same), rw f refl)
    at false f e = (h.0, h.1, h.2, rw f e)

-- it stays when another slot is cleared
others_begun : (q k b : ℕ) (vs : List Place) → (k ≡ q → ⊥) → Begun k b vs → Begun k b (without q vs)
others_begun q k b vs n h = (h.0, h.1, h.2, same vs ∙ h.3)
  where
    same : (vs : List Place) → in_slot k (without q vs) ≡ in_slot k vs
    same [] = refl
    same (v ∷ vs) = at (eqb v.slot q) (eqb v.slot k) refl refl (same vs)
      where
        at : (c d : Bool) → eqb v.slot q ≡ c → eqb v.slot k ≡ d → in_slot k (without q vs) ≡ in_slot k vs → in_slot k (cond (not c) (v ∷ without q vs) (without q vs)) ≡ cond d (Some v) (in_slot k vs)
        at true true f g e = absurd (n (sym (eqb-true v.slot k g) ∙ eqb-true v.slot q f))
        at true false f g e = e
        at false true f g e = rw g refl
        at false false f g e = rw g e

-- so it stays when a version comes into another slot
pub installed_begun : (q p k b : ℕ) (c : Chain) → (k ≡ q → ⊥) → Begun k b c.stored → Begun k b (installed q p c).stored
installed_begun q p k b c n h = at (eqb q k) refl (ended_begun p k b (without q c.stored) (others_begun q k b c.stored n h))
  where
    at : (d : Bool) → eqb q k ≡ d → Begun k b (newest_ended p (without q c.stored)) → Begun k b (installed q p c).stored
    at true f r = absurd (n (sym (eqb-true q k f)))
    at false f r = (r.0, r.1, r.2, rw f r.3)

abbrev pub Stands : List Chain → Version → Type 0
Stands chains v = (p : Place) × IsVersionAt chains v p

begun_of : (chains : List Chain) (v : Version) → Stands chains v → Begun v.slot v.begin.0 (chain_at chains v.object.0).stored
begun_of chains v h = (h.0, h.1.slot, h.1.begin, h.1.stands)

of_begun : (chains : List Chain) (v : Version) → Begun v.slot v.begin.0 (chain_at chains v.object.0).stored → Stands chains v
of_begun chains v h = (h.0, record { slot = h.1; begin = h.2; stands = h.3 })

-- a version stands when an object has changed, if it stands in that object as it is then
pub stands_after : (chains : List Chain) (o : ℕ) (c : Chain) (v : Version) → o < length chains → (v.object.0 ≡ o → Begun v.slot v.begin.0 c.stored) → Stands chains v → Stands (set chains o c) v
stands_after chains o c v l here h = at (eqb v.object.0 o) refl
  where
    none : Chain
    none = record { slots = 0; bound = 0; stored = [] }

    at : (d : Bool) → eqb v.object.0 o ≡ d → Stands (set chains o c) v
    at true f =
        let same = eqb-true v.object.0 o f in
        of_begun (set chains o c) v (subst (λ (x : Chain). Begun v.slot v.begin.0 x.stored) (sym (ap (get_or-at (set chains o c)) same ∙ get_or-set_same chains o c none l)) (here same))
      where
        get_or-at : List Chain → ℕ → Chain
        get_or-at cs j = get_or cs j none
    at false f =
        of_begun (set chains o c) v (subst (λ (x : Chain). Begun v.slot v.begin.0 x.stored) (sym (get_or-set_other chains o v.object.0 c none (eqb-false v.object.0 o f))) (begun_of chains v h))

-- the same of all that stand
pub all_after : (chains : List Chain) (o : ℕ) (c : Chain) (vs : List Version) → o < length chains → ((v : Version) → v.object.0 ≡ o → Begun v.slot v.begin.0 (chain_at chains o).stored → Begun v.slot v.begin.0 c.stored)
    → AllByRecursion (Stands chains) vs → AllByRecursion (Stands (set chains o c)) vs
all_after chains o c [] l keeps h = tt
all_after chains o c (v ∷ vs) l keeps h =
    (stands_after chains o c v l (λ e. keeps v e (subst (λ (j : ℕ). Begun v.slot v.begin.0 (chain_at chains j).stored) e (begun_of chains v h.0))) h.0, all_after chains o c vs l keeps h.1)

-- all but that in a slot stand when a version has come into this slot
pub others_stand : (chains : List Chain) (o q p : ℕ) (vs : List Version) → o < length chains → AllByRecursion (Stands chains) vs
    → AllByRecursion (Stands (set chains o (installed q p (chain_at chains o)))) (filter (λ (v : Version). not (eqb v.object.0 o && eqb v.slot q)) vs)
others_stand chains o q p [] l h = tt
others_stand chains o q p (v ∷ vs) l h = at (eqb v.object.0 o) (eqb v.slot q) refl refl (others_stand chains o q p vs l h.1)
  where
    new : List Chain
    new = set chains o (installed q p (chain_at chains o))

    rest : List Version
    rest = filter (λ (v : Version). not (eqb v.object.0 o && eqb v.slot q)) vs

    here : (v.slot ≡ q → v.object.0 ≡ o → ⊥) → Stands new v
    here n = stands_after chains o (installed q p (chain_at chains o)) v l (λ e. installed_begun q p v.slot v.begin.0 (chain_at chains o) (λ f. n f e) (subst (λ (j : ℕ). Begun v.slot v.begin.0 (chain_at chains j).stored) e (begun_of chains v h.0))) h.0

    at : (b d : Bool) → eqb v.object.0 o ≡ b → eqb v.slot q ≡ d → AllByRecursion (Stands new) rest → AllByRecursion (Stands new) (cond (not (b && d)) (v ∷ rest) rest)
    at true true e f r = r
    at true false e f r = (here (λ x y. absurd (let z = eqb_same q in cc (x, f, z))), r)
    at false d e f r = (here (λ x y. absurd (let z = eqb_same o in cc (y, e, z))), r)

-- the version that came stands
pub newest_stands : (chains : List Chain) (o q p : ℕ) (v : Version) → o < length chains → v.object.0 ≡ o → v.slot ≡ q → v.begin.0 ≡ p → Stands (set chains o (installed q p (chain_at chains o))) v
newest_stands chains o q p v l e f g =
    of_begun new v (subst (λ (j : ℕ). Begun v.slot v.begin.0 (chain_at new j).stored) (sym e) (subst (λ (c : Chain). Begun v.slot v.begin.0 c.stored) (sym (get_or-set_same chains o (installed q p (chain_at chains o)) (record { slots = 0; bound = 0; stored = [] }) l))
    (record { slot = q; begin = p; end = None }, f, g, rw f (rw (eqb_same q) refl))))
  where
    new : List Chain
    new = set chains o (installed q p (chain_at chains o))

-- what a table begins with stands
pub first_begun : (sizes : List ℕ) (p : ℕ) (chains : List Chain) → AreOpened sizes (0 ∷ 0 ∷ 0 ∷ []) p chains → (o : ℕ) → o < length sizes → slice_index (0 ∷ 0 ∷ 0 ∷ []) o ≡ 0 → Begun 0 p (chain_at chains o).stored
first_begun sizes p chains h o l e =
    subst (λ (c : Chain). Begun 0 p c.stored) (sym (h.each o l)) (subst (λ (k : ℕ). Begun 0 p (one_version (slice_index sizes o) k p).stored) (sym e) (record { slot = 0; begin = p; end = None }, refl, refl, refl))

pub first_stands : (sizes : List ℕ) (clock : Point) (chains : List Chain) → AreOpened sizes (0 ∷ 0 ∷ 0 ∷ []) clock.0 chains → (v : Version) (o : ℕ) → o < length sizes → slice_index (0 ∷ 0 ∷ 0 ∷ []) o ≡ 0 → v ≡ record { object = record { 0 = o }; slot = 0; begin = clock } → Stands chains v
first_stands sizes clock chains h v o l e f = subst (Stands chains) (sym f) (of_begun chains (record { object = record { 0 = o }; slot = 0; begin = clock }) (first_begun sizes clock.0 chains h o l e))

-- one that begins before an end is the newest such, or there is a newer one
pub some_before : (hi : Option ℕ) (vs : List Place) (k b : ℕ) → Begun k b vs → is_below b hi ≡ true → IsSome (newest_before hi vs)
some_before hi [] k b h e = absurd (let f = h.3 in cc f)
some_before hi (v ∷ vs) k b h e = at (λ q. some_before hi vs k b (h.0, h.1, h.2, q) e) (eqb v.slot k) (is_below v.begin hi) refl refl h.3
  where
    at : (in_slot k vs ≡ Some h.0 → IsSome (newest_before hi vs)) → (c d : Bool) → eqb v.slot k ≡ c → is_below v.begin hi ≡ d → cond c (Some v) (in_slot k vs) ≡ Some h.0 → IsSome (cond d (Some v) (newest_before hi vs))
    at rest c true f g q = refl
    at rest true false f g q = absurd (let same : v ≡ h.0 = cc q in let begin = h.2 ∙ ap (λ (x : Place). x.begin) (sym same) in let below = ap (λ (x : ℕ). is_below x hi) begin in cc (below, e, g))
    at rest false false f g q = rest q

-- what stands tells whether an object has a version before an end
pub before_is : (chains : List Chain) (o : ℕ) (hi : Option ℕ) (vs : List Version) → AllByRecursion (Stands chains) vs → list_any (λ (v : Version). eqb v.object.0 o && is_below v.begin.0 hi) vs ≡ true → IsSome (newest_before hi (chain_at chains o).stored)
before_is chains o hi [] h e = absurd (cc e)
before_is chains o hi (v ∷ vs) h e = at (before_is chains o hi vs h.1) (eqb v.object.0 o) (is_below v.begin.0 hi) refl refl e
  where
    at : (list_any (λ (v : Version). eqb v.object.0 o && is_below v.begin.0 hi) vs ≡ true → IsSome (newest_before hi (chain_at chains o).stored)) → (b d : Bool) → eqb v.object.0 o ≡ b → is_below v.begin.0 hi ≡ d → ((b && d) || list_any (λ (v : Version). eqb v.object.0 o && is_below v.begin.0 hi) vs) ≡ true → IsSome (newest_before hi (chain_at chains o).stored)
    at rest true true f g q = subst (λ (j : ℕ). IsSome (newest_before hi (chain_at chains j).stored)) (eqb-true v.object.0 o f) (some_before hi (chain_at chains v.object.0).stored v.slot v.begin.0 (begun_of chains v h.0) g)
    at rest true false f g q = rest q
    at rest false d f g q = rest q

-- a task that is told is open
pub told_is_open : (tasks : List base.TaskRec) (task : ℕ) → list_any (λ (t : base.TaskRec). eqb t.id.0 task) tasks ≡ true → task_under (map task_of tasks) task ≡ None → ⊥
told_is_open [] task e = λ f. absurd (cc e)
told_is_open (t ∷ tasks) task e = at (eqb t.id.0 task) (told_is_open tasks task) e
  where
    at : (b : Bool) → (list_any (λ (t : base.TaskRec). eqb t.id.0 task) tasks ≡ true → task_under (map task_of tasks) task ≡ None → ⊥) → (b || list_any (λ (t : base.TaskRec). eqb t.id.0 task) tasks) ≡ true
        → cond b (Some (let r : Spawn = record { program = t.program.0; arg = t.arg } in r)) (task_under (map task_of tasks) task) ≡ None → ⊥
    at true rest q = λ f. absurd (cc f)
    at false rest q = rest q
