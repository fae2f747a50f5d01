-- The open tasks of a replay as a map: what is open under each id, and in which order.
use Rattle.std.proofs.Common.{Less, ◌≡◌, ℕ, zero, suc, ◌+◌, ◌-◌, ◌<◌, ◌≤◌, ⊎_elim, Bool, true, false, cond, leb, eqb, List, [], ◌∷◌, ◌++◌, length, map, take, get_or, slice_get, Option, Some, None, refl, sym, ap, ◌∙◌, arith}
use Rattle.std.specs.Prelude.{◌&&◌}
use Rattle.std.specs.List.{AllByRecursion}
use Rattle.std.specs.List.Sorted.{IsStrictlySortedBy}
use Rattle.std.specs.Map.{keys_of, lookup}
use Rattle.std.specs.Option.{option_map, option_or}
use Rattle.std.specs.Ordering.{nat_cmp}
use Rattle.std.specs.BTreeMap.{is_at}
use Rattle.std.proofs.lemmas.Bool.{cases_eq, cases_order, eq-eqb, ne_eqb, le-leb, leb-true, leb-false, lt-leb}
use Rattle.std.proofs.lemmas.Bool.Decides.{nat_tests}
use Rattle.std.proofs.lemmas.List.{length-map, length-take-le, map-append, take_more}
use Rattle.std.proofs.lemmas.Map.Keys.{sorted_head, sorted_tail}
use Rattle.kernel_model.specs.Effects.{Spawn}
use Rattle.kernel_model.specs.Replay.{TaskRec, Tasks, child, max_id, task_under, with_children}
use Rattle.kernel_model.specs.Serial.{InIdOrder}
use Rattle.kernel_model.specs.OpenTasks.{children}
use Rattle.nv_base.specs.declared.lines.Spawn as base
use Rattle.set_model.specs.Views.{spawn_of}
use Rattle.task_model.specs.Tables.{listed}

-- the map and its list have the same under each id
pub at_key : (q k : ℕ) → is_at (nat_cmp q) k ≡ eqb k q
at_key q k = grind (arith, nat_tests)

pub under_listed : (es : List (ℕ × base.Spawn)) (q : ℕ) → task_under (map listed es) q ≡ option_map spawn_of (lookup (is_at (nat_cmp q)) es)
under_listed [] q = refl
under_listed (e ∷ es) q = rw (at_key q e.0, under_listed es q) (go (eqb e.0 q))
  where
    go : (b : Bool) → cond b (Some (spawn_of e.1)) (option_map spawn_of (lookup (is_at (nat_cmp q)) es)) ≡ option_map spawn_of (cond b (Some e.1) (lookup (is_at (nat_cmp q)) es))
    go true = refl
    go false = refl

less : (k j : ℕ) → nat_cmp k j ≡ Less → k < j
less k j h = grind (arith, nat_tests)

later : (k : ℕ) (es : List (ℕ × base.Spawn)) → AllByRecursion (λ j. nat_cmp k j ≡ Less) (keys_of es) → AllByRecursion (λ (t : TaskRec). k < t.id) (map listed es)
later k [] h = tt
later k (e ∷ es) h = (less k e.0 h.0, later k es h.1)

pub listed_order : (es : List (ℕ × base.Spawn)) → IsStrictlySortedBy nat_cmp (keys_of es) → InIdOrder (map listed es)
listed_order [] h = tt
listed_order (e ∷ es) h = (later e.0 es (sorted_head nat_cmp e.0 (keys_of es) h), listed_order es (sorted_tail nat_cmp e.0 (keys_of es) h))

-- children
same_test : (a b c d : ℕ) → (a ≡ b → c ≡ d) → (c ≡ d → a ≡ b) → eqb a b ≡ eqb c d
same_test a b c d f g = ⊎_elim (λ e. eq-eqb a b e ∙ sym (eq-eqb c d (f e))) (λ ne. ne_eqb a b ne ∙ sym (ne_eqb c d (λ e. ne (g e)))) (cases_eq a b)

slice_get_more : (xs : List Spawn) (x : Spawn) (k : ℕ) → slice_get (xs ++ x ∷ []) k ≡ option_or (slice_get xs k) (cond (eqb (length xs) k) (Some x) None)
slice_get_more [] x zero = refl
slice_get_more [] x (suc k) = rw (ne_eqb 0 (suc k) (λ e. omega (arith, e))) refl
slice_get_more (y ∷ xs) x zero = refl
slice_get_more (y ∷ xs) x (suc k) = rw (same_test (suc (length xs)) (suc k) (length xs) k (λ e. omega (arith, e)) (λ e. omega (arith, e))) (slice_get_more xs x k)

pub or-assoc : (o p r : Option Spawn) → option_or (option_or o p) r ≡ option_or o (option_or p r)
or-assoc None p r = refl
or-assoc (Some x) p r = refl

child_more : (first : ℕ) (spawns : List Spawn) (x : Spawn) (q : ℕ) → first + length spawns ≤ max_id → child first (spawns ++ x ∷ []) q ≡ option_or (child first spawns q) (cond (eqb (first + length spawns) q) (Some x) None)
child_more first spawns x q l = go (leb first q) refl (leb q max_id) refl
  where
    go : (b : Bool) → leb first q ≡ b → (c : Bool) → leb q max_id ≡ c → cond (b && c) (slice_get (spawns ++ x ∷ []) (q - first)) None ≡ option_or (cond (b && c) (slice_get spawns (q - first)) None) (cond (eqb (first + length spawns) q) (Some x) None)
    go true e true f =
        let m : first ≤ q = leb-true first q e in
        rw (same_test (first + length spawns) q (length spawns) (q - first) (λ g. omega (arith, g, m)) (λ g. omega (arith, g, m))) (slice_get_more spawns x (q - first))
    go true e false f = let m = leb-false q max_id f in rw (ne_eqb (first + length spawns) q (λ g. omega (arith, g, m, l))) refl
    go false e c f = let m = leb-false first q e in rw (ne_eqb (first + length spawns) q (λ g. omega (arith, g, m))) refl

-- one more joins
pub joined_more : (first : ℕ) (spawns : List Spawn) (x : Spawn) (t : Tasks) (q : ℕ) → first + length spawns ≤ max_id → option_or (with_children first spawns t q) (cond (eqb (first + length spawns) q) (Some x) None) ≡ with_children first (spawns ++ x ∷ []) t q
joined_more first spawns x t q l = or-assoc (t q) (child first spawns q) _ ∙ ap (option_or (t q)) (sym (child_more first spawns x q l))

pub joined_at : (first id i : ℕ) (spawns : List base.Spawn) (d : base.Spawn) (t now : Tasks) (q : ℕ) → i < length spawns → id ≡ first + i → id ≤ max_id → now q ≡ with_children first (map spawn_of (take i spawns)) t q
    → option_or (now q) (cond (eqb id q) (Some (spawn_of (get_or spawns i d))) None) ≡ with_children first (map spawn_of (take (i + 1) spawns)) t q
joined_at first id i spawns d t now q l same fits h =
    let s : Spawn = spawn_of (get_or spawns i d) in
    let before : List Spawn = map spawn_of (take i spawns) in
    let count : length before ≡ i = length-map (take i spawns) spawn_of ∙ length-take-le i spawns (omega (arith, l)) in
    let place : id ≡ first + length before = omega (arith, count, same) in
    let more : map spawn_of (take (i + 1) spawns) ≡ before ++ s ∷ [] = ap (map spawn_of) (take_more spawns i d l) ∙ map-append spawn_of (take i spawns) (get_or spawns i d ∷ []) in
    ap (λ (o : Option Spawn). option_or o (cond (eqb id q) (Some s) None)) h
    ∙ ap (λ n. option_or (with_children first before t q) (cond (eqb n q) (Some s) None)) place
    ∙ joined_more first before s t q (omega (arith, place, fits))
    ∙ ap (λ xs. with_children first xs t q) (sym more)

-- what is left has no ids
slice_get_front : (i k : ℕ) (xs : List base.Spawn) → k < i → slice_get (map spawn_of (take i xs)) k ≡ slice_get (map spawn_of xs) k
slice_get_front zero k xs l = absurd (omega (arith, l))
slice_get_front (suc i) k [] l = refl
slice_get_front (suc i) zero (x ∷ xs) l = refl
slice_get_front (suc i) (suc k) (x ∷ xs) l = slice_get_front i k xs (omega (arith, l))

child_front : (first i : ℕ) (spawns : List base.Spawn) (q : ℕ) → max_id < first + i → child first (map spawn_of (take i spawns)) q ≡ child first (map spawn_of spawns) q
child_front first i spawns q l = go (leb first q) refl (leb q max_id) refl
  where
    go : (b : Bool) → leb first q ≡ b → (c : Bool) → leb q max_id ≡ c → cond (b && c) (slice_get (map spawn_of (take i spawns)) (q - first)) None ≡ cond (b && c) (slice_get (map spawn_of spawns) (q - first)) None
    go true e true f =
        let m : first ≤ q = leb-true first q e in
        let n : q ≤ max_id = leb-true q max_id f in
        slice_get_front i (q - first) spawns (omega (arith, m, n, l))
    go true e false f = refl
    go false e c f = refl

pub joined_all : (first i : ℕ) (spawns : List base.Spawn) (t : Tasks) (q : ℕ) → max_id < first + i → with_children first (map spawn_of (take i spawns)) t q ≡ with_children first (map spawn_of spawns) t q
joined_all first i spawns t q l = ap (option_or (t q)) (child_front first i spawns q l)

-- the first tasks
pub child_listed : (first : ℕ) (spawns : List Spawn) (id : ℕ) → first + length spawns ≤ max_id → child first spawns id ≡ task_under (children first spawns) id
child_listed first [] id h = elim (leb first id && leb id max_id) as (λ b. let none : Option Spawn = None in cond b none none ≡ none) [ true ↦ refl | false ↦ refl ]
child_listed first (s ∷ spawns) id h = rw (← child_listed (first + 1) spawns id (omega arith)) (⊎_elim equal (⊎_elim below above) (cases_order first id))
  where
    equal : first ≡ id → child first (s ∷ spawns) id ≡ cond (eqb first id) (Some s) (child (first + 1) spawns id)
    equal e = let z : id - first ≡ 0 = omega arith in rw (eq-eqb first id e, le-leb first id (omega arith), le-leb id max_id (omega arith), z) refl

    below : first < id → child first (s ∷ spawns) id ≡ cond (eqb first id) (Some s) (child (first + 1) spawns id)
    below l = let z : id - first ≡ suc (id - (first + 1)) = omega arith in rw (ne_eqb first id (λ e. omega arith), le-leb first id (omega arith), le-leb (first + 1) id (omega arith), z) refl

    above : id < first → child first (s ∷ spawns) id ≡ cond (eqb first id) (Some s) (child (first + 1) spawns id)
    above l = rw (ne_eqb first id (λ e. omega arith), lt-leb first id l, lt-leb (first + 1) id (omega arith)) refl

pub first_listed : (es : List (ℕ × base.Spawn)) (tasks : List Spawn) → es ≡ [] → 1 + length tasks ≤ max_id → (id : ℕ) → option_or (option_map spawn_of (lookup (is_at (nat_cmp id)) es)) (child 1 tasks id) ≡ task_under (children 1 tasks) id
first_listed es tasks e l id = ap (λ (xs : List (ℕ × base.Spawn)). option_or (option_map spawn_of (lookup (is_at (nat_cmp id)) xs)) (child 1 tasks id)) e ∙ child_listed 1 tasks id l
