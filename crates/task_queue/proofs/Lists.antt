-- Tasks and held ids as the program keeps them.
use Rattle.std.specs.List.{find}
use Rattle.std.specs.Option.{option_map, option_or}
use Rattle.std.proofs.lemmas.List.Folds.{find-append}
use Rattle.std.proofs.Common.{◌≡◌, ℕ, zero, suc, ◌+◌, ◌<◌, Option, Some, None, Bool, true, false, cond, eqb, not, List, [], ◌∷◌, ◌++◌, length, map, filter, take, refl, sym, ap, ◌∙◌, arith, get_or, append_assoc}
use Rattle.std.proofs.lemmas.List.{length-map, length-take-le, map-append, take_more}
use Rattle.kernel_model.specs.Effects.{Spawn}
use Rattle.kernel_model.specs.Replay.{TaskRec}
use Rattle.kernel_model.specs.OpenTasks.{children, others_than}
use Rattle.set_model.specs.Views.{spawn_of, task_of}
use Rattle.nv_base.specs.declared.lines.Spawn as base_spawn
use Rattle.nv_base.specs.declared.lines.TaskRec as base_task

pub map-filter : {A B : Type 0} → (f : A → B) (p : B → Bool) (xs : List A) → map f (filter (λ x. p (f x)) xs) ≡ filter p (map f xs)
map-filter f p [] = refl
map-filter {A} {B} f p (x ∷ xs) = at (p (f x)) (map-filter f p xs)
  where
    at : (b : Bool) → map f (filter (λ x. p (f x)) xs) ≡ filter p (map f xs) → map f (cond b (x ∷ filter (λ x. p (f x)) xs) (filter (λ x. p (f x)) xs)) ≡ cond b (f x ∷ filter p (map f xs)) (filter p (map f xs))
    at true e = ap (λ rest. f x ∷ rest) e
    at false e = e

pub others-map : (task : ℕ) (xs : List base_task.TaskRec) → map task_of (filter (λ t. not (eqb t.id.0 task)) xs) ≡ others_than task (map task_of xs)
others-map task xs = map-filter task_of (λ t. not (eqb t.id task)) xs

children-append : (first : ℕ) (xs ys : List Spawn) → children first (xs ++ ys) ≡ children first xs ++ children (first + length xs) ys
children-append first [] ys = ap (λ n. children n ys) (let e : first ≡ first + 0 = omega arith in e)
children-append first (x ∷ xs) ys =
    ap (λ rest. record { id = first; program = x.program; arg = x.arg } ∷ rest)
    (children-append (first + 1) xs ys ∙ ap (λ n. children (first + 1) xs ++ children n ys) (let e : first + 1 + length xs ≡ first + suc (length xs) = omega arith in e))

-- one child more behind the others
pub add_one_more : (old now new : List TaskRec) (first id i : ℕ) (spawns : List base_spawn.Spawn) (d : base_spawn.Spawn) → i < length spawns
    → now ≡ old ++ children first (map spawn_of (take i spawns)) → id ≡ first + i
    → (let s = get_or spawns i d in new ≡ now ++ record { id = id; program = s.program.0; arg = s.arg } ∷ [])
    → new ≡ old ++ children first (map spawn_of (take (i + 1) spawns))
add_one_more old now new first id i spawns d l queue same pushed =
    let s = get_or spawns i d in
    let before : List Spawn = map spawn_of (take i spawns) in
    let made : ℕ → List TaskRec = λ n. record { id = n; program = s.program.0; arg = s.arg } ∷ [] in
    let count : length before ≡ i = length-map (take i spawns) spawn_of ∙ length-take-le i spawns (omega (arith, l)) in
    let place : id ≡ first + length before = omega (arith, count, same) in
    let more : map spawn_of (take (i + 1) spawns) ≡ before ++ spawn_of s ∷ [] = ap (map spawn_of) (take_more spawns i d l) ∙ map-append spawn_of (take i spawns) (s ∷ []) in
    pushed ∙ ap (λ q. q ++ made id) queue ∙ append_assoc old (children first before) (made id) ∙ ap (λ n. old ++ (children first before ++ made n)) place
    ∙ ap (λ rest. old ++ rest) (sym (children-append first before (spawn_of s ∷ []))) ∙ ap (λ xs. old ++ children first xs) (sym more)

pub find-map : {A B : Type 0} → (f : A → B) (p : B → Bool) (xs : List A) → option_map f (find (λ x. p (f x)) xs) ≡ find p (map f xs)
find-map f p [] = refl
find-map {A} {B} f p (x ∷ xs) = at (p (f x)) (find-map f p xs)
  where
    at : (b : Bool) → option_map f (find (λ x. p (f x)) xs) ≡ find p (map f xs) → option_map f (cond b (Some x) (find (λ x. p (f x)) xs)) ≡ cond b (Some (f x)) (find p (map f xs))
    at true e = refl
    at false e = e

-- the first element that passes a test is found
pub first_found : {A : Type 0} → (p : A → Bool) (xs : List A) (i : ℕ) (d : A) → i < length xs → find p (take i xs) ≡ None → p (get_or xs i d) ≡ true → find p xs ≡ Some (get_or xs i d)
first_found p [] i d l e f = absurd (omega (arith, l))
first_found p (x ∷ xs) zero d l e f = ap (λ b. cond b (Some x) (find p xs)) f
first_found {A} p (x ∷ xs) (suc i) d l e f = go (first_found p xs i d (omega (arith, l))) (p x) e
  where
    go : (find p (take i xs) ≡ None → p (get_or xs i d) ≡ true → find p xs ≡ Some (get_or xs i d)) → (b : Bool) → cond b (Some x) (find p (take i xs)) ≡ None → cond b (Some x) (find p xs) ≡ Some (get_or xs i d)
    go rest true k = absurd (cc k)
    go rest false k = rest k f

-- and none is, as long as none passes
pub none_found : {A : Type 0} → (p : A → Bool) (xs : List A) (i : ℕ) (d : A) → i < length xs → find p (take i xs) ≡ None → p (get_or xs i d) ≡ false → find p (take (i + 1) xs) ≡ None
none_found p xs i d l e f =
    ap (find p) (take_more xs i d l) ∙ find-append p (take i xs) (get_or xs i d ∷ []) ∙ ap (λ o. option_or o (find p (get_or xs i d ∷ []))) e
    ∙ ap (λ b. cond b (Some (get_or xs i d)) None) f
