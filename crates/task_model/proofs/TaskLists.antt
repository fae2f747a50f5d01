-- Open tasks as the program's list has them.
use Rattle.std.proofs.Common.{◌≡◌, ℕ, suc, ◌+◌, ◌<◌, Bool, true, false, cond, eqb, not, List, [], ◌∷◌, ◌++◌, length, map, filter, take, refl, sym, ap, ◌∙◌, arith, get_or, append_assoc}
use Rattle.std.proofs.lemmas.List.{length-map, length-take-le, map-append, take_more}
use Rattle.kernel_model.specs.Effects.{Spawn}
use Rattle.kernel_model.specs.Replay.{TaskRec}
use Rattle.kernel_model.specs.OpenTasks.{children, others_than}
use Rattle.set_model.specs.Views.{spawn_of, task_of}
use Rattle.nv_base.specs.declared.lines.Spawn as base_spawn
use Rattle.nv_base.specs.declared.lines.TaskRec as base_task

pub others_listed : (task : ℕ) (xs : List base_task.TaskRec) → map task_of (filter (λ t. not (eqb t.id.0 task)) xs) ≡ others_than task (map task_of xs)
others_listed task [] = refl
others_listed task (x ∷ xs) = at (eqb x.id.0 task) (others_listed task xs)
  where
    left : List base_task.TaskRec
    left = filter (λ t. not (eqb t.id.0 task)) xs

    at : (b : Bool) → map task_of left ≡ others_than task (map task_of xs) → map task_of (cond (not b) (x ∷ left) left) ≡ cond (not b) (task_of x ∷ others_than task (map task_of xs)) (others_than task (map task_of xs))
    at true e = e
    at false e = ap (λ rest. task_of x ∷ rest) e

children-append : (first : ℕ) (xs ys : List Spawn) → children first (xs ++ ys) ≡ children first xs ++ children (first + length xs) ys
children-append first [] ys = ap (λ n. children n ys) (let e : first ≡ first + 0 = omega arith in e)
children-append first (x ∷ xs) ys =
    ap (λ rest. record { id = first; program = x.program; arg = x.arg } ∷ rest)
    (children-append (first + 1) xs ys ∙ ap (λ n. children (first + 1) xs ++ children n ys) (let e : first + 1 + length xs ≡ first + suc (length xs) = omega arith in e))

-- one child more behind the others
pub child_added : (old now new : List TaskRec) (first id i : ℕ) (spawns : List base_spawn.Spawn) (d : base_spawn.Spawn) → i < length spawns
    → now ≡ old ++ children first (map spawn_of (take i spawns)) → id ≡ first + i
    → (let s = get_or spawns i d in new ≡ now ++ record { id = id; program = s.program.0; arg = s.arg } ∷ [])
    → new ≡ old ++ children first (map spawn_of (take (i + 1) spawns))
child_added old now new first id i spawns d l tasks same pushed =
    let s = get_or spawns i d in
    let before : List Spawn = map spawn_of (take i spawns) in
    let made : ℕ → List TaskRec = λ n. record { id = n; program = s.program.0; arg = s.arg } ∷ [] in
    let count : length before ≡ i = length-map (take i spawns) spawn_of ∙ length-take-le i spawns (omega (arith, l)) in
    let place : id ≡ first + length before = omega (arith, count, same) in
    let more : map spawn_of (take (i + 1) spawns) ≡ before ++ spawn_of s ∷ [] = ap (map spawn_of) (take_more spawns i d l) ∙ map-append spawn_of (take i spawns) (s ∷ []) in
    pushed ∙ ap (λ q. q ++ made id) tasks ∙ append_assoc old (children first before) (made id) ∙ ap (λ n. old ++ (children first before ++ made n)) place
    ∙ ap (λ rest. old ++ rest) (sym (children-append first before (spawn_of s ∷ []))) ∙ ap (λ xs. old ++ children first xs) (sym more)
