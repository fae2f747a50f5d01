-- What holds of each item of a list, as a loop over the list goes on.
use Rattle.std.proofs.Common.{◌≡◌, ℕ, suc, ◌+◌, ◌^◌, ◌<◌, ◌≤◌, List, [], ◌∷◌, ◌++◌, length, get_or, take, map, subst}
use Rattle.std.specs.List.{AllByRecursion}
use Rattle.std.proofs.lemmas.List.{take_more, take_all}
use Rattle.nv_base.specs.declared.lines.Spawn as base_spawn
use Rattle.set_model.specs.Sets.{ObjPart, ProgPart, TaskSet}
use Rattle.set_model.specs.Limits.{IsWord}
use Rattle.set_model.specs.Views.{spawn_of}
use Rattle.task_set.specs.Ranges.{HasWords}
use Rattle.nv_base.proofs.ForCallers.{all_with}

pub all_words : (xs : List ℕ) → ((i : ℕ) → get_or xs i 0 < 2 ^ 32) → AllByRecursion IsWord xs
all_words [] h = tt
all_words (x ∷ xs) h = (h 0, all_words xs (λ i. h (suc i)))

pub all_last : {X : Type 0} (P : X → Type 0) (xs : List X) (x : X) → AllByRecursion P (xs ++ x ∷ []) → P x
all_last P [] x h = h.0
all_last P (y ∷ xs) x h = all_last P xs x h.1

pub all_more : {X : Type 0} (P : X → Type 0) (xs : List X) (i : ℕ) (d : X) → i < length xs → AllByRecursion P (take i xs) → P (get_or xs i d) → AllByRecursion P (take (i + 1) xs)
all_more P xs i d l h p = rw (take_more xs i d l) (all_with P (take i xs) (get_or xs i d) h p)

pub all_done : {X : Type 0} (P : X → Type 0) (xs : List X) (n : ℕ) → length xs ≤ n → AllByRecursion P (take n xs) → AllByRecursion P xs
all_done P xs n l h = subst (AllByRecursion P) (take_all n xs l) h

pub all_mapped : {X Y : Type 0} (P : Y → Type 0) (f : X → Y) (xs : List X) → AllByRecursion (λ x. P (f x)) xs → AllByRecursion P (map f xs)
all_mapped P f [] h = tt
all_mapped P f (x ∷ xs) h = (h.0, all_mapped P f xs h.1)

pub has_all_words : (set : TaskSet) (objects : List ObjPart) (programs : List ProgPart) (tasks : List base_spawn.Spawn) → objects ≡ set.objects → programs ≡ set.programs → map spawn_of tasks ≡ set.tasks
    → AllByRecursion (λ o. AllByRecursion IsWord o.first) objects → AllByRecursion (λ p. AllByRecursion IsWord p.code) programs → AllByRecursion (λ t. IsWord t.arg) tasks → HasWords set
has_all_words set objects programs tasks e f g h i j = record {
  objects = subst (AllByRecursion (λ o. AllByRecursion IsWord o.first)) e h;
  programs = subst (AllByRecursion (λ p. AllByRecursion IsWord p.code)) f i;
  tasks = subst (AllByRecursion (λ t. IsWord t.arg)) g (all_mapped (λ t. IsWord t.arg) spawn_of tasks j);
}
