-- Core steps: how many there are, and of which cores.
use Rattle.std.proofs.Common.{◌≡◌, ℕ, zero, suc, ◌*◌, ◌<◌, ◌≤◌, List, [], ◌∷◌, map, length, refl, ap, ◌∙◌, arith, length-append}
use Rattle.std.proofs.lemmas.List.{length-map}
use Rattle.std.specs.List.{AllByRecursion}
use Rattle.rand_pcg.specs.Lcg.{Lcg}
use Rattle.rand_pcg.specs.Pcg.{pcg32}
use Rattle.schedule_model.specs.Schedules.{StepItem, Steps, Mix}
use Rattle.schedule_model.specs.CoreSteps.{repeated, words, generator_of, core_of_word, item_steps, core_steps}
use Rattle.schedule_model.specs.Limits.{step_count, steps_together, IsItem}
use Rattle.nv_base.proofs.ForCallers.{all_append}

pub length-repeated : (times : ℕ) (xs : List ℕ) → length (repeated times xs) ≡ length xs * times
unfolding repeated
length-repeated zero xs = omega arith
length-repeated (suc times) xs = omega (arith, length-append xs (repeated times xs), length-repeated times xs)

pub length-words : (count : ℕ) (g : Lcg) → length (words count g) ≡ count
unfolding words
length-words zero g = refl
length-words (suc count) g = ap suc (length-words count (pcg32 g).1)

pub length-item_steps : (cores : ℕ) (item : StepItem) → length (item_steps cores item) ≡ step_count item
length-item_steps cores (Steps order times) = length-repeated times order
length-item_steps cores (Mix seed count) =
    length-map (words count (generator_of seed)) (core_of_word cores) ∙ length-words count (generator_of seed)

pub length-core_steps : (cores : ℕ) (items : List StepItem) → length (core_steps cores items) ≡ steps_together items
unfolding core_steps
length-core_steps cores [] = refl
length-core_steps cores (item ∷ items) =
    omega (arith, length-append (item_steps cores item) (core_steps cores items), length-item_steps cores item, length-core_steps cores items)

pub all-repeated : (P : ℕ → Type 0) (times : ℕ) (xs : List ℕ) → AllByRecursion P xs → AllByRecursion P (repeated times xs)
unfolding repeated
all-repeated P zero xs p = tt
all-repeated P (suc times) xs p = all_append P xs (repeated times xs) p (all-repeated P times xs p)

pub all-drawn : (cores : ℕ) (ws : List ℕ) → 1 ≤ cores → AllByRecursion (λ core. core < cores) (map (core_of_word cores) ws)
all-drawn cores [] h = tt
all-drawn cores (w ∷ ws) h = (omega arith, all-drawn cores ws h)

pub all-item_steps : (cores : ℕ) (item : StepItem) → 1 ≤ cores → IsItem cores item → AllByRecursion (λ core. core < cores) (item_steps cores item)
all-item_steps cores (Steps order times) h p = all-repeated (λ core. core < cores) times order p.2
all-item_steps cores (Mix seed count) h p = all-drawn cores (words count (generator_of seed)) h

pub all-core_steps : (cores : ℕ) (items : List StepItem) → 1 ≤ cores → AllByRecursion (IsItem cores) items
    → AllByRecursion (λ core. core < cores) (core_steps cores items)
unfolding core_steps
all-core_steps cores [] h p = tt
all-core_steps cores (item ∷ items) h p =
    all_append (λ core. core < cores) (item_steps cores item) (core_steps cores items) (all-item_steps cores item h p.0) (all-core_steps cores items h p.1)
