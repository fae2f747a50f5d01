-- Which core takes each step. This project's own; the generator is PCG-XSH-RR with 64 bits of state
-- (O'Neill, "PCG: a family of simple fast space-efficient statistically good algorithms for random
-- number generation").
use Rattle.std.specs.Prelude.{ℕ, zero, suc, ◌%◌, List, [], ◌∷◌, ◌++◌, map}
use Rattle.rand_pcg.specs.Lcg.{Lcg, started, increment_of}
use Rattle.rand_pcg.specs.Pcg.{multiplier_64, pcg32}
use Rattle.schedule_model.specs.Schedules.{StepItem, Steps, Mix}

-- a list so many times over
unfoldable pub repeated : ℕ → List ℕ → List ℕ
repeated zero xs = []
repeated (suc times) xs = xs ++ repeated times xs

-- the first words of a generator
unfoldable pub words : ℕ → Lcg → List ℕ
words zero g = []
words (suc count) g = (pcg32 g).0 ∷ words count (pcg32 g).1

-- the generator of a seed, in its first stream
abbrev pub generator_of : ℕ → Lcg
generator_of seed = started 64 multiplier_64 seed (increment_of 64 0)

-- the core that a word draws
abbrev pub core_of_word : ℕ → ℕ → ℕ
core_of_word cores word = word % cores

-- the core of each step of an item, in order
abbrev pub item_steps : ℕ → StepItem → List ℕ
item_steps cores (Steps order times) = repeated times order
item_steps cores (Mix seed count) = map (core_of_word cores) (words count (generator_of seed))

-- the core of each step of the items, one item after another
unfoldable pub core_steps : ℕ → List StepItem → List ℕ
core_steps cores [] = []
core_steps cores (item ∷ items) = item_steps cores item ++ core_steps cores items
