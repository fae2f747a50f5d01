-- When objects are those of a task set, by their number and their sizes. This project's own.
use Rattle.std.specs.Prelude.{◌≡◌, ℕ, ◌<◌, length}
use Rattle.kernel_model.specs.Effects.{Objects, object_words}
use Rattle.set_model.specs.Sets.{TaskSet, object_at}

-- as many objects as the set has, each of its size
pub record HasShape (set : TaskSet) (objects : Objects) : Type 0 where
  pub number : length objects ≡ length set.objects
  pub sizes : (o : ℕ) → o < length objects → length (object_words objects o) ≡ (object_at set o).size

-- as many objects, each of as many words
pub record AreAlike (objects others : Objects) : Type 0 where
  pub number : length objects ≡ length others
  pub sizes : (o : ℕ) → o < length objects → length (object_words objects o) ≡ length (object_words others o)
