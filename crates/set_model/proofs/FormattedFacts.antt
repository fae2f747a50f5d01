-- The formatted state is one that a device may hold.
use Rattle.std.proofs.Common.{◌≡◌, ℕ, zero, suc, ◌+◌, ◌<◌, ◌≤◌, length, List, [], ◌∷◌, get_or, map, arith}
use Rattle.std.specs.List.{AllByRecursion}
use Rattle.std.proofs.lemmas.List.{length-map}
use Rattle.kernel_model.specs.Effects.{Spawn, object_words}
use Rattle.kernel_model.specs.OpenTasks.{children}
use Rattle.kernel_model.specs.Fit.{IsBase}
use Rattle.kernel_model.proofs.ForCallers.{children_order, length-children}
use Rattle.set_model.specs.Sets.{ObjPart, TaskSet}
use Rattle.set_model.specs.Limits.{IsObject, IsTask, IsTaskSet}
use Rattle.set_model.specs.Numbers.{sizes_of}
use Rattle.set_model.specs.Formatted.{formatted}

above : (low first : ℕ) (spawns : List Spawn) → low < first → AllByRecursion (λ t. low < t.id) (children first spawns)
above low first [] h = tt
above low first (s ∷ spawns) h = (h, above low (first + 1) spawns (omega arith))

below : (high first : ℕ) (spawns : List Spawn) → first + length spawns ≤ high → AllByRecursion (λ t. t.id < high) (children first spawns)
below high first [] h = tt
below high first (s ∷ spawns) h = (omega arith, below high (first + 1) spawns (omega arith))

programs : (n first : ℕ) (spawns : List Spawn) → AllByRecursion (IsTask n) spawns → AllByRecursion (λ t. t.program < n) (children first spawns)
programs n first [] h = tt
programs n first (s ∷ spawns) h = (h.0.program, programs n (first + 1) spawns h.1)

words : (objects : List ObjPart) (none : ObjPart) (o : ℕ) → AllByRecursion IsObject objects → o < length objects
    → length (object_words (map (λ p. p.first) objects) o) ≡ (get_or objects o none).size
words [] none o h l = absurd (omega (arith, l))
words (p ∷ objects) none zero h l = h.0.first
words (p ∷ objects) none (suc o) h l = words objects none o h.1 (omega arith)

pub formatted_is_base : (set : TaskSet) → IsTaskSet set → IsBase (sizes_of set) (formatted set)
formatted_is_base set h = record {
  objects = length-map _ _;
  words = λ o l. words set.objects _ o h.each_object l;
  in_order = children_order 1 set.tasks;
  positive = above 0 1 set.tasks (omega arith);
  old = below (length set.tasks + 1) 1 set.tasks (omega arith);
  programs = programs (length set.programs) 1 set.tasks h.each_task;
  records = rw (length-children 1 set.tasks) h.tasks;
  clock = omega arith;
  next = omega arith;
}
