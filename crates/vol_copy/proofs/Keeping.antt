-- What an attempt keeps of its own memory, turn by turn.
use Rattle.std.proofs.Common.{◌≡◌, ℕ, ◌+◌, ◌<◌, ◌≤◌, true, false, cond, Option, Some, None, List, [], ◌∷◌, ◌++◌, length, set, refl, sym, ap, subst, ◌∙◌, arith, length-append}
use Rattle.std.specs.List.{AllByRecursion}
use Rattle.std.proofs.lemmas.List.{length-set}
use Rattle.object_sets.specs.ObjectSets.{AreBelow, IsIncreasing, is_among, with_object}
use Rattle.object_sets.proofs.ForCallers.{all_append, with_object-all, with_object-increasing}
use Rattle.rv_core.specs.State.{MachineState}
use Rattle.rv_core.specs.Machine.{words_at}
use Rattle.nv_base.specs.declared.limits.TheConstants.{MAX_SPAWNS}
use Rattle.nv_base.specs.declared.ids.ObjId.{ObjId}
use Rattle.nv_base.specs.declared.lines.Outcome.{Outcome}
use Rattle.nv_base.specs.declared.lines.Outcome.TheVariants as outcome
use Rattle.nv_base.specs.declared.lines.Spawn.{Spawn}
use Rattle.kernel_model.specs.Effects.{Objects, object_words}
use Rattle.set_model.specs.Sets.{TaskSet, object_at}
use Rattle.task_model.specs.TaskSteps.{with_part}
use Rattle.task_model.specs.Shape.{HasShape}
use Rattle.task_model.proofs.ForCallers.{length-with_part, length-words_at, shape-set}
use Rattle.vol_copy.specs.Wants.{Awaits, part_in, rewritten_wanted}
use Rattle.vol_copy.specs.Received.{MayReceive, ended_so, received, seen_in, words_with, written_with}
use Rattle.vol_copy.specs.Tries.{IsFor, IsForAt}
use Rattle.vol_copy.specs.declared.attempt.Attempt.{Attempt}
use Rattle.vol_copy.specs.declared.attempt.Stage.{Stage}
use Rattle.vol_copy.specs.declared.attempt.Stage.TheVariants as stage
use Rattle.vol_copy.specs.declared.want.Want.{Want}
use Rattle.vol_copy.specs.declared.want.Want.TheVariants as want

-- nothing is done
pub emptied : (s : TaskSet) (a : Attempt) → length a.machine.memory ≡ s.memory → HasShape s a.copies → HasShape s a.words → a.reads ≡ [] → a.written ≡ [] → a.spawns ≡ [] → IsForAt s a a.stage → IsFor s a
emptied s a memory copies words reads written spawns there = record {
  memory = memory;
  copies = copies;
  words = words;
  reads = subst (AreBelow (length s.objects)) (sym reads) tt;
  written = subst (AreBelow (length s.objects)) (sym written) tt;
  increasing = subst IsIncreasing (sym written) tt;
  children = subst (AllByRecursion (λ c. c.program.0 < length s.programs)) (sym spawns) tt;
  spawns = let n : length a.spawns ≡ 0 = ap length spawns in omega (arith, n);
  stage = there;
}

-- another stage, which has what it needs
pub staged : (s : TaskSet) (a : Attempt) (t : Stage) → IsFor s a → (let b : Attempt = record a { stage = t } in IsForAt s b t) → IsFor s (record a { stage = t })
staged s a t h there = record { memory = h.memory; copies = h.copies; words = h.words; reads = h.reads; written = h.written; increasing = h.increasing; children = h.children; spawns = h.spawns; stage = there }

-- the attempt ends
pub ended : (s : TaskSet) (a n : Attempt) (o : Outcome) → IsFor s a → n ≡ ended_so a o → IsFor s n
ended s a n o h same = subst (IsFor s) (sym same) (go o)
  where
    go : (x : Outcome) → IsFor s (ended_so a x)
    go (outcome.Exit code) = record { memory = h.memory; copies = h.copies; words = h.words; reads = h.reads; written = h.written; increasing = h.increasing; children = h.children; spawns = h.spawns; stage = tt }
    go (outcome.Trap cause) = record { memory = h.memory; copies = h.copies; words = h.words; reads = h.reads; written = tt; increasing = tt; children = tt; spawns = omega arith; stage = tt }

-- while it runs: the machine goes on, with other words written and other tasks spawned
pub goes_on : (s : TaskSet) (a : Attempt) (m : MachineState) (written : List ℕ) (words : Objects) (spawns : List Spawn) → IsFor s a → a.stage ≡ stage.Running → length m.memory ≡ length a.machine.memory
    → HasShape s words → AreBelow (length s.objects) written → IsIncreasing written → AllByRecursion (λ c. c.program.0 < length s.programs) spawns → length spawns ≤ MAX_SPAWNS
    → IsFor s (record a { machine = m; written = written; words = words; spawns = spawns })
goes_on s a m written words spawns h running room shape below increasing children few = record {
  memory = room ∙ h.memory;
  copies = h.copies;
  words = shape;
  reads = h.reads;
  written = below;
  increasing = increasing;
  children = children;
  spawns = few;
  stage = subst (IsForAt s (record a { machine = m; written = written; words = words; spawns = spawns })) (sym running) tt;
}

pub stepped : (s : TaskSet) (a : Attempt) (m : MachineState) → IsFor s a → a.stage ≡ stage.Running → length m.memory ≡ length a.machine.memory → IsFor s (record a { machine = m })
stepped s a m h running room = goes_on s a m a.written a.words a.spawns h running room h.words h.written h.increasing h.children h.spawns

-- it writes an object
pub wrote : (s : TaskSet) (a : Attempt) (m : MachineState) (o at : ℕ) (words : Objects) (written : List ℕ) → IsFor s a → a.stage ≡ stage.Running → length m.memory ≡ length a.machine.memory → o < length s.objects
    → words ≡ set a.words o (words_at a.machine.memory at (length (object_words a.words o))) → written ≡ with_object o a.written → IsFor s (record a { machine = m; words = words; written = written })
wrote s a m o at words written h running room inside w x =
    let there : o < length a.words = omega (arith, inside, h.words.number) in
    goes_on s a m written words a.spawns h running room
    (subst (HasShape s) (sym w) (shape-set s a.words o _ h.words (length-words_at a.machine.memory at _ ∙ h.words.sizes o there)))
    (subst (AreBelow (length s.objects)) (sym x) (with_object-all (λ p. p < length s.objects) o a.written inside h.written))
    (subst IsIncreasing (sym x) (with_object-increasing o a.written h.increasing))
    h.children h.spawns

-- it spawns a task
pub spawned : (s : TaskSet) (a : Attempt) (m : MachineState) (c : Spawn) (spawns : List Spawn) → IsFor s a → a.stage ≡ stage.Running → length m.memory ≡ length a.machine.memory → c.program.0 < length s.programs → length a.spawns < MAX_SPAWNS
    → spawns ≡ a.spawns ++ c ∷ [] → IsFor s (record a { machine = m; spawns = spawns })
spawned s a m c spawns h running room inside few e =
    goes_on s a m a.written a.words spawns h running room h.words h.written h.increasing
    (subst (AllByRecursion (λ d. d.program.0 < length s.programs)) (sym e) (all_append (λ d. d.program.0 < length s.programs) a.spawns (c ∷ []) h.children (inside, tt)))
    (let n : length spawns ≡ length a.spawns + 1 = ap length e ∙ length-append a.spawns (c ∷ []) in omega (arith, n, few))

-- new words are as many as the object has
new_size : (w : Want) (memory words : List ℕ) (size : ℕ) → (part_in w).first + (part_in w).count ≤ size → length words ≡ size → (new : List ℕ) → rewritten_wanted w memory words ≡ Some new → length new ≡ size
new_size (want.Give p) memory words size r l new e = absurd (cc e)
new_size (want.Take p) memory words size r l new e =
    let same : with_part p.first (words_at memory p.at p.count) words ≡ new = cc e in
    ap length (sym same) ∙ length-with_part p.first (words_at memory p.at p.count) words (omega (arith, r, l, length-words_at memory p.at p.count)) ∙ l

-- the words that an attempt sees of an object are as many as its size
pub seen_size : (s : TaskSet) (a : Attempt) (o : ℕ) → HasShape s a.words → HasShape s a.copies → o < length s.objects → length (seen_in a o) ≡ (object_at s o).size
seen_size s a o words copies l =
    elim (is_among o a.written) as (λ b. length (cond b (object_words a.words o) (object_words a.copies o)) ≡ (object_at s o).size)
    [ true ↦ words.sizes o (omega (arith, l, words.number)) | false ↦ copies.sizes o (omega (arith, l, copies.number)) ]

shape_with : (s : TaskSet) (words : Objects) (o : ℕ) (new : Option (List ℕ)) → HasShape s words → ((x : List ℕ) → new ≡ Some x → length x ≡ (object_at s o).size) → HasShape s (words_with words o new)
shape_with s words o None h size = h
shape_with s words o (Some x) h size = shape-set s words o x h (size x refl)

below_with : (n o : ℕ) (written : List ℕ) (new : Option (List ℕ)) → o < n → AreBelow n written → AreBelow n (written_with written o new)
below_with n o written None l h = h
below_with n o written (Some x) l h = with_object-all (λ p. p < n) o written l h

increasing_with : (o : ℕ) (written : List ℕ) (new : Option (List ℕ)) → IsIncreasing written → IsIncreasing (written_with written o new)
increasing_with o written None h = h
increasing_with o written (Some x) h = with_object-increasing o written h

-- a service has what it wants of the words that the attempt sees
pub received_kept : (s : TaskSet) (a n : Attempt) (o : ℕ) (w : Want) → IsFor s a → o < length s.objects → (part_in w).first + (part_in w).count ≤ (object_at s o).size → n ≡ received a o w → length n.machine.memory ≡ length a.machine.memory
    → IsFor s (record n { stage = stage.Running })
received_kept s a n o w h l inside same room =
    let words : List ℕ = seen_in a o in
    let new : Option (List ℕ) = rewritten_wanted w a.machine.memory words in
    let size = new_size w a.machine.memory words (object_at s o).size inside (seen_size s a o h.words h.copies l) in
    subst (λ (x : Attempt). length x.machine.memory ≡ length a.machine.memory → IsFor s (record x { stage = stage.Running })) (sym same)
    (λ r. record {
      memory = r ∙ h.memory;
      copies = h.copies;
      words = shape_with s a.words o new h.words size;
      reads = h.reads;
      written = below_with (length s.objects) o a.written new l h.written;
      increasing = increasing_with o a.written new h.increasing;
      children = h.children;
      spawns = h.spawns;
      stage = tt;
    })
    room

-- there is what a service needs of the object
pub may_receive : (s : TaskSet) (a : Attempt) (o : ℕ) (w : Want) → HasShape s a.words → HasShape s a.copies → o < length s.objects → Awaits a.machine (object_at s o).size w → MayReceive a o w
may_receive s a o w words copies l awaits =
    let own : o < length a.words = omega (arith, l, words.number) in
    let copied : o < length a.copies = omega (arith, l, copies.number) in
    record {
      own = own;
      copied = copied;
      sizes = copies.sizes o copied ∙ sym (words.sizes o own);
      awaits = subst (λ size. Awaits a.machine size w) (sym (words.sizes o own)) awaits;
    }

-- a version is to be chosen
pub fetches : (s : TaskSet) (a : Attempt) (o : ObjId) (w : Want) → IsFor s a → o.0 < length s.objects → 0 < (object_at s o.0).size → is_among o.0 a.written ≡ false → is_among o.0 a.reads ≡ false → Awaits a.machine (object_at s o.0).size w
    → IsFor s (record a { stage = stage.Fetching o w })
fetches s a o w h inside some unwritten unread awaits = staged s a (stage.Fetching o w) h (record { inside = inside; some = some; unwritten = unwritten; awaits = awaits }, unread)

-- it is chosen
pub opens : (s : TaskSet) (a : Attempt) (o : ObjId) (w : Want) (reads : List ℕ) → a.stage ≡ stage.Fetching o w → reads ≡ with_object o.0 a.reads → IsFor s a → IsFor s (record a { reads = reads; stage = stage.Copying o w 0 })
opens s a o w reads e r h =
    let there = subst (IsForAt s a) e h.stage in
    record {
      memory = h.memory;
      copies = h.copies;
      words = h.words;
      reads = subst (AreBelow (length s.objects)) (sym r) (with_object-all (λ p. p < length s.objects) o.0 a.reads there.0.inside h.reads);
      written = h.written;
      increasing = h.increasing;
      children = h.children;
      spawns = h.spawns;
      stage = (record { inside = there.0.inside; some = there.0.some; unwritten = there.0.unwritten; awaits = there.0.awaits }, there.0.some);
    }

-- one word of a copy
pub shape_put : (s : TaskSet) (copies new : Objects) (o i word : ℕ) → HasShape s copies → o < length s.objects → new ≡ set copies o (set (object_words copies o) i word) → HasShape s new
shape_put s copies new o i word h l e = subst (HasShape s) (sym e) (shape-set s copies o _ h (length-set (object_words copies o) i word ∙ h.sizes o (omega (arith, l, h.number))))

pub copies_more : (s : TaskSet) (a : Attempt) (o : ObjId) (w : Want) (copied : ℕ) (word : ℕ) (new : Objects) → a.stage ≡ stage.Copying o w copied → new ≡ set a.copies o.0 (set (object_words a.copies o.0) copied word) → IsFor s a → copied + 1 < (object_at s o.0).size
    → IsFor s (record a { copies = new; stage = stage.Copying o w (copied + 1) })
copies_more s a o w copied word new e is h l =
    let there = subst (IsForAt s a) e h.stage in
    record {
      memory = h.memory;
      copies = shape_put s a.copies new o.0 copied word h.copies there.0.inside is;
      words = h.words;
      reads = h.reads;
      written = h.written;
      increasing = h.increasing;
      children = h.children;
      spawns = h.spawns;
      stage = (record { inside = there.0.inside; some = there.0.some; unwritten = there.0.unwritten; awaits = there.0.awaits }, l);
    }

-- the last one
pub copies_last : (s : TaskSet) (a n : Attempt) (o : ObjId) (w : Want) (copied : ℕ) (word : ℕ) (new : Objects) → a.stage ≡ stage.Copying o w copied → new ≡ set a.copies o.0 (set (object_words a.copies o.0) copied word) → IsFor s a
    → (let b : Attempt = record a { copies = new } in n ≡ received b o.0 w) → length n.machine.memory ≡ length a.machine.memory → IsFor s (record n { stage = stage.Running })
copies_last s a n o w copied word new e is h same room =
    let there = subst (IsForAt s a) e h.stage in
    let b : Attempt = record a { copies = new; stage = stage.Running } in
    let kept : IsFor s b = record {
      memory = h.memory;
      copies = shape_put s a.copies new o.0 copied word h.copies there.0.inside is;
      words = h.words;
      reads = h.reads;
      written = h.written;
      increasing = h.increasing;
      children = h.children;
      spawns = h.spawns;
      stage = tt;
    } in
    received_kept s b (record n { stage = stage.Running }) o.0 w kept there.0.inside there.0.awaits.inside (ap (λ (x : Attempt). record x { stage = stage.Running }) same) room
