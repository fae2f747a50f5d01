-- The tasks of the worked runs owe what a machine owes, and the runs have the premises of the laws.
use Rattle.std.proofs.Common.{◌≡◌, ℕ, zero, suc, ◌<◌, Bool, true, false, cond, ltb, List, [], ◌∷◌, set, Option, Some, None, refl, sym, ap, ◌∙◌, subst, replicate, length, arith}
use Rattle.std.specs.Prelude.{option_map}
use Rattle.std.proofs.lemmas.List.{length-replicate, length-set}
use Rattle.std.proofs.lemmas.Bool.{ltb-true}
use Rattle.kernel_model.specs.Sizes.{Sizes}
use Rattle.kernel_model.specs.Effects.{Trap, object_words}
use Rattle.kernel_model.specs.Runs.{Step, Went, Reads, Writes, Spawns, Ends}
use Rattle.kernel_model.specs.Fit.{IsMachine, IsOutcome, IsWrite, IsSetUp}
use Rattle.kernel_model.specs.WorkedTasks.{Op, Work, Add, Take, Put, PutAt, Fork, Stop, StopSum, Spent, Task, step_of, toy, with_first, world_of}
use Rattle.kernel_model.specs.WorkedRuns.{adding, copy_and_put, resumed_later}

words-size : (n k : ℕ) → length (with_first n (replicate k 0)) ≡ k
words-size n zero = refl
words-size n (suc k) = ap suc (length-replicate k 0)

-- what holds of each step
abbrev IsFit : Sizes → List Op → Step Task → Type 0
IsFit sizes ops (Went n) = length n.ops < length ops
IsFit sizes ops (Reads n o) = (o < sizes.objects) × (length n.ops < length ops)
IsFit sizes ops (Writes n w) = (length n.ops < length ops) × IsWrite sizes w
IsFit sizes ops (Spawns n s) = (s.program < sizes.programs) × (length n.ops < length ops)
IsFit sizes ops (Ends outcome) = IsOutcome outcome

each_fit : (sizes : Sizes) (ops : List Op) (sum : ℕ) → IsFit sizes ops (step_of sizes ops sum)
each_fit sizes [] sum = tt
each_fit sizes (Work ∷ ops) sum = omega arith
each_fit sizes (Add k ∷ ops) sum = omega arith
each_fit sizes (Stop code ∷ ops) sum = tt
each_fit sizes (StopSum ∷ ops) sum = tt
each_fit sizes (Spent ∷ ops) sum = (omega arith, omega arith)
each_fit sizes (Take o ∷ ops) sum = go (ltb o sizes.objects) refl
  where
    go : (b : Bool) → ltb o sizes.objects ≡ b → IsFit sizes (Take o ∷ ops) (cond b (Reads (record { ops = ops; sum = sum; place = None }) o) (Ends (Trap 10)))
    go true e = (ltb-true o sizes.objects e, omega arith)
    go false e = (omega arith, omega arith)
each_fit sizes (Put o ∷ ops) sum = go (ltb o sizes.objects) refl
  where
    go : (b : Bool) → ltb o sizes.objects ≡ b → IsFit sizes (Put o ∷ ops) (cond b (Writes (record { ops = ops; sum = sum; place = None }) (record { object = o; words = with_first sum (replicate (sizes.size o) 0) })) (Ends (Trap 10)))
    go true e = (omega arith, record { object = ltb-true o sizes.objects e; words = words-size sum (sizes.size o) })
    go false e = (omega arith, omega arith)
each_fit sizes (PutAt o k ∷ ops) sum = go (ltb o sizes.objects) refl
  where
    go : (b : Bool) → ltb o sizes.objects ≡ b → IsFit sizes (PutAt o k ∷ ops) (cond b (Reads (record { ops = ops; sum = sum; place = Some k }) o) (Ends (Trap 10)))
    go true e = (ltb-true o sizes.objects e, omega arith)
    go false e = (omega arith, omega arith)
each_fit sizes (Fork s ∷ ops) sum = go (ltb s.program sizes.programs) refl
  where
    go : (b : Bool) → ltb s.program sizes.programs ≡ b → IsFit sizes (Fork s ∷ ops) (cond b (Spawns (record { ops = ops; sum = sum; place = None }) s) (Ends (Trap 13)))
    go true e = (ltb-true s.program sizes.programs e, omega arith)
    go false e = (omega arith, omega arith)

-- a write of one word keeps the size
rewrites_size : (size : ℕ) (place : Option ℕ) (sum : ℕ) (words new : List ℕ) → length words ≡ size → option_map (λ k. set words k sum) place ≡ Some new → length new ≡ size
rewrites_size size None sum words new l e = absurd (cc e)
rewrites_size size (Some k) sum words new l e = let same : set words k sum ≡ new = cc in ap length (sym same) ∙ length-set words k sum ∙ l

-- it owes what a machine owes
pub toy_machine : (sizes : Sizes) (program : ℕ → ℕ → List Op) → IsMachine (toy sizes program) sizes
toy_machine sizes program = record {
  went = λ m n e. at m (Went n) e;
  reads = λ m n o e. (at m (Reads n o) e).0;
  given = λ m n o words e. (at m (Reads n o) e).1;
  rewrites = λ m n o words new e l f. rewrites_size (sizes.size o) n.place n.sum words new l f;
  wrote = λ m n w e. at m (Writes n w) e;
  spawns = λ m n s e. (at m (Spawns n s) e).0;
  spawned = λ m n s index e. (at m (Spawns n s) e).1;
  ends = λ m outcome e. at m (Ends outcome) e;
}
  where
    at : (m : Task) (s : Step Task) → step_of sizes m.ops m.sum ≡ s → IsFit sizes m.ops s
    at m s e = subst (IsFit sizes m.ops) e (each_fit sizes m.ops m.sum)

-- a run on one object
pub set_up-adding : IsSetUp (world_of adding)
set_up-adding = record {
  machine = toy_machine adding.sizes adding.program;
  sized = record { slots = λ o l. omega arith; index_writes = λ before after writes. omega arith; boot_turns = omega arith };
  based = record {
    objects = refl;
    words = λ o l. at o l;
    in_order = (tt, tt);
    positive = (omega arith, tt);
    old = (omega arith, tt);
    programs = (omega arith, tt);
    records = omega arith;
    clock = omega arith;
    next = omega arith;
  };
}
  where
    at : (o : ℕ) → o < 1 → length (object_words adding.base.objects o) ≡ 1
    at zero l = refl
    at (suc o) l = absurd (omega (arith, l))

-- a run with two cores
pub set_up-copy_and_put : IsSetUp (world_of copy_and_put)
set_up-copy_and_put = record {
  machine = toy_machine copy_and_put.sizes copy_and_put.program;
  sized = record { slots = λ o l. omega arith; index_writes = λ before after writes. omega arith; boot_turns = omega arith };
  based = record {
    objects = refl;
    words = λ o l. at o l;
    in_order = ((omega arith, tt), (tt, tt));
    positive = (omega arith, (omega arith, tt));
    old = (omega arith, (omega arith, tt));
    programs = (omega arith, (omega arith, tt));
    records = omega arith;
    clock = omega arith;
    next = omega arith;
  };
}
  where
    at : (o : ℕ) → o < 2 → length (object_words copy_and_put.base.objects o) ≡ 1
    at zero l = refl
    at (suc zero) l = refl
    at (suc (suc o)) l = absurd (omega (arith, l))

-- a run from a clock above 0
pub set_up-resumed_later : IsSetUp (world_of resumed_later)
set_up-resumed_later = record {
  machine = toy_machine resumed_later.sizes resumed_later.program;
  sized = record { slots = λ o l. omega arith; index_writes = λ before after writes. omega arith; boot_turns = omega arith };
  based = record {
    objects = refl;
    words = λ o l. at o l;
    in_order = ((omega arith, tt), (tt, tt));
    positive = (omega arith, (omega arith, tt));
    old = (omega arith, (omega arith, tt));
    programs = (omega arith, (omega arith, tt));
    records = omega arith;
    clock = omega arith;
    next = omega arith;
  };
}
  where
    at : (o : ℕ) → o < 2 → length (object_words resumed_later.base.objects o) ≡ 1
    at zero l = refl
    at (suc zero) l = refl
    at (suc (suc o)) l = absurd (omega (arith, l))
