-- What a finish elsewhere makes of an attempt's seat, by the objects that were read.
use Rattle.std.proofs.Common.{◌≡◌, ℕ, Bool, true, false, cond, eqb, ltb, ◌||◌, List, [], ◌∷◌, refl, sym, ap, ◌∙◌}
use Rattle.std.specs.Prelude.{is_some}
use Rattle.std.specs.List.{list_any}
use Rattle.std.proofs.lemmas.Bool.{eqb-true}
use Rattle.object_sets.specs.ObjectSets.{inserted, is_among, with_object}
use Rattle.rv_core.specs.State.{MachineState}
use Rattle.nv_base.specs.declared.lines.Outcome.{Outcome}
use Rattle.kernel_model.specs.Effects.{Effects, Run, Write, ended, written}
use Rattle.kernel_model.specs.Effects as effects
use Rattle.kernel_model.specs.Items.{FinishRecord}
use Rattle.kernel_model.specs.Intervals.{Interval}
use Rattle.kernel_model.specs.Chain.{cut}
use Rattle.set_model.specs.Views.{outcome_of}
use Rattle.table_machine.specs.Tables.{Copy, Seat, Try}
use Rattle.table_machine.specs.Places.{objects_of}
use Rattle.table_machine.specs.Events.{cut_seat, cut_try}
use Rattle.vol_copy.specs.declared.attempt.Attempt.{Attempt}
use Rattle.vol_copy.specs.declared.attempt.Stage.{Stage}
use Rattle.vol_copy.specs.declared.attempt.Stage.TheVariants as stage
use Rattle.vol_copy.specs.Tries.{IsCopyingTry, IsEndedTry, IsSeat, IsSeatAt, IsTry, has_read}

-- a test of some of a set's objects
any_among : (p : ℕ → Bool) (o : ℕ) (xs : List ℕ) → is_among o xs ≡ true → p o ≡ true → list_any p xs ≡ true
any_among p o [] e f = absurd (cc e)
any_among p o (x ∷ xs) e f = at (eqb x o) refl e (λ g. any_among p o xs g f)
  where
    last : (b c : Bool) → c ≡ true → (b || c) ≡ true
    last true c h = refl
    last false c h = h

    at : (b : Bool) → eqb x o ≡ b → (b || is_among o xs) ≡ true → (is_among o xs ≡ true → list_any p xs ≡ true) → (p x || list_any p xs) ≡ true
    at true g h rest = ap (λ b. b || list_any p xs) (ap p (eqb-true x o g) ∙ f)
    at false g h rest = last (p x) (list_any p xs) (rest h)

or-swap : (a b c : Bool) → (a || (b || c)) ≡ (b || (a || c))
or-swap true true c = refl
or-swap true false c = refl
or-swap false b c = refl

any-inserted : (p : ℕ → Bool) (o : ℕ) (xs : List ℕ) → list_any p (inserted o xs) ≡ (p o || list_any p xs)
any-inserted p o [] = refl
any-inserted p o (x ∷ xs) = at (ltb o x) (any-inserted p o xs)
  where
    at : (b : Bool) → list_any p (inserted o xs) ≡ (p o || list_any p xs) → list_any p (cond b (o ∷ x ∷ xs) (x ∷ inserted o xs)) ≡ (p o || (p x || list_any p xs))
    at true rest = refl
    at false rest = ap (λ b. p x || b) rest ∙ or-swap (p x) (p o) (list_any p xs)

any-with : (p : ℕ → Bool) (o : ℕ) (xs : List ℕ) → list_any p (with_object o xs) ≡ (p o || list_any p xs)
any-with p o xs = at (is_among o xs) refl
  where
    there : (b : Bool) → p o ≡ b → is_among o xs ≡ true → list_any p xs ≡ (b || list_any p xs)
    there true f e = any_among p o xs e f
    there false f e = refl

    at : (b : Bool) → is_among o xs ≡ b → list_any p (cond b xs (inserted o xs)) ≡ (p o || list_any p xs)
    at true e = there (p o) refl e
    at false e = any-inserted p o xs

-- whether something that was copied is written goes by the set of what was copied
pub any-copies : (ws : List Write) (copies : List Copy) → list_any (λ c. is_some (written ws c.object)) copies ≡ list_any (λ o. is_some (written ws o)) (objects_of copies)
any-copies ws [] = refl
any-copies ws (c ∷ copies) = ap (λ b. is_some (written ws c.object) || b) (any-copies ws copies) ∙ sym (any-with (λ o. is_some (written ws o)) c.object (objects_of copies))

pub any_of : (ws : List Write) (copies : List Copy) (reads : List ℕ) → objects_of copies ≡ reads → list_any (λ c. is_some (written ws c.object)) copies ≡ list_any (λ o. is_some (written ws o)) reads
any_of ws copies reads e = any-copies ws copies ∙ ap (list_any (λ o. is_some (written ws o))) e

pub any_running : (a : Attempt) (t : Try MachineState) (ws : List Write) → IsTry a t → list_any (λ c. is_some (written ws c.object)) t.copies ≡ has_read a ws
any_running a t ws h = any_of ws t.copies a.reads h.copies.objects

pub any_copying : (a : Attempt) (object copied : ℕ) (t : Try MachineState) (ws : List Write) → IsCopyingTry a object copied t → list_any (λ c. is_some (written ws c.object)) t.copies ≡ has_read a ws
any_copying a object copied t ws h = any_of ws t.copies a.reads (ap objects_of h.newest ∙ h.copies.objects)

-- the reads stay, however a run ends
reads-ended : (e : Effects) (o : effects.Outcome) → (ended e o).reads ≡ e.reads
reads-ended e (effects.Exit code) = refl
reads-ended e (effects.Trap cause) = refl

pub any_ended : (a : Attempt) (outcome : Outcome) (t : Try MachineState) (ws : List Write) → IsEndedTry a outcome t → list_any (λ c. is_some (written ws c.object)) t.copies ≡ has_read a ws
any_ended a outcome t ws h =
    let e : Effects = record { reads = objects_of t.copies; writes = t.writes; spawns = t.spawns } in
    any_of ws t.copies a.reads (sym (reads-ended e (outcome_of outcome)) ∙ ap (λ (r : Run). r.reads) h.run)

-- a cut changes the interval alone
try_cut : (a : Attempt) (f : FinishRecord) (t : Try MachineState) → IsTry a t → IsTry a (cut_try f t)
try_cut a f t h = record { done = record { task = h.done.task; writes = h.done.writes; spawns = h.done.spawns; state = h.done.state }; copies = h.copies }

copying_cut : (a : Attempt) (object copied : ℕ) (f : FinishRecord) (t : Try MachineState) → IsCopyingTry a object copied t → IsCopyingTry a object copied (cut_try f t)
copying_cut a object copied f t h = record {
  done = record { task = h.done.task; writes = h.done.writes; spawns = h.done.spawns; state = h.done.state };
  older = h.older;
  newest = h.newest;
  copies = h.copies;
}

ended_cut : (a : Attempt) (outcome : Outcome) (f : FinishRecord) (t : Try MachineState) → IsEndedTry a outcome t → IsEndedTry a outcome (cut_try f t)
ended_cut a outcome f t h = record { task = h.task; run = h.run }

interval_cut : (a : Attempt) (i : Interval) (f : FinishRecord) (t : Try MachineState) → list_any (λ c. is_some (written f.run.writes c.object)) t.copies ≡ has_read a f.run.writes → t.interval ≡ i
    → (cut_try f t).interval ≡ cut f.point (has_read a f.run.writes) i
interval_cut a i f t any e = ap (λ b. cut f.point b t.interval) any ∙ ap (cut f.point (has_read a f.run.writes)) e

pub seat_cut : (a : Attempt) (i : Interval) (seat : Seat MachineState) (f : FinishRecord) → IsSeat a i seat → IsSeat a (cut f.point (has_read a f.run.writes) i) (cut_seat f seat)
seat_cut a i seat f h = at a.stage h
  where
    at : (s : Stage) → IsSeatAt a i s seat → IsSeatAt a (cut f.point (has_read a f.run.writes) i) s (cut_seat f seat)
    at stage.Blank h = ap (cut_seat f) h
    at stage.Running h = (cut_try f h.0, try_cut a f h.0 h.1, interval_cut a i f h.0 (any_running a h.0 f.run.writes h.1) h.2, ap (cut_seat f) h.3)
    at (stage.Fetching object want) h = absurd h
    at (stage.Copying object want copied) h = (
      cut_try f h.0,
      h.1,
      copying_cut a object.0 copied f h.0 h.2,
      interval_cut a i f h.0 (any_copying a object.0 copied h.0 f.run.writes h.2) h.3,
      ap (cut_seat f) h.4,
    )
    at (stage.Ready outcome) h = (cut_try f h.0, ended_cut a outcome f h.0 h.1, interval_cut a i f h.0 (any_ended a outcome h.0 f.run.writes h.1) h.2, ap (cut_seat f) h.3)
