-- How what is kept changes at each event: this project's own.
use Rattle.std.specs.Prelude.{ℕ, zero, ◌==◌, Bool, true, false, List, [], ◌∷◌, Option, Some, None, get_or, if◌then◌else◌}
use Rattle.kernel_model.specs.Sizes.{Sizes}
use Rattle.kernel_model.specs.Effects.{object_words, written}
use Rattle.kernel_model.specs.Items.{FinishRecord}
use Rattle.kernel_model.specs.Replay.{DeviceState, clock_of}
use Rattle.kernel_model.specs.Worlds.{World}
use Rattle.kernel_model.specs.Versions.{Read, Version}
use Rattle.kernel_model.specs.Intervals.{read_interval}
use Rattle.kernel_model.specs.Cores.{Attempt, Core, Idle, Running, Copying, Ready, Committing, all_but}
use Rattle.kernel_model.specs.Turns.{core_turn}
use Rattle.kernel_model.specs.Events.{Power, On, Boot, State, Event, CoreStep, Fail, with_finish, durable_commit, event_step, acting}
use Rattle.slot_model.specs.Slots.{Image}
use Rattle.slot_model.specs.Kept.{Kept, with_held, newest_alone, chosen_held, slot_in, newest_slot}
use Rattle.slot_model.specs.Places.{planned}
use Rattle.slot_model.specs.Store.{image_turn}

-- with the versions of a finish in the slots of its plan, if one joins
abbrev pub with_finished : Option FinishRecord → Kept → Kept
with_finished None kept = kept
with_finished (Some i) kept = record kept {
  chains = λ o. with_held i (written i.run.writes o) (kept.plan o) (kept.chains o);
}

-- after a failure: one version an object
abbrev pub afresh : (clock : ℕ) → Kept → Kept
afresh clock kept = record kept { chains = λ o. newest_alone clock (kept.chains o) }

-- f, but x at n
abbrev pub put_at : (n x : ℕ) → (ℕ → ℕ) → ℕ → ℕ
put_at n x f k = if k == n then x else f k

-- core n copies from the slot of the version that it chose, where these are its reads since
abbrev pub pinned : {M : Type 0} → DeviceState → List FinishRecord → ℕ → Attempt M → List Read → Kept → Kept
pinned base history n a [] kept = kept
pinned base history n a (r ∷ reads) kept =
    let hi = (read_interval base history a.start a.reads).hi in
    let chosen = chosen_held hi (kept.chains r.object) in
    record kept { pins = put_at n (slot_in chosen) kept.pins }

-- where core n ran, and is this now
abbrev pub kept_run : {M : Type 0} → DeviceState → List FinishRecord → ℕ → Attempt M → Core M → Kept → Kept
kept_run base history n a (Copying b copied) kept = pinned base history n a b.reads kept
kept_run base history n a _ kept = kept

-- where a core was ready, and is this now
abbrev pub kept_verdict : {M : Type 0} → Sizes → DeviceState → List FinishRecord → List (Core M) → Core M → Kept
    → Kept
kept_verdict sizes base history others (Committing i left) kept =
    planned sizes base history others kept
kept_verdict sizes base history others _ kept = kept

-- after core n's turn from the first to the second
abbrev pub kept_turn : {M : Type 0} → Sizes → DeviceState → List FinishRecord → List (Core M) → ℕ → Core M → Core M
    → Kept → Kept
kept_turn sizes base history others n (Running a) d kept = kept_run base history n a d kept
kept_turn sizes base history others n (Ready a outcome) d kept =
    kept_verdict sizes base history others d kept
kept_turn sizes base history others n (Committing i zero) d kept = with_finished (Some i) kept
kept_turn sizes base history others n _ d kept = kept

-- after a step of core n
abbrev pub kept_step : {M : Type 0} → World M → State M → ℕ → Power → Kept → Kept
kept_step world s n On kept =
    let c = get_or s.cores n Idle in
    let others = all_but n s.cores in
    kept_turn world.sizes world.base s.history others n c
    (core_turn world s.history others n c).core kept
kept_step world s n (Boot left) kept = kept

-- the clock at the last boot, after an event
abbrev pub floor_after : {M : Type 0} → DeviceState → (floor : ℕ) → State M → Event → ℕ
floor_after base floor s Fail = clock_of base (with_finish (durable_commit s.cores) s.history)
floor_after base floor s (CoreStep n) = floor

-- what is kept after an event
abbrev pub kept_after : {M : Type 0} → World M → State M → Event → Kept → Kept
kept_after world s Fail kept =
    afresh (clock_of world.base (with_finish (durable_commit s.cores) s.history))
    (with_finished (durable_commit s.cores) kept)
kept_after world s (CoreStep n) kept = kept_step world s n s.power kept

-- the image after an event
abbrev pub image_after : {M : Type 0} → Sizes → DeviceState → State M → Event → Kept → Image → Image
image_after sizes base s e kept image = image_turn sizes base s.history kept.plan (acting s e) image

-- the slot that the durable index names of each object: a finish whose writes are all made counts
abbrev pub named_slot : {M : Type 0} → State M → Kept → ℕ → ℕ
named_slot s kept o = newest_slot ((with_finished (durable_commit s.cores) kept).chains o)

-- all that changes beside the state
pub record Beside : Type 0 where
  pub floor : ℕ
  pub kept : Kept
  pub image : Image

-- after an event
abbrev pub beside_event : {M : Type 0} → World M → State M → Event → Beside → Beside
beside_event world s e b = record {
  floor = floor_after world.base b.floor s e;
  kept = kept_after world s e b.kept;
  image = image_after world.sizes world.base s e b.kept b.image;
}

-- after some events
abbrev pub beside_after : {M : Type 0} → World M → State M → List Event → Beside
    → Beside
beside_after world s [] b = b
beside_after world s (e ∷ events) b =
    beside_after world (event_step world s e).0 events
    (beside_event world s e b)

-- the base's version of an object
abbrev pub first_version : DeviceState → ℕ → Version
first_version base o = record {
  writer = base.number;
  begin = base.clock;
  end = None;
  words = object_words base.objects o;
}

-- what is kept at first: the base's version of each object, in the slot that the device names
abbrev pub first_kept : DeviceState → (named : ℕ → ℕ) → Kept
first_kept base named = record {
  chains = λ o. record {
    slot = named o;
    version = first_version base o;
  } ∷ [];
  plan = λ o. 0;
  pins = λ k. 0;
}

-- whether a core's turn changes nothing of what is kept and what stands: it opens no outside read, begins no commit, and is none of a commit
abbrev pub is_calm : {M : Type 0} → Core M → Core M → Bool
is_calm Idle d = true
is_calm (Running a) (Copying b copied) = false
is_calm (Running a) d = true
is_calm (Copying a copied) d = true
is_calm (Ready a outcome) (Committing i left) = false
is_calm (Ready a outcome) d = true
is_calm (Committing i left) d = false
