-- Worked runs, computed: what stands in each slot, what is kept, and which slot is free. This project's own.
use Rattle.std.specs.Prelude.{◌≡◌, ℕ, zero, suc, ◌+◌, ◌==◌, List, [], ◌∷◌, ◌++◌, length, get_or, set, replicate, Option, Some, None, if◌then◌else◌}
use Rattle.kernel_model.specs.Effects.{object_words}
use Rattle.kernel_model.specs.Replay.{clock_of, next_id}
use Rattle.kernel_model.specs.Intervals.{read_interval}
use Rattle.kernel_model.specs.OpenTasks.{open_tasks}
use Rattle.kernel_model.specs.Cores.{Core, Idle, Ready, run_of}
use Rattle.kernel_model.specs.Verdicts.{Verdict, Slots}
use Rattle.kernel_model.specs.Events.{State, Event, Fail, state_after}
use Rattle.kernel_model.specs.Bounds.{bound_of}
use Rattle.kernel_model.specs.WorkedTasks.{Task, Scene, first_of, steps, world_of}
use Rattle.kernel_model.specs.WorkedRuns.{adding, doomed, no_slot, summing}
use Rattle.slot_model.specs.Slots.{Image}
use Rattle.slot_model.specs.Changes.{Beside, beside_after, first_kept, named_slot}
use Rattle.slot_model.specs.Tabled.{Place, Tables, View, free_place, installed, places_of, table_verdict, views_of}

-- the base's words in slot 0 of each object, and zeros in the others
abbrev pub formatted_image : Scene → Image
formatted_image x o k = if k == 0 then object_words x.base.objects o else replicate (x.sizes.size o) 0

-- the state after some events
abbrev pub state_of : Scene → List Event → State Task
state_of x events = state_after (world_of x) (first_of x) events

-- what is kept and what stands then
abbrev pub beside_of : Scene → List Event → Beside
beside_of x events =
    beside_after (world_of x) (first_of x) events
    (record { floor = x.base.clock; kept = first_kept x.base (λ o. 0); image = formatted_image x })

-- of so many numbers from k on
abbrev pub each_of : {A : Type 0} → (k count : ℕ) → (ℕ → A) → List A
each_of k zero f = []
each_of k (suc count) f = f k ∷ each_of (k + 1) count f

-- the words in each slot of each object
abbrev pub words_after : Scene → List Event → List (List (List ℕ))
words_after x events =
    let b = beside_of x events in
    each_of 0 x.sizes.objects (λ o. each_of 0 (x.sizes.slots o) (b.image o))

-- what tables keep of each object
abbrev pub places_after : Scene → List Event → List (List Place)
places_after x events =
    let b = beside_of x events in
    each_of 0 x.sizes.objects (λ o. places_of (b.kept.chains o))

-- the slots that the durable index names
abbrev pub named_after : Scene → List Event → List ℕ
named_after x events =
    each_of 0 x.sizes.objects (named_slot (state_of x events) (beside_of x events).kept)

-- the slot that a core copies from
abbrev pub pin_after : Scene → List Event → ℕ → ℕ
pin_after x events n = (beside_of x events).kept.pins n

-- what is kept of all attempts but core n's
abbrev pub others_after : Scene → List Event → ℕ → List View
others_after x events n =
    let s = state_of x events in
    views_of x.base s.history (beside_of x events).kept.pins 0 (set s.cores n Idle)

-- the slot that is free for core n
abbrev pub free_after : Scene → List Event → (n o : ℕ) → Option ℕ
free_after x events n o =
    free_place (x.sizes.slots o) o (others_after x events n)
    (places_of ((beside_of x events).kept.chains o))

-- the tables
abbrev pub tables_after : Scene → List Event → Tables
tables_after x events =
    let s = state_of x events in
    let b = beside_of x events in
    record {
      places = λ o. places_of (b.kept.chains o);
      bounds = λ o. bound_of b.floor o s.history;
      clock = clock_of x.base s.history;
      number = x.base.number + length s.history;
      next = next_id x.base s.history;
      pending = length (open_tasks x.base s.history);
    }

-- the verdict on a core's attempt, by tables
abbrev pub judged : Scene → List Event → ℕ → Core Task → Option Verdict
judged x events n (Ready a outcome) =
    Some (table_verdict x.sizes (tables_after x events) (others_after x events n) a.task
    (read_interval x.base (state_of x events).history a.start a.reads) (run_of a outcome))
judged x events n _ = None

-- of core n's
abbrev pub verdict_after : Scene → List Event → ℕ → Option Verdict
verdict_after x events n = judged x events n (get_or (state_of x events).cores n Idle)

-- a place
abbrev pub place : (slot begin : ℕ) → Option ℕ → Place
place slot begin end = record { slot = slot; begin = begin; end = end }

-- an attempt with an interval, and one that copies a slot of an object
abbrev pub viewed : (lo : ℕ) → Option ℕ → View
viewed lo hi = record { interval = record { lo = lo; hi = hi }; copying = None }

abbrev pub copying : (lo : ℕ) → Option ℕ → (object slot : ℕ) → View
copying lo hi object slot = record (viewed lo hi) {
  copying = Some (record { object = object; slot = slot });
}

-- a commit writes its word to slot 1, and the index names it from the last write on. The finish joins after it
abbrev pub OneCommit : Type 0
OneCommit =
    (words_after adding (steps 0 15) ≡ ((5 ∷ []) ∷ (0 ∷ []) ∷ []) ∷ [])
    × (words_after adding (steps 0 16) ≡ ((5 ∷ []) ∷ (12 ∷ []) ∷ []) ∷ [])
    × (named_after adding (steps 0 29) ≡ 0 ∷ [])
    × (named_after adding (steps 0 30) ≡ 1 ∷ [])
    × (places_after adding (steps 0 30) ≡ (place 0 0 None ∷ []) ∷ [])
    × (places_after adding (steps 0 31) ≡ (place 1 1 None ∷ place 0 0 (Some 1) ∷ []) ∷ [])

-- a failure before the last write leaves the old slot, and the word in the other for nothing. The next try takes it again
abbrev pub CutCommitInSlots : Type 0
CutCommitInSlots =
    (places_after adding (steps 0 29 ++ Fail ∷ []) ≡ (place 0 0 None ∷ []) ∷ [])
    × (named_after adding (steps 0 29 ++ Fail ∷ []) ≡ 0 ∷ [])
    × (words_after adding (steps 0 29 ++ Fail ∷ []) ≡ ((5 ∷ []) ∷ (12 ∷ []) ∷ []) ∷ [])
    × (places_after adding (steps 0 29 ++ Fail ∷ steps 0 67)
    ≡ (place 1 1 None ∷ place 0 0 (Some 1) ∷ []) ∷ [])

-- a failure after it leaves the new slot alone, begun at the clock
abbrev pub FoundFinishInSlots : Type 0
FoundFinishInSlots =
    (places_after adding (steps 0 30 ++ Fail ∷ []) ≡ (place 1 1 None ∷ []) ∷ [])
    × (named_after adding (steps 0 30 ++ Fail ∷ []) ≡ 1 ∷ [])
    × ((beside_of adding (steps 0 30 ++ Fail ∷ [])).floor ≡ 1)

-- task 1 has read x when task 2's finish writes x and y, and reads the older y from its slot
abbrev pub OlderVersionInSlots : Type 0
OlderVersionInSlots =
    (places_after (summing []) (steps 0 6 ++ steps 1 38)
    ≡ (place 1 1 None ∷ place 0 0 (Some 1) ∷ []) ∷ (place 1 1 None ∷ place 0 0 (Some 1) ∷ []) ∷ [])
    × (words_after (summing []) (steps 0 6 ++ steps 1 38)
    ≡ ((5 ∷ []) ∷ (100 ∷ []) ∷ []) ∷ ((8 ∷ []) ∷ (100 ∷ []) ∷ []) ∷ [])
    × (pin_after (summing []) (steps 0 6 ++ steps 1 38 ++ steps 0 3) 0 ≡ 0)
    × (others_after (summing []) (steps 0 6 ++ steps 1 38 ++ steps 0 3) 1
    ≡ copying 0 (Some 1) 1 0 ∷ [])

-- task 3 finds no slot for y while task 1 needs the older one, and takes its slot after
abbrev pub NoFreeSlot : Type 0
NoFreeSlot =
    (free_after no_slot (steps 0 6 ++ steps 1 47) 1 1 ≡ None)
    × (verdict_after no_slot (steps 0 6 ++ steps 1 47) 1 ≡ Some (Slots 1))
    × (free_after no_slot (steps 0 6 ++ steps 1 48 ++ steps 0 35) 1 1 ≡ Some 0)
    × (places_after no_slot (steps 0 6 ++ steps 1 48 ++ steps 0 35 ++ steps 1 36)
    ≡ (place 1 1 None ∷ place 0 0 (Some 1) ∷ []) ∷ (place 0 2 None ∷ place 1 1 (Some 2) ∷ []) ∷ [])

-- task 1 has copied one of two words of x when two commits write x: its slot is not taken, though its interval is empty. With two slots there is none
abbrev pub DoomedCopyInSlots : Type 0
DoomedCopyInSlots =
    let before = steps 0 6 ++ steps 1 7 ++ steps 2 36 ++ steps 1 36 in
    (places_after (doomed 3) (before ++ steps 2 37)
    ≡ (place 2 2 None ∷ place 1 0 (Some 2) ∷ place 0 0 (Some 0) ∷ [])
    ∷ (place 1 1 None ∷ place 0 0 (Some 1) ∷ []) ∷ [])
    × (words_after (doomed 3) (before ++ steps 2 37)
    ≡ ((5 ∷ 6 ∷ []) ∷ (9 ∷ 0 ∷ []) ∷ (3 ∷ 0 ∷ []) ∷ []) ∷ ((8 ∷ []) ∷ (4 ∷ []) ∷ []) ∷ [])
    × (pin_after (doomed 3) (before ++ steps 2 37) 0 ≡ 0)
    × (others_after (doomed 3) (before ++ steps 2 9) 2 ≡ copying 0 (Some 0) 0 0 ∷ [])
    × (free_after (doomed 3) (before ++ steps 2 9) 2 0 ≡ Some 2)
    × (free_after (doomed 2) (before ++ steps 2 9) 2 0 ≡ None)
    × (verdict_after (doomed 2) (before ++ steps 2 9) 2 ≡ Some (Slots 0))

-- an object of two slots, where a finish at point 1 has put its version into slot 1: slot 0 is free unless an attempt needs it or copies it
abbrev pub TwoSlots : Type 0
TwoSlots =
    let places = installed 1 1 (place 0 0 None ∷ []) in
    (free_place 2 1 (viewed 0 (Some 1) ∷ []) places ≡ None)
    × (free_place 2 1 [] places ≡ Some 0)
    × (free_place 2 1 (copying 1 None 1 0 ∷ []) places ≡ None)
    × (free_place 2 1 (copying 1 None 0 0 ∷ []) places ≡ Some 0)
