-- The verdict by tables is that of the model.
use Rattle.std.proofs.Common.{◌≡◌, ℕ, ◌+◌, ◌-◌, ◌<◌, ◌≤◌, Bool, cond, leb, List, [], ◌∷◌, get_or, set, length, Option, Some, None, refl, sym, ap, ap₂, ◌∙◌}
use Rattle.std.specs.Prelude.{is_some, unwrap_or}
use Rattle.std.specs.List.{AllByRecursion}
use Rattle.kernel_model.specs.Sizes.{Sizes}
use Rattle.kernel_model.specs.Effects.{Run, Write}
use Rattle.kernel_model.specs.Items.{FinishRecord}
use Rattle.kernel_model.specs.Replay.{DeviceState}
use Rattle.kernel_model.specs.Versions.{Version, versions}
use Rattle.kernel_model.specs.Intervals.{Interval, finish_interval, is_empty, read_interval}
use Rattle.kernel_model.specs.OpenTasks.{open_tasks}
use Rattle.kernel_model.specs.Cores.{Attempt, Core, Idle, all_but}
use Rattle.kernel_model.specs.Room.{has_room, interval_of, is_needed, without_room}
use Rattle.kernel_model.specs.Chain.{floored}
use Rattle.kernel_model.proofs.ForCallers.{AreFrom, IsAfter, as_before, bounds_interval, chosen_exists, core_at, no_core, not_needed, raised_same, turned_now}
use Rattle.kernel_model.specs.Verdicts.{Empty, Granted, Records, Verdict, finish_of, room_verdict, verdict}
use Rattle.kernel_model.specs.Bounds.{bound_of, raised_by}
use Rattle.kernel_model.specs.History.{IsNumbered}
use Rattle.slot_model.specs.Slots.{Image}
use Rattle.slot_model.specs.Kept.{Kept}
use Rattle.slot_model.specs.Places.{free_slot}
use Rattle.slot_model.specs.Tabled.{AreTables, Place, Tables, View, free_place, full_object, places_of, table_finish, table_room, table_verdict, views_of}
use Rattle.slot_model.specs.Standing.{Stands}
use Rattle.slot_model.proofs.Chains.{IsSeen}
use Rattle.slot_model.proofs.Nexts.{newest_of, seen_of}
use Rattle.slot_model.proofs.Rooms.{HaveEnded, free_is_room}
use Rattle.slot_model.proofs.Turning.{idle_needs}
use Rattle.slot_model.proofs.Views.{free_at}

-- what the others of a core need, seen after a boot
pub others_see : {M : Type 0} → (base : DeviceState) (history : List FinishRecord) (floor o : ℕ) (cores : List (Core M)) (n : ℕ) → AreFrom base history floor cores → IsSeen floor (is_needed base history o (all_but n cores))
others_see {M} base history floor o cores n f v = sym (same (floored floor v)) ∙ seen_of base history floor o (set cores n Idle) from v ∙ same v
  where
    same : (v : Version) → is_needed base history o (set cores n Idle) v ≡ is_needed base history o (all_but n cores) v
    same v = idle_needs base history o v cores n Idle refl

    from : AreFrom base history floor (set cores n Idle)
    from k i e = at (get_or (set cores n Idle) k Idle) (core_at cores n Idle k) e
      where
        at : (x : Core M) → IsAfter cores n Idle k x → interval_of base history x ≡ Some i → floor ≤ i.lo
        at x (turned_now g h) e = absurd (cc (h, e))
        at x (as_before g h) e = f k i (ap (interval_of base history) (sym h) ∙ e)
        at x (no_core h) e = absurd (cc (h, e))

-- a slot is free, by tables, where there is room
pub room_at : {M : Type 0} → (sizes : Sizes) (base : DeviceState) (floor : ℕ) (history : List FinishRecord) (cores : List (Core M)) (kept : Kept) (image : Image) → IsNumbered base history → ((o : ℕ) → HaveEnded (versions base o history)) → Stands sizes base floor history cores kept image →
    (n o : ℕ) → o < sizes.objects → is_some (free_slot sizes base history (all_but n cores) kept o) ≡ has_room sizes base history (all_but n cores) o
room_at sizes base floor history cores kept image num ended s n o l =
    let v = chosen_exists base o history None None tt in
    free_is_room base history floor o (sizes.slots o) (is_needed base history o cores) (image o) (all_but n cores) (others_see base history floor o cores n s.starts) (not_needed base history o n cores) (versions base o history) v.0 v.1 (newest_of base o history) (ended o) (kept.chains o) (s.objects o l)

-- the least written object without a free slot
full_at : {M : Type 0} → (sizes : Sizes) (base : DeviceState) (floor : ℕ) (history : List FinishRecord) (cores : List (Core M)) (kept : Kept) (image : Image) → IsNumbered base history → ((o : ℕ) → HaveEnded (versions base o history)) → Stands sizes base floor history cores kept image →
    (places : ℕ → List Place) → ((o : ℕ) → o < sizes.objects → places o ≡ places_of (kept.chains o)) → (n : ℕ) (ws : List Write) → AllByRecursion (λ w. w.object < sizes.objects) ws →
    full_object sizes places (views_of base history kept.pins 0 (set cores n Idle)) ws ≡ without_room sizes base history (all_but n cores) ws
full_at sizes base floor history cores kept image num ended s places p n [] r = refl
full_at {M} sizes base floor history cores kept image num ended s places p n (w ∷ ws) r = ap₂ (λ (b : Bool) (x : Option ℕ). cond b x (Some w.object)) same (full_at sizes base floor history cores kept image num ended s places p n ws r.1)
  where
    views : List View
    views = views_of base history kept.pins 0 (set cores n Idle)

    same : is_some (free_place (sizes.slots w.object) w.object views (places w.object)) ≡ has_room sizes base history (all_but n cores) w.object
    same =
        ap (λ ps. is_some (free_place (sizes.slots w.object) w.object views ps)) (p w.object r.0) ∙ ap is_some (free_at sizes base floor history cores kept image num s n w.object r.0)
        ∙ room_at sizes base floor history cores kept image num ended s n w.object r.0

-- the verdict
pub verdict_at : {M : Type 0} → (sizes : Sizes) (base : DeviceState) (floor : ℕ) (history : List FinishRecord) (cores : List (Core M)) (kept : Kept) (image : Image) → IsNumbered base history → ((o : ℕ) → HaveEnded (versions base o history)) → Stands sizes base floor history cores kept image →
    (t : Tables) → AreTables sizes base floor history kept t → (n : ℕ) (a : Attempt M) (run : Run) → floor ≤ a.start → AllByRecursion (λ w. w.object < sizes.objects) run.writes →
    table_verdict sizes t (views_of base history kept.pins 0 (set cores n Idle)) a.task (read_interval base history a.start a.reads) run ≡ verdict sizes base history (all_but n cores) a run
verdict_at {M} sizes base floor history cores kept image num ended s t p n a run l r =
    ap (λ (j : Interval). cond (is_empty j) (Empty j.lo (unwrap_or j.hi 0)) (table_room sizes t a.task run j (full_object sizes t.places views run.writes))) interval
    ∙ ap (λ (v : Verdict). cond (is_empty i) (Empty i.lo (unwrap_or i.hi 0)) v) (ap (table_room sizes t a.task run i) (full_at sizes base floor history cores kept image num ended s t.places p.places n run.writes r) ∙ room (without_room sizes base history (all_but n cores) run.writes))
  where
    views : List View
    views = views_of base history kept.pins 0 (set cores n Idle)

    i : Interval
    i = finish_interval base history a.start a.reads run

    bounds : (ws : List Write) → AllByRecursion (λ w. w.object < sizes.objects) ws → AllByRecursion (λ w. t.bounds w.object ≡ bound_of floor w.object history) ws
    bounds [] r = tt
    bounds (w ∷ ws) r = (p.bounds w.object r.0, bounds ws r.1)

    interval : raised_by t.bounds run.writes (read_interval base history a.start a.reads) ≡ i
    interval = raised_same t.bounds (λ o. bound_of floor o history) run.writes (read_interval base history a.start a.reads) (bounds run.writes r) ∙ bounds_interval base history floor a.start a.reads run l

    finish : table_finish t a.task run i ≡ finish_of base history a.task a.start a.reads run
    finish = rw (p.number, p.clock, p.next) refl

    room : (o : Option ℕ) → table_room sizes t a.task run i o ≡ room_verdict sizes base history a run o
    room (Some o) = refl
    room None =
        ap (λ m. cond (leb (m - 1 + length run.spawns) sizes.records) (Granted (table_finish t a.task run i)) (Records m (length run.spawns))) p.pending
        ∙ ap (λ f. cond (leb (length (open_tasks base history) - 1 + length run.spawns) sizes.records) (Granted f) (Records (length (open_tasks base history)) (length run.spawns))) finish
