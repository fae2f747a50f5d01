-- A try whose interval of reads is not empty finds a version of each object.
use Rattle.std.proofs.Common.{◌≡◌, ℕ, ◌<◌, false, List, get_or, length, Option, Some, refl, sym, ap, ◌∙◌, subst}
use Rattle.kernel_model.specs.Items.{Entry, FinishRecord}
use Rattle.kernel_model.specs.Replay.{DeviceState}
use Rattle.kernel_model.specs.Intervals.{Interval, is_empty, read_interval}
use Rattle.kernel_model.specs.Cores.{Attempt, Core, Idle, Running, Copying, Ready, Committing}
use Rattle.kernel_model.specs.Room.{interval_of}
use Rattle.kernel_model.specs.Events.{Power, On, Boot, State}
use Rattle.kernel_model.specs.Sound.{IsSoundCore}
use Rattle.kernel_model.proofs.ForCallers.{read_finds}
use Rattle.slot_model.specs.Kept.{Kept}
use Rattle.slot_model.specs.Tabled.{Place, chosen_place}
use Rattle.slot_model.proofs.ForCallers.{read_at}
use Rattle.device_model.specs.Words.{Words}
use Rattle.device_model.specs.IndexWords.{Index}
use Rattle.table_machine.specs.Tables.{Vacant, Runs, Try, Setting, Tables, sizes_in, world_in}
use Rattle.table_machine.specs.Places.{places_at, seen_in}
use Rattle.table_machine.specs.Represents.{Agrees, Ghost, chains_of, copies_of, index_of, seat_of, slots_in, tables_on, try_of}
use Rattle.table_machine.proofs.SeatLists.{seat_at}
use Rattle.table_machine.proofs.OnPower.{are_tables}

-- tables with power on are those of a state with power on
pub on_tables : {M : Type 0} → (x : Setting M) (base : DeviceState) (last : Option Entry) (g : Ghost) (s : State M) (p : Power) → (tables_on x base last g s p).power ≡ On → tables_on x base last g s p ≡ tables_on x base last g s On
on_tables x base last g s On e = refl
on_tables x base last g s (Boot left) e = absurd (cc e)

pub tables_now : {M : Type 0} → (x : Setting M) (base : DeviceState) (last : Option Entry) (g : Ghost) (t : Tables M) (words : Words) (s : State M) → Agrees x base last g t words s → t.power ≡ On → t ≡ tables_on x base last g s On
tables_now x base last g t words s a e = a.tables ∙ on_tables x base last g s s.power (ap (λ (u : Tables _). u.power) (sym a.tables) ∙ e)

-- a seat that runs is that of a core that runs
pub running_core : {M : Type 0} → (base : DeviceState) (history : List FinishRecord) (kept : Kept) (index : Index) (n : ℕ) (c : Core M) (t : Try M) → seat_of base history kept index n c ≡ Runs t → (a : Attempt M) × (c ≡ Running a) × (try_of base history a (copies_of base history a.reads) ≡ t)
running_core base history kept index n Idle t e = absurd (cc e)
running_core base history kept index n (Running a) t e = (a, refl, cc e)
running_core base history kept index n (Copying a copied) t e = absurd (cc e)
running_core base history kept index n (Ready a outcome) t e = absurd (cc e)
running_core base history kept index n (Committing i left) t e = absurd (cc e)

pub version_exists : {M : Type 0} → (x : Setting M) (base : DeviceState) (last : Option Entry) (g : Ghost) (t : Tables M) (words : Words) (s : State M) (n : ℕ) (u : Try M) → Agrees x base last g t words s → t.power ≡ On → get_or t.seats n Vacant ≡ Runs u → is_empty u.interval ≡ false
    → (o : ℕ) → o < length x.set.objects → (p : Place) × (chosen_place u.interval.hi (places_at t.chains o) ≡ Some p)
version_exists {M} x base last g t words s n u a on runs some o l = at (get_or s.cores n Idle) refl
  where
    now : t ≡ tables_on x base last g s On
    now = tables_now x base last g t words s a on

    index : Index
    index = index_of x base last g.kept s.history

    seat : get_or t.seats n Vacant ≡ seat_of base s.history g.kept index n (get_or s.cores n Idle)
    seat = ap (λ (v : Tables M). get_or v.seats n Vacant) now ∙ seat_at (seat_of base s.history g.kept index) (λ k. refl) s.cores n

    at : (c : Core M) → get_or s.cores n Idle ≡ c → (p : Place) × (chosen_place u.interval.hi (places_at t.chains o) ≡ Some p)
    at c e =
        let core = running_core base s.history g.kept index n c u (ap (seat_of base s.history g.kept index n) (sym e) ∙ sym seat ∙ runs) in
        let b = core.0 in
        let i = read_interval base s.history b.start b.reads in
        let same : i ≡ u.interval = ap (λ (v : Try M). v.interval) core.2 in
        let ne : is_empty i ≡ false = ap is_empty same ∙ some in
        let sound : IsSoundCore {M = M} (world_in x base) s.history (Running b) = subst (IsSoundCore (world_in x base) s.history) (e ∙ core.1) (a.lawful.sound.cores n) in
        let v = read_finds x.steps base s.history b.task b.start b.reads _ sound.2 ne o in
        let interval = ap (interval_of base s.history) (e ∙ core.1) in
        let r = read_at (sizes_in x) base g.floor s.history s.cores g.kept (slots_in x words) a.lawful.sound.history.numbered a.slots.stands (seen_in index (chains_of x g s.history)) (are_tables x base last g s.history) n o b.start b.reads v.0 interval ne l v.1 in
        (r.place, ap (λ (j : Interval). chosen_place j.hi (places_at t.chains o)) (sym same) ∙ ap (λ (w : Tables M). chosen_place i.hi (places_at w.chains o)) now ∙ r.chosen_is)
