-- A finish whose writes are all made may join.
use Rattle.std.proofs.Common.{◌≡◌, ◌≢◌, ℕ, zero, suc, ◌+◌, ◌-◌, ◌<◌, ◌≤◌, Bool, true, false, cond, List, [], ◌∷◌, ◌++◌, length, map, get_or, Option, Some, None, is_some, refl, sym, ap, ap₂, ◌∙◌, subst, arith}
use Rattle.std.specs.Prelude.{slice_index}
use Rattle.std.proofs.lemmas.Bool.{le-leb, ne_eqb}
use Rattle.std.proofs.lemmas.List.{length-map}
use Rattle.object_sets.specs.ObjectSets.{is_among}
use Rattle.rv_core.specs.State.{MachineState}
use Rattle.nv_base.specs.declared.ids.TaskId.{TaskId}
use Rattle.nv_base.specs.declared.ids.Point.{Point}
use Rattle.nv_base.specs.declared.lines.Spawn as base_spawn
use Rattle.kernel_model.specs.Effects.{Run, Spawn, written, object_words}
use Rattle.kernel_model.specs.Items.{Entry, FinishRecord}
use Rattle.kernel_model.specs.OpenTasks.{children, open_tasks, others_than}
use Rattle.kernel_model.specs.Replay.{TaskRec, max_id, next_id, task_under}
use Rattle.kernel_model.specs.Cores.{Core, Committing, Idle, finished_by}
use Rattle.kernel_model.specs.Events.{CoreStep, Power, core_event, with_finish}
use Rattle.kernel_model.specs.Sound.{IsSoundCore}
use Rattle.kernel_model.proofs.ForCallers.{commit_above, length-open_tasks, open_order}
use Rattle.slot_model.specs.Kept.{Held, newest_slot}
use Rattle.slot_model.specs.Tabled.{places_of}
use Rattle.set_model.specs.Sets.{ObjPart, object_at}
use Rattle.set_model.specs.Views.{spawn_of}
use Rattle.device_model.specs.Words.{Words}
use Rattle.device_model.specs.IndexWords.{Index, IsIndex}
use Rattle.shadow_index.specs.States.{index_of}
use Rattle.task_queue.specs.Queues.{Queued, has_room}
use Rattle.ver_table.specs.Chains.{Chain, chain_at, holds_newest}
use Rattle.ver_table.proofs.Reopens.{slots_told}
use Rattle.table_machine.specs.Tables as tables
use Rattle.table_machine.specs.Tables.{Saves, Tables, each_from, world_in}
use Rattle.table_machine.specs.Represents.{chain_of}
use Rattle.table_machine.proofs.SeatLists.{chain-each}
use Rattle.vol_copy.specs.Tries.{IsFor}
use Rattle.vol_copy.proofs.WriteTables.{written-table}
use Rattle.committed_state.specs.Committed.{IsFinishOf, MayJoin}
use Rattle.committed_state.specs.Joining.{IsFreeAt}
use Rattle.committed_state.specs.declared.joining.Joining.{Joining}
use Rattle.core_seats.specs.declared.seat.Seat as own
use Rattle.core_seats.specs.Holding.{IsSaving}
use Rattle.kernel_core.specs.Commits.{IsCommitting, setting_on}
use Rattle.kernel_core.specs.Keeping.{IsLawful, IsOn, Keeps}
use Rattle.kernel_core.specs.Turns.{IsSavingAt, held_at}
use Rattle.kernel_core.specs.declared.kernel.Kernel.{Kernel}
use Rattle.kernel_core.proofs.Turned.{all_at}
use Rattle.kernel_core.proofs.Represented.{Commits, core_commits, has_ids, index_in, state_on, tables_are}
use Rattle.kernel_core.proofs.Writing.{on_saving, saving_stands}

-- the joining that the code makes of the core's seat
pub record IsJoiningOf (k : Kernel) (n : ℕ) (g : IsSavingAt k n true) (j : Joining) : Type 0 where
  pub task : j.task ≡ g.saving.entry.task
  pub point : j.point ≡ g.saving.entry.point
  pub reads : j.reads ≡ g.seat.attempt.reads
  pub written : j.written ≡ g.seat.attempt.written

-- what core n saves, of which all writes are made
pub whole_held : (k : Kernel) (words : Words) (t : Tables MachineState) (n : ℕ) (h : Keeps k words t) (g : IsSavingAt k n true) → held_at t n ≡ Saves (saving_stands k words t n true h g).finish (index_of k.committed.after) 0
whole_held k words t n h g = let s = saving_stands k words t n true h g in s.is ∙ ap (λ (m : ℕ). Saves s.finish (index_of k.committed.after) m) (s.whole g.whole)

-- whether an object was written, by the set of the attempt
pub written_told : (xs : List ℕ) (o : ℕ) (b : Bool) (words : List ℕ) → is_some (cond b (Some words) None) ≡ b
written_told xs o true words = refl
written_told xs o false words = refl

pub finish_is : (k : Kernel) (words : Words) (t : Tables MachineState) (n : ℕ) (h : Keeps k words t) (g : IsSavingAt k n true) (j : Joining) → IsJoiningOf k n g j → IsFinishOf j (saving_stands k words t n true h g).finish
finish_is k words t n h g j q =
    let s = saving_stands k words t n true h g in
    let a = g.seat.attempt in
    record {
      task = ap (λ (e : Entry). e.task) s.entry ∙ sym (ap (λ (z : TaskId). z.0) q.task);
      point = ap (λ (e : Entry). e.point) s.entry ∙ sym (ap (λ (z : Point). z.0) q.point);
      reads = ap (λ (r : Run). r.reads) s.run ∙ sym q.reads;
      writes = λ o. ap (λ (r : Run). is_some (written r.writes o)) s.run ∙ ap is_some (written-table a.written a.words o) ∙ written_told a.written o (is_among o a.written) (object_words a.words o) ∙ sym (ap (is_among o) q.written);
    }

-- the index is the state's
pub index_is : (k : Kernel) (words : Words) (t : Tables MachineState) → IsOn k words t → (l : IsLawful k words t) → index_of k.committed.state ≡ index_in k words t l
index_is k words t o l = sym o.index ∙ ap (λ (u : Tables MachineState). u.index) (tables_are k words t l o.power)

-- ---- the slots

-- the newest version's slot is no other
newest_other : (slot : ℕ) (chain : List Held) → slot ≢ newest_slot chain → holds_newest slot (places_of chain) ≡ false
newest_other slot [] ne = refl
newest_other slot (h ∷ chain) ne = ne_eqb h.slot slot (λ e. ne (sym e))

-- a chain of a table of versions, as the kernel over tables has it
tabled_at : (chains : List Chain) (o : ℕ) → tables.chain_at (map (λ (c : Chain). let x : tables.Chain = record { bound = c.bound; places = c.stored } in x) chains) o ≡ record { bound = (chain_at chains o).bound; places = (chain_at chains o).stored }
tabled_at [] o = refl
tabled_at (c ∷ chains) zero = refl
tabled_at (c ∷ chains) (suc o) = tabled_at chains o

each_at : (f : ℕ → ℕ) (k n o : ℕ) → o < n → slice_index (each_from k n f) o ≡ f (k + o)
each_at f k zero o l = absurd (omega (arith, l))
each_at f k (suc n) zero l = ap f (let e : k ≡ k + 0 = omega arith in e)
each_at f k (suc n) (suc o) l = each_at f (k + 1) n o (omega (arith, l)) ∙ ap f (let e : k + 1 + o ≡ k + suc o = omega arith in e)

-- how many slots an object has
slots_at : (xs : List ObjPart) (o : ℕ) (d : ObjPart) → o < length xs → slice_index (map (λ (p : ObjPart). p.slots) xs) o ≡ (get_or xs o d).slots
slots_at [] o d l = absurd (omega (arith, l))
slots_at (x ∷ xs) zero d l = refl
slots_at (x ∷ xs) (suc o) d l = slots_at xs o d (omega (arith, l))

some_of : (x : Option (List ℕ)) → is_some x ≡ true → (w : List ℕ) × (x ≡ Some w)
some_of None e = absurd (cc e)
some_of (Some w) e = (w, refl)

same_tasks : (a b : ℕ) (x y : List TaskRec) (m p : ℕ) (u v : List Spawn) → a ≡ b → x ≡ y → m ≡ p → u ≡ v → others_than a x ++ children m u ≡ others_than b y ++ children p v
same_tasks a b x y m p u v e f g h = rw (e, f, g, h) refl

-- ---- it may join

pub may_join : (k : Kernel) (words : Words) (t : Tables MachineState) (n : ℕ) (g : IsSavingAt k n true) → Keeps k words t → IsLawful k words t → (j : Joining) (spawns : List base_spawn.Spawn) → IsJoiningOf k n g j → spawns ≡ g.seat.attempt.spawns → MayJoin k.set j spawns k.committed
may_join k words t n g h l j spawns q f = record {
  open_ = λ none. let p = sym none ∙ under in cc p;
  few = let a = (all_at (λ (u : own.Seat). IsFor k.set u.attempt) k.seats.items n g.seat h.attempts g.inside g.seat_is).spawns in let b = ap length f in omega (arith, a, b);
  records = records;
  ids = ids;
  free = free;
  after = next_index;
  next = ap (λ (x : Index). x.next) z.1 ∙ ap₂ (λ (x : Index) (m : ℕ). x.next + m) (sym state_is) (ap length spawned ∙ length-map spawns spawn_of);
  tasks = ap (λ (x : Index). x.tasks) z.1 ∙ same_tasks _ _ _ _ _ _ _ _ (is_finish.task) (ap (λ (x : Index). x.tasks) (sym state_is)) (core.0.numbered.0.1 ∙ ap (λ (x : Index). x.next) (sym state_is)) spawned;
}
  where
    s : IsSaving g.seat g.saving (index_of k.committed.after) (held_at t n)
    s = saving_stands k words t n true h g

    is_finish : IsFinishOf j s.finish
    is_finish = finish_is k words t n h g j q

    o : IsOn k words t
    o = on_saving k words t n true h g

    c : IsCommitting k.set words k.committed k.writer g.seat t s.finish (index_of k.committed.after) 0
    c = o.commits n g.seat s.finish (index_of k.committed.after) 0 (g.inside, g.seat_is) (whole_held k words t n h g)

    z : Commits l.represented.0.kept (index_in k words t l) (get_or l.state.cores n Idle) s.finish (index_of k.committed.after) 0
    z = core_commits k words t l n s.finish (index_of k.committed.after) 0 o.power (whole_held k words t n h g)

    core : IsSoundCore (world_in (setting_on k.set words) l.base) l.state.history (Committing s.finish 0)
    core = subst (IsSoundCore (world_in (setting_on k.set words) l.base) l.state.history) z.0 (l.represented.1.lawful.sound.cores n)

    state_is : index_of k.committed.state ≡ index_in k words t l
    state_is = index_is k words t o l

    spawned : s.finish.run.spawns ≡ map spawn_of spawns
    spawned = ap (λ (r : Run). r.spawns) s.run ∙ ap (map spawn_of) (sym f)

    under : task_under (index_of k.committed.state).tasks j.task.0 ≡ Some core.2.0
    under = ap₂ (λ (x : Index) (m : ℕ). task_under x.tasks m) state_is (sym is_finish.task) ∙ core.2.1

    next_index : IsIndex k.set (index_of k.committed.after)
    next_index = c.begun.next.index

    records : has_room (length spawns) k.committed.queue ≡ true
    records =
        let based = l.represented.1.lawful.set_up.based in
        let order = open_order l.base based.old based.in_order l.state.history l.represented.1.lawful.sound.history.numbered in
        let more = length-open_tasks l.base s.finish l.state.history order core.2.0 core.2.1 in
        let all : length (open_tasks l.base (s.finish ∷ l.state.history)) ≤ k.set.records = core.1 in
        let tasks : length k.committed.queue.tasks ≡ length (open_tasks l.base l.state.history) = ap (λ (x : Queued). length x.tasks) o.committed.queue ∙ ap (λ (x : Index). length x.tasks) state_is in
        let room : k.committed.queue.records ≡ k.set.records = ap (λ (x : Queued). x.records) o.committed.queue in
        let count = ap length spawned ∙ length-map spawns spawn_of in
        le-leb (length k.committed.queue.tasks - 1 + length spawns) k.committed.queue.records (omega (arith, more, all, tasks, room, count))

    ids : k.committed.state.next.0 + length spawns ≤ max_id
    ids =
        let world = world_in (setting_on k.set words) l.base in
        let history = ap (λ (p : Power). (core_event world l.state n p).0.history) (state_on k words t l o.power) ∙ ap (λ (x : Core MachineState). with_finish (finished_by x) l.state.history) z.0 in
        let few : next_id l.base l.state.history + length s.finish.run.spawns ≤ max_id = subst (λ (xs : List FinishRecord). next_id l.base xs ≤ max_id) history (has_ids k words t (CoreStep n) l) in
        let next : k.committed.state.next.0 ≡ next_id l.base l.state.history = ap (λ (x : Index). x.next) state_is in
        let count = ap length spawned ∙ length-map spawns spawn_of in
        omega (arith, few, next, count)

    chain : (p : ℕ) → p < length k.set.objects → (let x : tables.Chain = record { bound = (chain_at k.committed.versions p).bound; places = (chain_at k.committed.versions p).stored } in x) ≡ chain_of l.represented.0 l.state.history p
    chain p b = sym (tabled_at k.committed.versions p) ∙ ap (λ (xs : List tables.Chain). tables.chain_at xs p) (sym o.chains ∙ ap (λ (u : Tables MachineState). u.chains) (tables_are k words t l o.power)) ∙ chain-each (chain_of l.represented.0 l.state.history) (length k.set.objects) p b

    free : (p : ℕ) → p < length k.set.objects → is_among p j.written ≡ true → IsFreeAt (slice_index k.committed.after.slots.items p) j.point.0 (chain_at k.committed.versions p)
    free p b m =
        let w = some_of (written s.finish.run.writes p) (is_finish.writes p ∙ m) in
        let slots : (chain_at k.committed.versions p).slots ≡ (object_at k.set p).slots = sym (slots_told k.committed.versions p) ∙ ap (λ (xs : List ℕ). slice_index xs p) h.rooms.slots ∙ slots_at k.set.objects p _ b in
        let named = next_index.named p b in
        let newest : slice_index c.held.index.slots p ≡ newest_slot (l.represented.0.kept.chains p) =
        ap (λ (x : Index). slice_index x.slots p) (c.index ∙ state_is) ∙ each_at (λ (u : ℕ). newest_slot (l.represented.0.kept.chains u)) 0 (length k.set.objects) p b ∙ ap (λ (u : ℕ). newest_slot (l.represented.0.kept.chains u)) (let e : 0 + p ≡ p = omega arith in e) in
        let other = c.begun.next.other_slot p w.0 w.1 in
        let above = commit_above (world_in (setting_on k.set words) l.base) l.state l.represented.0.floor n 0 p s.finish w.0 l.represented.1.lawful.sound l.represented.1.slots.since z.0 w.1 in
        let bound = ap (λ (x : tables.Chain). x.bound) (chain p b) in
        let point = is_finish.point in
        record {
          inside = omega (arith, named, slots);
          older = ap (λ (x : tables.Chain). holds_newest (slice_index k.committed.after.slots.items p) x.places) (chain p b) ∙ newest_other (slice_index k.committed.after.slots.items p) (l.represented.0.kept.chains p) (λ e. other (e ∙ sym newest));
          bound = omega (arith, above, bound, point);
        }
