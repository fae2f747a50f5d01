-- A kernel that begins in a boot of a device whose words hold a state.
use Rattle.std.proofs.Common.{◌≡◌, ℕ, ◌≤◌, ◌||◌, Bool, true, false, map, replicate, nat_lt, Some, refl, sym, ap, subst, arith}
use Rattle.std.proofs.lemmas.Bool.{ltb-false}
use Rattle.rv_core.specs.State.{MachineState}
use Rattle.kernel_model.specs.Events.{Boot}
use Rattle.kernel_model.specs.Fit.{IsMachine}
use Rattle.set_model.specs.Sets.{TaskSet}
use Rattle.set_model.specs.Numbers.{sizes_of}
use Rattle.set_model.specs.Views.{entry_if, entry_of}
use Rattle.device_model.specs.Words.{Words}
use Rattle.device_model.specs.Layouts.{boot_turns_of, kind_named}
use Rattle.device_model.specs.Decoding.{Held, durable_of, is_worn, most_worn}
use Rattle.device_model.specs.Devices.{Device, held_on, layout_on}
use Rattle.shadow_index.specs.States.{HasRoom, HasTaken, index_of}
use Rattle.shadow_index.specs.Tells.{IsLayoutOf, device_of}
use Rattle.shadow_index.specs.declared.layout.Layout.{Layout}
use Rattle.shadow_index.specs.declared.state.State.{State}
use Rattle.recovery.specs.Booting.{IsBooting, turns_of}
use Rattle.recovery.specs.Images.{IsOwn, device_at}
use Rattle.recovery.specs.Reading.{IsRead}
use Rattle.recovery.specs.declared.boot.Boot as own
use Rattle.recovery.proofs.KindLaws.{named_magic}
use Rattle.recovery.proofs.ShiftLaws.{held_named}
use Rattle.headline.specs.Runs.{booting_origin, first_state}
use Rattle.table_machine.specs.Tables.{Tables, Vacant}
use Rattle.table_machine.specs.Simulates.{IsSetting, opened_tables}
use Rattle.task_model.specs.TaskSteps.{task_steps}
use Rattle.core_seats.specs.Holding.{AreSeats}
use Rattle.kernel_core.specs.Commits.{setting_on}
use Rattle.kernel_core.specs.Keeping.{IsInBoot, Keeps}
use Rattle.kernel_core.specs.Events.{IsAt}
use Rattle.kernel_core.specs.Opening.{HasRoomFor, IsBootOn}
use Rattle.kernel_core.specs.declared.kernel.Kernel.{Kernel}
use Rattle.kernel_core.specs.declared.kernel.Power.TheVariants as power
use Rattle.kernel_core.proofs.Idle.{idle_kept, vacant_seats}
use Rattle.kernel_core.proofs.Opened.{OpenedLaw, kept_on, machine_on}

-- ---- a state that is not worn

neither : (a b : Bool) → (a || b) ≡ false → (a ≡ false) × (b ≡ false)
neither true b e = absurd (cc e)
neither false b e = (refl, e)

few_of : (n : ℕ) → nat_lt most_worn n ≡ false → n ≤ 4000000000
few_of n e = ltb-false most_worn n e

-- its numbers are within the bound
pub record IsWithin (h : Held) : Type 0 where
  pub number : h.index.number ≤ 4000000000
  pub next : h.index.next ≤ 4000000000

pub within : (h : Held) → is_worn (durable_of h) ≡ false → IsWithin h
within h e =
    let one = neither (nat_lt most_worn h.index.number) (nat_lt most_worn h.index.next || nat_lt most_worn h.boots) e in
    let two = neither (nat_lt most_worn h.index.next) (nat_lt most_worn h.boots) one.1 in
    record { number = few_of h.index.number one.0; next = few_of h.index.next two.0 }

-- ---- the kernel

-- in room for a state no word of it is taken
pub none_taken : (set : TaskSet) (s : State) → HasRoom set s → HasTaken set 0 s
none_taken set s room = record { room = room; last = λ l. absurd (omega (arith, l)); tasks = λ l. absurd (omega (arith, l)) }

-- once the state was read, and the boot stands before its first turn
abbrev pub again : Kernel → State → Layout → own.Boot → Kernel
again k into layout b = record k { committed = record k.committed { after = into }; layout = layout; power = power.Boot b }

-- the tables of what a device holds, before the first turn of a boot
abbrev pub booting_tables : Kernel → Words → Tables MachineState
booting_tables k words =
    let d = device_at k.set words in
    opened_tables (setting_on k.set words) (held_on d words) k.set.cores (Boot (boot_turns_of (layout_on d)))

-- what was found
pub record HasSeen (k : Kernel) (words : Words) (room : ℕ) (into : State) (layout : Layout) (b : own.Boot) : Type 0 where
  pub has_room : HasRoomFor k.set room k
  pub few : room ≤ 1000000
  pub own : IsOwn k.set words
  pub read : IsRead k.set words into
  pub fresh : is_worn (durable_of (held_on (device_at k.set words) words)) ≡ false
  pub after : HasRoom k.set into
  pub layout_is : IsLayoutOf (device_of k.set into.shift) layout
  pub none : turns_of b ≡ 0
  pub ready : (words : Words) (into : State) → HasTaken k.set 0 into → IsBooting k.set words b into

seen_boot : (k : Kernel) (words : Words) (room : ℕ) (into : State) (layout : Layout) (b : own.Boot) → HasSeen k words room into layout b → IsInBoot (again k into layout b) words (booting_tables k words) b
seen_boot k words room into layout b s =
    let turns = boot_turns_of (layout_on (device_at k.set words)) in
    record {
      left = turns;
      some = omega arith;
      counted = let n = s.none in omega (arith, n);
      power = refl;
      boots = refl;
      index = refl;
      root = refl;
      chains = refl;
      booting = s.ready words into (none_taken k.set into s.after);
    }

seen_keeps : (k : Kernel) (words : Words) (room : ℕ) (into : State) (layout : Layout) (b : own.Boot) → HasSeen k words room into layout b → Keeps (again k into layout b) words (booting_tables k words)
seen_keeps k words room into layout b s =
    let h = s.has_room in
    record {
      limits = h.limits;
      cores = h.seats.number;
      few = let n = h.seats.number in omega (arith, n, h.limits.cores);
      attempts = idle_kept k.set k.seats.items h.seats.all;
      own = s.own;
      layout = subst (λ (d : Device). IsLayoutOf d layout) s.read.device s.layout_is;
      rooms = record { limits = h.limits; state = h.rooms.state; after = s.after; slots = h.rooms.slots; records = h.rooms.records };
      writer = h.writer;
      seats = subst (λ (n : ℕ). AreSeats k.seats.items (index_of into) (replicate n Vacant)) h.seats.number (vacant_seats k.set k.seats.items (index_of into) h.seats.all);
      owed = sym (ap entry_if h.owed);
      entries = sym (ap (map entry_of) h.listing);
      capacity = let c = h.capacity in let r = h.room_is in omega (arith, c, r);
      powered = seen_boot k words room into layout b s;
    }

seen_at : (k : Kernel) (words : Words) (room : ℕ) (into : State) (layout : Layout) (b : own.Boot) → OpenedLaw → IsSetting (setting_on k.set words) → IsMachine (task_steps k.set) (sizes_of k.set) → HasSeen k words room into layout b
    → (let o = booting_origin (device_at k.set words) (held_on (device_at k.set words) words) in IsAt o (again k into layout b) words (first_state o))
seen_at k words room into layout b law setting machine s =
    let d = device_at k.set words in
    let h = held_on d words in
    let named = held_named k.set.format d.kind k.set h words s.read.held in
    let in_bound = within h s.fresh in
    record {
      device = refl;
      tables = booting_tables k words;
      keeps = seen_keeps k words room into layout b s;
      represented = law (setting_on k.set words) h words k.set.cores (Boot (boot_turns_of (layout_on d))) setting (machine_on k.set d machine) (kept_on d h words s.has_room.limits s.read.held) (let n = in_bound.next in omega (arith, n));
      kind = subst (λ (w : ℕ). kind_named k.set.format w ≡ Some d.kind) (named_magic k.set.format (words 0) d.kind named) named;
      ids = let n = in_bound.next in let r = s.has_room.room_is in let f = s.few in omega (arith, n, r, f);
      numbers = let n = in_bound.number in let r = s.has_room.room_is in let f = s.few in omega (arith, n, r, f);
      room = omega arith;
    }

pub begun_again : (k : Kernel) (words : Words) (room : ℕ) (into : State) (layout : Layout) (b : own.Boot) → OpenedLaw → IsSetting (setting_on k.set words) → IsMachine (task_steps k.set) (sizes_of k.set) → HasSeen k words room into layout b → IsBootOn (again k into layout b) words
begun_again k words room into layout b law setting machine s = record {
  held = record { holds = s.read.held; fresh = s.fresh };
  at = seen_at k words room into layout b law setting machine s;
}
