use Rattle.std.proofs.Common.{◌≤◌, ℕ, List, length, sym, ap, ◌∙◌, subst, arith}
use Rattle.set_model.proofs.ForCallers.{few_records}
use Rattle.device_model.specs.IndexWords.{Index}
use Rattle.device_model.specs.Layouts.{IsKindOf}
use Rattle.device_model.specs.Devices.{Device, HoldsOn, first_on, format_on, need_on}
use Rattle.fram_dev.specs.Device.{Change}
use Rattle.shadow_index.specs.Tells.{IsLayoutOf, IsShift, device_of}
use Rattle.shadow_index.specs.declared.state.State.{State}
use Rattle.recovery.specs.Images.{IsStateOn, device_at, words_of}
use Rattle.table_machine.specs.Events.{reopened}
use Rattle.committed_state.specs.Committed.{HasRooms}
use Rattle.headline.specs.Runs.{first_state, formatted_origin}
use Rattle.kernel_core.specs.Events.{IsAt}
use Rattle.kernel_core.specs.Opening.{IsOpenedOn}
use Rattle.kernel_core.specs.declared.kernel.Kernel.{Kernel}
use Rattle.kernel_core.proofs.Moving.{format_left, front_all}
use Rattle.kernel_core.proofs.Opened.{HasBegun, begun, counted_later, first_kind_of, formatted, lost_read, own_of, read_first, read_index_fits}
use Rattle.kernel_core.proofs.kernel.Kernel.begin_fresh.Goals as goal

pub read_state-requires-clause-own : goal.read_state-requires-clause-own
read_state-requires-clause-own g c =
    let set = c.args.self.now.set in
    let f = formatted set (g.F.Fram.start c.args.dev.now) (g.F.Fram.start c.format.new.dev) _ _ c.whole_format_holds_first.ensures c.words_hold_one_state.ensures.device c.requires.room.2.limits c.requires.long c.format.ensures.same c.in-Ok.ensures.whole in
    own_of set (words_of (g.F.Fram.log c.format.new.dev) (g.F.Fram.start c.format.new.dev)) f.device

pub read_state-requires-clause-room : goal.read_state-requires-clause-room
read_state-requires-clause-room g c =
    let set = c.args.self.now.set in
    let f = formatted set (g.F.Fram.start c.args.dev.now) (g.F.Fram.start c.format.new.dev) _ _ c.whole_format_holds_first.ensures c.words_hold_one_state.ensures.device c.requires.room.2.limits c.requires.long c.format.ensures.same c.in-Ok.ensures.whole in
    subst (λ (d : Device). need_on d ≤ length (g.F.Fram.start c.format.new.dev)) (sym f.device) f.long

pub returns-in_default-read_state-clause-failed : goal.returns-in_default-read_state-clause-failed
returns-in_default-read_state-clause-failed g c =
    let set = c.args.self.now.set in
    let f = formatted set (g.F.Fram.start c.args.dev.now) (g.F.Fram.start c.format.new.dev) _ _ c.whole_format_holds_first.ensures c.words_hold_one_state.ensures.device c.requires.room.2.limits c.requires.long c.format.ensures.same c.in-Ok.ensures.whole in
    let lost = lost_read set (words_of (g.F.Fram.log c.format.new.dev) (g.F.Fram.start c.format.new.dev)) _ (g.F.Fram.lost c.format.new.dev) (g.F.Fram.lost c.read_state.new.dev) c.in_default-read_state.field-0 f c.in_default-read_state.ensures.refused in
    counted_later (g.F.Fram.lost c.args.dev.now) (g.F.Fram.lost c.format.new.dev) (g.F.Fram.lost c.read_state.new.dev) c.format.ensures.never_falls lost

pub reopen-requires : goal.reopen-requires
reopen-requires g c =
    let k = c.args.self.now in
    let set = k.set in
    let f = formatted set (g.F.Fram.start c.args.dev.now) (g.F.Fram.start c.format.new.dev) _ _ c.whole_format_holds_first.ensures c.words_hold_one_state.ensures.device c.requires.room.2.limits c.requires.long c.format.ensures.same c.in-Ok.ensures.whole in (
      set,
      record { limits = c.requires.room.2.limits; state = c.requires.room.2.rooms.state; after = c.read_state.ensures.room; slots = c.requires.room.2.rooms.slots; records = c.requires.room.2.rooms.records },
      read_index_fits set _ _ c.read_state.new.into c.words_hold_one_state.ensures.once c.requires.room.2.limits f c.in-Ok-read_state.ensures.held,
    )

pub returns-clause-opened : goal.returns-clause-opened
returns-clause-opened g c =
    let k = c.args.self.now in
    let set = k.set in
    let room = c.requires.room.2 in
    let words = words_of (g.F.Fram.log c.format.new.dev) (g.F.Fram.start c.format.new.dev) in
    let f = formatted set (g.F.Fram.start c.args.dev.now) (g.F.Fram.start c.format.new.dev) _ _ c.whole_format_holds_first.ensures c.words_hold_one_state.ensures.device room.limits c.requires.long c.format.ensures.same c.in-Ok.ensures.whole in
    let into = c.read_state.new.into in
    let h = first_on (device_of set 0) in
    let read = c.in-Ok-read_state.ensures.held in
    let is = read_first set words _ into c.words_hold_one_state.ensures.once f read in
    let rooms : HasRooms set (record k.committed { after = into }) = record { limits = room.limits; state = room.rooms.state; after = c.read_state.ensures.room; slots = room.rooms.slots; records = room.rooms.records } in
    let fits = read_index_fits set words _ into c.words_hold_one_state.ensures.once room.limits f read in
    let new : Kernel = record k { committed = c.reopen.new.self } in
    let state = c.reopen.ensures.state in
    let committed = c.reopen.ensures.committed set rooms fits in
    let holds = subst (λ (d : Device). HoldsOn d h words) (sym f.device) f.holds in
    let b : HasBegun new words h = record {
      limits = room.limits;
      own = own_of set words f.device;
      kind = subst (λ (d : Device). IsKindOf set.format d.kind) (sym f.device) (first_kind_of set.format room.limits.format);
      holds = holds;
      layout = subst (λ (d : Device). IsLayoutOf d k.layout) (sym f.device) room.layout;
      seats = room.seats;
      rooms = committed.rooms;
      committed = committed;
      chains = c.reopen.ensures.chains set rooms fits ∙ ap (λ (x : Index). reopened set x) is.index;
      state = subst (λ (s : State). IsStateOn (device_at set words) h s) (sym state) is;
      shift = subst (λ (s : State). IsShift set s.shift) (sym state) read.moved;
      device = ap (λ (s : State). device_of set s.shift) state ∙ read.device;
      writer = room.writer;
      owed = room.owed;
      listing = room.listing;
      power = room.power;
      capacity = omega (arith, room.capacity, room.room_is);
      few = omega (arith, c.requires.room.1, room.room_is);
      next = let few = few_records set room.limits in omega (arith, few, room.limits.tasks);
      number = omega arith;
    } in
    let opened = begun new words h c.opened_tables_represent.ensures (c.device_is_setting.ensures.setting _ (device_at set words).kind set room.limits) (c.tasks_are_a_machine.ensures set) b in
    let on_device = subst (λ (d : Device). IsAt (formatted_origin d) new words (first_state (formatted_origin d))) f.device opened in
    subst (λ (xs : List ℕ). IsOpenedOn new (words_of (g.F.Fram.log c.read_state.new.dev) xs)) (sym c.read_state.ensures.start)
    (subst (λ (l : List Change). IsOpenedOn new (words_of l (g.F.Fram.start c.format.new.dev))) (sym c.read_state.ensures.log) on_device)

pub returns-in_default-read_state-clause-cut : goal.returns-in_default-read_state-clause-cut
returns-in_default-read_state-clause-cut g c = front_all (format_on (device_of c.args.self.now.set 0)) (g.F.Fram.log c.args.dev.now) (g.F.Fram.log c.read_state.new.dev) (c.read_state.ensures.log ∙ c.in-Ok.ensures.whole)

pub returns-in_default-clause-left : goal.returns-in_default-clause-left
returns-in_default-clause-left g c =
    format_left c.args.self.now.set (g.F.Fram.start c.args.dev.now) (g.F.Fram.start c.format.new.dev) (g.F.Fram.log c.args.dev.now) (g.F.Fram.log c.format.new.dev) c.cut_format_is_old_blank_or_first.ensures c.requires.room.2.limits c.requires.long c.format.ensures.same
    (c.in_default.ensures.front (c.in_default.ensures.large c.requires.long))

pub returns-in_default-read_state-clause-left : goal.returns-in_default-read_state-clause-left
returns-in_default-read_state-clause-left g c =
    let set = c.args.self.now.set in
    let old = g.F.Fram.log c.args.dev.now in
    let new = g.F.Fram.log c.read_state.new.dev in
    format_left set (g.F.Fram.start c.args.dev.now) (g.F.Fram.start c.read_state.new.dev) old new c.cut_format_is_old_blank_or_first.ensures c.requires.room.2.limits c.requires.long (c.read_state.ensures.start ∙ c.format.ensures.same)
    (front_all (format_on (device_of set 0)) old new (c.read_state.ensures.log ∙ c.in-Ok.ensures.whole))

pub returns-clause-left : goal.returns-clause-left
returns-clause-left g c =
    let set = c.args.self.now.set in
    let old = g.F.Fram.log c.args.dev.now in
    let new = g.F.Fram.log c.read_state.new.dev in
    format_left set (g.F.Fram.start c.args.dev.now) (g.F.Fram.start c.read_state.new.dev) old new c.cut_format_is_old_blank_or_first.ensures c.requires.room.2.limits c.requires.long (c.read_state.ensures.start ∙ c.format.ensures.same)
    (front_all (format_on (device_of set 0)) old new (c.read_state.ensures.log ∙ c.in-Ok.ensures.whole))

pub returns-clause-long : goal.returns-clause-long
returns-clause-long g c =
    let set = c.args.self.now.set in
    let mid = g.F.Fram.start c.format.new.dev in
    let f = formatted set (g.F.Fram.start c.args.dev.now) mid _ _ c.whole_format_holds_first.ensures c.words_hold_one_state.ensures.device c.requires.room.2.limits c.requires.long c.format.ensures.same c.in-Ok.ensures.whole in
    subst (λ (xs : List ℕ). need_on (device_at set (words_of (g.F.Fram.log c.read_state.new.dev) xs)) ≤ length xs) (sym c.read_state.ensures.start)
    (subst (λ (l : List Change). need_on (device_at set (words_of l mid)) ≤ length mid) (sym c.read_state.ensures.log) (subst (λ (d : Device). need_on d ≤ length mid) (sym f.device) f.long))
