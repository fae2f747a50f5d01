use Rattle.std.proofs.Common.{ap₂, sym, ◌∙◌, subst}
use Rattle.device_model.specs.Words.{Words}
use Rattle.device_model.specs.Devices.{held_on}
use Rattle.recovery.specs.Images.{device_at, words_of}
use Rattle.kernel_core.specs.Opening.{IsBootOn}
use Rattle.kernel_core.proofs.BegunAgain.{again, begun_again}
use Rattle.kernel_core.proofs.kernel.Kernel.begin_again.Goals as goal

pub returns-then-is_worn-clause-refused : goal.returns-then-is_worn-clause-refused
returns-then-is_worn-clause-refused g c =
    let words = words_of (g.F.Fram.log c.args.dev.now) (g.F.Fram.start c.args.dev.now) in
    let h = held_on (device_at c.args.self.now.set words) words in
    let read = c.in_default.ensures.held in
    (read.held, sym (c.is_worn.ensures h read.state.index read.state.boots) ∙ c.if-is_worn.true)

pub returns-clause-booting : goal.returns-clause-booting
returns-clause-booting g c =
    let k = c.args.self.now in
    let words = words_of (g.F.Fram.log c.args.dev.now) (g.F.Fram.start c.args.dev.now) in
    let into = c.read_state.new.into in
    let h = held_on (device_at k.set words) words in
    let read = c.in_default.ensures.held in
    let room = c.requires.room in
    let booting = begun_again k words room.0 into c.of-self.result c.begin.result c.opened_tables_represent.ensures (c.device_is_setting.ensures.setting _ (device_at k.set words).kind k.set room.2.limits) (c.tasks_are_a_machine.ensures k.set)
    (record {
      has_room = room.2;
      few = room.1;
      own = c.requires.own;
      read = read;
      fresh = sym (c.is_worn.ensures h read.state.index read.state.boots) ∙ c.if-is_worn.false;
      after = c.read_state.ensures.room;
      layout_is = c.of-self.ensures;
      none = c.begin.ensures.none;
      ready = c.begin.ensures.ready;
    }) in
    subst (λ (w : Words). IsBootOn (again k into c.of-self.result c.begin.result) w) (sym (ap₂ words_of c.read_state.ensures.log c.read_state.ensures.start)) booting
