use Rattle.std.proofs.Common.{sym, ap, ◌∙◌, refl}
use Rattle.core_seats.specs.Others.{saves_in}
use Rattle.kernel_core.proofs.Waiting.{refuses_empty, refuses_records, refuses_slots, waits_on}
use Rattle.kernel_core.proofs.kernel.Kernel.decide.Goals as goal

pub returns-then-is_saving : goal.returns-then-is_saving
returns-then-is_saving c = record { turns = waits_on c.args.self.now c.args.core.0 c.requires.ready (ap saves_in (sym c.deref.ensures.value) ∙ sym c.if-is_saving.ensures); rest = record { set = refl; room = refl }; live = refl }

pub returns-in-Empty : goal.returns-in-Empty
returns-in-Empty c = record { turns = refuses_empty c.args.self.now c.give_up-task.new.self c.args.core c.give_up-task.result c.in-Empty.lo c.in-Empty.hi c.requires.ready (ap saves_in (sym c.deref.ensures.value) ∙ sym c.if-is_saving.ensures) c.give_up-task.ensures.gives_up c.in-Empty.ensures.verdict; rest = c.give_up-task.ensures.rest; live = c.give_up-task.ensures.live }

pub returns-in-Slots : goal.returns-in-Slots
returns-in-Slots c = record { turns = refuses_slots c.args.self.now c.give_up-task-in-Slots.new.self c.args.core c.give_up-task-in-Slots.result c.in-Slots.object c.requires.ready (ap saves_in (sym c.deref.ensures.value) ∙ sym c.if-is_saving.ensures) c.give_up-task-in-Slots.ensures.gives_up c.in-Slots.ensures.verdict; rest = c.give_up-task-in-Slots.ensures.rest; live = c.give_up-task-in-Slots.ensures.live }

pub returns-in-Records : goal.returns-in-Records
returns-in-Records c = record { turns = refuses_records c.args.self.now c.give_up-task-in-Records.new.self c.args.core c.give_up-task-in-Records.result c.in-Records.pending c.in-Records.spawns c.requires.ready (ap saves_in (sym c.deref.ensures.value) ∙ sym c.if-is_saving.ensures) c.give_up-task-in-Records.ensures.gives_up c.in-Records.ensures.verdict; rest = c.give_up-task-in-Records.ensures.rest; live = c.give_up-task-in-Records.ensures.live }
