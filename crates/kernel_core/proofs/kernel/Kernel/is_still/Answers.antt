use Rattle.std.proofs.Common.{refl, sym, ◌∙◌}
use Rattle.kernel_core.proofs.Unchanged.{idles, is_false, none_there, stands_on, try_passes, waits}
use Rattle.kernel_core.proofs.kernel.Kernel.is_still.Goals as goal

pub returns-in-Nothing : goal.returns-in-Nothing
returns-in-Nothing c = λ yes.
    let k = c.args.self.now in
    let n = c.args.core.0 in
    let g = stands_on k n c.from.result c.index-seat.result.now c.requires.on c.requires.core c.requires.lawful.2.cores c.from.ensures c.index-seat.ensures (sym (none_there c.index-seat.result.now.saving (sym c.if-is_some.ensures))) in
    try_passes k k n g (idles k n c.index-seat.result.now c.held_tasks_are_not_ready.ensures g refl c.in-Nothing.ensures (sym c.has_ready.ensures ∙ is_false c.has_ready.result yes))

pub returns-in-Waits : goal.returns-in-Waits
returns-in-Waits c = λ yes.
    let k = c.args.self.now in
    let n = c.args.core.0 in
    let g = stands_on k n c.from.result c.index-seat.result.now c.requires.on c.requires.core c.requires.lawful.2.cores c.from.ensures c.index-seat.ensures (sym (none_there c.index-seat.result.now.saving (sym c.if-is_some.ensures))) in
    try_passes k k n g (waits k n c.index-seat.result.now g refl c.in-Waits.ensures (sym c.is_saving.ensures ∙ yes))
