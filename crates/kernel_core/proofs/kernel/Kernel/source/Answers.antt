use Rattle.std.proofs.Common.{◌<◌, length, sym, arith, subst}
use Rattle.device_model.specs.Devices.{layout_on}
use Rattle.set_model.specs.Sets.{TaskSet, object_at}
use Rattle.device_model.proofs.ForCallers.{slot_place-high}
use Rattle.kernel_core.proofs.kernel.Kernel.source.Goals as goal

pub overflow_add-result : goal.overflow_add-result
overflow_add-result c =
    let d = c.requires.set.0 in
    let same = c.requires.set.1 in
    let set = c.args.self.now.set in
    let o = c.args.object.0 in
    let inside = subst (λ (s : TaskSet). o < length s.objects) (sym same) c.requires.object in
    let slot = subst (λ (s : TaskSet). c.args.slot < (object_at s o).slots) (sym same) c.requires.slot in
    let word = subst (λ (s : TaskSet). c.args.word < (object_at s o).size) (sym same) c.requires.word in
    let at = c.slot_at.ensures d c.requires.set.2 inside slot in
    let low = slot_place-high (layout_on d) d.set o c.args.slot c.args.word inside slot word in
    omega (arith, at, low, c.from.ensures, c.need.ensures d c.requires.set.2, c.need.type_inv)
