use Rattle.std.proofs.Common.{◌<◌, ℕ, ◌+◌, refl, sym, ap, ◌∙◌, subst, arith}
use Rattle.set_model.specs.Sets.{object_at}
use Rattle.device_model.specs.Layouts.{slot_place}
use Rattle.device_model.specs.Devices.{layout_on}
use Rattle.recovery.specs.Images.{device_at, words_of}
use Rattle.core_seats.specs.declared.seat.Seat as own
use Rattle.core_seats.specs.Steps.{CopiesOn}
use Rattle.nv_base.specs.declared.lines.Line.TheVariants as line
use Rattle.kernel_core.specs.Turns.{TurnsOn}
use Rattle.kernel_core.proofs.Turned.{seated}
use Rattle.vol_copy.specs.Stages.{IsCopying}
use Rattle.vol_copy.specs.Tries.{IsFor}
use Rattle.kernel_core.proofs.AtStage.{kept_at, same_item}
use Rattle.kernel_core.proofs.Sources.{copy_turns, source_low, source_of}
use Rattle.kernel_core.proofs.kernel.Kernel.copy.Goals as goal

pub source-place-requires-clause-slot : goal.source-place-requires-clause-slot
source-place-requires-clause-slot g c =
    let k = c.args.self.now in
    let at = c.requires.copying in
    let l = c.requires.lawful in
    let words = words_of (g.F.Fram.log c.args.dev.now) (g.F.Fram.start c.args.dev.now) in
    let s = source_of k words l.0 c.args.core.0 c.from-n.result c.index.result.now c.in-Copies.object c.in-Copies.copied l.1 l.2 at c.index.ensures c.from-n.ensures c.in-Copies.ensures in
    let same = same_item k.seats.items c.from-n.result c.args.core.0 c.index-2.result.now at.seat c.index-2.ensures c.from-n.ensures at.inside at.seat_is in
    subst (λ (x : own.Seat). x.slot < (object_at k.set c.in-Copies.object.0).slots) (sym same) s.facts.slot

pub read-requires : goal.read-requires
read-requires g c =
    let k = c.args.self.now in
    let at = c.requires.copying in
    let l = c.requires.lawful in
    let words = words_of (g.F.Fram.log c.args.dev.now) (g.F.Fram.start c.args.dev.now) in
    let s = source_of k words l.0 c.args.core.0 c.from-n.result c.index.result.now c.in-Copies.object c.in-Copies.copied l.1 l.2 at c.index.ensures c.from-n.ensures c.in-Copies.ensures in
    let same = same_item k.seats.items c.from-n.result c.args.core.0 c.index-2.result.now at.seat c.index-2.ensures c.from-n.ensures at.inside at.seat_is in
    let place = c.source-place.ensures (device_at k.set words) refl l.1.layout ∙ ap (λ (x : own.Seat). slot_place (layout_on (device_at k.set words)) k.set c.in-Copies.object.0 x.slot + c.in-Copies.copied) same in
    omega (arith, place, source_low k words at.seat c.in-Copies.object.0 c.in-Copies.copied s.facts, c.requires.room)

pub returns-clause-turns : goal.returns-clause-turns
returns-clause-turns g c =
    let k = c.args.self.now in
    let at = c.requires.copying in
    let l = c.requires.lawful in
    let words = words_of (g.F.Fram.log c.args.dev.now) (g.F.Fram.start c.args.dev.now) in
    let s = source_of k words l.0 c.args.core.0 c.from-n.result c.index.result.now c.in-Copies.object c.in-Copies.copied l.1 l.2 at c.index.ensures c.from-n.ensures c.in-Copies.ensures in
    let same = same_item k.seats.items c.from-n.result c.args.core.0 c.index-2.result.now at.seat c.index-2.ensures c.from-n.ensures at.inside at.seat_is in
    let seat = same_item k.seats.items c.from-n.result c.args.core.0 c.index_mut.result.now at.seat c.index_mut.ensures.value c.from-n.ensures at.inside at.seat_is in
    let place = c.source-place.ensures (device_at k.set words) refl l.1.layout ∙ ap (λ (x : own.Seat). slot_place (layout_on (device_at k.set words)) k.set c.in-Copies.object.0 x.slot + c.in-Copies.copied) same in
    let word = c.in_ok-word.ensures.word ∙ ap words place in
    let copies = subst (λ (x : own.Seat). CopiesOn x c.in_ok-word.word c.copy.new.self) seat c.copy.ensures.copies in
    let kept = c.copy.ensures.kept k.set (subst (λ (x : own.Seat). IsFor k.set x.attempt) (sym seat) (kept_at k words l.0 c.args.core.0 IsCopying l.1 at)) in
    let turns = copy_turns k words c.args.core.0 c.in-Copies.object s.want c.in-Copies.copied c.in_ok-word.word c.copy.new.self at s.stage_is kept copies word in
    subst (λ (n : ℕ). TurnsOn words k c.args.core.0 (seated k n c.copy.new.self) line.Nothing) (sym c.from-n.ensures) turns
