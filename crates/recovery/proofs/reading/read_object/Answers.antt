use Rattle.std.proofs.Common.{◌≡◌, ◌+◌, slice_index, arith, ap, ◌∙◌}
use Rattle.std.proofs.lemmas.List.{get_or_read}
use Rattle.device_model.specs.Layouts.{slot_place}
use Rattle.device_model.specs.Devices.{layout_on}
use Rattle.shadow_index.specs.Tells.{device_of}
use Rattle.recovery.specs.Images.{words_of}
use Rattle.recovery.proofs.ObjectRead.{few_slots, word_kept, word_low}
use Rattle.recovery.proofs.reading.read_object.Goals as goal

pub index-slot-requires : goal.index-slot-requires
index-slot-requires g c = omega (arith, c.requires.slots, c.requires.object, c.from.ensures)

pub slot_at-requires-clause-object : goal.slot_at-requires-clause-object
slot_at-requires-clause-object g c = omega (arith, c.requires.object, c.objects.ensures.exact, c.objects.ensures.few)

pub slot_at-requires-clause-slot : goal.slot_at-requires-clause-slot
slot_at-requires-clause-slot g c =
    let s = c.args.state.now in
    let d = device_of c.args.set.now s.shift in
    let slot : c.index-slot.result.now ≡ slice_index s.slots.items c.args.o.0 = get_or_read s.slots.items c.from.result c.index-slot.result.now (omega (arith, c.requires.slots, c.requires.object, c.from.ensures)) c.index-slot.ensures 0 ∙ ap (slice_index s.slots.items) c.from.ensures in
    omega (arith, slot, c.requires.slot, few_slots d c.args.o.0 c.objects.ensures.limits c.requires.object)

pub overflow_add-at : goal.overflow_add-at
overflow_add-at g c =
    let set = c.args.set.now in
    let s = c.args.state.now in
    let o = c.args.o.0 in
    let d = device_of set s.shift in
    let slot : c.index-slot.result.now ≡ slice_index s.slots.items o = get_or_read s.slots.items c.from.result c.index-slot.result.now (omega (arith, c.requires.slots, c.requires.object, c.from.ensures)) c.index-slot.ensures 0 ∙ ap (slice_index s.slots.items) c.from.ensures in
    let at : c.slot_at.result ≡ slot_place (layout_on d) set o (slice_index s.slots.items o) = c.slot_at.ensures d c.of.ensures c.requires.object (omega (arith, slot, c.requires.slot)) ∙ ap (slot_place (layout_on d) set o) slot in
    omega (arith, at, word_low d s o c.args.i c.requires.object c.requires.slot c.requires.index, c.requires.room, c.from-2.ensures, c.len.ensures)

pub read-requires : goal.read-requires
read-requires g c =
    let set = c.args.set.now in
    let s = c.args.state.now in
    let o = c.args.o.0 in
    let d = device_of set s.shift in
    let slot : c.index-slot.result.now ≡ slice_index s.slots.items o = get_or_read s.slots.items c.from.result c.index-slot.result.now (omega (arith, c.requires.slots, c.requires.object, c.from.ensures)) c.index-slot.ensures 0 ∙ ap (slice_index s.slots.items) c.from.ensures in
    let at : c.slot_at.result ≡ slot_place (layout_on d) set o (slice_index s.slots.items o) = c.slot_at.ensures d c.of.ensures c.requires.object (omega (arith, slot, c.requires.slot)) ∙ ap (slot_place (layout_on d) set o) slot in
    omega (arith, at, word_low d s o c.args.i c.requires.object c.requires.slot c.requires.index, c.requires.room, c.from-2.ensures)

pub returns-clause-word : goal.returns-clause-word
returns-clause-word g c =
    let set = c.args.set.now in
    let s = c.args.state.now in
    let o = c.args.o.0 in
    let words = words_of (g.F.Fram.log c.args.dev.now) (g.F.Fram.start c.args.dev.now) in
    let d = device_of set s.shift in
    let slot : c.index-slot.result.now ≡ slice_index s.slots.items o = get_or_read s.slots.items c.from.result c.index-slot.result.now (omega (arith, c.requires.slots, c.requires.object, c.from.ensures)) c.index-slot.ensures 0 ∙ ap (slice_index s.slots.items) c.from.ensures in
    let at : c.slot_at.result ≡ slot_place (layout_on d) set o (slice_index s.slots.items o) = c.slot_at.ensures d c.of.ensures c.requires.object (omega (arith, slot, c.requires.slot)) ∙ ap (slot_place (layout_on d) set o) slot in
    let place : c.slot_at.result + c.from-2.result ≡ slot_place (layout_on d) set o (slice_index s.slots.items o) + c.args.i = omega (arith, at, c.from-2.ensures) in
    c.in_ok-word.ensures.word ∙ ap words place

pub returns-clause-held : goal.returns-clause-held
returns-clause-held g c =
    let set = c.args.set.now in
    let s = c.args.state.now in
    let o = c.args.o.0 in
    let words = words_of (g.F.Fram.log c.args.dev.now) (g.F.Fram.start c.args.dev.now) in
    let d = device_of set s.shift in
    let t = c.objects.ensures.limits in
    let slot : c.index-slot.result.now ≡ slice_index s.slots.items o = get_or_read s.slots.items c.from.result c.index-slot.result.now (omega (arith, c.requires.slots, c.requires.object, c.from.ensures)) c.index-slot.ensures 0 ∙ ap (slice_index s.slots.items) c.from.ensures in
    let at : c.slot_at.result ≡ slot_place (layout_on d) set o (slice_index s.slots.items o) = c.slot_at.ensures d c.of.ensures c.requires.object (omega (arith, slot, c.requires.slot)) ∙ ap (slot_place (layout_on d) set o) slot in
    let place : c.slot_at.result + c.from-2.result ≡ slot_place (layout_on d) set o (slice_index s.slots.items o) + c.args.i = omega (arith, at, c.from-2.ensures) in
    λ h e f. c.in_ok-word.ensures.word ∙ ap words place ∙ word_kept d h words s o c.args.i t c.requires.object c.requires.index e f
