use Rattle.std.proofs.Common.{◌≡◌, ℕ, ◌+◌, ◌-◌, slice_index, ap, arith, refl, ◌∙◌}
use Rattle.std.proofs.lemmas.Result.{on_err_weaker, on_ok_weaker}
use Rattle.fram_dev.specs.Device.{made_in}
use Rattle.set_model.specs.Sets.{ObjPart, object_at}
use Rattle.device_model.specs.Layouts.{Layout, Plain, layout_of, slot_place, slots_words}
use Rattle.device_model.specs.Devices.{Device, layout_on, plain}
use Rattle.device_format.specs.Moves.{old_words}
use Rattle.device_format.specs.Shown.{device_in}
use Rattle.device_format.proofs.Putting.{at_err, front_in, front_then, put_at, put_then, same_places}
use Rattle.device_format.proofs.Places.{object_begins, object_ends, old_before, one_within}
use Rattle.device_format.proofs.moved.put_moved_object.Goals as goal

pub slot_at-requires-clause-object : goal.slot_at-requires-clause-object
slot_at-requires-clause-object g c = c.requires.few

pub copy_words-requires-clause-room : goal.copy_words-requires-clause-room
copy_words-requires-clause-room g c =
    let set = c.args.set.now in
    let o = c.args.o.0 in
    let d : Device = device_in set c.args.places.now in
    let l : Layout = layout_on d in
    let part : ObjPart = object_at set o in
    let limits = c.size.ensures.limits in
    let two = limits.slots.0 in
    let slot : ℕ = slice_index c.args.state.now.slots.items o in
    let old_at : c.slot_at-from.result ≡ slot_place (layout_of Plain set) set o slot = c.slot_at-from.ensures (plain set) c.requires.old_table c.requires.object c.state_slot.ensures.own ∙ ap (slot_place (layout_of Plain set) set o) c.state_slot.ensures.exact in
    let to_at : ℕ = c.slot_at.result in
    let count : ℕ = c.from.result in
    let at : c.slot_at.result ≡ slot_place l set o 0 = c.slot_at.ensures d c.requires.table c.requires.object (omega (arith, two)) in
    let long : c.from.result ≡ part.size = c.from.ensures ∙ c.size.ensures.exact in
    let ends = object_ends l set o c.requires.object in
    let within = one_within part.size part.slots (omega (arith, two)) in
    omega (arith, at, long, ends, within, c.requires.room)

pub copy_words-requires-clause-small : goal.copy_words-requires-clause-small
copy_words-requires-clause-small g c =
    let set = c.args.set.now in
    let o = c.args.o.0 in
    let d : Device = device_in set c.args.places.now in
    let l : Layout = layout_on d in
    let part : ObjPart = object_at set o in
    let limits = c.size.ensures.limits in
    let two = limits.slots.0 in
    let slot : ℕ = slice_index c.args.state.now.slots.items o in
    let old_at : c.slot_at-from.result ≡ slot_place (layout_of Plain set) set o slot = c.slot_at-from.ensures (plain set) c.requires.old_table c.requires.object c.state_slot.ensures.own ∙ ap (slot_place (layout_of Plain set) set o) c.state_slot.ensures.exact in
    let to_at : ℕ = c.slot_at.result in
    let count : ℕ = c.from.result in
    let at : c.slot_at.result ≡ slot_place l set o 0 = c.slot_at.ensures d c.requires.table c.requires.object (omega (arith, two)) in
    let long : c.from.result ≡ part.size = c.from.ensures ∙ c.size.ensures.exact in
    let ends = object_ends l set o c.requires.object in
    let within = one_within part.size part.slots (omega (arith, two)) in
    omega (arith, at, long, ends, within, c.requires.small)

pub copy_words-requires-clause-apart : goal.copy_words-requires-clause-apart
copy_words-requires-clause-apart g c =
    let set = c.args.set.now in
    let o = c.args.o.0 in
    let d : Device = device_in set c.args.places.now in
    let l : Layout = layout_on d in
    let part : ObjPart = object_at set o in
    let limits = c.size.ensures.limits in
    let two = limits.slots.0 in
    let slot : ℕ = slice_index c.args.state.now.slots.items o in
    let old_at : c.slot_at-from.result ≡ slot_place (layout_of Plain set) set o slot = c.slot_at-from.ensures (plain set) c.requires.old_table c.requires.object c.state_slot.ensures.own ∙ ap (slot_place (layout_of Plain set) set o) c.state_slot.ensures.exact in
    let to_at : ℕ = c.slot_at.result in
    let count : ℕ = c.from.result in
    let at : c.slot_at.result ≡ slot_place l set o 0 = c.slot_at.ensures d c.requires.table c.requires.object (omega (arith, two)) in
    let long : c.from.result ≡ part.size = c.from.ensures ∙ c.size.ensures.exact in
    let ends = object_ends l set o c.requires.object in
    let within = one_within part.size part.slots (omega (arith, two)) in
    omega (arith, old_at, at, long, object_begins l set o, old_before set o slot c.requires.object (c.requires.slots o c.requires.object) limits.size.0, c.requires.behind)

pub returns-in_err-copy_words-clause-front : goal.returns-in_err-copy_words-clause-front
returns-in_err-copy_words-clause-front g c =
    let set = c.args.set.now in
    let o = c.args.o.0 in
    let d : Device = device_in set c.args.places.now in
    let l : Layout = layout_on d in
    let part : ObjPart = object_at set o in
    let limits = c.size.ensures.limits in
    let two = limits.slots.0 in
    let slot : ℕ = slice_index c.args.state.now.slots.items o in
    let old_at : c.slot_at-from.result ≡ slot_place (layout_of Plain set) set o slot = c.slot_at-from.ensures (plain set) c.requires.old_table c.requires.object c.state_slot.ensures.own ∙ ap (slot_place (layout_of Plain set) set o) c.state_slot.ensures.exact in
    let to_at : ℕ = c.slot_at.result in
    let count : ℕ = c.from.result in
    let at : c.slot_at.result ≡ slot_place l set o 0 = c.slot_at.ensures d c.requires.table c.requires.object (omega (arith, two)) in
    let long : c.from.result ≡ part.size = c.from.ensures ∙ c.size.ensures.exact in
    let ends = object_ends l set o c.requires.object in
    let within = one_within part.size part.slots (omega (arith, two)) in
    λ w h. at_err c.from_residual.result (front_in w to_at count (slot_place l set o 0) (slots_words part) _ _ at (omega (arith, long, within))
    (c.in_err-copy_words.ensures.front w (same_places w (λ i. slice_index (made_in (g.F.Fram.log c.args.dev.now) (g.F.Fram.start c.args.dev.now)) (c.slot_at-from.result + i)) (old_words set c.args.state.now (slice_index (made_in (g.F.Fram.log c.args.dev.now) (g.F.Fram.start c.args.dev.now))) o) _ _ _ _ at long (λ i a. ap (λ (p : ℕ). slice_index (made_in (g.F.Fram.log c.args.dev.now) (g.F.Fram.start c.args.dev.now)) (p + i)) old_at) h.current)))

pub returns-clause-put : goal.returns-clause-put
returns-clause-put g c =
    let set = c.args.set.now in
    let o = c.args.o.0 in
    let d : Device = device_in set c.args.places.now in
    let l : Layout = layout_on d in
    let part : ObjPart = object_at set o in
    let limits = c.size.ensures.limits in
    let two = limits.slots.0 in
    let slot : ℕ = slice_index c.args.state.now.slots.items o in
    let old_at : c.slot_at-from.result ≡ slot_place (layout_of Plain set) set o slot = c.slot_at-from.ensures (plain set) c.requires.old_table c.requires.object c.state_slot.ensures.own ∙ ap (slot_place (layout_of Plain set) set o) c.state_slot.ensures.exact in
    let to_at : ℕ = c.slot_at.result in
    let count : ℕ = c.from.result in
    let at : c.slot_at.result ≡ slot_place l set o 0 = c.slot_at.ensures d c.requires.table c.requires.object (omega (arith, two)) in
    let long : c.from.result ≡ part.size = c.from.ensures ∙ c.size.ensures.exact in
    let ends = object_ends l set o c.requires.object in
    let within = one_within part.size part.slots (omega (arith, two)) in
    λ w h. on_ok_weaker c.put_other_slots.result
    (λ k. put_then w (slot_place l set o 0) part.size (slot_place l set o 0 + part.size) (slots_words part - part.size) (slots_words part) _ _ _
    (put_at w to_at count (slot_place l set o 0) part.size _ _ at long (c.in_ok-copy_words.ensures.put w (same_places w (λ i. slice_index (made_in (g.F.Fram.log c.args.dev.now) (g.F.Fram.start c.args.dev.now)) (c.slot_at-from.result + i)) (old_words set c.args.state.now (slice_index (made_in (g.F.Fram.log c.args.dev.now) (g.F.Fram.start c.args.dev.now))) o) _ _ _ _ at long (λ i a. ap (λ (p : ℕ). slice_index (made_in (g.F.Fram.log c.args.dev.now) (g.F.Fram.start c.args.dev.now)) (p + i)) old_at) h.current))) k refl (omega (arith, within)))
    (c.put_other_slots.ensures.put w (old_words set c.args.state.now (slice_index (made_in (g.F.Fram.log c.args.dev.now) (g.F.Fram.start c.args.dev.now))) o) h)

pub returns-clause-front : goal.returns-clause-front
returns-clause-front g c =
    let set = c.args.set.now in
    let o = c.args.o.0 in
    let d : Device = device_in set c.args.places.now in
    let l : Layout = layout_on d in
    let part : ObjPart = object_at set o in
    let limits = c.size.ensures.limits in
    let two = limits.slots.0 in
    let slot : ℕ = slice_index c.args.state.now.slots.items o in
    let old_at : c.slot_at-from.result ≡ slot_place (layout_of Plain set) set o slot = c.slot_at-from.ensures (plain set) c.requires.old_table c.requires.object c.state_slot.ensures.own ∙ ap (slot_place (layout_of Plain set) set o) c.state_slot.ensures.exact in
    let to_at : ℕ = c.slot_at.result in
    let count : ℕ = c.from.result in
    let at : c.slot_at.result ≡ slot_place l set o 0 = c.slot_at.ensures d c.requires.table c.requires.object (omega (arith, two)) in
    let long : c.from.result ≡ part.size = c.from.ensures ∙ c.size.ensures.exact in
    let ends = object_ends l set o c.requires.object in
    let within = one_within part.size part.slots (omega (arith, two)) in
    λ w h. on_err_weaker c.put_other_slots.result
    (λ k. front_then w (slot_place l set o 0) part.size (slot_place l set o 0 + part.size) (slots_words part - part.size) (slots_words part) _ _ _
    (put_at w to_at count (slot_place l set o 0) part.size _ _ at long (c.in_ok-copy_words.ensures.put w (same_places w (λ i. slice_index (made_in (g.F.Fram.log c.args.dev.now) (g.F.Fram.start c.args.dev.now)) (c.slot_at-from.result + i)) (old_words set c.args.state.now (slice_index (made_in (g.F.Fram.log c.args.dev.now) (g.F.Fram.start c.args.dev.now))) o) _ _ _ _ at long (λ i a. ap (λ (p : ℕ). slice_index (made_in (g.F.Fram.log c.args.dev.now) (g.F.Fram.start c.args.dev.now)) (p + i)) old_at) h.current))) k refl (omega (arith, within)))
    (c.put_other_slots.ensures.front w (old_words set c.args.state.now (slice_index (made_in (g.F.Fram.log c.args.dev.now) (g.F.Fram.start c.args.dev.now))) o) h)
