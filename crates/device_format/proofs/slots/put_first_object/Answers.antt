use Rattle.std.proofs.Common.{◌≡◌, ℕ, ◌+◌, ◌-◌, List, length, slice_index, ap, arith, refl, ◌∙◌}
use Rattle.std.proofs.lemmas.Result.{on_err_weaker, on_ok_weaker}
use Rattle.set_model.specs.Sets.{ObjPart, object_at}
use Rattle.device_model.specs.Layouts.{Layout, slot_place, slots_words}
use Rattle.device_model.specs.Devices.{Device, layout_on}
use Rattle.device_format.specs.Shown.{device_in}
use Rattle.device_format.proofs.Putting.{at_err, front_in, front_then, put_at, put_then, same_places}
use Rattle.device_format.proofs.Places.{object_ends, one_within}
use Rattle.device_format.proofs.slots.put_first_object.Goals as goal

pub slot_at-requires-clause-object : goal.slot_at-requires-clause-object
slot_at-requires-clause-object g c = c.requires.few

pub put_words-requires-clause-room : goal.put_words-requires-clause-room
put_words-requires-clause-room g c =
    let set = c.args.set.now in
    let o = c.args.o.0 in
    let d : Device = device_in set c.args.places.now in
    let l : Layout = layout_on d in
    let part : ObjPart = object_at set o in
    let two = c.first.ensures.limits.slots.0 in
    let to_at : ℕ = c.slot_at.result in
    let count : ℕ = length c.first.result.now in
    let at : c.slot_at.result ≡ slot_place l set o 0 = c.slot_at.ensures d c.requires.table c.requires.object (omega (arith, two)) in
    let long : length c.first.result.now ≡ part.size = ap length c.first.ensures.exact ∙ c.first.ensures.limits.first in
    let ends = object_ends l set o c.requires.object in
    let within = one_within part.size part.slots (omega (arith, two)) in
    omega (arith, at, long, ends, within, c.requires.room)

pub put_words-requires-clause-small : goal.put_words-requires-clause-small
put_words-requires-clause-small g c =
    let set = c.args.set.now in
    let o = c.args.o.0 in
    let d : Device = device_in set c.args.places.now in
    let l : Layout = layout_on d in
    let part : ObjPart = object_at set o in
    let two = c.first.ensures.limits.slots.0 in
    let to_at : ℕ = c.slot_at.result in
    let count : ℕ = length c.first.result.now in
    let at : c.slot_at.result ≡ slot_place l set o 0 = c.slot_at.ensures d c.requires.table c.requires.object (omega (arith, two)) in
    let long : length c.first.result.now ≡ part.size = ap length c.first.ensures.exact ∙ c.first.ensures.limits.first in
    let ends = object_ends l set o c.requires.object in
    let within = one_within part.size part.slots (omega (arith, two)) in
    omega (arith, at, long, ends, within, c.requires.small)

pub returns-in_err-put_words-clause-front : goal.returns-in_err-put_words-clause-front
returns-in_err-put_words-clause-front g c =
    let set = c.args.set.now in
    let o = c.args.o.0 in
    let d : Device = device_in set c.args.places.now in
    let l : Layout = layout_on d in
    let part : ObjPart = object_at set o in
    let two = c.first.ensures.limits.slots.0 in
    let to_at : ℕ = c.slot_at.result in
    let count : ℕ = length c.first.result.now in
    let at : c.slot_at.result ≡ slot_place l set o 0 = c.slot_at.ensures d c.requires.table c.requires.object (omega (arith, two)) in
    let long : length c.first.result.now ≡ part.size = ap length c.first.ensures.exact ∙ c.first.ensures.limits.first in
    let ends = object_ends l set o c.requires.object in
    let within = one_within part.size part.slots (omega (arith, two)) in
    λ w h. at_err c.from_residual.result (front_in w to_at count (slot_place l set o 0) (slots_words part) _ _ at (omega (arith, long, within))
    (c.in_err-put_words.ensures.front w (same_places w (slice_index c.first.result.now) (slice_index part.first) _ _ _ _ at long (λ i a. ap (λ (xs : List ℕ). slice_index xs i) c.first.ensures.exact) h.current)))

pub returns-clause-put : goal.returns-clause-put
returns-clause-put g c =
    let set = c.args.set.now in
    let o = c.args.o.0 in
    let d : Device = device_in set c.args.places.now in
    let l : Layout = layout_on d in
    let part : ObjPart = object_at set o in
    let two = c.first.ensures.limits.slots.0 in
    let to_at : ℕ = c.slot_at.result in
    let count : ℕ = length c.first.result.now in
    let at : c.slot_at.result ≡ slot_place l set o 0 = c.slot_at.ensures d c.requires.table c.requires.object (omega (arith, two)) in
    let long : length c.first.result.now ≡ part.size = ap length c.first.ensures.exact ∙ c.first.ensures.limits.first in
    let ends = object_ends l set o c.requires.object in
    let within = one_within part.size part.slots (omega (arith, two)) in
    λ w h. on_ok_weaker c.put_other_slots.result
    (λ k. put_then w (slot_place l set o 0) part.size (slot_place l set o 0 + part.size) (slots_words part - part.size) (slots_words part) _ _ _
    (put_at w to_at count (slot_place l set o 0) part.size _ _ at long (c.in_ok-put_words.ensures.put w (same_places w (slice_index c.first.result.now) (slice_index part.first) _ _ _ _ at long (λ i a. ap (λ (xs : List ℕ). slice_index xs i) c.first.ensures.exact) h.current))) k refl (omega (arith, within)))
    (c.put_other_slots.ensures.put w (slice_index part.first) h)

pub returns-clause-front : goal.returns-clause-front
returns-clause-front g c =
    let set = c.args.set.now in
    let o = c.args.o.0 in
    let d : Device = device_in set c.args.places.now in
    let l : Layout = layout_on d in
    let part : ObjPart = object_at set o in
    let two = c.first.ensures.limits.slots.0 in
    let to_at : ℕ = c.slot_at.result in
    let count : ℕ = length c.first.result.now in
    let at : c.slot_at.result ≡ slot_place l set o 0 = c.slot_at.ensures d c.requires.table c.requires.object (omega (arith, two)) in
    let long : length c.first.result.now ≡ part.size = ap length c.first.ensures.exact ∙ c.first.ensures.limits.first in
    let ends = object_ends l set o c.requires.object in
    let within = one_within part.size part.slots (omega (arith, two)) in
    λ w h. on_err_weaker c.put_other_slots.result
    (λ k. front_then w (slot_place l set o 0) part.size (slot_place l set o 0 + part.size) (slots_words part - part.size) (slots_words part) _ _ _
    (put_at w to_at count (slot_place l set o 0) part.size _ _ at long (c.in_ok-put_words.ensures.put w (same_places w (slice_index c.first.result.now) (slice_index part.first) _ _ _ _ at long (λ i a. ap (λ (xs : List ℕ). slice_index xs i) c.first.ensures.exact) h.current))) k refl (omega (arith, within)))
    (c.put_other_slots.ensures.front w (slice_index part.first) h)
