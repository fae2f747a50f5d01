use Rattle.std.proofs.Common.{◌≡◌, ℕ, ◌+◌, ◌-◌, ◌*◌, ap, ap₂, arith, ◌∙◌}
use Rattle.std.proofs.lemmas.Result.{on_err_weaker, on_ok_weaker}
use Rattle.set_model.specs.Sets.{ObjPart, object_at}
use Rattle.device_model.specs.Layouts.{Layout, slot_place, slots_words}
use Rattle.device_model.specs.Devices.{Device, layout_on}
use Rattle.device_format.specs.Shown.{device_in}
use Rattle.device_format.proofs.Putting.{front_at, put_at}
use Rattle.device_format.proofs.Places.{but_one, object_ends, one_within, others_at, slot_1_begins}
use Rattle.device_format.proofs.slots.put_other_slots.Goals as goal

pub slot_at-requires-clause-object : goal.slot_at-requires-clause-object
slot_at-requires-clause-object g c = c.requires.few

pub put_zeros-requires-clause-room : goal.put_zeros-requires-clause-room
put_zeros-requires-clause-room g c =
    let set = c.args.set.now in
    let o = c.args.o.0 in
    let d : Device = device_in set c.args.places.now in
    let l : Layout = layout_on d in
    let part : ObjPart = object_at set o in
    let two = c.slots.ensures.limits.slots.0 in
    let size : c.from.result ≡ part.size = c.from.ensures ∙ c.size.ensures.exact in
    let slots : c.from-2.result ≡ part.slots - 1 = c.from-2.ensures ∙ ap (λ (n : ℕ). n - 1) c.slots.ensures.exact in
    let count : c.from.result * c.from-2.result ≡ slots_words part - part.size = ap₂ (λ (a b : ℕ). a * b) size slots ∙ but_one part.size part.slots in
    let at : c.slot_at.result ≡ slot_place l set o 0 + part.size = c.slot_at.ensures d c.requires.table c.requires.object (omega (arith, two)) ∙ slot_1_begins l set o in
    let ends = object_ends l set o c.requires.object in
    let within = one_within part.size part.slots (omega (arith, two)) in
    omega (arith, at, count, ends, within, c.requires.room)

pub put_zeros-requires-clause-small : goal.put_zeros-requires-clause-small
put_zeros-requires-clause-small g c =
    let set = c.args.set.now in
    let o = c.args.o.0 in
    let d : Device = device_in set c.args.places.now in
    let l : Layout = layout_on d in
    let part : ObjPart = object_at set o in
    let two = c.slots.ensures.limits.slots.0 in
    let size : c.from.result ≡ part.size = c.from.ensures ∙ c.size.ensures.exact in
    let slots : c.from-2.result ≡ part.slots - 1 = c.from-2.ensures ∙ ap (λ (n : ℕ). n - 1) c.slots.ensures.exact in
    let count : c.from.result * c.from-2.result ≡ slots_words part - part.size = ap₂ (λ (a b : ℕ). a * b) size slots ∙ but_one part.size part.slots in
    let at : c.slot_at.result ≡ slot_place l set o 0 + part.size = c.slot_at.ensures d c.requires.table c.requires.object (omega (arith, two)) ∙ slot_1_begins l set o in
    let ends = object_ends l set o c.requires.object in
    let within = one_within part.size part.slots (omega (arith, two)) in
    omega (arith, at, count, ends, within, c.requires.small)

pub returns-clause-put : goal.returns-clause-put
returns-clause-put g c =
    let set = c.args.set.now in
    let o = c.args.o.0 in
    let d : Device = device_in set c.args.places.now in
    let l : Layout = layout_on d in
    let part : ObjPart = object_at set o in
    let two = c.slots.ensures.limits.slots.0 in
    let size : c.from.result ≡ part.size = c.from.ensures ∙ c.size.ensures.exact in
    let slots : c.from-2.result ≡ part.slots - 1 = c.from-2.ensures ∙ ap (λ (n : ℕ). n - 1) c.slots.ensures.exact in
    let count : c.from.result * c.from-2.result ≡ slots_words part - part.size = ap₂ (λ (a b : ℕ). a * b) size slots ∙ but_one part.size part.slots in
    let at : c.slot_at.result ≡ slot_place l set o 0 + part.size = c.slot_at.ensures d c.requires.table c.requires.object (omega (arith, two)) ∙ slot_1_begins l set o in
    let ends = object_ends l set o c.requires.object in
    let within = one_within part.size part.slots (omega (arith, two)) in
    λ w own h. on_ok_weaker c.put_zeros.result (put_at w c.slot_at.result (c.from.result * c.from-2.result) (slot_place l set o 0 + part.size) (slots_words part - part.size) _ _ at count)
    (c.put_zeros.ensures.put w (others_at w l set o c.slot_at.result (c.from.result * c.from-2.result) own at count within h))

pub returns-clause-front : goal.returns-clause-front
returns-clause-front g c =
    let set = c.args.set.now in
    let o = c.args.o.0 in
    let d : Device = device_in set c.args.places.now in
    let l : Layout = layout_on d in
    let part : ObjPart = object_at set o in
    let two = c.slots.ensures.limits.slots.0 in
    let size : c.from.result ≡ part.size = c.from.ensures ∙ c.size.ensures.exact in
    let slots : c.from-2.result ≡ part.slots - 1 = c.from-2.ensures ∙ ap (λ (n : ℕ). n - 1) c.slots.ensures.exact in
    let count : c.from.result * c.from-2.result ≡ slots_words part - part.size = ap₂ (λ (a b : ℕ). a * b) size slots ∙ but_one part.size part.slots in
    let at : c.slot_at.result ≡ slot_place l set o 0 + part.size = c.slot_at.ensures d c.requires.table c.requires.object (omega (arith, two)) ∙ slot_1_begins l set o in
    let ends = object_ends l set o c.requires.object in
    let within = one_within part.size part.slots (omega (arith, two)) in
    λ w own h. on_err_weaker c.put_zeros.result (front_at w c.slot_at.result (c.from.result * c.from-2.result) (slot_place l set o 0 + part.size) (slots_words part - part.size) _ _ at count)
    (c.put_zeros.ensures.front w (others_at w l set o c.slot_at.result (c.from.result * c.from-2.result) own at count within h))
