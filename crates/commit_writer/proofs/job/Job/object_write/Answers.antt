use Rattle.std.proofs.Common.{ℕ, ◌+◌, slice_index, ap, ap₂, ◌∙◌, arith}
use Rattle.nv_base.specs.declared.ids.ObjId.{ObjId}
use Rattle.device_model.specs.Words.{Change}
use Rattle.commit_writer.proofs.Tables.{object_place, slot_word_fits}
use Rattle.commit_writer.proofs.job.Job.object_write.Goals as goal

pub overflow_add-result : goal.overflow_add-result
overflow_add-result g c =
    let h = c.requires.0 in
    let b = c.requires.1 in
    let p = c.requires.2 in
    let isw = g.C.Copies.is_written c.args.copies.now in
    let words = g.C.Copies.words c.args.copies.now in
    let e = object_place h isw words c.args.self.now c.args.nth c.object-o.result c.slot.result c.slot_at-place.result b p.0 c.object-o.ensures c.slot.ensures (c.slot_at-place.ensures h.device b.places) in
    omega (arith, e, c.from.ensures, c.need.ensures h.device b.places, slot_word_fits h isw words c.args.self.now c.args.nth c.args.word b p.0 p.1)

pub returns : goal.returns
returns g c = λ h b p.
    let isw = g.C.Copies.is_written c.args.copies.now in
    let words = g.C.Copies.words c.args.copies.now in
    let e = object_place h isw words c.args.self.now c.args.nth c.object-o.result c.slot.result c.slot_at-place.result b p.0 c.object-o.ensures c.slot.ensures (c.slot_at-place.ensures h.device b.places) in
    let w = c.copy_word_of.ensures ∙ ap (λ (o : ObjId). slice_index (words o.0) c.args.word) c.object-o.ensures in
    ap₂ (λ (x y : ℕ). let z : Change = (x, y) in z) (ap₂ (λ (x y : ℕ). x + y) e c.from.ensures) w
