use Rattle.std.proofs.Common.{◌≡◌, ◌<◌, ◌≤◌, ◌+◌, ◌/◌, ℕ, List, false, get_or, length, rules, arith, ap, ap₂, ◌∙◌}
use Rattle.std.proofs.lemmas.List.{get_or-replicate, take_all}
use Rattle.nv_base.specs.declared.ids.ObjId.{ObjId}
use Rattle.shadow_index.specs.Tells.{device_of}
use Rattle.commit_writer.specs.Courses.{no_object}
use Rattle.commit_writer.specs.Lists.{names_object}
use Rattle.commit_writer.proofs.Fields.{few_pages, laid_out_by, page_of_slot}
use Rattle.commit_writer.proofs.job.Job.named_pages.Goals as goal

pub loop-o-init : goal.loop-o-init
loop-o-init c = record { long = search rules; done = λ page l. get_or-replicate 31 page false false l }

pub nonzero_div-named : goal.nonzero_div-named
nonzero_div-named c =
    let r = c.requires.set in
    let d = laid_out_by c.args.set.now c.args.self.now r in
    let w = d.page_words in
    omega (arith, w, c.page_words-words.ensures (device_of c.args.set.now c.args.self.now.shift) r.places)

pub bounds-named-from : goal.bounds-named-from
bounds-named-from c =
    let r = c.requires.set in
    let v = c.deref-o-items.ensures.value in
    let e : c.from.result ≡ (get_or c.args.self.now.objects.items c.loop-o.o-index no_object).0 = c.from.ensures ∙ ap (λ (xs : List ObjId). (get_or xs c.loop-o.o-index no_object).0) v in
    let l : c.loop-o.o-index < length c.args.self.now.objects.items = omega (arith, c.loop-o-test.true, ap (length {A = ObjId}) v) in
    let low : c.from.result < length c.args.set.now.objects = omega (arith, e, c.requires.objects c.loop-o.o-index l) in
    let q = ap (λ (w : ℕ). (9 + c.from.result) / w) (c.page_words-words.ensures (device_of c.args.set.now c.args.self.now.shift) r.places) in
    omega (arith, q, page_of_slot c.args.set.now c.args.self.now c.from.result r low, few_pages c.args.set.now c.args.self.now r)

pub returns : goal.returns
returns c = λ page l.
    let r = c.requires.set in
    let n : length c.args.self.now.objects.items ≤ c.loop-o.o-index = omega (arith, c.loop-o-test.false, ap (length {A = ObjId}) c.deref-o-items.ensures.value) in
    c.loop-o.invariant.done page l
    ∙ ap₂ (λ (w : ℕ) (xs : List ObjId). names_object w xs page) (c.page_words-words.ensures (device_of c.args.set.now c.args.self.now.shift) r.places) (take_all c.loop-o.o-index c.args.self.now.objects.items n)
