use Rattle.std.proofs.Common.{◌≡◌, ℕ, ◌+◌, ◌<◌, Bool, length, slice_index, refl, ap, ◌∙◌, subst, arith}
use Rattle.object_sets.specs.ObjectSets.{is_among}
use Rattle.device_model.specs.Layouts.{index_reads}
use Rattle.shadow_index.specs.States.{word_of}
use Rattle.shadow_index.specs.Tells.{IsLayoutOf, device_of, kind_by}
use Rattle.commit_writer.specs.declared.job.Job.{Job}
use Rattle.commit_writer.specs.Lists.{is_page_changed, marked, objects_by, pages_by}
use Rattle.commit_writer.specs.Rooms.{layout_by}
use Rattle.commit_writer.proofs.Fields.{flipped_same, same_pages}
use Rattle.commit_writer.proofs.Lists.{pages_same}
use Rattle.commit_writer.proofs.Told.{numbers_below}
use Rattle.commit_writer.proofs.job.Job.fill.Goals as goal

pub changed_pages-changed-requires-clause-objects : goal.changed_pages-changed-requires-clause-objects
changed_pages-changed-requires-clause-objects c = numbers_below (λ o. is_among o c.args.plan.now.written) c.list_objects.new.objects.items c.objects.result (length c.args.set.now.objects) c.list_objects.ensures.exact c.objects.ensures.exact

pub list_pages-requires-clause-room : goal.list_pages-requires-clause-room
list_pages-requires-clause-room c =
    let set = c.args.set.now in
    let r = c.take_words.ensures.set in
    omega (arith, r.pages, c.pages-pages.ensures.exact (device_of set c.take_words.new.self.shift) r.places, same_pages set c.take_words.new.self.shift)

pub returns-clause-tabled : goal.returns-clause-tabled
returns-clause-tabled c =
    let set = c.args.set.now in
    let before = c.args.before.now in
    let s = c.take_words.new.self in
    let r = c.take_words.ensures.set in
    let moved : s.shift ≡ before.shift = ap (λ (j : Job). j.shift) c.take_words.ensures.rest ∙ c.move_to.ensures.shift in
    let y = layout_by set before.shift in
    let d = device_of set before.shift in
    let A : ℕ → Type 0 = λ shift. IsLayoutOf (device_of set shift) s.layout in
    let places : IsLayoutOf d s.layout = subst A moved r.places in
    let turns = marked c.changed_pages-changed.result in
    let changes : ℕ → Bool = is_page_changed (9 + length set.objects) y.page_words c.list_objects.new.objects.items (word_of before) (slice_index s.words.items) in
    let B : ℕ → Type 0 = λ shift. (page : ℕ) → page < (layout_by set shift).pages
    → turns page ≡ is_page_changed (9 + length set.objects) (layout_by set shift).page_words c.list_objects.new.objects.items (word_of before) (slice_index s.words.items) page in
    let marks : (page : ℕ) → page < y.pages → turns page ≡ changes page = subst B moved c.changed_pages-changed.ensures in
    let D : ℕ → Type 0 = λ shift. length s.words.items ≡ index_reads (layout_by set shift) in
    let E : ℕ → Type 0 = λ shift. (i : ℕ) → i < index_reads (layout_by set shift) → slice_index s.words.items i ≡ word_of c.args.after.now i in
    record {
      places = places;
      objects = c.list_objects.ensures.exact ∙ ap (objects_by (λ o. is_among o c.args.plan.now.written) 0) c.objects.ensures.exact;
      slots = refl;
      long = subst D c.move_to.ensures.shift c.take_words.ensures.long;
      words = subst E c.move_to.ensures.shift c.take_words.ensures.words;
      pages = c.list_pages.ensures.exact ∙ ap (pages_by turns 0) (c.pages-pages.ensures.exact d places) ∙ pages_same turns changes 0 y.pages (λ k a b. marks k (omega (arith, b)));
      root = refl;
      next_root = λ e. c.flipped-self.ensures d places e ∙ flipped_same (kind_by set.format before.shift) set turns changes before.root marks;
    }
