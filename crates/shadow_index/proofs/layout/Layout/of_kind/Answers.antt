use Rattle.std.proofs.Common.{◌≡◌, ◌+◌, ◌*◌, [], refl, ap, arith, ◌∙◌}
use Rattle.set_model.specs.Sets.{ObjPart}
use Rattle.set_model.specs.Limits.{IsObject}
use Rattle.set_model.proofs.ForCallers.{all_at}
use Rattle.device_model.specs.Layouts.{layout_of, slots_at}
use Rattle.shadow_index.specs.Views.{heads, kind_of}
use Rattle.shadow_index.proofs.Told.{copy_is_at, heads_of, need_is, reads_are, slot_is_at, slots_are_at}
use Rattle.shadow_index.proofs.layout.Layout.of_kind.Goals as goal

pub returns : goal.returns
returns c =
    let set = c.args.set.now in
    let kind = kind_of c.args.kind in
    let none : ObjPart = record { name = []; size = 0; slots = 0; first = [] } in
    let l = layout_of kind set in
    let s = c.of-shape.result in
    let h = c.of-shape.ensures.exact in
    let pages : c.from.result ≡ s.pages = c.from.ensures in
    let at : s.pages_at + 2 * (c.from.result * s.page_words) ≡ slots_at l = slots_are_at l s c.from.result h pages in
    record {
      kind = refl;
      need = need_is l set s c.from.result c.slots_words.result h pages c.slots_words.ensures.exact;
      first = c.first_index-first.ensures.exact;
      index = c.index_words.ensures.exact;
      head = c.head_reads.ensures.exact ∙ ap (heads kind) c.first_index-first.ensures.exact ∙ heads_of kind set;
      reads = reads_are l s c.from.result h pages;
      root = h.root;
      pages = h.pages;
      page_words = h.page_words;
      page_places = λ page copy a b. c.page_places.ensures page copy (omega (arith, a, h.pages)) b ∙ copy_is_at l s page copy h;
      slot_places = λ o a.
          let within = all_at IsObject set.objects none o c.index_words.ensures.limits.each_object a in
          let first = slot_is_at l set _ o 0 at in
          record {
            first_is = c.slot_places.ensures.first o a ∙ omega (arith, first);
            size_is = c.slot_places.ensures.size o a;
            small = let small = c.slot_places.ensures.small o a in omega (arith, first, small);
            thin = within.size.1;
          };
      code_places = c.code_places.ensures;
    }
