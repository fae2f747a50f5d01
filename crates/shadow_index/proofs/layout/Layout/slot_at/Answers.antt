use Rattle.std.proofs.Common.{ℕ, ◌+◌, sym, subst}
use Rattle.set_model.specs.Sets.{object_at}
use Rattle.device_model.specs.Layouts.{slot_place, slots_at, words_before}
use Rattle.device_model.specs.Devices.{layout_on}
use Rattle.shadow_index.specs.Looks.{looked}
use Rattle.shadow_index.specs.Tells.{HasSlots}
use Rattle.shadow_index.proofs.Told.{in_words}
use Rattle.shadow_index.proofs.layout.Layout.slot_at.Goals as goal

pub returns : goal.returns
returns c = λ d l a b.
    let o = c.args.o.0 in
    let size = (object_at d.set o).size in
    let row = subst (λ (n : ℕ). HasSlots (slot_place (layout_on d) d.set o 0) size (looked c.args.self.now.slot_places n)) (sym c.from.ensures) (l.slot_places o a) in
    in_words (slots_at (layout_on d) + words_before d.set.objects o) size c.args.slot _ _ c.from-2.result row.first_is row.size_is c.from-2.ensures row.small row.thin c.requires.slot
