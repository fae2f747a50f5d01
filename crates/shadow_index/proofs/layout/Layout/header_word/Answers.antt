use Rattle.std.proofs.Common.{◌≡◌, ◌≢◌, ℕ, ◌<◌, slice_index, arith, ap, sym, ◌∙◌, subst}
use Rattle.set_model.specs.Sets.{TaskSet}
use Rattle.set_model.specs.Numbers.{first_index}
use Rattle.device_model.specs.Layouts.{header, magic_of}
use Rattle.device_model.specs.Devices.{layout_on}
use Rattle.shadow_index.specs.Tells.{AreCodePlaces}
use Rattle.shadow_index.proofs.Told.{format_header, format_root, magic_is}
use Rattle.shadow_index.proofs.layout.Layout.header_word.Goals as goal

pub returns-then-at-self-clause-format : goal.returns-then-at-self-clause-format
returns-then-at-self-clause-format c = λ d h e. c.first_root.ensures d h ∙ sym (format_root (layout_on d) d.set c.args.at (c.if-at-self.true ∙ h.root))

pub returns-else-at-self-clause-format : goal.returns-else-at-self-clause-format
returns-else-at-self-clause-format c = λ d h e.
    let magic : c.magic.result ≡ (layout_on d).magic = c.magic.ensures ∙ ap magic_of h.kind ∙ magic_is d.kind d.set in
    let i : c.args.at < first_index d.set = omega (arith, c.requires, ap first_index e) in
    let n : c.args.at ≢ (layout_on d).root = λ z. c.if-at-self.false (z ∙ sym h.root) in
    let places : AreCodePlaces c.args.set.now c.args.self.now.code_places = subst (λ (set : TaskSet). AreCodePlaces set c.args.self.now.code_places) e h.code_places in
    c.word_at.ensures places
    ∙ ap (λ (m : ℕ). slice_index (header m c.args.set.now) c.args.at) magic
    ∙ ap (λ (set : TaskSet). slice_index (header (layout_on d).magic set) c.args.at) (sym e)
    ∙ sym (format_header (layout_on d) d.set c.args.at n i)
