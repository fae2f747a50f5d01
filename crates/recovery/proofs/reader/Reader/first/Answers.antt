use Rattle.std.proofs.Common.{◌≡◌, ◌≢◌, None, Some, ap₂, refl, subst, sym, ◌∙◌}
use Rattle.device_model.specs.Layouts.{kind_named}
use Rattle.device_model.specs.Devices.{Device, layout_on}
use Rattle.device_model.proofs.ForCallers.{decodes_blank, decodes_other}
use Rattle.shadow_index.specs.declared.state.State.{State}
use Rattle.shadow_index.specs.Tells.{device_by}
use Rattle.shadow_index.specs.Views.{kind_of}
use Rattle.recovery.specs.declared.reader.Reader.{Reader}
use Rattle.recovery.specs.Images.{device_at, words_of}
use Rattle.recovery.specs.Reading.{HasRead}
use Rattle.recovery.proofs.KindLaws.{named_device}
use Rattle.recovery.proofs.MoreRead.{first_place, first_read, laid}
use Rattle.recovery.proofs.reader.Reader.first.Goals as goal

pub returns-then-word-eq0-clause-refused : goal.returns-then-word-eq0-clause-refused
returns-then-word-eq0-clause-refused g c =
    let set = c.args.set.now in
    let words = words_of (g.F.Fram.log c.args.dev.now) (g.F.Fram.start c.args.dev.now) in
    decodes_blank set.format set words (sym c.in-Ok.ensures.word ∙ c.if-word-eq0.true)

pub returns-in-None-clause-refused : goal.returns-in-None-clause-refused
returns-in-None-clause-refused g c =
    let set = c.args.set.now in
    let words = words_of (g.F.Fram.log c.args.dev.now) (g.F.Fram.start c.args.dev.now) in
    let d = device_at set words in
    let written : words 0 ≢ 0 = λ z. c.if-word-eq0.false (c.in-Ok.ensures.word ∙ z) in
    let named : kind_named set.format (words 0) ≡ None = ap₂ kind_named (sym c.format.ensures.exact) (sym c.in-Ok.ensures.word) ∙ sym c.in-None.ensures in
    (decodes_other set.format set words written named, first_place set (layout_on d) (words (layout_on d).root) (laid d c.format.ensures.limits))

pub returns-in-Some-clause-read : goal.returns-in-Some-clause-read
returns-in-Some-clause-read g c =
    let set = c.args.set.now in
    let words = words_of (g.F.Fram.log c.args.dev.now) (g.F.Fram.start c.args.dev.now) in
    let d = device_by set c.in-Some.kind in
    let written : words 0 ≢ 0 = λ z. c.if-word-eq0.false (c.in-Ok.ensures.word ∙ z) in
    let named : kind_named set.format (words 0) ≡ Some (kind_of c.in-Some.kind) = ap₂ kind_named (sym c.format.ensures.exact) (sym c.in-Ok.ensures.word) ∙ sym c.in-Some.ensures in
    let same : d ≡ device_at set words = sym (named_device set words (kind_of c.in-Some.kind) named) in
    let new : Reader = record { layout = c.layout_for.new.self.layout; migrated = c.layout_for.new.self.migrated; count = 1 } in
    let after : State = record c.args.into.now { shift = c.shift_of-into.result } in
    subst (λ (x : Device). HasRead x words new after) same
    (first_read d words new c.args.into.now after c.format.ensures.limits written named c.layout_for.ensures refl c.requires.state refl refl (c.shift_of-into.ensures d c.layout_for.ensures))
