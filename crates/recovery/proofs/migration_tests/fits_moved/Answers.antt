use Rattle.std.proofs.Common.{◌≡◌, ◌≤◌, length, arith, sym, ◌∙◌, subst}
use Rattle.std.proofs.lemmas.Bool.{eqb-true}
use Rattle.device_model.specs.Layouts.{Migrated, magic_of}
use Rattle.device_model.specs.Devices.{Device, migrated, need_on}
use Rattle.recovery.specs.Images.{words_of}
use Rattle.recovery.proofs.KindLaws.{need_some}
use Rattle.recovery.proofs.MovedState.{moved_at}
use Rattle.recovery.proofs.migration_tests.fits_moved.Goals as goal

pub read-requires : goal.read-requires
read-requires g c =
    let set = c.args.set.now in
    omega (arith, c.need.ensures (migrated set) c.of_kind.ensures, c.len.ensures, c.if-len-need.false, need_some Migrated set)

pub returns-in-Ok-clause-room : goal.returns-in-Ok-clause-room
returns-in-Ok-clause-room g c = λ t.
    let set = c.args.set.now in
    let words = words_of (g.F.Fram.log c.args.dev.now) (g.F.Fram.start c.args.dev.now) in
    let named : words 0 ≡ magic_of Migrated = sym c.in-Ok.ensures.word ∙ eqb-true c.in-Ok.word c.magic.result t ∙ c.magic.ensures in
    let two : set.format ≡ 2 = omega (arith, c.format.ensures.exact, c.if-format-ne2.false) in
    let room : need_on (migrated set) ≤ length (g.F.Fram.start c.args.dev.now) = omega (arith, c.need.ensures (migrated set) c.of_kind.ensures, c.len.ensures, c.if-len-need.false) in
    subst (λ (d : Device). need_on d ≤ length (g.F.Fram.start c.args.dev.now)) (sym (moved_at set words two named)) room
