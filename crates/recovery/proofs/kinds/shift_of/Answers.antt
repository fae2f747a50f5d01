use Rattle.std.proofs.Common.{◌≡◌, arith, sym}
use Rattle.device_model.specs.Layouts.{Migrated}
use Rattle.recovery.proofs.KindLaws.{migrated_places}
use Rattle.recovery.proofs.kinds.shift_of.Goals as goal

pub overflow_sub-result : goal.overflow_sub-result
overflow_sub-result c =
    let d = c.requires.0 in
    let kind : d.kind ≡ Migrated = sym (c.in-Migrated.ensures d c.requires.1) in
    omega (arith, c.head_reads.ensures d c.requires.1, (migrated_places d kind).1)

pub overflow_sub-result-in-Migrated : goal.overflow_sub-result-in-Migrated
overflow_sub-result-in-Migrated c =
    let d = c.requires.0 in
    let kind : d.kind ≡ Migrated = sym (c.in-Migrated.ensures d c.requires.1) in
    let places = migrated_places d kind in
    omega (arith, c.head_reads.ensures d c.requires.1, c.root_at.ensures d c.requires.1, places.0, places.1)
