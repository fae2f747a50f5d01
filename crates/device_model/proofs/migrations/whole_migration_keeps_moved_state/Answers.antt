use Rattle.std.proofs.Common.{◌≡◌, ℕ, subst, sym}
use Rattle.set_model.specs.Sets.{TaskSet}
use Rattle.device_model.specs.Layouts.{Kind, Plain, Migrated}
use Rattle.device_model.specs.Words.{Words, made}
use Rattle.device_model.specs.Decoding.{Held, Holds, decode_by}
use Rattle.device_model.specs.Migrations.{migration_writes, moved_held}
use Rattle.device_model.proofs.Migrated.{migration_whole}
use Rattle.device_model.proofs.Decoded.{whole_migration}
use Rattle.device_model.proofs.migrations.whole_migration_keeps_moved_state.Goals as goal

-- words of the set hold a state
Reads : TaskSet → Kind → Held → Words → ℕ → Type 0
Reads set kind h words format = decode_by format set words ≡ Holds kind h

pub returns-clause-keeps : goal.returns-clause-keeps
returns-clause-keeps g = migration_whole

pub returns-clause-decodes : goal.returns-clause-decodes
unfolding Reads
returns-clause-decodes g = λ set h words t two e.
    subst (Reads set Migrated (moved_held set h) (made (migration_writes set h) words)) (sym two) (whole_migration set h words t (subst (Reads set Plain h words) two e))
