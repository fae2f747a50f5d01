use Rattle.std.proofs.Common.{◌≡◌, ℕ, subst, sym}
use Rattle.set_model.specs.Sets.{TaskSet}
use Rattle.device_model.specs.Layouts.{Plain}
use Rattle.device_model.specs.Words.{Words}
use Rattle.device_model.specs.Decoding.{Held, Holds, decode_by}
use Rattle.device_model.specs.Devices.{image_after}
use Rattle.device_model.specs.Migrations.{migration_writes}
use Rattle.device_model.proofs.Migrated.{migration_prefix}
use Rattle.device_model.proofs.Decoded.{cut_migration}
use Rattle.device_model.proofs.migrations.cut_migration_keeps_state.Goals as goal

-- words of the set hold a state of format 1
Reads : TaskSet → Held → Words → ℕ → Type 0
Reads set h words format = decode_by format set words ≡ Holds Plain h

pub returns-clause-keeps : goal.returns-clause-keeps
returns-clause-keeps g = migration_prefix

pub returns-clause-decodes : goal.returns-clause-decodes
unfolding Reads
returns-clause-decodes g = λ set h words k t two e l.
    subst (Reads set h (image_after k (migration_writes set h) words)) (sym two) (cut_migration set h words k t (subst (Reads set h words) two e) l)
