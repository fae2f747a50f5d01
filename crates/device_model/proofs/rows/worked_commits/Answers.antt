use Rattle.std.proofs.Common.{refl}
use Rattle.device_model.specs.IndexWords.{index_word, read_index, is_faulty}
use Rattle.device_model.specs.Decoding.{decode_by, decode_kind}
use Rattle.device_model.specs.Formats.{fresh_word, format_writes}
use Rattle.device_model.specs.Commits.{commit_writes}
use Rattle.device_model.specs.Migrations.{migration_writes}
use Rattle.device_model.proofs.rows.worked_commits.Goals as goal

pub returns : goal.returns
unfolding index_word read_index is_faulty decode_by decode_kind fresh_word format_writes commit_writes migration_writes
returns c = (refl, refl, refl, refl, refl)
