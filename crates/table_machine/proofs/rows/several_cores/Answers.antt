use Rattle.std.proofs.Common.{refl}
use Rattle.device_model.specs.IndexWords.{index_word, read_index, is_faulty}
use Rattle.device_model.specs.Decoding.{decode_by, decode_kind}
use Rattle.device_model.specs.Formats.{fresh_word}
use Rattle.device_model.specs.Commits.{commit_writes}
use Rattle.table_machine.proofs.rows.several_cores.Goals as goal

pub returns : goal.returns
unfolding index_word read_index is_faulty decode_by decode_kind fresh_word commit_writes
returns c = ((refl, refl, refl, refl), (refl, refl, refl, refl, refl))
