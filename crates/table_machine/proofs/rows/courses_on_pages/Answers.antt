use Rattle.std.proofs.Common.{refl}
use Rattle.device_model.specs.IndexWords.{index_word, read_index, is_faulty}
use Rattle.device_model.specs.Decoding.{decode_by, decode_kind}
use Rattle.device_model.specs.Formats.{fresh_word}
use Rattle.device_model.specs.Commits.{commit_writes}
use Rattle.table_machine.proofs.rows.courses_on_pages.Goals as goal

pub returns : goal.returns
unfolding index_word read_index is_faulty decode_by decode_kind fresh_word commit_writes
returns c = record {
  commit = ((refl, refl, refl, refl, refl), (refl, refl, refl, refl, refl));
  found = ((refl, refl, refl), (refl, refl, refl));
  changed = (refl, refl, refl, refl, refl, refl);
}
