use Rattle.kernel_model.proofs.ReadLaws.{newest-read}
use Rattle.kernel_model.proofs.tables.newest_read_has_newest_writer.Goals as goal

pub returns : goal.returns
returns c = λ base history r newest v e f. newest-read base history r newest v e f
