use Rattle.script_text.proofs.ReadBack.{set_read_back}
use Rattle.script_text.proofs.laws.script_text_is_read_back.Goals as goal

pub returns : goal.returns
returns c = set_read_back c.reading_is_written_back.ensures c.disassembled_is_assembled_back.ensures
