use Rattle.rv_asm.proofs.WrittenLines.{assembled_back}
use Rattle.rv_asm.proofs.disassembler.disassembled_is_assembled_back.Goals as goal

pub returns : goal.returns
returns c = assembled_back c.reading_is_written_back.ensures
