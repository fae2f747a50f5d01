use Rattle.std.proofs.Common.{◌≡◌, take, string_bytes}
use Rattle.rv_asm.specs.Disassembly.{disassembled}
use Rattle.rv_asm.proofs.disassembler.disassemble.Given as goal

abbrev pub invariant-loop-word : goal.invariant-loop-word
invariant-loop-word l = string_bytes l.text ≡ disassembled (take l.word-index l.words)
