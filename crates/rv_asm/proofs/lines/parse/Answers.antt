use Rattle.std.proofs.Common.{sym, subst}
use Rattle.rv_asm.specs.Lines.{Line}
use Rattle.rv_asm.specs.Seen.{IsWhole}
use Rattle.rv_asm.proofs.Whole.{parsed_whole}
use Rattle.rv_asm.proofs.lines.parse.Goals as goal

pub returns-clause-whole : goal.returns-clause-whole
returns-clause-whole c = subst (λ (l : Line). IsWhole l.body) (sym c.read_line.ensures) (parsed_whole c.args.bytes.now)
