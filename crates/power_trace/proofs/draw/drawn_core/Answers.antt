use Rattle.power_trace.proofs.ByNumber.{drawn_word}
use Rattle.power_trace.proofs.draw.drawn_core.Goals as goal

pub returns : goal.returns
returns c = λ count h.
    drawn_word c.args.cores count c.args.seed c.args.n c.from.result c.from-2.result c.from-3.result c.next_word.result
    c.new-generator.result c.advance.new.self c.next_word.new.self
    c.from.ensures c.from-2.ensures c.from-3.ensures c.new-generator.ensures c.advance.ensures c.next_word.ensures h
