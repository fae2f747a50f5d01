use Rattle.std.proofs.Common.{sym, ◌∙◌}
use Rattle.power_trace.proofs.InTurn.{draw_is_over, draw_goes_on}
use Rattle.power_trace.proofs.draw.Draw.next_core.Goals as goal

pub returns-then-self-eq0 : goal.returns-then-self-eq0
returns-then-self-eq0 c =
    let over = sym c.self.view_is ∙ draw_is_over c.self.inside.cores c.self.inside.count c.self.inside.generator c.if-self-eq0.true in
    (over, over)

pub returns : goal.returns
returns c = rw c.core_of.ensures
    (sym c.self.view_is
    ∙ draw_goes_on c.self.inside.cores c.self.inside.count c.next_word.result c.self.inside.generator c.next_word.new.self
    c.if-self-eq0.false c.next_word.ensures)
