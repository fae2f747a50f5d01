use Rattle.std.proofs.Common.{sym, ◌-◌, ◌∙◌}
use Rattle.std.proofs.lemmas.List.{nil_from_length}
use Rattle.power_trace.proofs.InTurn.{pass_begins, passes_are_over, passes_are_empty}
use Rattle.power_trace.proofs.sequence.Sequence.next_core.Goals as goal

pub returns-then-self-eq0 : goal.returns-then-self-eq0
returns-then-self-eq0 c =
    let a = c.self.inside in
    let over = sym c.self.view_is ∙ passes_are_over a.rest.now a.order.now a.times (nil_from_length a.rest.now c.in_default.ensures.cases) c.if-self-eq0.true in
    (over, over)

pub returns-in_err-core : goal.returns-in_err-core
returns-in_err-core c =
    let a = c.self.inside in
    let none = nil_from_length a.rest.now c.in_default.ensures.cases in
    let empty = nil_from_length a.order.now c.in_err-core.ensures.cases in
    rw c.from_residual.ensures
    (sym c.self.view_is ∙ passes_are_empty a.rest.now a.order.now a.times none empty, passes_are_empty a.rest.now a.order.now (a.times - 1) none empty)

pub returns : goal.returns
returns c =
    let a = c.self.inside in
    sym c.self.view_is
    ∙ pass_begins a.rest.now a.order.now a.times c.in_ok-core.core.now c.in_ok-core.rest.now
    (nil_from_length a.rest.now c.in_default.ensures.cases) c.if-self-eq0.false c.in_ok-core.ensures.cases.0
