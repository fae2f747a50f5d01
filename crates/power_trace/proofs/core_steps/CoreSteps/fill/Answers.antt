use Rattle.std.proofs.Common.{sym, ◌∙◌, arith}
use Rattle.power_trace.specs.ItemSteps.{steps_left}
use Rattle.power_trace.proofs.Totals.{none_filled, all_over, next_item}
use Rattle.power_trace.proofs.core_steps.CoreSteps.fill.Goals as goal

pub returns-in_default : goal.returns-in_default
returns-in_default c =
    let a = c.items.self-inside in
    let f = c.fill-count in
    let none = none_filled (steps_left a.item) c.items.room f.new.room (steps_left f.new.self) f.result f.ensures c.if-count-gt0.false
    (omega (arith, c.requires, c.items.invariant.same)) in
    let now = all_over a.cores (steps_left f.new.self) a.items.now none.1 c.in_default.ensures.cases in
    record {
      same = f.ensures.same ∙ c.items.invariant.same;
      inside = omega arith;
      steps_are = sym c.self.view_is ∙ sym c.items.invariant.left
          ∙ all_over a.cores (steps_left a.item) a.items.now none.0 c.in_default.ensures.cases ∙ sym now;
      some = λ h. now;
    }

pub items-preserved : goal.items-preserved
items-preserved c =
    let a = c.items.self-inside in
    let f = c.fill-count in
    let none = none_filled (steps_left a.item) c.items.room f.new.room (steps_left f.new.self) f.result f.ensures c.if-count-gt0.false
    (omega (arith, c.requires, c.items.invariant.same)) in
    record {
      some_core = c.items.invariant.some_core;
      same = f.ensures.same ∙ c.items.invariant.same;
      left = next_item a.cores (steps_left a.item) (steps_left c.new-self-inside.result) a.items.now c.in-Some.later.now c.in-Some.first.now
          none.0 c.in-Some.ensures.cases.0 c.new-self-inside.ensures
          ∙ c.items.invariant.left;
    }
