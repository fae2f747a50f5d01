use Rattle.std.proofs.Common.{◌∙◌, sym, subst, arith}
use Rattle.object_sets.specs.ObjectSets.{AreBelow, IsIncreasing}
use Rattle.nv_base.proofs.Words.{objects_of-below, objects_of-increasing, objects_of-least, objects_of-none}
use Rattle.nv_base.proofs.sets.ObjSet.take_least.Goals as goal

pub returns-then-self-eq0-clause-taken : goal.returns-then-self-eq0-clause-taken
returns-then-self-eq0-clause-taken c =
    let none = sym c.self.view_is ∙ objects_of-none c.self.inside.bits (omega (arith, c.if-self-eq0.true)) in
    (none, none)

pub returns-then-self-eq0-clause-increasing : goal.returns-then-self-eq0-clause-increasing
returns-then-self-eq0-clause-increasing c = subst IsIncreasing c.self.view_is (objects_of-increasing c.self.inside.bits)

pub returns-then-self-eq0-clause-below : goal.returns-then-self-eq0-clause-below
returns-then-self-eq0-clause-below c = subst (AreBelow 128) c.self.view_is (objects_of-below c.self.inside.bits)

pub returns-clause-taken : goal.returns-clause-taken
returns-clause-taken c =
    sym c.self.view_is ∙ objects_of-least c.self.inside.bits (omega (arith, c.if-self-eq0.false)) c.self.invariant

pub returns-clause-increasing : goal.returns-clause-increasing
returns-clause-increasing c = subst IsIncreasing c.self.view_is (objects_of-increasing c.self.inside.bits)

pub returns-clause-below : goal.returns-clause-below
returns-clause-below c = subst (AreBelow 128) c.self.view_is (objects_of-below c.self.inside.bits)
