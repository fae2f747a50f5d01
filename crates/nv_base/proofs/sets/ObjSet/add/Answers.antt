use Rattle.std.proofs.Common.{◌∙◌, ap}
use Rattle.object_sets.specs.ObjectSets.{with_object}
use Rattle.nv_base.proofs.Words.{objects_of-below, objects_of-increasing, objects_of-set, set_below}
use Rattle.nv_base.proofs.sets.ObjSet.add.Goals as goal

pub invariant_of-self : goal.invariant_of-self
invariant_of-self c = set_below c.self.inside.bits c.args.o.0 c.self.invariant

pub returns-clause-added : goal.returns-clause-added
returns-clause-added c =
    objects_of-set c.self.inside.bits c.args.o.0 c.self.invariant c.requires ∙ ap (λ xs. with_object c.args.o.0 xs) c.self.view_is

pub returns-clause-increasing : goal.returns-clause-increasing
returns-clause-increasing c = objects_of-increasing _

pub returns-clause-below : goal.returns-clause-below
returns-clause-below c = objects_of-below _
