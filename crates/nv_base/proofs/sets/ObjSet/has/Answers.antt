use Rattle.std.proofs.Common.{◌∙◌, ap, sym, subst, nat_eq}
use Rattle.std.proofs.lemmas.Nat.Bits.{shr_and_one}
use Rattle.object_sets.specs.ObjectSets.{is_among, AreBelow, IsIncreasing}
use Rattle.nv_base.proofs.Words.{is_among-objects_of, objects_of-below, objects_of-increasing}
use Rattle.nv_base.proofs.sets.ObjSet.has.Goals as goal

pub returns-clause-among : goal.returns-clause-among
returns-clause-among c =
    ap (λ bit. nat_eq bit 1) (shr_and_one c.self.inside.bits c.args.o.0)
    ∙ sym (is_among-objects_of c.args.o.0 c.self.inside.bits c.requires)
    ∙ ap (λ xs. is_among c.args.o.0 xs) c.self.view_is

pub returns-clause-increasing : goal.returns-clause-increasing
returns-clause-increasing c = subst IsIncreasing c.self.view_is (objects_of-increasing c.self.inside.bits)

pub returns-clause-below : goal.returns-clause-below
returns-clause-below c = subst (AreBelow 128) c.self.view_is (objects_of-below c.self.inside.bits)
