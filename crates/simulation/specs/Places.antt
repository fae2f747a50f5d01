-- What a run has beside its kernel. This project's own.
use Rattle.std.specs.Prelude.{◌≤◌, vec_capacity}
use Rattle.nv_base.specs.declared.limits.TheConstants.{MAX_SIZE}
use Rattle.set_model.specs.Sets.{TaskSet}
use Rattle.shadow_index.specs.States.{HasTaken}
use Rattle.simulation.specs.declared.place.Place.{Place}

-- room for the state of a set, and for the words of each object
pub record HasPlace (set : TaskSet) (p : Place) : Type 0 where
  pub state : HasTaken set 0 p.state
  pub words : MAX_SIZE ≤ vec_capacity p.words
