-- How far an attempt is, as a verdict and a reader ask. This project's own.
use Rattle.std.specs.Prelude.{◌≡◌, ℕ, Bool, true, false, Option, Some, None}
use Rattle.nv_base.specs.declared.ids.ObjId.{ObjId}
use Rattle.nv_base.specs.declared.lines.Outcome.{Outcome}
use Rattle.vol_copy.specs.declared.attempt.Stage.{Stage}
use Rattle.vol_copy.specs.declared.attempt.Stage.TheVariants as stage
use Rattle.vol_copy.specs.declared.want.Want.{Want}

-- how it has ended, if it has
abbrev pub outcome_in : Stage → Option Outcome
outcome_in stage.Blank = None
outcome_in stage.Running = None
outcome_in (stage.Fetching object want) = None
outcome_in (stage.Copying object want copied) = None
outcome_in (stage.Ready outcome) = Some outcome

-- whether it has
abbrev pub is_waiting : Stage → Bool
is_waiting stage.Blank = false
is_waiting stage.Running = false
is_waiting (stage.Fetching object want) = false
is_waiting (stage.Copying object want copied) = false
is_waiting (stage.Ready outcome) = true

-- whether it runs
abbrev pub is_running_in : Stage → Bool
is_running_in stage.Blank = false
is_running_in stage.Running = true
is_running_in (stage.Fetching object want) = false
is_running_in (stage.Copying object want copied) = false
is_running_in (stage.Ready outcome) = false

-- the object whose words come one by one, and how many are copied
abbrev pub copying_in : Stage → Option (ObjId × ℕ)
copying_in stage.Blank = None
copying_in stage.Running = None
copying_in (stage.Fetching object want) = None
copying_in (stage.Copying object want copied) = Some (object, copied)
copying_in (stage.Ready outcome) = None

-- a version of this object is to be chosen
abbrev pub IsFetching : ObjId → Stage → Type 0
IsFetching object s = (want : Want) × (s ≡ stage.Fetching object want)

-- the words of some object come one by one
abbrev pub IsCopying : Stage → Type 0
IsCopying s = (object : ObjId) × (want : Want) × (copied : ℕ) × (s ≡ stage.Copying object want copied)

-- after a word of a copy, which was the last one or not
abbrev pub IsAfterWord : Bool → Stage → Type 0
IsAfterWord false s = IsCopying s
IsAfterWord true s = s ≡ stage.Running
