-- What an attempt does, by its stage. This project's own.
use Rattle.vol_copy.specs.declared.attempt.Stage.{Stage}
use Rattle.vol_copy.specs.declared.attempt.Stage.TheVariants as stage
use Rattle.vol_copy.specs.declared.doing.Doing.{Doing}
use Rattle.vol_copy.specs.declared.doing.Doing.TheVariants.{Nothing, Runs, Fetches, Copies, Waits}

abbrev pub doing_in : Stage → Doing
doing_in stage.Blank = Nothing
doing_in stage.Running = Runs
doing_in (stage.Fetching object want) = Fetches object
doing_in (stage.Copying object want copied) = Copies object copied
doing_in (stage.Ready outcome) = Waits
