-- What is promised of a run. Serializability is that of Bernstein, Hadzilacos and Goodman, with the serial order named; the rest is this project's own.
use Rattle.std.specs.Prelude.{◌≡◌, ℕ, List, Some, slice_get, take}
use Rattle.kernel_model.specs.Runs.{whole_run}
use Rattle.kernel_model.specs.Items.{listing}
use Rattle.kernel_model.specs.Serial.{Serial}
use Rattle.kernel_model.specs.Turns.{Start}
use Rattle.kernel_model.specs.Events.{Event}
use Rattle.kernel_model.specs.Durable.{listed}
use Rattle.kernel_model.specs.Report.{EachOnce, IsFresh, told}
use Rattle.task_model.specs.TaskSteps.{task_steps}
use Rattle.headline.specs.Runs.{Origin, after, all_lines, event_lines, state_read}
use Rattle.headline.specs.Report.{report_text}

pub record Headline (o : Origin) (events : List Event) (text : List ℕ) : Type 0 where
  -- the bytes are the event machine's report
  pub report : text ≡ report_text o events
  -- the state read back is that of running the listed finishes whole, one after another, by point and number
  pub serial : Serial (whole_run (task_steps o.device.set)) o.base (listing (listed (after o events))) (state_read o events)
  -- the finish and found lines are the listing, in the order of the numbers
  pub acknowledged : told (all_lines o events) ≡ listing (listed (after o events))
  -- no task is listed twice
  pub once : EachOnce (listing (listed (after o events)))
  -- a task that starts is open then, and was not listed before
  pub started : (n core task at : ℕ) → slice_get (event_lines o events) n ≡ Some (Start core task at) → IsFresh o.base (after o (take n events)) task
