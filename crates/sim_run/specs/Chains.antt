-- A chain of calls is one history: `resume` goes on with what the call before it left. This project's own.
use Rattle.std.specs.Prelude.{◌≡◌, ℕ, ◌≤◌, List, ◌++◌, length, take, Some}
use Rattle.nv_base.specs.declared.limits.TheConstants.{MAX_EVENTS}
use Rattle.kernel_model.specs.Events.{Event}
use Rattle.kernel_model.specs.Items.{listing}
use Rattle.kernel_model.specs.Durable.{listed}
use Rattle.set_model.specs.Sets.{TaskSet}
use Rattle.set_model.specs.Limits.{IsTaskSet}
use Rattle.headline.specs.Chains.{Follows, IsSerial}
use Rattle.headline.specs.Runs.{Origin, after, state_read}
use Rattle.kernel_core.specs.declared.open.How.{How}
use Rattle.kernel_core.specs.declared.open.How.TheVariants.{Again}
use Rattle.simulation.specs.Stores.{Store, words_in}
use Rattle.sim_run.specs.Origins.{begin_on}

-- a second run begins with the state that the end part of the first told, with its boots; and what both list is serial, from where the first began
pub record AreOneHistory (o : Origin) (events : List Event) (p : Origin) (more : List Event) : Type 0 where
  pub follows : Follows o events p
  pub together : IsSerial o.device.set o.base (listing (listed (after o events)) ++ listing (listed (after p more))) (state_read p more)

-- a call, and a `resume` of the same set on the device that it has left, each with its events and with where it begins
pub record AreCalls (how : How) (set : TaskSet) (events more : List Event) (old new : Store) (o p : Origin) : Type 0 where
  pub limits : IsTaskSet set
  pub few : length events ≤ MAX_EVENTS
  pub few_more : length more ≤ MAX_EVENTS
  pub first : begin_on how set (words_in old) ≡ Some o
  pub then : begin_on Again set (words_in new) ≡ Some p
  pub start : new.start ≡ old.start

-- the first events of a run, so many at least and at most, are one history with those of a second run
pub record GoOn (o : Origin) (events : List Event) (p : Origin) (more : List Event) (least most : ℕ) : Type 0 where
  pub done : ℕ
  pub from : least ≤ done
  pub to : done ≤ most
  pub history : AreOneHistory o (take done events) p more
