use Rattle.std.proofs.Common.{◌++◌, ap, sym, subst}
use Rattle.kernel_model.specs.Durable.{Durable, listed}
use Rattle.kernel_model.specs.Items.{listing}
use Rattle.kernel_model.specs.Replay.{DeviceState}
use Rattle.set_model.specs.Sets.{TaskSet}
use Rattle.headline.specs.Chains.{IsSerial}
use Rattle.headline.specs.Runs.{after, state_read}
use Rattle.headline.proofs.Promise.{execution_of}
use Rattle.headline.proofs.laws.runs_are_one_history.Goals as goal

pub returns-clause-goes_on : goal.returns-clause-goes_on
returns-clause-goes_on c = λ o events up ids first entries before. c.listing_goes_on.ensures (execution_of o events up ids) first entries before

pub returns-clause-together : goal.returns-clause-together
returns-clause-together c = λ o p events more up ids up_then ids_then follows.
    let before = c.listing_is_serial.ensures (execution_of o events up ids) in
    let one = listing (listed (after o events)) in
    let base = subst (λ (s : DeviceState). IsSerial o.device.set o.base one s) (sym (ap (λ (d : Durable). d.state) follows.left)) before in
    subst (λ (set : TaskSet). IsSerial set o.base (one ++ listing (listed (after p more))) (state_read p more)) follows.set
    (c.listing_goes_on.ensures (execution_of p more up_then ids_then) o.base one (subst (λ (set : TaskSet). IsSerial set o.base one p.base) (sym follows.set) base))
