use Rattle.std.proofs.Common.{ap, ◌∙◌}
use Rattle.kernel_model.specs.Items.{listing}
use Rattle.kernel_model.specs.Durable.{listed}
use Rattle.kernel_model.specs.Execution.{state_at}
use Rattle.kernel_model.proofs.Joining.{listing-append}
use Rattle.kernel_model.proofs.FirstEvents.{listing_grows}
use Rattle.kernel_model.proofs.event_by_event.listing_only_grows.Goals as goal

pub returns : goal.returns
returns g c = λ x m n l. let k = listing_grows x m n l in (k.0, k.1, ap listing k.1 ∙ listing-append k.0 (listed (state_at x m)))
