use Rattle.shadow_index.specs.Tells.{device_of}
use Rattle.commit_writer.proofs.tests.cut.first_state.Goals as goal

pub returns-clause-root : goal.returns-clause-root
returns-clause-root c = c.first_root.ensures (device_of c.args.set.now 0) c.of.ensures
