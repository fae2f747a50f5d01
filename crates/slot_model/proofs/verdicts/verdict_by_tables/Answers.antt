use Rattle.slot_model.proofs.EventLaws.{ended_of}
use Rattle.slot_model.proofs.TableVerdicts.{verdict_at}
use Rattle.std.proofs.Common.{subst}
use Rattle.kernel_model.specs.Cores.{run_of}
use Rattle.kernel_model.specs.Chain.{StartsFrom}
use Rattle.slot_model.proofs.verdicts.verdict_by_tables.Goals as goal

pub returns : goal.returns
returns g c = λ m t n a outcome h p at r. verdict_at m.world.sizes m.world.base m.floor m.state.history m.state.cores m.kept m.image h.lawful.sound.history.numbered (ended_of m.world m.state h.lawful.sound) h.stands.stands t p n a (run_of a outcome) (subst (StartsFrom m.floor) at (h.stands.since.starts n)) r
