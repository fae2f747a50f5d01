use Rattle.set_model.specs.Sets.{object_at}
use Rattle.device_model.specs.Layouts.{slot_place}
use Rattle.device_model.specs.Devices.{layout_on}
use Rattle.device_model.proofs.SlotWrites.{words-other, words-out, words-set}
use Rattle.device_model.proofs.commits.write_changes_one_slot.Goals as goal

pub returns-clause-same : goal.returns-clause-same
returns-clause-same g = λ d words o slot i word w. words-set words (slot_place (layout_on d) d.set o slot) (object_at d.set o).size i word w.2

pub returns-clause-other : goal.returns-clause-other
returns-clause-other g = λ d words o slot i word p other w m n ne. words-other d.set (layout_on d) words o slot i word p other w.0 w.1 w.2 m n ne

pub returns-clause-before : goal.returns-clause-before
returns-clause-before g = λ d words w o slot n. words-out d.set (layout_on d) words w o slot n
