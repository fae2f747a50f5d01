use Rattle.std.proofs.Common.{sym, ◌∙◌}
use Rattle.shadow_index.specs.Tells.{device_of}
use Rattle.recovery.proofs.KindLaws.{same_layout}
use Rattle.recovery.proofs.reader.Reader.layout_for.Goals as goal

pub returns-in-Plain-Plain : goal.returns-in-Plain-Plain
returns-in-Plain-Plain c =
    same_layout c.args.set.now c.kind.result c.args.kind c.args.self.now.layout c.requires.first (c.kind.ensures (device_of c.args.set.now 0) c.requires.first) (c.in-Plain-Plain.is-0 ∙ sym c.in-Plain-Plain.is-1)

pub returns-in-Paged-Paged : goal.returns-in-Paged-Paged
returns-in-Paged-Paged c =
    same_layout c.args.set.now c.kind.result c.args.kind c.args.self.now.layout c.requires.first (c.kind.ensures (device_of c.args.set.now 0) c.requires.first) (c.in-Paged-Paged.is-0 ∙ sym c.in-Paged-Paged.is-1)
