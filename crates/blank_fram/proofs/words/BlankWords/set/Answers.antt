use Rattle.std.proofs.Common.{ap, rules}
use Rattle.blank_fram.specs.Words.{Words}
use Rattle.blank_fram.proofs.Behind.{put_behind}
use Rattle.blank_fram.proofs.words.BlankWords.set.Goals as goal

pub returns-else-at-len : goal.returns-else-at-len
returns-else-at-len c = put_behind c.self.inside.kept.items c.reach.new.kept.items _ c.self.inside.zeros c.reach.result c.args.at c.args.word
    (ap (λ (w : Words). w.items) c.self.view_is) c.requires (search rules) c.reach.ensures.count c.reach.ensures.words
