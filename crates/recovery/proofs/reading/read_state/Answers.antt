use Rattle.std.proofs.Common.{◌≡◌, ap₂}
use Rattle.recovery.specs.Images.{words_of}
use Rattle.recovery.proofs.WholeRead.{whole_on_ok}
use Rattle.recovery.proofs.reading.read_state.Goals as goal

pub returns-clause-held : goal.returns-clause-held
returns-clause-held g c =
    let set = c.args.set.now in
    let words = words_of (g.F.Fram.log c.args.dev.now) (g.F.Fram.start c.args.dev.now) in
    let first : words_of (g.F.Fram.log c.first.new.dev) (g.F.Fram.start c.first.new.dev) ≡ words = ap₂ words_of c.first.ensures.log c.first.ensures.start in
    whole_on_ok set words _ c.read_rest.result c.read_rest.new.reader c.read_rest.new.into c.requires.own first c.read_rest.ensures.read c.read_rest.ensures.all
