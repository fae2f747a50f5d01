use Rattle.std.proofs.Common.{OnErr, ◌≡◌, ◌<◌, length, sym, subst}
use Rattle.device_format.specs.Puts.{HasFront}
use Rattle.recovery.specs.Images.{words_of}
use Rattle.kernel_core.specs.Opening.{IsLeft, need_for, opening_writes}
use Rattle.kernel_core.specs.declared.open.How.{How}
use Rattle.kernel_core.proofs.kernel.Kernel.begin.Goals as goal

pub returns-in-Again-clause-cut : goal.returns-in-Again-clause-cut
returns-in-Again-clause-cut g c =
    let log = g.F.Fram.log in
    let words = words_of (log c.args.dev.now) (g.F.Fram.start c.args.dev.now) in
    subst (λ (how : How). OnErr c.go_on.result (HasFront (opening_writes how c.args.self.now.set words) (log c.args.dev.now) (log c.go_on.new.dev))) (sym c.in-Again.is) c.go_on.ensures.cut

pub returns-in-Again-clause-left : goal.returns-in-Again-clause-left
returns-in-Again-clause-left g c =
    let log = g.F.Fram.log in
    let start = g.F.Fram.start in
    let words = words_of (log c.args.dev.now) (start c.args.dev.now) in
    let later = words_of (log c.go_on.new.dev) (start c.go_on.new.dev) in
    subst (λ (how : How). IsLeft how c.args.self.now.set words later) (sym c.in-Again.is) c.go_on.ensures.left

pub returns-in-Again-clause-spared : goal.returns-in-Again-clause-spared
returns-in-Again-clause-spared g c =
    let log = g.F.Fram.log in
    let words = words_of (log c.args.dev.now) (g.F.Fram.start c.args.dev.now) in
    let len = length (g.F.Fram.start c.args.dev.now) in
    subst (λ (how : How). len < need_for how c.args.self.now.set words len → log c.go_on.new.dev ≡ log c.args.dev.now) (sym c.in-Again.is) c.go_on.ensures.spared
