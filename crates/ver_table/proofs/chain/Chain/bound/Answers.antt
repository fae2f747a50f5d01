use Rattle.ver_table.proofs.Shown.{shown}
use Rattle.ver_table.proofs.chain.Chain.bound.Goals as goal

pub returns-clause-laid : goal.returns-clause-laid
returns-clause-laid c = shown c.self.inside.slots c.self.inside.bound.0 c.self.inside.order.items c.self.inside.begins c.self.inside.ends c.args.self.now c.self.view_is c.self.invariant
