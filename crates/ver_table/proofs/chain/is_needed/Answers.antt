use Rattle.std.proofs.Common.{Bool, ap, sym, ◌∙◌, ◌||◌, map}
use Rattle.interval.specs.Ranges.{number_of, range_of}
use Rattle.kernel_model.specs.Room.{meet}
use Rattle.ver_table.specs.Chains.{lived}
use Rattle.ver_table.specs.Places.{is_met}
use Rattle.ver_table.proofs.Orders.{any-map}
use Rattle.ver_table.proofs.chain.is_needed.Goals as goal

pub returns-else-is_pinned : goal.returns-else-is_pinned
returns-else-is_pinned c =
    c.is_met.ensures ∙ sym (any-map (meet (lived c.args.begin.0 (number_of c.args.end))) range_of c.args.others.now)
    ∙ ap (λ (b : Bool). b || is_met (map range_of c.args.others.now) (record { slot = c.args.slot; begin = c.args.begin.0; end = number_of c.args.end })) (sym c.if-is_pinned.false ∙ c.is_pinned.ensures)
