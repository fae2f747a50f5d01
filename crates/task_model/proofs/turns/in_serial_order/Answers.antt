use Rattle.std.proofs.Common.{map}
use Rattle.std.proofs.lemmas.List.Sorted.{All-permutation}
use Rattle.set_model.specs.Views.{entry_of}
use Rattle.task_model.specs.Turns.{IsTurnOf}
use Rattle.task_model.proofs.TurnLists.{in_order}
use Rattle.task_model.proofs.turns.in_serial_order.Goals as goal

pub returns-clause-order : goal.returns-clause-order
returns-clause-order c =
    let s = c.sort_unstable.ensures in
    in_order c.entries_compare_by_keys.ensures c.sorted_entries_are_in_order.ensures (map entry_of c.args.listing.now) c.in_ok-turns.turns.items c.sort_unstable.new.self.items c.in_ok-turns.ensures.places c.in_ok-turns.ensures.turns s.permutation s.sorted

pub returns-clause-turns : goal.returns-clause-turns
returns-clause-turns c = All-permutation (IsTurnOf (map entry_of c.args.listing.now)) c.in_ok-turns.turns.items c.sort_unstable.new.self.items c.sort_unstable.ensures.permutation c.in_ok-turns.ensures.turns
