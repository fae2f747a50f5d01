use Rattle.std.proofs.Common.{◌≡◌, ◌≤◌, drop, take}
use Rattle.schedule_model.specs.Failures.{events_of}
use Rattle.headline.specs.Runs.{Origin, event_lines}
use Rattle.simulation.specs.Counts.{AreFew, tally_of}
use Rattle.simulation.specs.Runs.{Begins, Goes}
use Rattle.simulation.specs.Stores.{store}
use Rattle.simulation.proofs.Counted.{silent}
use Rattle.simulation.proofs.counting.count_events.Given as goal

abbrev pub invariant-loop : goal.invariant-loop
invariant-loop g l = record {
  steps : (goal.iterator-loop g).can_next l.events × (goal.iterator-loop g).is_finite l.events;
  left : l.events ≡ drop l.counter (events_of l.schedule);
  goes : (o : Origin) → Begins o (events_of l.schedule) l.initial.kernel (store g.F.Fram.start g.F.Fram.log g.F.Fram.lost l.initial.dev)
      → Goes o (events_of l.schedule) l.counter l.kernel (store g.F.Fram.start g.F.Fram.log g.F.Fram.lost l.initial.dev) (store g.F.Fram.start g.F.Fram.log g.F.Fram.lost l.dev) silent silent;
  counts : (o : Origin) → Begins o (events_of l.schedule) l.initial.kernel (store g.F.Fram.start g.F.Fram.log g.F.Fram.lost l.initial.dev)
      → l.tally ≡ tally_of (event_lines o (take l.counter (events_of l.schedule)));
  few : AreFew l.counter l.tally;
  set : l.kernel.set ≡ l.initial.kernel.set;
  start : g.F.Fram.start l.dev ≡ g.F.Fram.start l.initial.dev;
  losses : g.F.Fram.lost l.initial.dev ≤ g.F.Fram.lost l.dev;
}
