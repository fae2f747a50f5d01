use Rattle.std.proofs.Common.{◌≡◌, ◌≤◌, ℕ, drop, length}
use Rattle.schedule_model.specs.Failures.{events_of}
use Rattle.headline.specs.Runs.{Origin}
use Rattle.simulation.specs.Runs.{Begins, Goes}
use Rattle.simulation.specs.Stores.{store}
use Rattle.simulation.proofs.events.put_events.Given as goal

abbrev pub invariant-loop-event : goal.invariant-loop-event
invariant-loop-event g l = record {
  steps : (goal.iterator-loop-event g).can_next l.events × (goal.iterator-loop-event g).is_finite l.events;
  done : (n : ℕ) × (n ≤ length (events_of l.schedule)) × (l.events ≡ drop n (events_of l.schedule))
      × ((o : Origin) → Begins o (events_of l.schedule) l.initial.kernel (store g.F.Fram.start g.F.Fram.log g.F.Fram.lost l.initial.dev)
      → Goes o (events_of l.schedule) n l.kernel (store g.F.Fram.start g.F.Fram.log g.F.Fram.lost l.initial.dev) (store g.F.Fram.start g.F.Fram.log g.F.Fram.lost l.dev) (g.K.Sink.seen l.initial.out) (g.K.Sink.seen l.out));
  set : l.kernel.set ≡ l.initial.kernel.set;
  start : g.F.Fram.start l.dev ≡ g.F.Fram.start l.initial.dev;
  losses : g.F.Fram.lost l.initial.dev ≤ g.F.Fram.lost l.dev;
}
