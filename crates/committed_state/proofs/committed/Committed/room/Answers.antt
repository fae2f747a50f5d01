use Rattle.std.proofs.Common.{arith, ap}
use Rattle.task_queue.specs.Queues.{Queued}
use Rattle.committed_state.proofs.Queues.{first_named, opened_slots}
use Rattle.committed_state.proofs.committed.Committed.room.Goals as goal

pub open-requires : goal.open-requires
open-requires c = first_named c.args.set.now c.from.result c.objects.ensures.limits (omega (arith, c.from.ensures, c.objects.ensures.exact)) (omega (arith, c.from.ensures, c.objects.ensures.few))

pub returns-clause-rooms : goal.returns-clause-rooms
returns-clause-rooms c = record {
  limits = c.objects.ensures.limits;
  state = c.in_ok-room.ensures.room.room;
  after = c.in_ok-room-2.ensures.room.room;
  slots = opened_slots _ _ _ _ c.in_ok-open.ensures;
  records = ap (λ (q : Queued). q.records) c.in_ok-open-2.ensures;
}
