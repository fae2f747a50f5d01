use Rattle.std.proofs.Common.{◌<◌, ◌+◌, ℕ, Ok, length, refl, sym, ap, ◌∙◌, subst, arith}
use Rattle.schedule_model.specs.Failures.{events_of}
use Rattle.schedule_model.specs.Parts.{IsOfCores}
use Rattle.power_trace.specs.Events.{event_of}
use Rattle.simulation.specs.Runs.{Goes}
use Rattle.simulation.specs.Stores.{store}
use Rattle.simulation.proofs.Fronts.{rose_later}
use Rattle.simulation.proofs.Going.{begun, boots_below, call_done, call_lost, call_stops, goes_on, line_cut, line_done, line_named, line_stops, listed_below, next_below, next_is, next_within, none_left, passes_on, rest_is, same_goes, set_at}
use Rattle.simulation.proofs.events.put_events.Goals as goal

pub loop-event-init : goal.loop-event-init
loop-event-init g c = record {
  steps = (tt, tt);
  done = (0, omega arith, c.events-events.ensures, λ o b. begun o (events_of c.args.schedule.now) c.args.kernel.now (store g.F.Fram.start g.F.Fram.log g.F.Fram.lost c.args.dev.now) (g.K.Sink.seen c.args.out.now) c.kernel_is_at_state.ensures.durable c.images_follow_events.ensures.none b);
  set = refl;
  start = refl;
  losses = omega arith;
}

pub pass-requires-clause-at : goal.pass-requires-clause-at
pass-requires-clause-at g c =
    let b = c.requires.begins in
    let goes = c.loop-event.invariant.done.3 b.0 b.1 in
    (b.0, _, goes.at)

pub pass-requires-clause-core : goal.pass-requires-clause-core
pass-requires-clause-core g c =
    let events = events_of c.args.schedule.now in
    let is = next_is events c.loop-event.invariant.done.0 (event_of c.in-Some.event) c.next.new.self (sym c.loop-event.invariant.done.2 ∙ c.in-Some.ensures.steps) in
    subst (λ (n : ℕ). IsOfCores n (event_of c.in-Some.event)) (c.requires.cores ∙ ap (λ set. set.cores) (sym c.loop-event.invariant.set)) (c.each_event_is_of_cores.ensures c.args.schedule.now c.loop-event.invariant.done.0 (event_of c.in-Some.event) c.len.ensures.proper is)

pub pass-requires-clause-few : goal.pass-requires-clause-few
pass-requires-clause-few g c =
    let b = c.requires.begins in
    listed_below b.0 (events_of c.args.schedule.now) c.loop-event.invariant.done.0 c.loop-event.kernel _ _ _ _ (next_below (events_of c.args.schedule.now) c.loop-event.invariant.done.0 (event_of c.in-Some.event) c.next.new.self (sym c.loop-event.invariant.done.2 ∙ c.in-Some.ensures.steps)) (c.loop-event.invariant.done.3 b.0 b.1)

pub pass-requires-clause-boots : goal.pass-requires-clause-boots
pass-requires-clause-boots g c =
    let b = c.requires.begins in
    boots_below b.0 (events_of c.args.schedule.now) c.loop-event.invariant.done.0 c.args.kernel.now _ _ _ _ c.kernel_is_at_state.ensures.boots b.1 (next_below (events_of c.args.schedule.now) c.loop-event.invariant.done.0 (event_of c.in-Some.event) c.next.new.self (sym c.loop-event.invariant.done.2 ∙ c.in-Some.ensures.steps)) c.loop-event.kernel (c.loop-event.invariant.done.3 b.0 b.1)

pub returns-in_default-pass-clause-halted : goal.returns-in_default-pass-clause-halted
returns-in_default-pass-clause-halted g c = λ o b.
    let goes = c.loop-event.invariant.done.3 o b in
    call_lost o (events_of c.args.schedule.now) c.loop-event.invariant.done.0 c.loop-event.kernel _ _ _ _ (g.F.Fram.lost c.pass.new.dev) goes (rose_later (g.F.Fram.lost c.args.dev.now) (g.F.Fram.lost c.loop-event.dev) (g.F.Fram.lost c.pass.new.dev) goes.losses c.in_default-pass.ensures.failed)

pub returns-in_default-pass-clause-done : goal.returns-in_default-pass-clause-done
returns-in_default-pass-clause-done g c = λ o b.
    let events = events_of c.args.schedule.now in
    let is = next_is events c.loop-event.invariant.done.0 (event_of c.in-Some.event) c.next.new.self (sym c.loop-event.invariant.done.2 ∙ c.in-Some.ensures.steps) in
    let less : c.loop-event.invariant.done.0 < length events = next_below (events_of c.args.schedule.now) c.loop-event.invariant.done.0 (event_of c.in-Some.event) c.next.new.self (sym c.loop-event.invariant.done.2 ∙ c.in-Some.ensures.steps) in
    call_done o events c.loop-event.invariant.done.0 c.loop-event.kernel _ (store g.F.Fram.start g.F.Fram.log g.F.Fram.lost c.loop-event.dev) (store g.F.Fram.start g.F.Fram.log g.F.Fram.lost c.pass.new.dev) c.in-Some.event _ _ c.images_follow_events.ensures.more
    (c.loop-event.invariant.done.3 o b) is less c.in_default-pass.ensures.cut c.in_default-pass.ensures.start

pub returns-in_default-pass-clause-stops : goal.returns-in_default-pass-clause-stops
returns-in_default-pass-clause-stops g c = λ o b.
    let events = events_of c.args.schedule.now in
    let is = next_is events c.loop-event.invariant.done.0 (event_of c.in-Some.event) c.next.new.self (sym c.loop-event.invariant.done.2 ∙ c.in-Some.ensures.steps) in
    let less : c.loop-event.invariant.done.0 < length events = next_below (events_of c.args.schedule.now) c.loop-event.invariant.done.0 (event_of c.in-Some.event) c.next.new.self (sym c.loop-event.invariant.done.2 ∙ c.in-Some.ensures.steps) in
    call_stops o events c.loop-event.invariant.done.0 c.loop-event.kernel _ (store g.F.Fram.start g.F.Fram.log g.F.Fram.lost c.loop-event.dev) (store g.F.Fram.start g.F.Fram.log g.F.Fram.lost c.pass.new.dev) c.in-Some.event _ _ c.images_follow_events.ensures.more
    (c.loop-event.invariant.done.3 o b) is less c.in_default-pass.ensures.cut c.in_default-pass.ensures.start

pub turn-requires-clause-at : goal.turn-requires-clause-at
turn-requires-clause-at g c =
    let b = c.requires.begins in
    let goes = same_goes b.0 (events_of c.args.schedule.now) c.loop-event.invariant.done.0 c.loop-event.kernel c.pass.new.self _ _ _ _ _ (c.in-Ok.ensures.kept (ap Ok c.if-taken.false)).0 (ap (store g.F.Fram.start g.F.Fram.log g.F.Fram.lost) (c.in-Ok.ensures.kept (ap Ok c.if-taken.false)).1) (c.loop-event.invariant.done.3 b.0 b.1) in
    (b.0, _, goes.at)

pub turn-requires-clause-core : goal.turn-requires-clause-core
turn-requires-clause-core g c =
    let events = events_of c.args.schedule.now in
    let is = next_is events c.loop-event.invariant.done.0 (event_of c.in-Some.event) c.next.new.self (sym c.loop-event.invariant.done.2 ∙ c.in-Some.ensures.steps) in
    subst (λ (n : ℕ). IsOfCores n (event_of c.in-Some.event)) (c.requires.cores ∙ ap (λ set. set.cores) (sym (c.pass.ensures.rest.set ∙ c.loop-event.invariant.set))) (c.each_event_is_of_cores.ensures c.args.schedule.now c.loop-event.invariant.done.0 (event_of c.in-Some.event) c.len.ensures.proper is)

pub turn-requires-clause-few : goal.turn-requires-clause-few
turn-requires-clause-few g c =
    let b = c.requires.begins in
    listed_below b.0 (events_of c.args.schedule.now) c.loop-event.invariant.done.0 c.pass.new.self _ _ _ _ (next_below (events_of c.args.schedule.now) c.loop-event.invariant.done.0 (event_of c.in-Some.event) c.next.new.self (sym c.loop-event.invariant.done.2 ∙ c.in-Some.ensures.steps)) (same_goes b.0 (events_of c.args.schedule.now) c.loop-event.invariant.done.0 c.loop-event.kernel c.pass.new.self _ _ _ _ _ (c.in-Ok.ensures.kept (ap Ok c.if-taken.false)).0 (ap (store g.F.Fram.start g.F.Fram.log g.F.Fram.lost) (c.in-Ok.ensures.kept (ap Ok c.if-taken.false)).1) (c.loop-event.invariant.done.3 b.0 b.1))

pub turn-requires-clause-boots : goal.turn-requires-clause-boots
turn-requires-clause-boots g c =
    let b = c.requires.begins in
    boots_below b.0 (events_of c.args.schedule.now) c.loop-event.invariant.done.0 c.args.kernel.now _ _ _ _ c.kernel_is_at_state.ensures.boots b.1 (next_below (events_of c.args.schedule.now) c.loop-event.invariant.done.0 (event_of c.in-Some.event) c.next.new.self (sym c.loop-event.invariant.done.2 ∙ c.in-Some.ensures.steps)) c.pass.new.self (same_goes b.0 (events_of c.args.schedule.now) c.loop-event.invariant.done.0 c.loop-event.kernel c.pass.new.self _ _ _ _ _ (c.in-Ok.ensures.kept (ap Ok c.if-taken.false)).0 (ap (store g.F.Fram.start g.F.Fram.log g.F.Fram.lost) (c.in-Ok.ensures.kept (ap Ok c.if-taken.false)).1) (c.loop-event.invariant.done.3 b.0 b.1))

pub returns-in_default-turn-clause-halted : goal.returns-in_default-turn-clause-halted
returns-in_default-turn-clause-halted g c = λ o b.
    let goes = same_goes o (events_of c.args.schedule.now) c.loop-event.invariant.done.0 c.loop-event.kernel c.pass.new.self _ _ _ _ _ (c.in-Ok.ensures.kept (ap Ok c.if-taken.false)).0 (ap (store g.F.Fram.start g.F.Fram.log g.F.Fram.lost) (c.in-Ok.ensures.kept (ap Ok c.if-taken.false)).1) (c.loop-event.invariant.done.3 o b) in
    call_lost o (events_of c.args.schedule.now) c.loop-event.invariant.done.0 c.pass.new.self _ _ _ _ (g.F.Fram.lost c.turn.new.dev) goes (rose_later (g.F.Fram.lost c.args.dev.now) (g.F.Fram.lost c.pass.new.dev) (g.F.Fram.lost c.turn.new.dev) goes.losses c.in_default-turn.ensures.failed)

pub returns-in_default-turn-clause-done : goal.returns-in_default-turn-clause-done
returns-in_default-turn-clause-done g c = λ o b.
    let events = events_of c.args.schedule.now in
    let is = next_is events c.loop-event.invariant.done.0 (event_of c.in-Some.event) c.next.new.self (sym c.loop-event.invariant.done.2 ∙ c.in-Some.ensures.steps) in
    let less : c.loop-event.invariant.done.0 < length events = next_below (events_of c.args.schedule.now) c.loop-event.invariant.done.0 (event_of c.in-Some.event) c.next.new.self (sym c.loop-event.invariant.done.2 ∙ c.in-Some.ensures.steps) in
    call_done o events c.loop-event.invariant.done.0 c.pass.new.self _ (store g.F.Fram.start g.F.Fram.log g.F.Fram.lost c.pass.new.dev) (store g.F.Fram.start g.F.Fram.log g.F.Fram.lost c.turn.new.dev) c.in-Some.event _ _ c.images_follow_events.ensures.more
    (same_goes o (events_of c.args.schedule.now) c.loop-event.invariant.done.0 c.loop-event.kernel c.pass.new.self _ _ _ _ _ (c.in-Ok.ensures.kept (ap Ok c.if-taken.false)).0 (ap (store g.F.Fram.start g.F.Fram.log g.F.Fram.lost) (c.in-Ok.ensures.kept (ap Ok c.if-taken.false)).1) (c.loop-event.invariant.done.3 o b)) is less c.in_default-turn.ensures.cut c.in_default-turn.ensures.start

pub returns-in_default-turn-clause-stops : goal.returns-in_default-turn-clause-stops
returns-in_default-turn-clause-stops g c = λ o b.
    let events = events_of c.args.schedule.now in
    let is = next_is events c.loop-event.invariant.done.0 (event_of c.in-Some.event) c.next.new.self (sym c.loop-event.invariant.done.2 ∙ c.in-Some.ensures.steps) in
    let less : c.loop-event.invariant.done.0 < length events = next_below (events_of c.args.schedule.now) c.loop-event.invariant.done.0 (event_of c.in-Some.event) c.next.new.self (sym c.loop-event.invariant.done.2 ∙ c.in-Some.ensures.steps) in
    call_stops o events c.loop-event.invariant.done.0 c.pass.new.self _ (store g.F.Fram.start g.F.Fram.log g.F.Fram.lost c.pass.new.dev) (store g.F.Fram.start g.F.Fram.log g.F.Fram.lost c.turn.new.dev) c.in-Some.event _ _ c.images_follow_events.ensures.more
    (same_goes o (events_of c.args.schedule.now) c.loop-event.invariant.done.0 c.loop-event.kernel c.pass.new.self _ _ _ _ _ (c.in-Ok.ensures.kept (ap Ok c.if-taken.false)).0 (ap (store g.F.Fram.start g.F.Fram.log g.F.Fram.lost) (c.in-Ok.ensures.kept (ap Ok c.if-taken.false)).1) (c.loop-event.invariant.done.3 o b)) is less c.in_default-turn.ensures.cut c.in_default-turn.ensures.start

pub put_line-requires : goal.put_line-requires
put_line-requires g c =
    let b = c.requires.begins in
    let goes = same_goes b.0 (events_of c.args.schedule.now) c.loop-event.invariant.done.0 c.loop-event.kernel c.pass.new.self _ _ _ _ _ (c.in-Ok.ensures.kept (ap Ok c.if-taken.false)).0 (ap (store g.F.Fram.start g.F.Fram.log g.F.Fram.lost) (c.in-Ok.ensures.kept (ap Ok c.if-taken.false)).1) (c.loop-event.invariant.done.3 b.0 b.1) in
    line_named b.0 _ c.pass.new.self c.turn.new.self _ _ _ _ c.in-Some.event c.in-Ok-turn.line c.set.result.now c.kernel_is_at_state.ensures.refused goes.at c.in-Ok-turn.ensures.simulates (c.set.ensures ∙ c.in-Ok-turn.ensures.rest.set ∙ set_at b.0 c.pass.new.self _ _ goes.at)

pub returns-in_default-put_line-clause-halted : goal.returns-in_default-put_line-clause-halted
returns-in_default-put_line-clause-halted g c = λ o b.
    let goes = same_goes o (events_of c.args.schedule.now) c.loop-event.invariant.done.0 c.loop-event.kernel c.pass.new.self _ _ _ _ _ (c.in-Ok.ensures.kept (ap Ok c.if-taken.false)).0 (ap (store g.F.Fram.start g.F.Fram.log g.F.Fram.lost) (c.in-Ok.ensures.kept (ap Ok c.if-taken.false)).1) (c.loop-event.invariant.done.3 o b) in
    let events = events_of c.args.schedule.now in
    let is = next_is events c.loop-event.invariant.done.0 (event_of c.in-Some.event) c.next.new.self (sym c.loop-event.invariant.done.2 ∙ c.in-Some.ensures.steps) in
    line_cut o events c.loop-event.invariant.done.0 c.pass.new.self c.turn.new.self _ (store g.F.Fram.start g.F.Fram.log g.F.Fram.lost c.pass.new.dev) (store g.F.Fram.start g.F.Fram.log g.F.Fram.lost c.turn.new.dev) c.in-Some.event c.in-Ok-turn.line _ _ _ c.set.result.now
    c.kernel_is_at_state.ensures.durable c.images_follow_events.ensures.more goes is c.in-Ok-turn.ensures.simulates c.in-Ok-turn.ensures.start (c.set.ensures ∙ c.in-Ok-turn.ensures.rest.set ∙ set_at o c.pass.new.self _ _ goes.at) c.in_default-put_line.ensures.front

pub returns-in_default-put_line-clause-done : goal.returns-in_default-put_line-clause-done
returns-in_default-put_line-clause-done g c = λ o b.
    let events = events_of c.args.schedule.now in
    let is = next_is events c.loop-event.invariant.done.0 (event_of c.in-Some.event) c.next.new.self (sym c.loop-event.invariant.done.2 ∙ c.in-Some.ensures.steps) in
    let less : c.loop-event.invariant.done.0 < length events = next_below (events_of c.args.schedule.now) c.loop-event.invariant.done.0 (event_of c.in-Some.event) c.next.new.self (sym c.loop-event.invariant.done.2 ∙ c.in-Some.ensures.steps) in
    line_done o events c.loop-event.invariant.done.0 c.pass.new.self c.turn.new.self _ (store g.F.Fram.start g.F.Fram.log g.F.Fram.lost c.pass.new.dev) (store g.F.Fram.start g.F.Fram.log g.F.Fram.lost c.turn.new.dev) c.in-Some.event c.in-Ok-turn.line _ _
    c.kernel_is_at_state.ensures.durable c.images_follow_events.ensures.more (same_goes o (events_of c.args.schedule.now) c.loop-event.invariant.done.0 c.loop-event.kernel c.pass.new.self _ _ _ _ _ (c.in-Ok.ensures.kept (ap Ok c.if-taken.false)).0 (ap (store g.F.Fram.start g.F.Fram.log g.F.Fram.lost) (c.in-Ok.ensures.kept (ap Ok c.if-taken.false)).1) (c.loop-event.invariant.done.3 o b)) is less c.in-Ok-turn.ensures.simulates c.in-Ok-turn.ensures.start

pub returns-in_default-put_line-clause-stops : goal.returns-in_default-put_line-clause-stops
returns-in_default-put_line-clause-stops g c = λ o b.
    let goes = same_goes o (events_of c.args.schedule.now) c.loop-event.invariant.done.0 c.loop-event.kernel c.pass.new.self _ _ _ _ _ (c.in-Ok.ensures.kept (ap Ok c.if-taken.false)).0 (ap (store g.F.Fram.start g.F.Fram.log g.F.Fram.lost) (c.in-Ok.ensures.kept (ap Ok c.if-taken.false)).1) (c.loop-event.invariant.done.3 o b) in
    let events = events_of c.args.schedule.now in
    let is = next_is events c.loop-event.invariant.done.0 (event_of c.in-Some.event) c.next.new.self (sym c.loop-event.invariant.done.2 ∙ c.in-Some.ensures.steps) in
    let less : c.loop-event.invariant.done.0 < length events = next_below (events_of c.args.schedule.now) c.loop-event.invariant.done.0 (event_of c.in-Some.event) c.next.new.self (sym c.loop-event.invariant.done.2 ∙ c.in-Some.ensures.steps) in
    line_stops o events c.loop-event.invariant.done.0 c.pass.new.self c.turn.new.self _ (store g.F.Fram.start g.F.Fram.log g.F.Fram.lost c.pass.new.dev) (store g.F.Fram.start g.F.Fram.log g.F.Fram.lost c.turn.new.dev) c.in-Some.event c.in-Ok-turn.line _ _ _ c.set.result.now
    c.kernel_is_at_state.ensures.durable c.images_follow_events.ensures.more goes is less c.in-Ok-turn.ensures.simulates c.in-Ok-turn.ensures.start (c.set.ensures ∙ c.in-Ok-turn.ensures.rest.set ∙ set_at o c.pass.new.self _ _ goes.at) c.in_default-put_line.ensures.front

pub loop-event-preserved : goal.loop-event-preserved
loop-event-preserved g c =
    let events = events_of c.args.schedule.now in
    let next = sym c.loop-event.invariant.done.2 ∙ c.in-Some.ensures.steps in
    let is = next_is events c.loop-event.invariant.done.0 (event_of c.in-Some.event) c.next.new.self next in
    record {
      steps = (tt, tt);
      done = (
        c.loop-event.invariant.done.0 + 1,
        next_within events c.loop-event.invariant.done.0 (event_of c.in-Some.event) c.next.new.self next,
        rest_is events c.loop-event.invariant.done.0 (event_of c.in-Some.event) c.next.new.self next,
        λ o b.
            let goes = same_goes o (events_of c.args.schedule.now) c.loop-event.invariant.done.0 c.loop-event.kernel c.pass.new.self _ _ _ _ _ (c.in-Ok.ensures.kept (ap Ok c.if-taken.false)).0 (ap (store g.F.Fram.start g.F.Fram.log g.F.Fram.lost) (c.in-Ok.ensures.kept (ap Ok c.if-taken.false)).1) (c.loop-event.invariant.done.3 o b) in
            goes_on o events c.loop-event.invariant.done.0 c.pass.new.self c.turn.new.self _ (store g.F.Fram.start g.F.Fram.log g.F.Fram.lost c.pass.new.dev) (store g.F.Fram.start g.F.Fram.log g.F.Fram.lost c.turn.new.dev) c.in-Some.event c.in-Ok-turn.line _ _ _ c.set.result.now
            c.kernel_is_at_state.ensures.durable c.images_follow_events.ensures.more goes is c.in-Ok-turn.ensures.simulates c.in-Ok-turn.ensures.start c.in-Ok-turn.ensures.never_falls c.in-Ok-turn.ensures.rest c.in-Ok-turn.ensures.live (c.set.ensures ∙ c.in-Ok-turn.ensures.rest.set ∙ set_at o c.pass.new.self _ _ goes.at) c.in-Ok-put_line.ensures.all,
      );
      set = c.in-Ok-turn.ensures.rest.set ∙ c.pass.ensures.rest.set ∙ c.loop-event.invariant.set;
      start = c.in-Ok-turn.ensures.start ∙ c.pass.ensures.start ∙ c.loop-event.invariant.start;
      losses = omega (arith, c.loop-event.invariant.losses, c.pass.ensures.never_falls, c.in-Ok-turn.ensures.never_falls);
    }

pub loop-event-preserved-then-taken : goal.loop-event-preserved-then-taken
loop-event-preserved-then-taken g c =
    let events = events_of c.args.schedule.now in
    let next = sym c.loop-event.invariant.done.2 ∙ c.in-Some.ensures.steps in
    let is = next_is events c.loop-event.invariant.done.0 (event_of c.in-Some.event) c.next.new.self next in
    record {
      steps = (tt, tt);
      done = (
        c.loop-event.invariant.done.0 + 1,
        next_within events c.loop-event.invariant.done.0 (event_of c.in-Some.event) c.next.new.self next,
        rest_is events c.loop-event.invariant.done.0 (event_of c.in-Some.event) c.next.new.self next,
        λ o b. passes_on o events c.loop-event.invariant.done.0 c.loop-event.kernel c.pass.new.self _ (store g.F.Fram.start g.F.Fram.log g.F.Fram.lost c.loop-event.dev) (store g.F.Fram.start g.F.Fram.log g.F.Fram.lost c.pass.new.dev) c.in-Some.event _ _ c.kernel_is_at_state.ensures.durable c.images_follow_events.ensures.more (c.loop-event.invariant.done.3 o b) is (c.in-Ok.ensures.simulates (ap Ok c.if-taken.true)) c.in-Ok.ensures.start c.in-Ok.ensures.never_falls c.in-Ok.ensures.rest c.in-Ok.ensures.live,
      );
      set = c.pass.ensures.rest.set ∙ c.loop-event.invariant.set;
      start = c.pass.ensures.start ∙ c.loop-event.invariant.start;
      losses = omega (arith, c.loop-event.invariant.losses, c.pass.ensures.never_falls);
    }

pub returns-clause-goes : goal.returns-clause-goes
returns-clause-goes g c = λ o b.
    let events = events_of c.args.schedule.now in
    let d = c.loop-event.invariant.done in
    let all = none_left events d.0 (sym d.2 ∙ c.in_default.ensures.steps.0) d.1 in
    subst (λ (n : ℕ). Goes o events n c.loop-event.kernel (store g.F.Fram.start g.F.Fram.log g.F.Fram.lost c.args.dev.now) (store g.F.Fram.start g.F.Fram.log g.F.Fram.lost c.loop-event.dev) (g.K.Sink.seen c.args.out.now) (g.K.Sink.seen c.loop-event.out)) all (c.loop-event.invariant.done.3 o b)
