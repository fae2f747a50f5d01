use Rattle.std.proofs.Common.{◌≡◌, ◌-◌, ◌<◌, sym, subst, ◌∙◌, ap, length, map, Some, arith}
use Rattle.std.specs.List.{slice_get}
use Rattle.std.proofs.lemmas.List.{length-map}
use Rattle.kernel_model.specs.Events.{CoreStep, Fail}
use Rattle.schedule_model.specs.Limits.{IsSchedule}
use Rattle.schedule_model.specs.CoreSteps.{core_steps}
use Rattle.schedule_model.specs.Failures.{events_of}
use Rattle.schedule_model.specs.Limits.{steps_together}
use Rattle.schedule_model.proofs.ForCallers.{event_of_cores, length-core_steps}
use Rattle.power_trace.specs.Items.{item_of, schedule_of}
use Rattle.power_trace.proofs.Found.{indexed_failure, indexed_step, event_of_step}
use Rattle.power_trace.proofs.ItemPlaces.{length-starts}
use Rattle.power_trace.proofs.schedule.Schedule.event.Goals as goal

pub returns-in-Ok : goal.returns-in-Ok
returns-in-Ok c =
    let event : slice_get (events_of c.args.self.now) c.args.n ≡ Some Fail =
    ap (λ s. slice_get (events_of s) c.args.n) (sym c.self.view_is)
    ∙ indexed_failure _ c.self.inside.steps c.args.n c.in-Ok.field-0 _ _ c.deref.result.now c.self.invariant c.deref.ensures.value c.in-Ok.ensures.position in
    record { event = event; cores = tt }

pub overflow_cast-step : goal.overflow_cast-step
overflow_cast-step c =
    let short : c.args.n < length (events_of (schedule_of c.self.inside.cores c.self.inside.items.items c.self.inside.on_times.items)) =
    omega (arith, c.requires, ap (λ s. length (events_of s)) c.self.view_is) in
    let p = indexed_step _ c.self.inside.steps c.args.n c.in-Err.failed _ _ c.deref.result.now c.self.invariant c.deref.ensures.value short c.in-Err.ensures.position in
    omega (arith, p.before, c.ranges.n)

pub overflow_sub-step : goal.overflow_sub-step
overflow_sub-step c =
    let short : c.args.n < length (events_of (schedule_of c.self.inside.cores c.self.inside.items.items c.self.inside.on_times.items)) =
    omega (arith, c.requires, ap (λ s. length (events_of s)) c.self.view_is) in
    let p = indexed_step _ c.self.inside.steps c.args.n c.in-Err.failed _ _ c.deref.result.now c.self.invariant c.deref.ensures.value short c.in-Err.ensures.position in
    p.before

pub core_of_step-requires-clause-same : goal.core_of_step-requires-clause-same
core_of_step-requires-clause-same c =
    omega (
      arith,
      ap length c.deref-in-Err.ensures.value,
      ap length c.deref-in-Err-2.ensures.value,
      ap length c.self.invariant.started,
      length-starts (map item_of c.self.inside.items.items) 0,
      length-map c.self.inside.items.items item_of,
    )

pub core_of_step-requires-clause-within : goal.core_of_step-requires-clause-within
core_of_step-requires-clause-within c =
    let short : c.args.n < length (events_of (schedule_of c.self.inside.cores c.self.inside.items.items c.self.inside.on_times.items)) =
    omega (arith, c.requires, ap (λ s. length (events_of s)) c.self.view_is) in
    let p = indexed_step _ c.self.inside.steps c.args.n c.in-Err.failed _ _ c.deref.result.now c.self.invariant c.deref.ensures.value short c.in-Err.ensures.position in
    omega (
      arith,
      p.before,
      p.within,
      length-core_steps c.self.inside.cores (map item_of c.self.inside.items.items),
      ap (λ xs. steps_together (map item_of xs)) c.deref-in-Err.ensures.value,
    )

pub returns-in-Err : goal.returns-in-Err
returns-in-Err c =
    let short : c.args.n < length (events_of (schedule_of c.self.inside.cores c.self.inside.items.items c.self.inside.on_times.items)) =
    omega (arith, c.requires, ap (λ s. length (events_of s)) c.self.view_is) in
    let p = indexed_step _ c.self.inside.steps c.args.n c.in-Err.failed _ _ c.deref.result.now c.self.invariant c.deref.ensures.value short c.in-Err.ensures.position in
    let event : slice_get (events_of c.args.self.now) c.args.n ≡ Some (CoreStep c.core_of_step.result) =
    ap (λ s. slice_get (events_of s) c.args.n) (sym c.self.view_is)
    ∙ event_of_step _ c.args.n c.in-Err.failed c.core_of_step.result p
    (ap (λ xs. slice_get (core_steps c.self.inside.cores (map item_of xs)) (c.args.n - c.in-Err.failed)) (sym c.deref-in-Err.ensures.value) ∙ c.core_of_step.ensures) in
    record {
      event = event;
      cores = event_of_cores c.args.self.now c.args.n (CoreStep c.core_of_step.result) (subst IsSchedule c.self.view_is c.self.invariant.proper) event;
    }
