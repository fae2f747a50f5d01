use Rattle.std.proofs.Common.{arith}
use Rattle.schedule_model.specs.Failures.{events_of}
use Rattle.headline.specs.Report.{report_text}
use Rattle.simulation.specs.Stores.{store}
use Rattle.sim_run.specs.Replies.{device_reply}
use Rattle.sim_run.proofs.Amid.{has_opening, unopened}
use Rattle.sim_run.proofs.Starting.{halted_reply, halted_store, headline_here, run_all, run_done}
use Rattle.sim_run.proofs.Stopped.{stopped_before, stopped_then}
use Rattle.sim_run.proofs.run.run_events.Goals as goal

pub put_report-requires-clause-begins : goal.put_report-requires-clause-begins
put_report-requires-clause-begins g c =
    let b = c.in-Ok-open_for.ensures.begun (events_of c.args.schedule.now) c.len-room.ensures.count in
    (b.origin, b.begins)

pub returns-in-Ok-put_report-clause-replied : goal.returns-in-Ok-put_report-clause-replied
returns-in-Ok-put_report-clause-replied g c =
    let events = events_of c.args.schedule.now in
    let old = store g.F.Fram.start g.F.Fram.log g.F.Fram.lost c.args.dev.now in
    let mid = store g.F.Fram.start g.F.Fram.log g.F.Fram.lost c.open_for.new.dev in
    let new = store g.F.Fram.start g.F.Fram.log g.F.Fram.lost c.put_report.new.dev in
    let b = c.in-Ok-open_for.ensures.begun events c.len-room.ensures.count in
    (report_text b.origin events, b.replies, c.in-Ok-put_report.ensures.put b.origin b.begins)

pub returns-in-Ok-put_report-clause-headline : goal.returns-in-Ok-put_report-clause-headline
returns-in-Ok-put_report-clause-headline g c = λ done.
    let events = events_of c.args.schedule.now in
    let old = store g.F.Fram.start g.F.Fram.log g.F.Fram.lost c.args.dev.now in
    let mid = store g.F.Fram.start g.F.Fram.log g.F.Fram.lost c.open_for.new.dev in
    let new = store g.F.Fram.start g.F.Fram.log g.F.Fram.lost c.put_report.new.dev in
    let b = c.in-Ok-open_for.ensures.begun events c.len-room.ensures.count in
    headline_here c.args.how c.args.set events old mid c.in-Ok-open_for.kernel c.report_keeps_headline.ensures c.runs_are_one_history.ensures.goes_on c.kernel_is_at_state.ensures.set_up b

pub returns-in-Ok-put_report-clause-images : goal.returns-in-Ok-put_report-clause-images
returns-in-Ok-put_report-clause-images g c =
    let events = events_of c.args.schedule.now in
    let old = store g.F.Fram.start g.F.Fram.log g.F.Fram.lost c.args.dev.now in
    let mid = store g.F.Fram.start g.F.Fram.log g.F.Fram.lost c.open_for.new.dev in
    let new = store g.F.Fram.start g.F.Fram.log g.F.Fram.lost c.put_report.new.dev in
    let b = c.in-Ok-open_for.ensures.begun events c.len-room.ensures.count in
    run_done c.args.how c.args.set events old mid new c.in-Ok-open_for.kernel b (c.put_report.ensures.done b.origin b.begins)

pub returns-in-Ok-put_report-clause-whole : goal.returns-in-Ok-put_report-clause-whole
returns-in-Ok-put_report-clause-whole g c = λ done.
    let events = events_of c.args.schedule.now in
    let old = store g.F.Fram.start g.F.Fram.log g.F.Fram.lost c.args.dev.now in
    let mid = store g.F.Fram.start g.F.Fram.log g.F.Fram.lost c.open_for.new.dev in
    let new = store g.F.Fram.start g.F.Fram.log g.F.Fram.lost c.put_report.new.dev in
    let b = c.in-Ok-open_for.ensures.begun events c.len-room.ensures.count in
    run_all c.args.how c.args.set events old mid new c.in-Ok-open_for.kernel b (c.in-Ok-put_report.ensures.whole b.origin b.begins)

pub returns-in-Err-clause-replied : goal.returns-in-Err-clause-replied
returns-in-Err-clause-replied g c = c.in-Err.ensures.replied (events_of c.args.schedule.now) (g.K.Sink.seen c.args.out.now)

pub returns-in-Err-clause-stops : goal.returns-in-Err-clause-stops
returns-in-Err-clause-stops g c =
    let old = store g.F.Fram.start g.F.Fram.log g.F.Fram.lost c.args.dev.now in
    let mid = store g.F.Fram.start g.F.Fram.log g.F.Fram.lost c.open_for.new.dev in
    stopped_before c.args.how c.args.set (events_of c.args.schedule.now) old mid (g.K.Sink.seen c.args.out.now) c.in-Err.status c.in-Err.ensures.unput c.in-Err.ensures.part

pub returns-in-Err-put_report-clause-replied : goal.returns-in-Err-put_report-clause-replied
returns-in-Err-put_report-clause-replied g c =
    let events = events_of c.args.schedule.now in
    let old = store g.F.Fram.start g.F.Fram.log g.F.Fram.lost c.args.dev.now in
    let mid = store g.F.Fram.start g.F.Fram.log g.F.Fram.lost c.open_for.new.dev in
    let new = store g.F.Fram.start g.F.Fram.log g.F.Fram.lost c.put_report.new.dev in
    let b = c.in-Ok-open_for.ensures.begun events c.len-room.ensures.count in
    halted_reply (device_reply c.args.how old c.args.set events) (report_text b.origin events) mid.losses (g.F.Fram.lost c.put_report.new.dev) _ _ c.in-Err-put_report.halt c.status_at.result b.replies (c.in-Err-put_report.ensures.halted b.origin b.begins) c.status_at.ensures

pub returns-in-Err-put_report-clause-store : goal.returns-in-Err-put_report-clause-store
returns-in-Err-put_report-clause-store g c =
    let events = events_of c.args.schedule.now in
    let old = store g.F.Fram.start g.F.Fram.log g.F.Fram.lost c.args.dev.now in
    let mid = store g.F.Fram.start g.F.Fram.log g.F.Fram.lost c.open_for.new.dev in
    let new = store g.F.Fram.start g.F.Fram.log g.F.Fram.lost c.put_report.new.dev in
    let b = c.in-Ok-open_for.ensures.begun events c.len-room.ensures.count in
    halted_store c.args.how old new (report_text b.origin events) mid.losses _ _ c.in-Err-put_report.halt c.status_at.result b.few (c.in-Err-put_report.ensures.halted b.origin b.begins) c.status_at.ensures

pub returns-in-Err-put_report-clause-stops : goal.returns-in-Err-put_report-clause-stops
returns-in-Err-put_report-clause-stops g c =
    let events = events_of c.args.schedule.now in
    let old = store g.F.Fram.start g.F.Fram.log g.F.Fram.lost c.args.dev.now in
    let mid = store g.F.Fram.start g.F.Fram.log g.F.Fram.lost c.open_for.new.dev in
    let new = store g.F.Fram.start g.F.Fram.log g.F.Fram.lost c.put_report.new.dev in
    let b = c.in-Ok-open_for.ensures.begun events c.len-room.ensures.count in
    stopped_then c.args.how c.args.set events old mid new c.in-Ok-open_for.kernel _ _ c.in-Err-put_report.halt c.status_at.result b (c.in-Err-put_report.ensures.stops b.origin b.begins) c.status_at.ensures

pub returns-in-Ok-put_report-clause-opening : goal.returns-in-Ok-put_report-clause-opening
returns-in-Ok-put_report-clause-opening g c =
    let old = store g.F.Fram.start g.F.Fram.log g.F.Fram.lost c.args.dev.now in
    let new = store g.F.Fram.start g.F.Fram.log g.F.Fram.lost c.put_report.new.dev in
    let b = c.in-Ok-open_for.ensures.begun (events_of c.args.schedule.now) c.len-room.ensures.count in
    has_opening c.args.how c.args.set old new c.format.ensures.limits (λ less. absurd (omega (arith, less, b.fits)))

pub returns-in-Err-put_report-clause-opening : goal.returns-in-Err-put_report-clause-opening
returns-in-Err-put_report-clause-opening g c =
    let old = store g.F.Fram.start g.F.Fram.log g.F.Fram.lost c.args.dev.now in
    let new = store g.F.Fram.start g.F.Fram.log g.F.Fram.lost c.put_report.new.dev in
    let b = c.in-Ok-open_for.ensures.begun (events_of c.args.schedule.now) c.len-room.ensures.count in
    has_opening c.args.how c.args.set old new c.format.ensures.limits (λ less. absurd (omega (arith, less, b.fits)))

pub returns-in-Err-clause-opening : goal.returns-in-Err-clause-opening
returns-in-Err-clause-opening g c =
    let old = store g.F.Fram.start g.F.Fram.log g.F.Fram.lost c.args.dev.now in
    let mid = store g.F.Fram.start g.F.Fram.log g.F.Fram.lost c.open_for.new.dev in
    has_opening c.args.how c.args.set old mid c.format.ensures.limits c.open_for.ensures.spared

pub returns-in_default-clause-opening : goal.returns-in_default-clause-opening
returns-in_default-clause-opening g c = unopened c.args.how c.args.set (store g.F.Fram.start g.F.Fram.log g.F.Fram.lost c.args.dev.now)
