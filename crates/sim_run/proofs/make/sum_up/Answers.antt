use Rattle.std.proofs.Common.{arith}
use Rattle.sim_run.proofs.Amid.{has_opening}
use Rattle.schedule_model.specs.Failures.{events_of}
use Rattle.kernel_core.specs.declared.open.How.TheVariants.{Fresh}
use Rattle.headline.specs.Runs.{all_lines}
use Rattle.simulation.specs.Counts.{tally_of}
use Rattle.simulation.specs.Stores.{store}
use Rattle.sim_run.specs.Origins.{fresh_run}
use Rattle.sim_run.specs.Replies.{device_reply}
use Rattle.sim_run.specs.Summary.{summary_text}
use Rattle.sim_run.proofs.Starting.{headline_here, run_all, run_done}
use Rattle.sim_run.proofs.Summing.{left_after, lost_untold, same_answer, untold_after, untold_before}
use Rattle.sim_run.proofs.make.sum_up.Goals as goal

pub count_lines-requires-clause-begins : goal.count_lines-requires-clause-begins
count_lines-requires-clause-begins g c =
    let b = c.in-Ok.ensures.begun (events_of c.args.schedule.now) c.len-room.ensures.count in
    (b.origin, b.begins)

pub returns-in-Ok-count_lines-clause-store : goal.returns-in-Ok-count_lines-clause-store
returns-in-Ok-count_lines-clause-store g c =
    let old = store g.F.Fram.start g.F.Fram.log g.F.Fram.lost c.args.dev.now in
    let new = store g.F.Fram.start g.F.Fram.log g.F.Fram.lost c.count_lines.new.dev in
    left_after Fresh old new c.put_text.result c.put_text.ensures.ends

pub returns-in-Ok-count_lines-clause-headline : goal.returns-in-Ok-count_lines-clause-headline
returns-in-Ok-count_lines-clause-headline g c = λ done.
    let events = events_of c.args.schedule.now in
    let old = store g.F.Fram.start g.F.Fram.log g.F.Fram.lost c.args.dev.now in
    let mid = store g.F.Fram.start g.F.Fram.log g.F.Fram.lost c.open_for.new.dev in
    let b = c.in-Ok.ensures.begun events c.len-room.ensures.count in
    headline_here Fresh c.args.set events old mid c.in-Ok.kernel c.report_keeps_headline.ensures c.runs_are_one_history.ensures.goes_on c.kernel_is_at_state.ensures.set_up b

pub returns-in-Ok-count_lines-clause-images : goal.returns-in-Ok-count_lines-clause-images
returns-in-Ok-count_lines-clause-images g c =
    let events = events_of c.args.schedule.now in
    let old = store g.F.Fram.start g.F.Fram.log g.F.Fram.lost c.args.dev.now in
    let mid = store g.F.Fram.start g.F.Fram.log g.F.Fram.lost c.open_for.new.dev in
    let new = store g.F.Fram.start g.F.Fram.log g.F.Fram.lost c.count_lines.new.dev in
    let b = c.in-Ok.ensures.begun events c.len-room.ensures.count in
    run_done Fresh c.args.set events old mid new c.in-Ok.kernel b (c.count_lines.ensures.done b.origin b.begins)

pub returns-in-Ok-count_lines-clause-stops : goal.returns-in-Ok-count_lines-clause-stops
returns-in-Ok-count_lines-clause-stops g c =
    let events = events_of c.args.schedule.now in
    let old = store g.F.Fram.start g.F.Fram.log g.F.Fram.lost c.args.dev.now in
    let mid = store g.F.Fram.start g.F.Fram.log g.F.Fram.lost c.open_for.new.dev in
    let new = store g.F.Fram.start g.F.Fram.log g.F.Fram.lost c.count_lines.new.dev in
    let b = c.in-Ok.ensures.begun events c.len-room.ensures.count in
    untold_after c.args.set events old new _ _ c.put_text.result c.put_text.ensures.ends (run_all Fresh c.args.set events old mid new c.in-Ok.kernel b (c.in-Ok-count_lines.ensures.whole b.origin b.begins))

pub returns-in-Ok-count_lines-clause-whole : goal.returns-in-Ok-count_lines-clause-whole
returns-in-Ok-count_lines-clause-whole g c = λ done.
    let events = events_of c.args.schedule.now in
    let old = store g.F.Fram.start g.F.Fram.log g.F.Fram.lost c.args.dev.now in
    let mid = store g.F.Fram.start g.F.Fram.log g.F.Fram.lost c.open_for.new.dev in
    let new = store g.F.Fram.start g.F.Fram.log g.F.Fram.lost c.count_lines.new.dev in
    let b = c.in-Ok.ensures.begun events c.len-room.ensures.count in
    run_all Fresh c.args.set events old mid new c.in-Ok.kernel b (c.in-Ok-count_lines.ensures.whole b.origin b.begins)

pub returns-in-Err-count_lines-clause-replied : goal.returns-in-Err-count_lines-clause-replied
returns-in-Err-count_lines-clause-replied g c =
    let events = events_of c.args.schedule.now in
    let old = store g.F.Fram.start g.F.Fram.log g.F.Fram.lost c.args.dev.now in
    let mid = store g.F.Fram.start g.F.Fram.log g.F.Fram.lost c.open_for.new.dev in
    lost_untold c.args.seed c.args.set events old mid c.in-Ok.kernel (g.K.Sink.seen c.args.out.now) (c.in-Ok.ensures.begun events c.len-room.ensures.count)

pub returns-in-Err-clause-replied : goal.returns-in-Err-clause-replied
returns-in-Err-clause-replied g c =
    let events = events_of c.args.schedule.now in
    let old = store g.F.Fram.start g.F.Fram.log g.F.Fram.lost c.args.dev.now in
    same_answer (summary_text c.args.seed (tally_of (all_lines (fresh_run c.args.set) events))) (device_reply Fresh old c.args.set events) (g.K.Sink.seen c.args.out.now) c.in-Err.status c.in-Err.ensures.undone c.in-Err.ensures.unput (c.in-Err.ensures.replied events (g.K.Sink.seen c.args.out.now))

pub returns-in-Err-clause-stops : goal.returns-in-Err-clause-stops
returns-in-Err-clause-stops g c =
    let old = store g.F.Fram.start g.F.Fram.log g.F.Fram.lost c.args.dev.now in
    let mid = store g.F.Fram.start g.F.Fram.log g.F.Fram.lost c.open_for.new.dev in
    untold_before c.args.set (events_of c.args.schedule.now) old mid (g.K.Sink.seen c.args.out.now) c.in-Err.status c.in-Err.ensures.unput

pub returns-in-Ok-count_lines-clause-opening : goal.returns-in-Ok-count_lines-clause-opening
returns-in-Ok-count_lines-clause-opening g c =
    let old = store g.F.Fram.start g.F.Fram.log g.F.Fram.lost c.args.dev.now in
    let new = store g.F.Fram.start g.F.Fram.log g.F.Fram.lost c.count_lines.new.dev in
    let b = c.in-Ok.ensures.begun (events_of c.args.schedule.now) c.len-room.ensures.count in
    has_opening Fresh c.args.set old new c.format.ensures.limits (λ less. absurd (omega (arith, less, b.fits)))

pub returns-in-Err-count_lines-clause-opening : goal.returns-in-Err-count_lines-clause-opening
returns-in-Err-count_lines-clause-opening g c =
    let old = store g.F.Fram.start g.F.Fram.log g.F.Fram.lost c.args.dev.now in
    let new = store g.F.Fram.start g.F.Fram.log g.F.Fram.lost c.count_lines.new.dev in
    let b = c.in-Ok.ensures.begun (events_of c.args.schedule.now) c.len-room.ensures.count in
    has_opening Fresh c.args.set old new c.format.ensures.limits (λ less. absurd (omega (arith, less, b.fits)))

pub returns-in-Err-clause-opening : goal.returns-in-Err-clause-opening
returns-in-Err-clause-opening g c =
    let old = store g.F.Fram.start g.F.Fram.log g.F.Fram.lost c.args.dev.now in
    let mid = store g.F.Fram.start g.F.Fram.log g.F.Fram.lost c.open_for.new.dev in
    has_opening Fresh c.args.set old mid c.format.ensures.limits c.open_for.ensures.spared
