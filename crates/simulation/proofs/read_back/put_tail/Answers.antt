use Rattle.std.proofs.Common.{◌<◌, ℕ, List, ap₂, sym, ◌∙◌, subst}
use Rattle.std.specs.List.{AllByRecursion}
use Rattle.std.specs.Prelude.{length}
use Rattle.std.proofs.lemmas.Result.{IfErr-weaker, on_ok_weaker}
use Rattle.nv_base.specs.Streams.{PutsText}
use Rattle.kernel_model.specs.Durable.{listed, state_left}
use Rattle.set_model.specs.Sets.{TaskSet}
use Rattle.set_model.specs.Limits.{IsTaskSet}
use Rattle.recovery.specs.Images.{words_of}
use Rattle.recovery.specs.Reading.{IsRefused}
use Rattle.report_text.specs.Report.{end_part}
use Rattle.simulation.specs.Runs.{IsHalted, found_text, read_text, tail_text}
use Rattle.simulation.proofs.Fronts.{front_here, puts_more}
use Rattle.simulation.proofs.Going.{set_at}
use Rattle.simulation.proofs.Halting.{halted_next, start_here, whole_start}
use Rattle.simulation.proofs.ReadBack.{read_programs}
use Rattle.simulation.proofs.Tails.{never_blank, never_damaged, read_same}
use Rattle.simulation.proofs.read_back.put_tail.Goals as goal

pub returns-in_default-clause-halted : goal.returns-in_default-clause-halted
returns-in_default-clause-halted g c = λ o s a. front_here _ _ (found_text o s) (end_part o.device.set (state_left o.base (listed s)) s.boots) (c.in_default.ensures.front o _ s a)

pub put_state-requires-clause-programs : goal.put_state-requires-clause-programs
put_state-requires-clause-programs g c =
    let a = c.requires.at.2 in
    let words = words_of (g.F.Fram.log c.args.dev.now) (g.F.Fram.start c.args.dev.now) in
    let first = subst IsTaskSet (sym c.set.ensures) a.keeps.limits in
    subst (λ (set : TaskSet). AllByRecursion (λ t. t.program.0 < length set.programs) c.read_state.new.into.tasks.items) (c.set.ensures ∙ sym c.set-in-Ok-read_state.ensures) (read_programs c.set.result.now words c.read_state.new.into first c.in-Ok-read_state.ensures.held)

pub unreachable-requires : goal.unreachable-requires
unreachable-requires g c =
    let at = c.requires.at in
    let words = words_of (g.F.Fram.log c.args.dev.now) (g.F.Fram.start c.args.dev.now) in
    never_blank at.0 words at.1 c.set.result.now (c.kernel_is_at_state.ensures.durable at.0 c.args.kernel.now words at.1 at.2) (c.set.ensures ∙ set_at at.0 c.args.kernel.now words at.1 at.2)
    (subst (IsRefused c.set.result.now words (g.F.Fram.lost c.args.dev.now) (g.F.Fram.lost c.read_state.new.dev)) c.in-Err-Blank.field-0-is c.in-Err-Blank.ensures.refused)

pub unreachable-requires-in-Err-Damaged : goal.unreachable-requires-in-Err-Damaged
unreachable-requires-in-Err-Damaged g c =
    let at = c.requires.at in
    let words = words_of (g.F.Fram.log c.args.dev.now) (g.F.Fram.start c.args.dev.now) in
    never_damaged at.0 words at.1 c.set.result.now c.in-Err-Damaged.field-0-0 (c.kernel_is_at_state.ensures.durable at.0 c.args.kernel.now words at.1 at.2) (c.set.ensures ∙ set_at at.0 c.args.kernel.now words at.1 at.2)
    (subst (IsRefused c.set.result.now words (g.F.Fram.lost c.args.dev.now) (g.F.Fram.lost c.read_state.new.dev)) c.in-Err-Damaged.field-0-is c.in-Err-Damaged.ensures.refused)

pub returns-in-Ok-read_state-clause-put : goal.returns-in-Ok-read_state-clause-put
returns-in-Ok-read_state-clause-put g c = λ o s a.
    let words = words_of (g.F.Fram.log c.args.dev.now) (g.F.Fram.start c.args.dev.now) in
    let same = ap₂ words_of c.read_state.ensures.log c.read_state.ensures.start in
    let sets = c.set-in-Ok-read_state.ensures ∙ sym c.set.ensures in
    let read = read_same o c.args.kernel.now words s c.set.result.now c.read_state.new.into c.words_hold_one_state.ensures.once (c.kernel_is_at_state.ensures.durable o c.args.kernel.now words s) a c.set.ensures c.in-Ok-read_state.ensures.held in
    let text = ap₂ read_text sets same ∙ read in
    on_ok_weaker c.put_state.result
    (λ put. puts_more _ _ _ (found_text o s) (end_part o.device.set (state_left o.base (listed s)) s.boots) (c.in-Ok.ensures.all o words s a)
    (subst (λ (t : List ℕ). PutsText t (g.K.Sink.seen c.put_found.new.out) (g.K.Sink.seen c.put_state.new.out)) text put)) c.put_state.ensures.put

pub returns-in-Ok-read_state-clause-halted : goal.returns-in-Ok-read_state-clause-halted
returns-in-Ok-read_state-clause-halted g c = λ o s a.
    let words = words_of (g.F.Fram.log c.args.dev.now) (g.F.Fram.start c.args.dev.now) in
    let same = ap₂ words_of c.read_state.ensures.log c.read_state.ensures.start in
    let sets = c.set-in-Ok-read_state.ensures ∙ sym c.set.ensures in
    let read = read_same o c.args.kernel.now words s c.set.result.now c.read_state.new.into c.words_hold_one_state.ensures.once (c.kernel_is_at_state.ensures.durable o c.args.kernel.now words s) a c.set.ensures c.in-Ok-read_state.ensures.held in
    let text = ap₂ read_text sets same ∙ read in
    let l = g.F.Fram.lost c.args.dev.now in
    let k = g.F.Fram.lost c.read_state.new.dev in
    let m = g.F.Fram.lost c.put_state.new.dev in
    let p = g.K.Sink.seen c.put_found.new.out in
    let q = g.K.Sink.seen c.put_state.new.out in
    IfErr-weaker c.put_state.result (IsHalted (read_text c.set-in-Ok-read_state.result.now (words_of (g.F.Fram.log c.read_state.new.dev) (g.F.Fram.start c.read_state.new.dev))) k m p q) (IsHalted (tail_text o s) l m (g.K.Sink.seen c.args.out.now) q)
    (λ h e. halted_next (found_text o s) (end_part o.device.set (state_left o.base (listed s)) s.boots) l k m _ p q h c.read_state.ensures.never_falls (c.in-Ok.ensures.all o words s a) (subst (λ (t : List ℕ). IsHalted t k m p q h) text e))
    c.put_state.ensures.halted

pub returns-in-Err-Lost-clause-halted : goal.returns-in-Err-Lost-clause-halted
returns-in-Err-Lost-clause-halted g c = λ o s a.
    let words = words_of (g.F.Fram.log c.args.dev.now) (g.F.Fram.start c.args.dev.now) in
    let p = g.K.Sink.seen c.args.out.now in
    let q = g.K.Sink.seen c.put_found.new.out in (
      subst (IsRefused c.set.result.now words (g.F.Fram.lost c.args.dev.now) (g.F.Fram.lost c.read_state.new.dev)) c.in-Err-Lost.field-0-is c.in-Err-Lost.ensures.refused,
      start_here p q (found_text o s) (end_part o.device.set (state_left o.base (listed s)) s.boots) (whole_start (found_text o s) p q (c.in-Ok.ensures.all o words s a)),
    )
