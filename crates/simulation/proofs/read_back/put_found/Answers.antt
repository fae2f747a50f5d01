use Rattle.std.proofs.Common.{ℕ, List, Option, ◌∙◌, subst}
use Rattle.std.proofs.lemmas.Result.{on_err_weaker, on_ok_weaker}
use Rattle.nv_base.specs.Streams.{PutsFront, PutsText}
use Rattle.kernel_model.specs.Items.{Entry}
use Rattle.kernel_model.specs.Report.{found_lines}
use Rattle.report_text.specs.Report.{lines_text}
use Rattle.simulation.proofs.Fronts.{puts_nothing}
use Rattle.simulation.proofs.Going.{one_found, set_at}
use Rattle.simulation.proofs.read_back.put_found.Goals as goal

pub returns-in-None-clause-all : goal.returns-in-None-clause-all
returns-in-None-clause-all g c = λ o words s a. subst (λ (e : Option Entry). PutsText (lines_text o.device.set (found_lines e)) (g.K.Sink.seen c.args.out.now) (g.K.Sink.seen c.args.out.now)) (c.in-None.ensures o words s a) (puts_nothing _)

pub returns-in-Some-clause-all : goal.returns-in-Some-clause-all
returns-in-Some-clause-all g c = λ o words s a.
    let same = c.set.ensures ∙ set_at o c.args.kernel.now words s a in
    on_ok_weaker c.put_line.result
    (λ put. subst (λ (t : List ℕ). PutsText t (g.K.Sink.seen c.args.out.now) (g.K.Sink.seen c.put_line.new.out)) (one_found o.device.set c.set.result.now c.in-Some.entry _ same (c.in-Some.ensures o words s a)) put) c.put_line.ensures.all

pub returns-in-Some-clause-front : goal.returns-in-Some-clause-front
returns-in-Some-clause-front g c = λ o words s a.
    let same = c.set.ensures ∙ set_at o c.args.kernel.now words s a in
    on_err_weaker c.put_line.result
    (λ put. subst (λ (t : List ℕ). PutsFront t (g.K.Sink.seen c.args.out.now) (g.K.Sink.seen c.put_line.new.out)) (one_found o.device.set c.set.result.now c.in-Some.entry _ same (c.in-Some.ensures o words s a)) put) c.put_line.ensures.front
