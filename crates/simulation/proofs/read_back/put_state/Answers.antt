use Rattle.std.proofs.Common.{ℕ, List, ◌<◌, length, ap, sym, ◌∙◌, subst, arith}
use Rattle.std.specs.List.{AllByRecursion}
use Rattle.nv_base.specs.Streams.{PutsFront, PutsText}
use Rattle.recovery.specs.Images.{words_of}
use Rattle.report_text.specs.Lines.{done_text}
use Rattle.simulation.specs.Runs.{numbers_part, objects_part, open_part}
use Rattle.simulation.specs.declared.halt.Halt.TheVariants.{WriteFault}
use Rattle.simulation.proofs.Halting.{all_four, halted_first, halted_fourth, halted_second, halted_third}
use Rattle.simulation.proofs.ReadBack.{numbers_same, open_same, tasks_same}
use Rattle.simulation.proofs.read_back.put_state.Goals as goal

pub returns-in_default-clause-halted : goal.returns-in_default-clause-halted
returns-in_default-clause-halted g c =
    let set = c.args.set.now in
    let words = words_of (g.F.Fram.log c.args.dev.now) (g.F.Fram.start c.args.dev.now) in
    let cut = subst (λ (t : List ℕ). PutsFront t (g.K.Sink.seen c.args.out.now) (g.K.Sink.seen c.put_numbers.new.out)) (numbers_same set words c.args.place.now.state c.requires.read) c.in_default.ensures.front in
    halted_first (numbers_part set words) (objects_part set words) (open_part set words) done_text (g.F.Fram.lost c.args.dev.now) (g.F.Fram.lost c.args.dev.now) _ _ WriteFault cut

pub returns-in-Err-clause-halted : goal.returns-in-Err-clause-halted
returns-in-Err-clause-halted g c =
    let set = c.args.set.now in
    let words = words_of (g.F.Fram.log c.args.dev.now) (g.F.Fram.start c.args.dev.now) in
    let numbers = subst (λ (t : List ℕ). PutsText t (g.K.Sink.seen c.args.out.now) (g.K.Sink.seen c.put_numbers.new.out)) (numbers_same set words c.args.place.now.state c.requires.read) c.in-Ok.ensures.all in
    halted_second (numbers_part set words) (objects_part set words) (open_part set words) done_text (g.F.Fram.lost c.args.dev.now) (g.F.Fram.lost c.args.dev.now) (g.F.Fram.lost c.put_objects.new.dev) _ _ _ c.in-Err.halt (omega arith) numbers c.in-Err.ensures.halted

pub put_open_tasks-requires : goal.put_open_tasks-requires
put_open_tasks-requires g c =
    subst (λ ts. AllByRecursion (λ t. t.program.0 < length c.args.set.now.programs) ts) (ap (λ s. s.tasks.items) (sym c.put_objects.ensures.state) ∙ sym c.as_slice-tasks.ensures.value) c.requires.programs

pub returns-in_default-put_open_tasks-clause-halted : goal.returns-in_default-put_open_tasks-clause-halted
returns-in_default-put_open_tasks-clause-halted g c =
    let set = c.args.set.now in
    let words = words_of (g.F.Fram.log c.args.dev.now) (g.F.Fram.start c.args.dev.now) in
    let state = c.args.place.now.state in
    let numbers = subst (λ (t : List ℕ). PutsText t (g.K.Sink.seen c.args.out.now) (g.K.Sink.seen c.put_numbers.new.out)) (numbers_same set words state c.requires.read) c.in-Ok.ensures.all in
    let tasks = c.as_slice-tasks.ensures.value ∙ ap (λ s. s.tasks.items) c.put_objects.ensures.state in
    let cut = subst (λ (t : List ℕ). PutsFront t (g.K.Sink.seen c.put_objects.new.out) (g.K.Sink.seen c.put_open_tasks.new.out)) (tasks_same set c.as_slice-tasks.result.now state.tasks.items tasks ∙ open_same set words state c.requires.read) c.in_default-put_open_tasks.ensures.front in
    halted_third (numbers_part set words) (objects_part set words) (open_part set words) done_text (g.F.Fram.lost c.args.dev.now) (g.F.Fram.lost c.args.dev.now) (g.F.Fram.lost c.args.dev.now) _ _ _ _ WriteFault (omega arith) numbers c.in_default-put_objects.ensures.put cut

pub returns-in-Ok-put_done-clause-put : goal.returns-in-Ok-put_done-clause-put
returns-in-Ok-put_done-clause-put g c =
    let set = c.args.set.now in
    let words = words_of (g.F.Fram.log c.args.dev.now) (g.F.Fram.start c.args.dev.now) in
    let state = c.args.place.now.state in
    let numbers = subst (λ (t : List ℕ). PutsText t (g.K.Sink.seen c.args.out.now) (g.K.Sink.seen c.put_numbers.new.out)) (numbers_same set words state c.requires.read) c.in-Ok.ensures.all in
    let tasks = c.as_slice-tasks.ensures.value ∙ ap (λ s. s.tasks.items) c.put_objects.ensures.state in
    let opened = subst (λ (t : List ℕ). PutsText t (g.K.Sink.seen c.put_objects.new.out) (g.K.Sink.seen c.put_open_tasks.new.out)) (tasks_same set c.as_slice-tasks.result.now state.tasks.items tasks ∙ open_same set words state c.requires.read) c.in-Ok-put_open_tasks.ensures.all in
    all_four (numbers_part set words) (objects_part set words) (open_part set words) done_text _ _ _ _ _ numbers c.in_default-put_objects.ensures.put opened c.in-Ok-put_done.ensures.all

pub returns-in-Err-put_done-clause-halted : goal.returns-in-Err-put_done-clause-halted
returns-in-Err-put_done-clause-halted g c =
    let set = c.args.set.now in
    let words = words_of (g.F.Fram.log c.args.dev.now) (g.F.Fram.start c.args.dev.now) in
    let state = c.args.place.now.state in
    let numbers = subst (λ (t : List ℕ). PutsText t (g.K.Sink.seen c.args.out.now) (g.K.Sink.seen c.put_numbers.new.out)) (numbers_same set words state c.requires.read) c.in-Ok.ensures.all in
    let tasks = c.as_slice-tasks.ensures.value ∙ ap (λ s. s.tasks.items) c.put_objects.ensures.state in
    let opened = subst (λ (t : List ℕ). PutsText t (g.K.Sink.seen c.put_objects.new.out) (g.K.Sink.seen c.put_open_tasks.new.out)) (tasks_same set c.as_slice-tasks.result.now state.tasks.items tasks ∙ open_same set words state c.requires.read) c.in-Ok-put_open_tasks.ensures.all in
    halted_fourth (numbers_part set words) (objects_part set words) (open_part set words) done_text (g.F.Fram.lost c.args.dev.now) (g.F.Fram.lost c.args.dev.now) (g.F.Fram.lost c.args.dev.now) _ _ _ _ _ WriteFault (omega arith) numbers c.in_default-put_objects.ensures.put opened c.in-Err-put_done.ensures.front
