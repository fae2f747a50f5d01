use Rattle.std.proofs.Common.{refl, sym, ap, ◌∙◌, length}
use Rattle.std.proofs.lemmas.List.{length-map}
use Rattle.set_model.specs.Views.{spawn_of}
use Rattle.task_model.specs.Finals.{runs_of, state_of}
use Rattle.task_model.specs.FirstFinishes.{finish_with}
use Rattle.task_model.proofs.FitStates.{runs_fit}
use Rattle.task_model.proofs.FirstSteps.{advanced_fit, first_program, granted, refused, room_left}
use Rattle.task_model.proofs.finals.Final.advance.Goals as goal

pub run_whole-requires-clause-program : goal.run_whole-requires-clause-program
run_whole-requires-clause-program c = first_program _ c.args.self.now.tasks c.in-Some.task (sym c.first.ensures ∙ c.in-Some.is) c.requires.fit.programs

pub returns-then-not-has_records-clause-advances : goal.returns-then-not-has_records-clause-advances
returns-then-not-has_records-clause-advances c = (
  refused c.args.set.now (state_of c.args.self.now) c.args.self.now.tasks c.in-Some.task c.len.result refl (sym c.first.ensures ∙ c.in-Some.is)
      (c.len.ensures.exact ∙ sym (length-map c.in_ok-whole.whole.spawns spawn_of) ∙ ap length c.in_ok-whole.ensures.exact.spawns)
      (sym c.has_records.ensures ∙ c.if-not-has_records.true),
  refl,
)

pub returns-clause-advances : goal.returns-clause-advances
returns-clause-advances c =
    let t = c.in-Some.task in
    let run = runs_of c.args.set.now t.program.0 t.arg c.args.self.now.objects in
    let f = c.in_ok-finish.ensures run c.in_ok-whole.ensures.exact in (
      finish_with (state_of c.args.self.now) t.id.0 run,
      granted c.args.set.now (state_of c.args.self.now) c.args.self.now.tasks t c.len.result refl (sym c.first.ensures ∙ c.in-Some.is)
          (c.len.ensures.exact ∙ sym (length-map c.in_ok-whole.whole.spawns spawn_of) ∙ ap length c.in_ok-whole.ensures.exact.spawns)
          (sym c.has_records.ensures ∙ c.if-not-has_records.false),
      f.0,
      f.1,
    )

pub returns-clause-fit : goal.returns-clause-fit
returns-clause-fit c =
    let t = c.in-Some.task in
    let run = runs_of c.args.set.now t.program.0 t.arg c.args.self.now.objects in
    let f = c.in_ok-finish.ensures run c.in_ok-whole.ensures.exact in
    advanced_fit c.args.set.now (state_of c.args.self.now) (state_of c.finish.new.self) (finish_with (state_of c.args.self.now) t.id.0 run) c.requires.fit
    (runs_fit c.run_is_fit.ensures c.args.set.now (c.tasks_are_a_machine.ensures c.args.set.now) t.program.0 t.arg c.args.self.now.objects c.requires.fit.shape) f.1

pub returns-clause-room : goal.returns-clause-room
returns-clause-room c = λ turns h.
    let t = c.in-Some.task in
    let run = runs_of c.args.set.now t.program.0 t.arg c.args.self.now.objects in
    let f = c.in_ok-finish.ensures run c.in_ok-whole.ensures.exact in
    let r = runs_fit c.run_is_fit.ensures c.args.set.now (c.tasks_are_a_machine.ensures c.args.set.now) t.program.0 t.arg c.args.self.now.objects c.requires.fit.shape in
    room_left turns (state_of c.args.self.now) (state_of c.finish.new.self) t.id.0 run h r.spawns f.1
