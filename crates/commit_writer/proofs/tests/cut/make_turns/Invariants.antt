use Rattle.std.proofs.Common.{◌≤◌, length}
use Rattle.device_model.specs.Devices.{need_on}
use Rattle.commit_writer.specs.Courses.{Course}
use Rattle.commit_writer.specs.Turns.{IsWriting}
use Rattle.commit_writer.proofs.tests.cut.make_turns.Given as goal

abbrev pub invariant-loop-turn : goal.invariant-loop-turn
invariant-loop-turn g l =
    (course : Course)
    × IsWriting l.set course (g.C.Copies.is_written l.copies) (g.C.Copies.words l.copies) l.turn l.writer
    × (need_on course.device ≤ length (g.F.Fram.start l.dev))
