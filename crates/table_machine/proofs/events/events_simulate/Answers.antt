use Rattle.table_machine.proofs.Courses.{course_simulates}
use Rattle.table_machine.proofs.events.events_simulate.Goals as goal

pub returns : goal.returns
returns g c = λ d events r ids. course_simulates d.setting d.base d.last r.setting events d.tables d.words d.state ids r.represents
