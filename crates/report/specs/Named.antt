-- Which lines can be told of a task set. This project's own.
use Rattle.std.specs.Prelude.{◌<◌, length}
use Rattle.kernel_model.specs.Turns.{Line, RefuseSlots}
use Rattle.set_model.specs.Sets.{TaskSet}

-- the object that a line names, if it names one, is of the set
abbrev pub NamesObject : TaskSet → Line → Type 0
NamesObject set (RefuseSlots core task object) = object < length set.objects
NamesObject set _ = Unit {0}
