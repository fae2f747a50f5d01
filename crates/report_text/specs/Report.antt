-- The text of a whole report: the event lines, and then the state that was last read back. This project's own.
use Rattle.std.specs.Prelude.{ℕ, List, [], ◌∷◌, ◌++◌}
use Rattle.std.specs.List.{flat_map}
use Rattle.kernel_model.specs.Replay.{DeviceState}
use Rattle.kernel_model.specs.Effects.{Objects}
use Rattle.kernel_model.specs.Turns.{Line}
use Rattle.set_model.specs.Sets.{TaskSet, ObjPart}
use Rattle.report_text.specs.Lines.{line_text, end_text, object_text, open_text, done_text}

-- the lines, one after another
abbrev pub lines_text : TaskSet → List Line → List ℕ
lines_text set lines = flat_map (line_text set) lines

-- one line for each object of the set, with its words
abbrev pub objects_text : List ObjPart → Objects → List ℕ
objects_text (o ∷ parts) (words ∷ objects) = object_text o.name words ++ objects_text parts objects
objects_text _ _ = []

-- the state read back, and how many boots there were
abbrev pub end_part : TaskSet → DeviceState → ℕ → List ℕ
end_part set state boots =
    end_text state.clock state.number state.next boots ++ objects_text set.objects state.objects ++ flat_map (open_text set) state.tasks ++ done_text
