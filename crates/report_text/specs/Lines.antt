-- The text of each printed line: words with one space between them, numbers in decimal, and a line feed. This project's own.
use Rattle.std.specs.Prelude.{ℕ, List, [], ◌∷◌, ◌++◌, codes, Option, Some, None}
use Rattle.std.specs.List.{flat_map}
use Rattle.kernel_model.specs.Effects.{Outcome, Exit, Trap}
use Rattle.kernel_model.specs.Items.{Entry}
use Rattle.kernel_model.specs.Replay.{TaskRec}
use Rattle.kernel_model.specs.Turns.{Line, Nothing, Start, Stale, RefuseEmpty, RefuseSlots, RefuseRecords, Finish, Found, Failed, Booted}
use Rattle.set_model.specs.Sets.{TaskSet, object_at, program_at}
use Rattle.report_text.specs.Causes.{numbered_cause_word}
use Rattle.nv_base.specs.Texts.{field}

abbrev pub line_feed : List ℕ
line_feed = 10 ∷ []

abbrev pub outcome_text : Outcome → List ℕ
outcome_text (Exit code) = field (codes " exit ") code
outcome_text (Trap cause) = codes " trap " ++ numbered_cause_word cause

-- `finish N task T point P exit V first F`, or with `trap WORD`, or with `found` in place of `finish`
abbrev pub entry_text : List ℕ → Entry → List ℕ
entry_text word e =
    field word e.number ++ field (codes " task ") e.task ++ field (codes " point ") e.point ++ outcome_text e.outcome ++ field (codes " first ") e.first ++ line_feed

abbrev pub found_text : Option Entry → List ℕ
found_text None = []
found_text (Some e) = entry_text (codes "found ") e

-- `start`, `stale`, `refuse`, `finish`, `found`, `fail`, `boot`
abbrev pub line_text : TaskSet → Line → List ℕ
line_text set Nothing = []
line_text set (Start core task at) = field (codes "start core ") core ++ field (codes " task ") task ++ field (codes " at ") at ++ line_feed
line_text set (Stale core task lo hi) = field (codes "stale ") lo ++ field (codes " ") hi ++ field (codes " core ") core ++ field (codes " task ") task ++ line_feed
line_text set (RefuseEmpty core task lo hi) = field (codes "refuse empty ") lo ++ field (codes " ") hi ++ field (codes " core ") core ++ field (codes " task ") task ++ line_feed
line_text set (RefuseSlots core task object) = codes "refuse slots " ++ (object_at set object).name ++ field (codes " core ") core ++ field (codes " task ") task ++ line_feed
line_text set (RefuseRecords core task pending spawns) = field (codes "refuse records ") pending ++ field (codes " ") spawns ++ field (codes " core ") core ++ field (codes " task ") task ++ line_feed
line_text set (Finish e) = entry_text (codes "finish ") e
line_text set (Found e) = entry_text (codes "found ") e
line_text set Failed = codes "fail" ++ line_feed
line_text set (Booted found boots) = found_text found ++ field (codes "boot ") boots ++ line_feed

-- `end clock C number N next I boots B`
abbrev pub end_text : ℕ → ℕ → ℕ → ℕ → List ℕ
end_text clock number next boots =
    field (codes "end clock ") clock ++ field (codes " number ") number ++ field (codes " next ") next ++ field (codes " boots ") boots ++ line_feed

-- `object NAME V ..`
abbrev pub object_text : List ℕ → List ℕ → List ℕ
object_text name values = codes "object " ++ name ++ flat_map (field (codes " ")) values ++ line_feed

-- `open T PROGRAM ARG`
abbrev pub open_text : TaskSet → TaskRec → List ℕ
open_text set t = field (codes "open ") t.id ++ codes " " ++ (program_at set t.program).name ++ field (codes " ") t.arg ++ line_feed

abbrev pub done_text : List ℕ
done_text = codes "done" ++ line_feed
