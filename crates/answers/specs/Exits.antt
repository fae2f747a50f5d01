-- The exit number of each answer, and the line that names it on the output. This project's own.
use Rattle.std.specs.Prelude.{ℕ, List, [], ◌++◌, codes}
use Rattle.std.specs.Fmt.{decimal}
use Rattle.script.specs.CauseWords.{cause_word}
use Rattle.answers.specs.declared.status.Status.{Status}
use Rattle.answers.specs.declared.status.Status.TheVariants.{Done, Differs, Usage, Script, Packed, Report, ReadFault, WriteFault, NoMemory, DeviceLost, Image, Small}
use Rattle.answers.specs.declared.status.ImageFault.{ImageFault}
use Rattle.answers.specs.declared.status.ImageFault.TheVariants.{Blank, Damaged, Worn}

abbrev pub exit_of : Status → ℕ
exit_of Done = 0
exit_of (Differs line) = 1
exit_of Usage = 2
exit_of (Script e) = 3
exit_of (Packed place) = 3
exit_of (Report line) = 3
exit_of ReadFault = 4
exit_of WriteFault = 5
exit_of NoMemory = 6
exit_of DeviceLost = 7
exit_of (Image fault) = 8
exit_of (Small need len) = 9

-- why a device holds no state to go on from
abbrev pub fault_line : ImageFault → List ℕ
fault_line Blank = codes "error image blank\n"
fault_line (Damaged place) = codes "error image damaged " ++ decimal place ++ codes "\n"
fault_line Worn = codes "error image worn\n"

-- with its line feed
abbrev pub line_for : Status → List ℕ
line_for Done = []
line_for WriteFault = []
line_for (Differs line) = codes "differs " ++ decimal line ++ codes "\n"
line_for Usage = codes "error usage\n"
line_for (Script e) = codes "error script " ++ decimal e.line ++ codes " " ++ cause_word e.cause ++ codes "\n"
line_for (Packed place) = codes "error packed " ++ decimal place ++ codes "\n"
line_for (Report line) = codes "error report " ++ decimal line ++ codes "\n"
line_for ReadFault = codes "error read\n"
line_for NoMemory = codes "error memory\n"
line_for DeviceLost = codes "error device\n"
line_for (Image fault) = fault_line fault
line_for (Small need len) = codes "error small " ++ decimal need ++ codes " " ++ decimal len ++ codes "\n"
