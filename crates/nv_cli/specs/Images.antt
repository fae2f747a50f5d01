-- A call whose device stands in a file: which words name the file, how the program ends where it fails, and what it says. This project's own.
use Rattle.std.specs.Prelude.{ℕ, List, ◌∷◌, Option, Some, None, if◌then◌else◌, nat_eq, codes}
use Rattle.std.specs.Cmp.Lexicographic.{pointwise}
use Rattle.answers.specs.declared.status.Status.{Status}
use Rattle.answers.specs.declared.status.Status.TheVariants.{Done, WriteFault}
use Rattle.image_file.specs.declared.words.LoadFault.{LoadFault}
use Rattle.image_file.specs.declared.words.LoadFault.TheVariants as fault
use Rattle.nv_cli.specs.declared.image.Unready.{Unready}
use Rattle.nv_cli.specs.declared.image.Unready.TheVariants.{Read, Size, Write, NoMemory}

-- the path behind `--image`, where that is the first word and another follows
abbrev pub image_path : List (List ℕ) → Option (List ℕ)
image_path (flag ∷ path ∷ words) = if pointwise nat_eq flag (codes "--image") then Some path else None
image_path _ = None

-- the words of the command: all but these two
abbrev pub command_part : List (List ℕ) → List (List ℕ)
command_part (flag ∷ path ∷ words) = if pointwise nat_eq flag (codes "--image") then words else flag ∷ path ∷ words
command_part words = words

-- what a fault in reading the file is told as
abbrev pub unloaded : LoadFault → Unready
unloaded fault.Read = Read
unloaded fault.Size = Size
unloaded fault.NoMemory = NoMemory

-- what want of memory is told as, and a device that could not be written back
abbrev pub no_memory : Unready
no_memory = NoMemory

abbrev pub not_kept : Unready
not_kept = Write

-- the exit number where there is no device, or it is not kept
abbrev pub exit_unready : Unready → ℕ
exit_unready Read = 10
exit_unready Size = 19
exit_unready Write = 20
exit_unready NoMemory = 6

-- the line on standard error, without its line feed
abbrev pub line_unready : Unready → List ℕ
line_unready Read = codes "error image read"
line_unready Size = codes "error image size"
line_unready Write = codes "error image write"
line_unready NoMemory = codes "error memory"

-- what an answer becomes where the output fails on the bytes that waited: only one that said that all was written changes
abbrev pub unwritten : Status → Status
unwritten Done = WriteFault
unwritten status = status
