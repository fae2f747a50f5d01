-- The first words of lines, and the order in which lines come. This project's own.
use Rattle.std.specs.Prelude.{ℕ, Bool, true, false, List, Option, Some, None, if◌then◌else◌, nat_eq, codes}
use Rattle.std.specs.Cmp.Lexicographic.{pointwise}
use Rattle.script.specs.declared.keyword.Keyword.{Keyword}
use Rattle.script.specs.declared.keyword.Keyword.TheVariants as words
use Rattle.script.specs.declared.keyword.BlockKind.{BlockKind}
use Rattle.script.specs.declared.keyword.BlockKind.TheVariants as blocks
use Rattle.script.specs.declared.keyword.Stage.{Stage}
use Rattle.script.specs.declared.keyword.Stage.TheVariants.{Nvk, Cores, Memory, Records, Object, Program, Task, Schedule, Run}

abbrev pub is : List ℕ → List ℕ → Bool
is word text = pointwise nat_eq word text

-- the first word of a line that stands alone
abbrev pub keyword_of : List ℕ → Option Keyword
keyword_of word =
    if is word (codes "nvk") then Some words.Nvk
    else if is word (codes "cores") then Some words.Cores
    else if is word (codes "memory") then Some words.Memory
    else if is word (codes "records") then Some words.Records
    else if is word (codes "object") then Some words.Object
    else if is word (codes "task") then Some words.Task
    else if is word (codes "power") then Some words.Power
    else if is word (codes "steps") then Some words.Steps
    else if is word (codes "mix") then Some words.Mix
    else if is word (codes "run") then Some words.Run
    else None

-- the first word of a block
abbrev pub block_kind_of : List ℕ → Option BlockKind
block_kind_of word =
    if is word (codes "program") then Some blocks.Program
    else if is word (codes "code") then Some blocks.Code
    else None

-- where a line stands in the order of a script: blocks stand under `Program`
abbrev pub stage_of : Keyword → Stage
stage_of words.Nvk = Nvk
stage_of words.Cores = Cores
stage_of words.Memory = Memory
stage_of words.Records = Records
stage_of words.Object = Object
stage_of words.Task = Task
stage_of words.Power = Schedule
stage_of words.Steps = Schedule
stage_of words.Mix = Schedule
stage_of words.Run = Run

-- whether a line may come next after the last one
abbrev pub may_follow : Option Stage → Stage → Bool
may_follow None Nvk = true
may_follow (Some Nvk) Cores = true
may_follow (Some Cores) Memory = true
may_follow (Some Memory) Records = true
may_follow (Some Records) Object = true
may_follow (Some Object) Object = true
may_follow (Some Object) Program = true
may_follow (Some Program) Program = true
may_follow (Some Program) Task = true
may_follow (Some Program) Schedule = true
may_follow (Some Program) Run = true
may_follow (Some Task) Task = true
may_follow (Some Task) Schedule = true
may_follow (Some Task) Run = true
may_follow (Some Schedule) Schedule = true
may_follow (Some Schedule) Run = true
may_follow _ _ = false
