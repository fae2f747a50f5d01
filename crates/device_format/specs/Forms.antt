-- The index words of a first state by their kinds, as code looks at them. This project's own.
use Rattle.std.specs.Prelude.{ℕ, ◌+◌, ◌==◌, if◌then◌else◌}
use Rattle.nv_base.specs.declared.lines.Spawn.{Spawn}

-- one of the first nine words, of so many tasks
abbrev pub first_number_word : (tasks i : ℕ) → ℕ
first_number_word tasks i = if i == 2 then tasks + 1 else if i == 8 then tasks else 0

-- a word of task number r
abbrev pub first_task_word : Spawn → (r field : ℕ) → ℕ
first_task_word s r field =
    if field == 0 then r + 1 else if field == 1 then s.program.0 else s.arg
