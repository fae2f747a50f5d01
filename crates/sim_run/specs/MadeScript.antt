-- The script that `make` runs: a sensor pipeline of three programs over five objects, on two cores, while power fails forty times; only the seed of its steps is free. This project's own.
use Rattle.std.specs.Prelude.{◌≡◌, ℕ, List, [], ◌∷◌, ◌++◌, Ok, codes, replicate}
use Rattle.std.specs.Fmt.{decimal}
use Rattle.std.specs.List.{flat_map}
use Rattle.schedule_model.specs.Schedules.{Mix}
use Rattle.script.specs.Parts.{Script}
use Rattle.script.specs.Reading.{read}

-- the set, but for its programs: readings, their mean, the bounds, the last entry, and the counts
abbrev pub set_lines : List (List ℕ)
set_lines =
    codes "nvk 1" ∷ codes "cores 2" ∷ codes "memory 1024" ∷ codes "records 8" ∷ codes "object raw 4 3" ∷ codes "object flt 1 3" ∷ codes "object cfg 2 2 3 100" ∷ codes "object log 8 3" ∷ codes "object stat 2 3" ∷ []

-- `sense` drops the oldest reading, adds a new one of its round, 7 * ROUND + 3, and starts `filter`
abbrev pub sense_lines : List (List ℕ)
sense_lines =
    codes "program sense 200" ∷ codes "mv s0, a0" ∷ codes "li a0, 0" ∷ codes "li a1, 512" ∷ codes "li a7, 1" ∷ codes "ecall" ∷ codes "lw t0, 520(zero)" ∷ codes "sw t0, 524(zero)" ∷ codes "lw t0, 516(zero)" ∷ codes "sw t0, 520(zero)" ∷ codes "lw t0, 512(zero)" ∷ codes "sw t0, 516(zero)" ∷ codes "slli t0, s0, 3" ∷ codes "sub t0, t0, s0" ∷ codes "addi t0, t0, 3" ∷ codes "sw t0, 512(zero)" ∷ codes "li a7, 2" ∷ codes "ecall" ∷ codes "li a0, 1" ∷ codes "mv a1, s0" ∷ codes "li a7, 3" ∷ codes "ecall" ∷ codes "li a0, 0" ∷ codes "li a7, 4" ∷ codes "ecall" ∷ codes "end" ∷ []

-- `filter` writes the mean of the four readings, and starts `send`
abbrev pub filter_lines : List (List ℕ)
filter_lines =
    codes "program filter 200" ∷ codes "mv s0, a0" ∷ codes "li a0, 0" ∷ codes "li a1, 512" ∷ codes "li a7, 1" ∷ codes "ecall" ∷ codes "lw t0, 512(zero)" ∷ codes "lw t1, 516(zero)" ∷ codes "add t0, t0, t1" ∷ codes "lw t1, 520(zero)" ∷ codes "add t0, t0, t1" ∷ codes "lw t1, 524(zero)" ∷ codes "add t0, t0, t1" ∷ codes "srli t0, t0, 2" ∷ codes "sw t0, 512(zero)" ∷ codes "li a0, 1" ∷ codes "li a7, 2" ∷ codes "ecall" ∷ codes "li a0, 2" ∷ codes "mv a1, s0" ∷ codes "li a7, 3" ∷ codes "ecall" ∷ codes "li a0, 0" ∷ codes "li a7, 4" ∷ codes "ecall" ∷ codes "end" ∷ []

-- `send` counts the means that reach the bound, logs the round and its mean, and starts the next round of `sense`, up to the last one
abbrev pub send_lines : List (List ℕ)
send_lines =
    codes "program send 200" ∷ codes "mv s0, a0" ∷ codes "li a0, 1" ∷ codes "li a1, 512" ∷ codes "li a7, 1" ∷ codes "ecall" ∷ codes "li a0, 2" ∷ codes "li a1, 516" ∷ codes "ecall" ∷ codes "li a0, 4" ∷ codes "li a1, 544" ∷ codes "ecall" ∷ codes "lw t0, 512(zero)" ∷ codes "lw t1, 516(zero)" ∷ codes "lw t2, 544(zero)" ∷ codes "bltu t0, t1, low" ∷ codes "addi t2, t2, 1" ∷ codes "low: sw t2, 544(zero)" ∷ codes "sw t0, 548(zero)" ∷ codes "li a7, 2" ∷ codes "ecall" ∷ codes "sw s0, 552(zero)" ∷ codes "sw t0, 556(zero)" ∷ codes "li a0, 3" ∷ codes "li a1, 552" ∷ codes "ecall" ∷ codes "lw t1, 520(zero)" ∷ codes "bgeu s0, t1, out" ∷ codes "addi a1, s0, 1" ∷ codes "li a0, 0" ∷ codes "li a7, 3" ∷ codes "ecall" ∷ codes "out: li a0, 0" ∷ codes "li a7, 4" ∷ codes "ecall" ∷ codes "end" ∷ []

-- two tasks, and forty failures
abbrev pub task_lines : List (List ℕ)
task_lines =
    codes "task sense 1" ∷ codes "task sense 50" ∷ codes "power 500*40" ∷ []

-- all of them, each with its line feed
unfoldable pub front_text : List ℕ
front_text = flat_map (λ line. line ++ codes "\n") (set_lines ++ sense_lines ++ filter_lines ++ send_lines ++ task_lines)

-- the core steps are drawn with this seed
unfoldable pub made_text : ℕ → List ℕ
made_text seed = front_text ++ codes "mix " ++ decimal seed ++ codes " 20000\nrun\n"

-- it is a script, of whose schedule the seed alone is free
pub record IsMade (n : ℕ) (s : Script) : Type 0 where
  pub reads : read (made_text n) ≡ Ok s
  pub schedule : s.schedule ≡ record { cores = 2; items = Mix n 20000 ∷ []; on_times = replicate 40 500 }
