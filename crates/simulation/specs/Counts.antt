-- How many lines of each kind a run has, and a run whose lines are counted and not put. This project's own.
use Rattle.std.specs.Prelude.{◌≡◌, ◌≤◌, ℕ, ◌+◌, List, [], ◌∷◌, length}
use Rattle.kernel_model.specs.Turns.{Line, Stale, RefuseEmpty, RefuseSlots, RefuseRecords, Failed}
use Rattle.kernel_model.specs.Events.{Event}
use Rattle.kernel_model.specs.Report.{boots_in, boots_told, told, told_by}
use Rattle.headline.specs.Runs.{Origin, after, event_lines}
use Rattle.kernel_core.specs.Events.{IsAt}
use Rattle.kernel_core.specs.declared.kernel.Kernel.{Kernel}
use Rattle.simulation.specs.Runs.{HasDoneAll}
use Rattle.simulation.specs.Stores.{Store, words_in}
use Rattle.simulation.specs.declared.tally.Tally.{Tally}

-- what lines count together
abbrev pub total : (Line → ℕ) → List Line → ℕ
total count [] = 0
total count (line ∷ lines) = count line + total count lines

-- an attempt that could not read on
abbrev pub stales_in : Line → ℕ
stales_in (Stale core task lo hi) = 1
stales_in _ = 0

-- an attempt that was refused, for each cause
abbrev pub refusals_in : Line → ℕ
refusals_in (RefuseEmpty core task lo hi) = 1
refusals_in (RefuseSlots core task object) = 1
refusals_in (RefuseRecords core task pending spawns) = 1
refusals_in _ = 0

abbrev pub fails_in : Line → ℕ
fails_in Failed = 1
fails_in _ = 0

-- by what the lines tell; a finish also where a boot or the end of the report tells it
abbrev pub tally_of : List Line → Tally
tally_of lines = record {
  finishes = length (told lines);
  stales = total stales_in lines;
  refusals = total refusals_in lines;
  fails = total fails_in lines;
  boots = boots_told lines;
}

-- with one line more
abbrev pub with_line : Tally → Line → Tally
with_line t line = record {
  finishes = t.finishes + length (told_by line);
  stales = t.stales + stales_in line;
  refusals = t.refusals + refusals_in line;
  fails = t.fails + fails_in line;
  boots = t.boots + boots_in line;
}

-- at most n of each kind
pub record AreFew (n : ℕ) (t : Tally) : Type 0 where
  pub finishes : t.finishes ≤ n
  pub stales : t.stales ≤ n
  pub refusals : t.refusals ≤ n
  pub fails : t.fails ≤ n
  pub boots : t.boots ≤ n

-- all events were done: the kernel is at the state that they lead to, the device has their writes, and their lines were counted
pub record HasCounted (o : Origin) (events : List Event) (k : Kernel) (first now : Store) (t : Tally) : Type 0 where
  pub at : IsAt o k (words_in now) (after o events)
  pub images : HasDoneAll o events first now
  pub counts : t ≡ tally_of (event_lines o events)
