-- What the words of a device hold while a run goes on, also inside commits and boots. This project's own.
use Rattle.std.specs.Prelude.{◌≡◌, ℕ, ◌≤◌, List, ◌++◌, length, take}
use Rattle.rv_core.specs.State.{MachineState}
use Rattle.kernel_model.specs.Events.{Event, State}
use Rattle.kernel_model.specs.Durable.{durable}
use Rattle.device_model.specs.Words.{Change, Words}
use Rattle.device_model.specs.Decoding.{Held, durable_of}
use Rattle.device_model.specs.Devices.{HoldsOn}
use Rattle.recovery.specs.Images.{words_of}
use Rattle.headline.specs.Runs.{Origin, after, writes_by}

-- they decode to what is durable in a state
pub record Decodes (o : Origin) (words : Words) (s : State MachineState) : Type 0 where
  pub held : Held
  pub holds : HoldsOn o.device held words
  pub durable_is : durable_of held ≡ durable o.base o.last s

-- a log has grown by so many writes
abbrev pub HasGrown : (log grown : List Change) → ℕ → Type 0
HasGrown log grown n = (writes : List Change) × (grown ≡ log ++ writes) × (length writes ≡ n)

-- the first n events have written as much as the event machine's; and the image after k writes holds what is durable after each number of them that makes k
pub record HasImages (o : Origin) (events : List Event) (start : List ℕ) (before log : List Change) (n : ℕ) : Type 0 where
  pub writes : List Change
  pub grown : log ≡ before ++ writes
  pub count : length writes ≡ writes_by o (take n events)
  pub images : (m k : ℕ) → m ≤ n → writes_by o (take m events) ≡ k → Decodes o (words_of (before ++ take k writes) start) (after o (take m events))
