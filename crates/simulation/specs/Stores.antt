-- What contracts tell of a device. This project's own.
use Rattle.std.specs.Prelude.{ℕ, List}
use Rattle.device_model.specs.Words.{Change, Words}
use Rattle.recovery.specs.Images.{words_of}

-- its words at first, all writes since then, and how many calls were lost
pub record Store : Type 0 where
  pub start : List ℕ
  pub log : List Change
  pub losses : ℕ

-- a device, by what it tells
abbrev pub store : {F : Type 0} → (F → List ℕ) → (F → List Change) → (F → ℕ) → F → Store
store start log losses dev = record { start = start dev; log = log dev; losses = losses dev }

-- its words now
abbrev pub words_in : Store → Words
words_in s = words_of s.log s.start
