-- A device in memory, given or of zeros: this project's own.
use Rattle.std.specs.Prelude.{◌≡◌, ℕ, List, []}
use Rattle.blank_fram.specs.declared.device.BlankFram.{BlankFram}

-- these words at the start; nothing was written yet, and nothing lost
pub record IsNew (words : List ℕ) (m : BlankFram) : Type 0 where
  pub start : m.start.items ≡ words
  pub log : m.log.items ≡ []
  pub lost : m.lost ≡ 0

-- so many writes pass, and then every call is lost
abbrev pub Passes : ℕ → BlankFram → Type 0
Passes count m = m.passes ≡ count
