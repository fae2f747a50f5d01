-- Commits, whole or cut, and boots, one after another, and what each image of them holds. This project's own.
use Rattle.std.specs.Prelude.{ℕ, ◌+◌, ◌-◌, ◌<◌, nat_lt, List, [], ◌∷◌, ◌++◌, length, take, if◌then◌else◌}
use Rattle.set_model.specs.Sets.{TaskSet}
use Rattle.device_model.specs.Words.{Change}
use Rattle.device_model.specs.Layouts.{Layout}
use Rattle.device_model.specs.Decoding.{Held}
use Rattle.device_model.specs.Commits.{Commit, IsNext, commit_writes, committed}

-- what writes to a device after its format
pub data Act : Type 0 where
  Commits : Commit → Act
  Cuts : Commit → ℕ → Act  -- the first so many writes of a commit, up to a failure of power
  Boots : Act

-- the state after a boot
abbrev pub booted : Held → Held
booted h = record { index = h.index; objects = h.objects; boots = h.boots + 1; root = h.root }

-- the one write of a boot: word 2 counts them
abbrev pub boot_writes : Held → List Change
boot_writes h = (2, h.boots + 1) ∷ []

-- the writes of an act
abbrev pub act_writes : Layout → TaskSet → Held → Act → List Change
act_writes l set h (Commits c) = commit_writes l set h c
act_writes l set h (Cuts c count) = take count (commit_writes l set h c)
act_writes l set h Boots = boot_writes h

-- the state after it
abbrev pub acted : Layout → TaskSet → Held → Act → Held
acted l set h (Commits c) = committed l set h c
acted l set h (Cuts c count) = h
acted l set h Boots = booted h

-- whether it may follow
abbrev pub IsNextAct : Layout → TaskSet → Held → Act → Type 0
IsNextAct l set h (Commits c) = IsNext set h c
IsNextAct l set h (Cuts c count) = IsNext set h c × (count < length (commit_writes l set h c))
IsNextAct l set h Boots = Unit {0}

-- each of some acts may follow those before it
abbrev pub AreNext : Layout → TaskSet → Held → List Act → Type 0
AreNext l set h [] = Unit {0}
AreNext l set h (a ∷ acts) = IsNextAct l set h a × AreNext l set (acted l set h a) acts

-- the writes of some acts, the first of them first
abbrev pub journal : Layout → TaskSet → Held → List Act → List Change
journal l set h [] = []
journal l set h (a ∷ acts) = act_writes l set h a ++ journal l set (acted l set h a) acts

-- the state after some acts
abbrev pub held_after : Layout → TaskSet → Held → List Act → Held
held_after l set h [] = h
held_after l set h (a ∷ acts) = held_after l set (acted l set h a) acts

-- the state after k of their writes: that after all acts whose writes are made
abbrev pub held_at : Layout → TaskSet → Held → List Act → ℕ → Held
held_at l set h [] k = h
held_at l set h (a ∷ acts) k =
    if nat_lt k (length (act_writes l set h a)) then h
    else held_at l set (acted l set h a) acts (k - length (act_writes l set h a))
