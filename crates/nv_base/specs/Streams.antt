-- What sources and sinks of bytes promise: this project's own.
use Rattle.std.specs.Prelude.{ℕ, ◌≡◌, ◌-◌, ◌^◌, ◌<◌, ◌≤◌, ◌⊎◌, List, [], ◌++◌, length, take, drop, Option, Some, None}

-- a source or a sink at a moment: the bytes that are left in a source, or that a sink took, where
-- it tells them, and how many of its calls failed
pub record Stream : Type 0 where
  pub bytes : Option (List ℕ)
  pub faults : ℕ

-- the count of faults is greater than it was, or stands at the last value of its type
abbrev pub FaultCounted : ℕ → ℕ → Type 0
FaultCounted old new = (old ≤ new) × ((old < new) ⊎ (new ≡ 2 ^ 64 - 1))

-- ---- the bytes left, before and behind

-- the first n of them are in the buffer now, and are left no more
abbrev pub Took : Option (List ℕ) → Option (List ℕ) → List ℕ → ℕ → Type 0
Took None new buffer n = new ≡ None
Took (Some left) new buffer n = (n ≤ length left) × (take n buffer ≡ take n left) × (new ≡ Some (drop n left))

-- no byte is left
abbrev pub AtEnd : Option (List ℕ) → Type 0
AtEnd None = Unit {0}
AtEnd (Some left) = left ≡ []

-- these bytes were all that was left, and none is left now
abbrev pub GaveAll : Option (List ℕ) → Option (List ℕ) → List ℕ → Type 0
GaveAll None new bytes = new ≡ None
GaveAll (Some left) new bytes = (left ≡ bytes) × (new ≡ Some [])

-- the first n of the bytes left are gone, and no others
abbrev pub AreGone : Option (List ℕ) → Option (List ℕ) → ℕ → Type 0
AreGone None new n = new ≡ None
AreGone (Some left) new n = (n ≤ length left) × (new ≡ Some (drop n left))

-- at most n of the bytes left are gone, and they were the first
abbrev pub AtMostGone : Option (List ℕ) → Option (List ℕ) → ℕ → Type 0
AtMostGone old new n = (m : ℕ) × (m ≤ n) × AreGone old new m

-- ---- the bytes taken, before and behind

-- what was taken before, and the piece behind it
abbrev pub appended : Option (List ℕ) → List ℕ → Option (List ℕ)
appended None piece = None
appended (Some taken) piece = Some (taken ++ piece)

-- a front of the piece was put, and nothing else: not all of the piece
abbrev pub PutFront : Option (List ℕ) → Option (List ℕ) → List ℕ → Type 0
PutFront old new piece = (n : ℕ) × (n < length piece) × (new ≡ appended old (take n piece))

-- ---- what calls make of a source or a sink

-- a call failed, and moved nothing
pub record Fails (old new : Stream) : Type 0 where
  pub kept : new.bytes ≡ old.bytes
  pub counted : FaultCounted old.faults new.faults

-- a call took n bytes into the buffer
pub record Takes (n : ℕ) (buffer : List ℕ) (old new : Stream) : Type 0 where
  pub took : Took old.bytes new.bytes buffer n
  pub still : new.faults ≡ old.faults

-- these are all bytes that were left, and no call failed
pub record ReadsAll (bytes : List ℕ) (old new : Stream) : Type 0 where
  pub gave : GaveAll old.bytes new.bytes bytes
  pub still : new.faults ≡ old.faults

-- the text was put whole, and no call failed
pub record PutsText (text : List ℕ) (old new : Stream) : Type 0 where
  pub put : new.bytes ≡ appended old.bytes text
  pub still : new.faults ≡ old.faults

-- a call failed, before all of the text was put
pub record PutsFront (text : List ℕ) (old new : Stream) : Type 0 where
  pub front : PutFront old.bytes new.bytes text
  pub counted : FaultCounted old.faults new.faults
