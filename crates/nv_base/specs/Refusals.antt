-- What a call answers, beside a definition: the same, unless memory ran out. This project's own.
use Rattle.std.specs.Prelude.{◌≡◌, ℕ, Result, Ok, Err}
use Rattle.nv_base.specs.declared.refusals.LineError.{LineError}
use Rattle.nv_base.specs.declared.refusals.Refusal.{Refusal}
use Rattle.nv_base.specs.declared.refusals.Refusal.TheVariants.{At, NoMemory}

-- the refusal of a line for a cause
abbrev pub refusal_at : {C : Type 0} → ℕ → Refusal C → Refusal (LineError C)
refusal_at line (At cause) = At (record { line = line; cause = cause })
refusal_at line NoMemory = NoMemory

-- a cause, at its line
abbrev pub at : {A C : Type 0} → ℕ → Result A C → Result A (LineError C)
at line (Ok x) = Ok x
at line (Err cause) = Err (record { line = line; cause = cause })

-- a refusal says why the definition gives nothing
abbrev pub Refuses : {Y E : Type 0} → Refusal E → Result Y E → Type 0
Refuses NoMemory told = Unit {0}
Refuses (At cause) told = told ≡ Err cause

-- what a call returned, seen by view, is what the definition gives
abbrev pub Gives : {X Y E : Type 0} → (X → Y) → Result X (Refusal E) → Result Y E → Type 0
Gives view (Ok x) told = told ≡ Ok (view x)
Gives view (Err e) told = Refuses e told

-- what a call left of a value that it changes is what the definition gives
abbrev pub Leaves : {Y E : Type 0} → Y → Result (Unit {0}) (Refusal E) → Result Y E → Type 0
Leaves new (Ok _) told = told ≡ Ok new
Leaves new (Err e) told = Refuses e told
