-- The word of a trap's cause, by the cause's number. This project's own.
use Rattle.std.specs.Prelude.{ℕ, List, [], ◌∷◌, get_or, map}
use Rattle.nv_base.specs.Causes.{cause_word}
use Rattle.nv_base.specs.declared.causes.TrapCause.{TrapCause}
use Rattle.nv_base.specs.declared.causes.TrapCause.TheVariants.{Illegal, Jump, Fetch, LoadAlign, Load, StoreAlign, Store, Break, Call, Object, CallAlign, CallRange, Program, Spawns, Fuel}

-- the causes 1, 2, ..
abbrev pub causes : List TrapCause
causes =
    Illegal ∷ Jump ∷ Fetch ∷ LoadAlign ∷ Load ∷ StoreAlign ∷ Store ∷ Break ∷ Call ∷ Object ∷ CallAlign ∷ CallRange ∷ Program ∷ Spawns ∷ Fuel ∷ []

-- no cause has the number 0, nor one above the last: these have no word
abbrev pub numbered_cause_word : ℕ → List ℕ
numbered_cause_word number = get_or ([] ∷ map cause_word causes) number []
