-- The numbers and the words of the trap causes: this project's own tables.
use Rattle.std.specs.Prelude.{ℕ, List, codes}
use Rattle.nv_base.specs.declared.causes.TrapCause.{TrapCause}
use Rattle.nv_base.specs.declared.causes.TrapCause.TheVariants.{Illegal, Jump, Fetch, LoadAlign, Load, StoreAlign, Store, Break, Call, Object, CallAlign, CallRange, Program, Spawns, Fuel}

-- the number of a cause, as it stands on the device and in a listing
abbrev pub cause_number : TrapCause → ℕ
cause_number Illegal = 1
cause_number Jump = 2
cause_number Fetch = 3
cause_number LoadAlign = 4
cause_number Load = 5
cause_number StoreAlign = 6
cause_number Store = 7
cause_number Break = 8
cause_number Call = 9
cause_number Object = 10
cause_number CallAlign = 11
cause_number CallRange = 12
cause_number Program = 13
cause_number Spawns = 14
cause_number Fuel = 15

-- the word of a cause, as a report has it: its ASCII bytes
abbrev pub cause_word : TrapCause → List ℕ
cause_word Illegal = codes "illegal"
cause_word Jump = codes "jump"
cause_word Fetch = codes "fetch"
cause_word LoadAlign = codes "loadalign"
cause_word Load = codes "load"
cause_word StoreAlign = codes "storealign"
cause_word Store = codes "store"
cause_word Break = codes "break"
cause_word Call = codes "call"
cause_word Object = codes "object"
cause_word CallAlign = codes "callalign"
cause_word CallRange = codes "callrange"
cause_word Program = codes "program"
cause_word Spawns = codes "spawns"
cause_word Fuel = codes "fuel"
