-- What is left of a source of which not all bytes were read: this project's own.
use Rattle.std.specs.Prelude.{ℕ, ◌≡◌, ◌+◌}
use Rattle.nv_base.specs.Streams.{AreGone, AtMostGone, FaultCounted, Stream}
use Rattle.nv_base.specs.declared.whole.ReadRefusal.{ReadRefusal}
use Rattle.nv_base.specs.declared.whole.ReadRefusal.TheVariants.{ReadFault, TooLong, NoMemory}

-- why reading stopped, where at most so many bytes were asked for
abbrev pub Stops : ℕ → Stream → Stream → ReadRefusal → Type 0
Stops most old new ReadFault = AtMostGone old.bytes new.bytes most × FaultCounted old.faults new.faults
Stops most old new TooLong = AreGone old.bytes new.bytes (most + 1) × (new.faults ≡ old.faults)
Stops most old new NoMemory = AtMostGone old.bytes new.bytes most × (new.faults ≡ old.faults)
