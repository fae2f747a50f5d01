-- A device's words as the bytes of a file, and why a file gives no device. This project's own.
use Rattle.std.specs.Prelude.{◌≡◌, ◌≢◌, ◌⊎◌, ◌+◌, ◌*◌, ℕ, List, length, replicate}
use Rattle.std.specs.List.{flat_map}
use Rattle.byteorder.specs.Endian.{little_bytes}
use Rattle.nv_base.specs.Streams.{AreGone, FaultCounted, ReadsAll, Stream}
use Rattle.image_file.specs.declared.words.LoadFault.{LoadFault}
use Rattle.image_file.specs.declared.words.LoadFault.TheVariants.{Read, Size, NoMemory}

-- four bytes for each word, the lowest first, in the order of the words' places
abbrev pub image_of : List ℕ → List ℕ
image_of words = flat_map (little_bytes 4) words

-- so many words, each 0
unfoldable pub AreZeros : ℕ → List ℕ → Type 0
AreZeros count words = words ≡ replicate count 0

-- all bytes that were left, and they are not four for each of so many words
abbrev pub ReadsOther : ℕ → Stream → Stream → Type 0
ReadsOther count old new = (bytes : List ℕ) × ReadsAll bytes old new × (length bytes ≢ 4 * count)

-- a source was read as so many words, and gave none: a call failed; or there are not four bytes for each word, of which
-- one more was taken where there are more
abbrev pub GivesNone : ℕ → Stream → Stream → LoadFault → Type 0
GivesNone count old new Read = FaultCounted old.faults new.faults
GivesNone count old new Size = ReadsOther count old new ⊎ AreGone old.bytes new.bytes (4 * count + 1)
GivesNone count old new NoMemory = new.faults ≡ old.faults
