-- What a source and a sink over std's readers and writers are made of: this project's own.
use Rattle.std.specs.Prelude.{ℕ, None}
use Rattle.nv_base.specs.Streams.{Stream}
use Rattle.nv_base.specs.declared.std_streams.StdSink.{StdSink}
use Rattle.nv_base.specs.declared.std_streams.StdSource.{StdSource}

-- what it reads from
abbrev pub reader_of : {R : Type 0} → StdSource R → R
reader_of source = source.reader

-- how many reads failed; the count stands still at the end of its type
abbrev pub read_faults : {R : Type 0} → StdSource R → ℕ
read_faults source = source.count

-- its faults, and no bytes: std tells them in its own way
abbrev pub reader_seen : {R : Type 0} → StdSource R → Stream
reader_seen source = record { bytes = None; faults = read_faults source }

-- what it writes to
abbrev pub writer_of : {W : Type 0} → StdSink W → W
writer_of sink = sink.writer

-- how many writes failed; the count stands still at the end of its type
abbrev pub write_faults : {W : Type 0} → StdSink W → ℕ
write_faults sink = sink.count

-- its faults, and no bytes: std tells them in its own way
abbrev pub writer_seen : {W : Type 0} → StdSink W → Stream
writer_seen sink = record { bytes = None; faults = write_faults sink }
