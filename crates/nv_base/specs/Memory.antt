-- What a reader sees of the source and the sink over memory: this project's own.
-- Calls are counted from 1, and the count stands still at 2 ^ 32 - 1.
use Rattle.std.specs.Prelude.{ℕ, ◌+◌, ◌-◌, ◌^◌, min, List, Some, drop}
use Rattle.nv_base.specs.Streams.{Stream}
use Rattle.nv_base.specs.declared.memory_streams.MemSink.{MemSink}
use Rattle.nv_base.specs.declared.memory_streams.MemSource.{MemSource}

-- the number of the call after so many
abbrev pub next_call : ℕ → ℕ
next_call calls = min (calls + 1) (2 ^ 32 - 1)

-- the bytes that are still to be given
abbrev pub source_left : MemSource → List ℕ
source_left source = drop source.at source.bytes.items

-- how many calls of `take` were made
abbrev pub source_calls : MemSource → ℕ
source_calls source = source.calls

-- the calls of `take` that fail
abbrev pub source_fails : MemSource → List ℕ
source_fails source = source.fails.items

-- how many of them failed; the count stands still at the end of its type
abbrev pub source_faults : MemSource → ℕ
source_faults source = source.count

-- all that a source tells
abbrev pub source_seen : MemSource → Stream
source_seen source = record { bytes = Some (source_left source); faults = source_faults source }

-- the bytes taken
abbrev pub sink_bytes : MemSink → List ℕ
sink_bytes sink = sink.bytes.items

-- how many calls of `put` were made
abbrev pub sink_calls : MemSink → ℕ
sink_calls sink = sink.calls

-- the calls of `put` that fail
abbrev pub sink_fails : MemSink → List ℕ
sink_fails sink = sink.fails.items

-- how many of them failed; the count stands still at the end of its type
abbrev pub sink_faults : MemSink → ℕ
sink_faults sink = sink.count

-- all that a sink tells
abbrev pub sink_seen : MemSink → Stream
sink_seen sink = record { bytes = Some (sink_bytes sink); faults = sink_faults sink }

-- how many bytes it takes in all
abbrev pub room_of : MemSink → ℕ
room_of sink = sink.room
