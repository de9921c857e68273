-- The adapters over std's streams, as contracts see them.
use Rattle.std.specs.Prelude.{None}
use Rattle.tb_link.specs.Sources.{SourceState}
use Rattle.tb_link.specs.Sinks.{SinkState}
use Rattle.tb_link.specs.declared.std_streams.StdSource.{StdSource}
use Rattle.tb_link.specs.declared.std_streams.StdSink.{StdSink}

-- it tells no bytes
abbrev pub std_source : {R : Type 0} → StdSource R → SourceState
std_source s = record { left = None; faults = s.faults.count; reads = s.reads }

-- it tells no bytes
abbrev pub std_sink : {W : Type 0} → StdSink W → SinkState
std_sink s = record { taken = None; faults = s.faults.count }
