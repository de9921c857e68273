-- The source and the sink in memory, as contracts see them.
use Rattle.std.specs.Prelude.{◌≡◌, Some, drop}
use Rattle.tb_link.specs.Counts.{counted}
use Rattle.tb_link.specs.Sources.{SourceState}
use Rattle.tb_link.specs.Sinks.{SinkState}
use Rattle.tb_link.specs.declared.memory_source.TextSource.{TextSource}
use Rattle.tb_link.specs.declared.memory_sink.TextSink.{TextSink}

abbrev pub text_source : TextSource → SourceState
text_source s = record { left = Some (drop s.at s.bytes.items); faults = s.faults.count; reads = s.calls }

abbrev pub text_sink : TextSink → SinkState
text_sink s = record { taken = Some s.bytes.items; faults = s.faults.count }

-- what any read does: it is counted, and what the source was made with stays
pub record CountsRead (old new : TextSource) : Type 0 where
  pub calls : new.calls ≡ counted old.calls
  pub piece : new.piece ≡ old.piece
  pub fails : new.fails ≡ old.fails

-- what any write does: it is counted, and what the sink was made with stays
pub record CountsWrite (old new : TextSink) : Type 0 where
  pub calls : new.calls ≡ counted old.calls
  pub room : new.room ≡ old.room
  pub fails : new.fails ≡ old.fails
