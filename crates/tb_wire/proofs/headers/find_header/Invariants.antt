use Rattle.std.proofs.Common.{map, take}
use Rattle.httparse.specs.Spans.{header_bytes}
use Rattle.tb_wire.specs.Headers.{Stands, values_of}
use Rattle.tb_wire.proofs.headers.find_header.Given as goal

-- so the header stands among those so far
abbrev pub invariant-loop-header : goal.invariant-loop-header
invariant-loop-header l =
    Stands l.text l.standing (values_of l.name (map (header_bytes l.text) (take l.header-index l.headers)))
