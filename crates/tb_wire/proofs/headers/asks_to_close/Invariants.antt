use Rattle.std.proofs.Common.{◌≡◌, false, map, take}
use Rattle.std.specs.List.{list_any}
use Rattle.httparse.specs.Spans.{header_bytes}
use Rattle.tb_wire.specs.Headers.{closes}
use Rattle.tb_wire.proofs.headers.asks_to_close.Given as goal

-- none so far
abbrev pub invariant-loop-header : goal.invariant-loop-header
invariant-loop-header l = list_any closes (map (header_bytes l.text) (take l.header-index l.headers)) ≡ false
