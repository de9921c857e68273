-- One header more is counted.
use Rattle.std.proofs.Common.{◌≡◌, List, take, map, subst, arith}
use Rattle.std.proofs.lemmas.List.{take_all}
use Rattle.httparse.specs.Spans.{header_bytes}
use Rattle.httparse.specs.declared.spans.HeaderSpan.{HeaderSpan}
use Rattle.tb_wire.specs.Headers.{Stands, values_of}
use Rattle.tb_wire.proofs.HeaderLemmas.{stands-next}
use Rattle.tb_wire.proofs.headers.find_header.Goals as goal

pub loop-header-preserved : goal.loop-header-preserved
loop-header-preserved c =
    stands-next c.args.name.now c.args.text.now c.args.headers.now c.loop-header.header-index _ c.loop-header.standing
    c.with_header-standing.result c.loop-header-test.true c.with_header-standing.ensures c.loop-header.invariant

pub returns : goal.returns
returns c =
    let headers = c.args.headers.now in
    let all : take c.loop-header.header-index headers ≡ headers =
    take_all c.loop-header.header-index headers (omega arith) in
    subst (λ (hs : List HeaderSpan).
    Stands c.args.text.now c.loop-header.standing (values_of c.args.name.now (map (header_bytes c.args.text.now) hs)))
    all c.loop-header.invariant
