use Rattle.std.proofs.Common.{◌∙◌, sym}
use Rattle.httparse.specs.Spans.{header_bytes}
use Rattle.tb_wire.proofs.HeaderLemmas.{stands-named, stands-other}
use Rattle.tb_wire.proofs.headers.with_header.Goals as goal

pub returns-then-has_name : goal.returns-then-has_name
returns-then-has_name c = λ values stands.
    stands-named c.args.text.now c.once_more.result values
    c.args.name.now (header_bytes c.args.text.now c.args.header.now)
    (sym c.has_name.ensures ∙ c.if-has_name.true) (c.once_more.ensures values stands)

pub returns : goal.returns
returns c = λ values stands.
    stands-other c.args.text.now c.args.standing values c.args.name.now (header_bytes c.args.text.now c.args.header.now)
    (sym c.has_name.ensures ∙ c.if-has_name.false) stands
