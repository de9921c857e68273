-- One header by which a request asks to close is enough.
use Rattle.std.proofs.Common.{◌∙◌, sym}
use Rattle.tb_wire.proofs.HeaderLemmas.{any_found}
use Rattle.tb_wire.proofs.headers.asks_to_close.Goals as goal

pub returns-then-says_close : goal.returns-then-says_close
returns-then-says_close c =
    sym (any_found c.args.text.now c.args.headers.now c.loop-header.header-index _ c.loop-header-test.true
    (sym c.says_close.ensures ∙ c.if-says_close.true))
