-- The next bid has the same key.
use Rattle.std.proofs.Common.{sym, subst}
use Rattle.tb_session.specs.Rows.{IsBidRequest}
use Rattle.tb_session.proofs.row.next_bid.Goals as goal

pub returns-then-is_same_key : goal.returns-then-is_same_key
returns-then-is_same_key c =
    subst (λ k. IsBidRequest k c.in-Ok-Whole.request c.args.bytes.now c.in_ok-other.bid)
    (sym (c.is_same_key.ensures c.if-is_same_key.true)) c.in_ok-other.ensures
