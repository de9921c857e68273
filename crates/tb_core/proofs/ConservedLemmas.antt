-- Par is conserved in every history of the host.
use Rattle.std.proofs.Common.{List}
use Rattle.tb_message.specs.declared.message.Entry.{Entry}
use Rattle.tb_history.specs.Legal.{IsLegal}
use Rattle.tb_history.proofs.ConservedLemmas.{held-sum, paid-sum, pledged-covered, stranger-holds, stranger-paid}
use Rattle.tb_history.proofs.IssuedLemmas.{IsLegal-issued}
use Rattle.tb_core.specs.Conserved.{IsConserved}

-- since it is legal
pub IsConserved-legal : (h : List Entry) → IsLegal h → IsConserved h
IsConserved-legal h legal = record {
  holdings = λ cusip. held-sum h cusip legal;
  payments = λ cusip redeemed. paid-sum h cusip legal redeemed;
  covered = λ participant cusip. pledged-covered h participant cusip legal;
  strangers = λ stranger cusip unknown.
      (stranger-holds h stranger cusip legal unknown, stranger-paid h stranger cusip legal unknown);
  limited = λ cusip. IsLegal-issued h cusip legal;
}
