-- Money is conserved in every history of the host.
use Rattle.std.proofs.Common.{List}
use Rattle.tb_message.specs.declared.message.Entry.{Entry}
use Rattle.tb_history.specs.Legal.{IsLegal}
use Rattle.tb_history.proofs.FundsLemmas.{IsLegal-funded, balances-sum, deposits-most, stranger-balance}
use Rattle.tb_core.specs.Funded.{IsFunded}

-- since it is legal
pub IsFunded-legal : (h : List Entry) → IsLegal h → IsFunded h
IsFunded-legal h legal = record {
  covered = λ participant. IsLegal-funded h legal participant;
  balances = balances-sum h legal;
  strangers = λ stranger unknown. stranger-balance h stranger legal unknown;
  limited = deposits-most h legal;
}
