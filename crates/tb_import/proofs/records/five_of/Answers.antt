use Rattle.std.proofs.Common.{rules, arith}
use Rattle.csv.specs.Records.{fields_of}
use Rattle.tb_import.proofs.FieldLemmas.{five_at, no_field}
use Rattle.tb_import.proofs.records.five_of.Goals as goal

pub returns-clause-five : goal.returns-clause-five
returns-clause-five c =
    five_at (fields_of c.args.fields.now) c.in_ok-number.number.now c.in_ok-auction.auction.now
    c.in_ok-bidder.bidder.now c.in_ok-rate.rate.now c.in_ok-amount.amount.now (search rules) (search rules)
    (search rules)
    (search rules) (search rules) (search rules)

pub returns-in_err-number-clause-other : goal.returns-in_err-number-clause-other
returns-in_err-number-clause-other c =
    rw (c.from_residual.ensures)
    (no_field (fields_of c.args.fields.now) 0 (c.in_err-number.ensures).value (omega arith))

pub returns-in_err-auction-clause-other : goal.returns-in_err-auction-clause-other
returns-in_err-auction-clause-other c =
    rw (c.from_residual-in_err-auction.ensures)
    (no_field (fields_of c.args.fields.now) 1 (c.in_err-auction.ensures).value (omega arith))

pub returns-in_err-bidder-clause-other : goal.returns-in_err-bidder-clause-other
returns-in_err-bidder-clause-other c =
    rw (c.from_residual-in_err-bidder.ensures)
    (no_field (fields_of c.args.fields.now) 2 (c.in_err-bidder.ensures).value (omega arith))

pub returns-in_err-rate-clause-other : goal.returns-in_err-rate-clause-other
returns-in_err-rate-clause-other c =
    rw (c.from_residual-in_err-rate.ensures)
    (no_field (fields_of c.args.fields.now) 3 (c.in_err-rate.ensures).value (omega arith))

pub returns-in_err-amount-clause-other : goal.returns-in_err-amount-clause-other
returns-in_err-amount-clause-other c =
    rw (c.from_residual-in_err-amount.ensures)
    (no_field (fields_of c.args.fields.now) 4 (c.in_err-amount.ensures).value (omega arith))
