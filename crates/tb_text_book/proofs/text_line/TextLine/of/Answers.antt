-- The dollars are those of the amount.
use Rattle.std.proofs.Common.{ap}
use Rattle.tb_units.specs.declared.amount.Dollars.{Dollars}
use Rattle.tb_units.specs.declared.lines.RateLine.{RateLine}
use Rattle.tb_text_book.proofs.TextLineLemmas.{amount-dollars}
use Rattle.tb_text_book.proofs.text_line.TextLine.of.Goals as goal

pub returns : goal.returns
returns c =
    let line = c.args.line in
    let with_amount : Dollars → RateLine =
    λ amount. record { rate = line.rate; bidder = line.bidder; amount = amount } in
    ap with_amount (amount-dollars line.amount)
