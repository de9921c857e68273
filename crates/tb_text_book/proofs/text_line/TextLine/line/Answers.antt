-- The amount is that of the dollars.
use Rattle.std.proofs.Common.{ap, ◌∙◌, sym}
use Rattle.tb_units.specs.declared.amount.Dollars.{Dollars}
use Rattle.tb_units.specs.declared.lines.RateLine.{RateLine}
use Rattle.tb_text_book.proofs.TextLineLemmas.{amount-dollars}
use Rattle.tb_text_book.proofs.text_line.TextLine.line.Goals as goal

pub returns : goal.returns
returns c =
    let stored = c.self.inside in
    let with_amount : Dollars → RateLine =
    λ amount. record { rate = stored.rate; bidder = stored.bidder; amount = amount } in
    sym (ap with_amount (amount-dollars _)) ∙ c.self.view_is
