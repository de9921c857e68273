-- The bidders so far are credited their awards.
use Rattle.std.proofs.Common.{◌≡◌, take}
use Rattle.tb_holdings.specs.Book.{TakesRoom}
use Rattle.tb_movements.specs.Credits.{CreditsBook}
use Rattle.tb_history.specs.Awarded.{Bidding}
use Rattle.tb_results.specs.Outcomes.{awards_of}
use Rattle.tb_ledger.specs.Credits.{credits_for}
use Rattle.tb_ledger.proofs.crediting.credit_each.Given as goal

abbrev pub invariant-loop-place : goal.invariant-loop-place
invariant-loop-place l = record {
  credits : (bidding : Bidding) → l.awards ≡ awards_of bidding l.bidders
      → CreditsBook l.security (credits_for l.submitters.list bidding (take l.place l.bidders))
      l.fn.accounts l.accounts;
  room : TakesRoom l.place 0 0 l.fn.accounts l.accounts;
  redeemed : l.accounts.redeemed ≡ l.fn.accounts.redeemed;
}
