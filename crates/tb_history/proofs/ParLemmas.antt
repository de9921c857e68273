-- How much all bids of a legal history come to.
use Rattle.std.proofs.Common.{◌≡◌, ℕ, ◌*◌, ◌^◌, ◌≤◌, ◌++◌, Some, None, List, [], ◌∷◌}
use Rattle.std.proofs.Common.{length, length-append, sum_by, refl, arith}
use Rattle.std.proofs.lemmas.Bool.{leb-true}
use Rattle.std.proofs.lemmas.List.Sums.{sum_by-append, sum_by-cons}
use Rattle.tb_units.specs.Multiples.{most_par}
use Rattle.tb_message.specs.declared.message.Entry.{Entry}
use Rattle.tb_message.specs.declared.message.Message.{Message}
use Rattle.tb_message.specs.declared.message.Message.TheVariants as message
use Rattle.tb_message.specs.Messages.{kind_of, parts_of}
use Rattle.tb_message.specs.Kinds.{forms_of}
use Rattle.tb_message.specs.Spelling.{AreOf}
use Rattle.tb_history.specs.declared.bids.Bid.{Bid}
use Rattle.tb_history.specs.Entries.{bid_by}
use Rattle.tb_history.specs.LiveBids.{bids, par_of}
use Rattle.tb_history.specs.Legal.{IsLegal, Follows}
use Rattle.tb_history.proofs.GrowthLemmas.{bids-snoc}
use Rattle.tb_history.proofs.LegalLemmas.{by_entries}
use Rattle.tb_history.proofs.LengthLemmas.{IsLegal-length}

-- no bids come to nothing
no_bid : (f : Bid → ℕ) (most : ℕ) → sum_by f [] ≤ most
no_bid f most = let none : sum_by f [] ≡ 0 = refl in omega (arith, none)

-- and one to its part
one_bid : (f : Bid → ℕ) (bid : Bid) (most : ℕ) → f bid ≤ most → sum_by f (bid ∷ []) ≤ most
one_bid f bid most few = let none : sum_by f [] ≡ 0 = refl in omega (arith, few, none, sum_by-cons f bid [])

-- a message bids for at most 10^12
bid_by-par : (submitter : List ℕ) (number : ℕ) (sent : Message)
    → AreOf (forms_of (kind_of sent)) (parts_of sent)
    → par_of (bid_by submitter number sent) ≤ 10 ^ 12
bid_by-par submitter number (message.Bid auction bidder None amount) fits =
    let bid : Bid =
    record {
      submitter =
          submitter;
      number = number;
      auction = auction;
      bidder = bidder;
      rate = None;
      amount = amount;
    } in
    one_bid (λ (b : Bid). b.amount.value) bid (10 ^ 12) (leb-true amount.value (10 ^ 12) fits.1.1.0)
bid_by-par submitter number (message.Bid auction bidder (Some rate) amount) fits =
    let bid : Bid =
    record {
      submitter =
          submitter;
      number = number;
      auction = auction;
      bidder = bidder;
      rate = Some rate;
      amount = amount;
    } in
    one_bid (λ (b : Bid). b.amount.value) bid (10 ^ 12) (leb-true amount.value (10 ^ 12) fits.1.1.1.0)
bid_by-par submitter number other fits = no_bid (λ (b : Bid). b.amount.value) (10 ^ 12)

-- the bids come to at most 10^12 for each entry
abbrev IsWithin : List Entry → Type 0
IsWithin h = par_of (bids h) ≤ 10 ^ 12 * length h

-- so it is where there are none
IsWithin-nil : IsWithin []
unfolding bids
IsWithin-nil = no_bid (λ (bid : Bid). bid.amount.value) 0

-- and stays so with an accepted entry
IsWithin-push : (history : List Entry) (entry : Entry)
    → IsLegal history
    → IsWithin history
    → Follows history entry
    → IsWithin (history ++ entry ∷ [])
IsWithin-push history entry legal within follows =
    let amount : Bid → ℕ = λ (bid : Bid). bid.amount.value in
    rw (bids-snoc history entry)
    (omega (
      arith,
      sum_by-append amount (bids history) (bid_by entry.submitter entry.number entry.message),
      length-append history (entry ∷ []),
      within,
      bid_by-par entry.submitter entry.number entry.message follows.in_range.body,
    ))

-- all bids of a legal history come to at most 10^12 for each entry there may be
pub IsLegal-bid_par : (history : List Entry) → IsLegal history → par_of (bids history) ≤ 10 ^ 12 * (4097 * 1048576)
IsLegal-bid_par history legal =
    let within : IsWithin history = by_entries IsWithin IsWithin-nil IsWithin-push history legal in
    omega (arith, within, IsLegal-length history legal)

-- and so to no more than is summed up
pub IsLegal-par : (history : List Entry) → IsLegal history → par_of (bids history) ≤ most_par
IsLegal-par history legal = omega (arith, IsLegal-bid_par history legal)
