-- The refusals of each kind of message, in the order in which they are tried, each with its cause (the limits on
-- counts, and that the closing moment itself is late, are our choice).
use Rattle.std.specs.Prelude.{ℕ, Bool, true, not, ◌==◌, ◌&&◌, ◌||◌, nat_lt, nat_le, is_some}
use Rattle.std.specs.Prelude.{Option, Some, None, List, [], ◌∷◌, ◌++◌, length}
use Rattle.std.specs.List.{list_any}
use Rattle.tb_units.specs.declared.day.Day.{Day}
use Rattle.tb_units.specs.declared.rate.Rate.{Rate}
use Rattle.tb_units.specs.declared.moment.Moment.{Moment}
use Rattle.tb_units.specs.Amounts.{dollars_of, cents_of}
use Rattle.tb_terms.specs.declared.announcement.Announcement.{Announcement}
use Rattle.tb_terms.specs.declared.cusip.Cusip.{Cusip}
use Rattle.tb_terms.specs.declared.refusal.Refusal.TheVariants as refusal
use Rattle.tb_terms.specs.Closings.{c_closing}
use Rattle.tb_terms.specs.Faults.{fault_of, fault_rows}
use Rattle.tb_terms.specs.Eastern.{start_of}
use Rattle.tb_terms.specs.Payable.{numbers_of, is_business_day}
use Rattle.tb_message.specs.declared.message.Entry.{Entry}
use Rattle.tb_message.specs.declared.message.Message.{Message}
use Rattle.tb_message.specs.declared.message.Message.TheVariants as message
use Rattle.tb_history.specs.declared.roster.Registration.{Registration}
use Rattle.tb_history.specs.declared.roster.Enrolment.{Enrolment}
use Rattle.tb_history.specs.declared.bids.Bid.{Bid}
use Rattle.tb_history.specs.declared.accounts.Mark.{Mark}
use Rattle.tb_history.specs.declared.accounts.Offer.{Offer}
use Rattle.tb_terms.specs.Rows.{Row}
use Rattle.tb_rules.specs.BidRule.{Standing, bid_rule, position_rule, late, is_no_par, closing_for}
use Rattle.tb_history.specs.Values.{day_of, first_from}
use Rattle.tb_history.specs.Entries.{is_same, operator}
use Rattle.tb_history.specs.Roster.{registrations, enrolments, holidays, announcements, settlements, redemptions}
use Rattle.tb_history.specs.Roster.{is_registered, enrolment_of, is_under, is_enrolled, is_entered, announcement_of}
use Rattle.tb_history.specs.Roster.{bill_of, is_published, is_settled, is_redeemed, unsettled_of, add_ons, add_on_of}
use Rattle.tb_history.specs.LiveBids.{bids, cancels, reports, bid_of, is_cancelled, standing_of}
use Rattle.tb_history.specs.Holdings.{free_of, open_marks, mark_of, left_of}
use Rattle.tb_history.specs.Offers.{offers, offer_of, is_closed, open_offers}
use Rattle.tb_history.specs.Funds.{balance_of}

-- a roster of so many has reached its limit
abbrev pub full : ℕ → ℕ → Row
full limit count = (refusal.RosterFull, nat_le limit count)

-- register: what is registered already
abbrev pub register_rows : List Registration → List ℕ → List ℕ → List Row
register_rows registered submitter key = (
  refusal.Exists,
  is_same submitter operator
      || list_any (λ (r : Registration). is_same r.submitter submitter || is_same r.key key) registered,
)
    ∷ full 4096 (length registered)
    ∷ []

-- enrol: who is enrolled and registered already
abbrev pub enrol_rows : List Enrolment → List Registration → List ℕ → List ℕ → List Row
enrol_rows enrolled registered bidder submitter = (
  refusal.OtherSubmitter,
  is_some (enrolment_of enrolled bidder)
      && not (is_under submitter (enrolment_of enrolled bidder)),
)
    ∷ (refusal.Exists, is_some (enrolment_of enrolled bidder))
    ∷ (refusal.UnknownParticipant, not (is_registered registered submitter))
    ∷ full 16384 (length enrolled)
    ∷ []

-- holiday: what is entered already
abbrev pub holiday_rows : List Day → Day → List Row
holiday_rows entered day =
    (refusal.Exists, is_entered entered day)
    ∷ full 4096 (length entered)
    ∷ []

-- a bill has one maturity
abbrev pub maturity_rows : Option Announcement → Day → List Row
maturity_rows None maturity = []
maturity_rows (Some first) maturity =
    (refusal.MaturityDiffers first.maturity, not (first.maturity.number == maturity.number)) ∷ []

-- announce: what is announced already, the first fault of the terms, and whether the bill is redeemed
abbrev pub announce_rows : List Announcement → Bool → Announcement → List Row
announce_rows announced redeemed a =
    (refusal.AuctionExists, is_some (announcement_of announced a.auction))
    ∷ fault_rows (fault_of a)
    ++ maturity_rows (bill_of announced a.cusip) a.maturity
    ++ (refusal.AlreadyRedeemed, redeemed)
    ∷ full 65536 (length announced)
    ∷ []

-- bid and noncompetitive: the auction's announcement, whether the bidder is enrolled under the sender, and what stands
-- of it
abbrev pub bid_rows : Option Announcement → Bool → Standing → Moment → Option Rate → ℕ → List Row
bid_rows None enrolled standing moment rate amount = (refusal.UnknownAuction, true) ∷ []
bid_rows (Some a) enrolled standing moment rate amount =
    (refusal.UnknownBidder, not enrolled) ∷ bid_rule a standing moment rate amount

-- cancel: the auction's announcement, the sender's bid of this number in it, and whether it is cancelled
abbrev pub cancel_rows : Option Announcement → Option Bid → Bool → Moment → List Row
cancel_rows None bid cancelled moment = (refusal.UnknownAuction, true) ∷ []
cancel_rows (Some a) None cancelled moment = (refusal.UnknownBid, true) ∷ []
cancel_rows (Some a) (Some bid) cancelled moment =
    (refusal.AlreadyCancelled, cancelled) ∷ late moment (closing_for a bid.rate) ∷ []

-- position: the auction's announcement, and whether the bidder is enrolled under the sender
abbrev pub position_rows : Option Announcement → Bool → Moment → List Row
position_rows None enrolled moment = (refusal.UnknownAuction, true) ∷ []
position_rows (Some a) enrolled moment = (refusal.UnknownBidder, not enrolled) ∷ position_rule a moment

-- publish: the auction's announcement, and whether it is published
abbrev pub publish_rows : Option Announcement → Bool → Moment → List Row
publish_rows None published moment = (refusal.UnknownAuction, true) ∷ []
publish_rows (Some a) published moment =
    (refusal.NotClosed moment (c_closing a), nat_lt moment.seconds (c_closing a).seconds)
    ∷ (refusal.AlreadyPublished, published)
    ∷ []

-- settle: the auction's announcement, whether it is published, and whether it is settled
abbrev pub settle_rows : Option Announcement → Bool → Bool → Moment → List Row
settle_rows None published settled moment = (refusal.UnknownAuction, true) ∷ []
settle_rows (Some a) published settled moment =
    (refusal.NotPublished, not published)
    ∷ (refusal.NotIssueDate a.issue, nat_lt moment.seconds (start_of a.issue.number))
    ∷ (refusal.AlreadySettled, settled)
    ∷ []

-- transfer: the bill's announcement, whether the receiver is registered and whether it is the sender, whether the bill
-- is redeemed, and what is free
abbrev pub transfer_rows : Option Announcement → Bool → Bool → Bool → ℕ → Moment → ℕ → List Row
transfer_rows None known self redeemed free moment amount = (refusal.UnknownSecurity, true) ∷ []
transfer_rows (Some a) known self redeemed free moment amount =
    (refusal.UnknownParticipant, not known)
    ∷ (refusal.NotMultiple, is_no_par amount)
    ∷ (refusal.SelfTransfer, self)
    ∷ (refusal.AlreadyRedeemed, redeemed)
    ∷ (refusal.Matured, nat_le (start_of a.maturity.number) moment.seconds)
    ∷ (refusal.InsufficientFree (dollars_of free), nat_lt free amount)
    ∷ []

-- pledge: as transfer, and how many pledges of the sender are open
abbrev pub pledge_rows : List Row → ℕ → List Row
pledge_rows rows open_now = rows ++ (refusal.PledgeQuota, nat_le 1000 open_now) ∷ []

-- the pledge that is to be released: whether there is one, who may release it, and what is left of it
abbrev pub mark_rows : Option Mark → ℕ → List ℕ → ℕ → List Row
mark_rows None left sender amount = (refusal.UnknownPledge, true) ∷ []
mark_rows (Some mark) left sender amount =
    (refusal.NotPledgee, not (is_same mark.pledgee sender))
    ∷ (refusal.MoreThanPledged (dollars_of left), nat_lt left amount)
    ∷ []

-- release: the amount, and the holder's pledge of this number
abbrev pub release_rows : Option Mark → ℕ → List ℕ → ℕ → List Row
release_rows mark left sender amount = (refusal.NotMultiple, is_no_par amount) ∷ mark_rows mark left sender amount

-- what is left of the pledge that is found
abbrev pub left_in : List Entry → Option Mark → ℕ
left_in history None = 0
left_in history (Some mark) = left_of history mark

-- the payment day of a maturity: the first business day from it on (31 CFR 356.30), among more days than there are
unfoldable pub payment_day : List Day → Day → ℕ
payment_day entered maturity = first_from (is_business_day (numbers_of entered)) maturity.number 47482

-- every auction of the bill is to be settled
abbrev pub unsettled_rows : Option Announcement → List Row
unsettled_rows None = []
unsettled_rows (Some a) = (refusal.Unsettled a.auction, true) ∷ []

-- redeem: the bill's announcement, whether the bill is redeemed, its first auction that isn't settled, and the payment
-- day
abbrev pub redeem_rows : Option Announcement → Bool → Option Announcement → List Day → Moment → List Row
redeem_rows None redeemed unsettled entered moment = (refusal.UnknownSecurity, true) ∷ []
redeem_rows (Some a) redeemed unsettled entered moment =
    (refusal.AlreadyRedeemed, redeemed)
    ∷ unsettled_rows unsettled
    ++ (
      refusal.NotDue (day_of (payment_day entered a.maturity)),
      nat_lt moment.seconds
          (start_of (payment_day entered a.maturity)),
    )
    ∷ []

-- the rows of a transfer or a pledge of a sender at a moment
abbrev pub par_rows : List Entry → List ℕ → Moment → Cusip → List ℕ → ℕ → List Row
par_rows history sender moment cusip to amount =
    transfer_rows (bill_of (announcements history) cusip) (is_registered (registrations history) to) (is_same to sender)
    (is_redeemed (redemptions history) cusip) (free_of history sender cusip) moment amount

-- add-on: the auction's announcement, whether the holder is registered, and whether an add-on of the auction stands
abbrev pub add_on_rows : Option Announcement → Bool → Bool → Moment → ℕ → List Row
add_on_rows None known standing moment amount = (refusal.UnknownAuction, true) ∷ []
add_on_rows (Some a) known standing moment amount =
    (refusal.UnknownParticipant, not known)
    ∷ (refusal.NotMultiple, is_no_par amount)
    ∷ (refusal.AddOnExists, standing)
    ∷ late moment (c_closing a)
    ∷ []

-- the money that is there is enough
abbrev pub funds_row : ℕ → ℕ → Row
funds_row balance cents = (refusal.InsufficientFunds (cents_of balance), nat_lt balance cents)

-- the bill is past its maturity
abbrev pub matured_rows : Option Announcement → Moment → List Row
matured_rows None moment = []
matured_rows (Some a) moment = (refusal.Matured, nat_le (start_of a.maturity.number) moment.seconds) ∷ []

-- sell: as transfer, but for what is free, and how many offers of the sender are open
abbrev pub sell_rows : Option Announcement → Bool → Bool → Bool → Moment → ℕ → ℕ → List Row
sell_rows None known self redeemed moment amount open_now = (refusal.UnknownSecurity, true) ∷ []
sell_rows (Some a) known self redeemed moment amount open_now =
    (refusal.UnknownParticipant, not known)
    ∷ (refusal.NotMultiple, is_no_par amount)
    ∷ (refusal.SelfTransfer, self)
    ∷ (refusal.AlreadyRedeemed, redeemed)
    ∷ (refusal.Matured, nat_le (start_of a.maturity.number) moment.seconds)
    ∷ (refusal.OfferQuota, nat_le 1000 open_now)
    ∷ []

-- buy: the seller's offer of this number
abbrev pub buy_rows : List Entry → Option Offer → List ℕ → Moment → List Row
buy_rows history None sender moment = (refusal.UnknownOffer, true) ∷ []
buy_rows history (Some o) sender moment =
    (refusal.NotBuyer, not (is_same o.buyer sender))
    ∷ (refusal.OfferClosed, is_closed history o.seller o.number)
    ∷ (refusal.AlreadyRedeemed, is_redeemed (redemptions history) o.cusip)
    ∷ matured_rows (bill_of (announcements history) o.cusip) moment
    ++ (refusal.OfferUncovered, nat_lt (free_of history o.seller o.cusip) o.amount.value)
    ∷ funds_row (balance_of history sender) o.price.value
    ∷ []

-- retract: the sender's offer of this number, and whether it is bought or retracted
abbrev pub retract_rows : Option Offer → Bool → List Row
retract_rows None closed = (refusal.UnknownOffer, true) ∷ []
retract_rows (Some o) closed = (refusal.OfferClosed, closed) ∷ []

-- the rows of a message of a sender at a moment
abbrev pub rows_of : List Entry → List ℕ → Moment → Message → List Row
rows_of history sender moment (message.Register submitter key) = register_rows (registrations history) submitter key
rows_of history sender moment (message.Enrol bidder submitter) =
    enrol_rows (enrolments history) (registrations history) bidder submitter
rows_of history sender moment (message.Holiday day) = holiday_rows (holidays history) day
rows_of history sender moment (message.Announce terms) =
    announce_rows (announcements history) (is_redeemed (redemptions history) terms.cusip) terms
rows_of history sender moment (message.Bid auction bidder rate amount) =
    bid_rows (announcement_of (announcements history) auction) (is_enrolled history bidder sender)
    (standing_of (bids history) (cancels history) (reports history) auction bidder) moment rate amount.value
rows_of history sender moment (message.Cancel auction bid) =
    cancel_rows (announcement_of (announcements history) auction) (bid_of (bids history) sender auction bid)
    (is_cancelled (cancels history) sender auction bid) moment
rows_of history sender moment (message.Position auction bidder position) =
    position_rows (announcement_of (announcements history) auction) (is_enrolled history bidder sender) moment
rows_of history sender moment (message.Publish auction) =
    publish_rows (announcement_of (announcements history) auction) (is_published history auction) moment
rows_of history sender moment (message.Settle auction) =
    settle_rows (announcement_of (announcements history) auction) (is_published history auction)
    (is_settled history auction) moment
rows_of history sender moment (message.Transfer cusip to amount) = par_rows history sender moment cusip to amount.value
rows_of history sender moment (message.Pledge cusip to amount) =
    pledge_rows (par_rows history sender moment cusip to amount.value) (open_marks history sender)
rows_of history sender moment (message.Release holder pledge amount) =
    release_rows (mark_of history holder pledge) (left_in history (mark_of history holder pledge)) sender amount.value
rows_of history sender moment (message.Redeem cusip) =
    redeem_rows (bill_of (announcements history) cusip) (is_redeemed (redemptions history) cusip)
    (unsettled_of (announcements history) (settlements history) cusip) (holidays history) moment
rows_of history sender moment (message.AddOn auction holder amount) =
    add_on_rows (announcement_of (announcements history) auction) (is_registered (registrations history) holder)
    (is_some (add_on_of (add_ons history) auction)) moment amount.value
rows_of history sender moment (message.Deposit participant cents) =
    (refusal.UnknownParticipant, not (is_registered (registrations history) participant)) ∷ []
rows_of history sender moment (message.Withdraw participant cents) =
    (refusal.UnknownParticipant, not (is_registered (registrations history) participant))
    ∷ funds_row (balance_of history participant) cents.value
    ∷ []
rows_of history sender moment (message.Sell cusip to amount price) =
    sell_rows (bill_of (announcements history) cusip) (is_registered (registrations history) to) (is_same to sender)
    (is_redeemed (redemptions history) cusip) moment amount.value (open_offers history sender)
rows_of history sender moment (message.Buy seller offer) =
    buy_rows history (offer_of (offers history) seller offer) sender moment
rows_of history sender moment (message.Retract offer) =
    retract_rows (offer_of (offers history) sender offer) (is_closed history sender offer)
