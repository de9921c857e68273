-- What the entries of a history say. A history is the list of its entries, the first of them first. A message says a
-- list of each kind, empty or of one.
use Rattle.std.specs.Prelude.{ℕ, Bool, true, not, List, [], ◌∷◌, codes}
use Rattle.std.specs.Str.{bytes_eq}
use Rattle.tb_units.specs.declared.day.Day.{Day}
use Rattle.tb_terms.specs.declared.announcement.Announcement.{Announcement}
use Rattle.tb_terms.specs.declared.cusip.Cusip.{Cusip}
use Rattle.tb_message.specs.declared.message.Message.{Message}
use Rattle.tb_message.specs.declared.message.Message.TheVariants as message
use Rattle.tb_message.specs.Kinds as party
use Rattle.tb_message.specs.Kinds.{Party}
use Rattle.tb_history.specs.declared.roster.Registration.{Registration}
use Rattle.tb_history.specs.declared.roster.Enrolment.{Enrolment}
use Rattle.tb_history.specs.declared.bids.Bid.{Bid}
use Rattle.tb_history.specs.declared.bids.Cancel.{Cancel}
use Rattle.tb_history.specs.declared.bids.Report.{Report}
use Rattle.tb_history.specs.declared.accounts.Transfer.{Transfer}
use Rattle.tb_history.specs.declared.accounts.Mark.{Mark}
use Rattle.tb_history.specs.declared.accounts.Release.{Release}
use Rattle.tb_history.specs.declared.accounts.Offer.{Offer}
use Rattle.tb_history.specs.declared.accounts.Purchase.{Purchase}
use Rattle.tb_history.specs.declared.accounts.Retraction.{Retraction}
use Rattle.tb_history.specs.declared.accounts.Cash.{Cash}
use Rattle.tb_history.specs.declared.accounts.AddOn.{AddOn}

-- two names, or two CUSIPs, are one
abbrev pub is_same : List ℕ → List ℕ → Bool
is_same = bytes_eq

-- the name that the operator's entries have
unfoldable pub operator : List ℕ
operator = codes "operator"

-- a submitter and its key
abbrev pub registered_by : Message → List Registration
registered_by (message.Register submitter key) = record { submitter = submitter; key = key } ∷ []
registered_by other = []

-- a bidder and its submitter
abbrev pub enrolled_by : Message → List Enrolment
enrolled_by (message.Enrol bidder submitter) = record { bidder = bidder; submitter = submitter } ∷ []
enrolled_by other = []

-- a holiday
abbrev pub entered_by : Message → List Day
entered_by (message.Holiday day) = day ∷ []
entered_by other = []

-- an announcement
abbrev pub announced_by : Message → List Announcement
announced_by (message.Announce terms) = terms ∷ []
announced_by other = []

-- the auction whose results are published
abbrev pub published_by : Message → List (List ℕ)
published_by (message.Publish auction) = auction ∷ []
published_by other = []

-- the auction that is settled
abbrev pub settled_by : Message → List (List ℕ)
settled_by (message.Settle auction) = auction ∷ []
settled_by other = []

-- the bill that is redeemed
abbrev pub redeemed_by : Message → List Cusip
redeemed_by (message.Redeem cusip) = cusip ∷ []
redeemed_by other = []

-- a bid of its sender under its number
abbrev pub bid_by : List ℕ → ℕ → Message → List Bid
bid_by submitter number (message.Bid auction bidder rate amount) =
    record { submitter = submitter; number = number; auction = auction; bidder = bidder; rate = rate; amount = amount }
    ∷ []
bid_by submitter number other = []

-- a cancel of the sender's bid
abbrev pub cancelled_by : List ℕ → Message → List Cancel
cancelled_by submitter (message.Cancel auction bid) =
    record { submitter = submitter; auction = auction; bid = bid } ∷ []
cancelled_by submitter other = []

-- a report of a position
abbrev pub reported_by : List ℕ → Message → List Report
reported_by submitter (message.Position auction bidder position) =
    record { submitter = submitter; auction = auction; bidder = bidder; position = position } ∷ []
reported_by submitter other = []

-- a transfer from the sender
abbrev pub transferred_by : List ℕ → Message → List Transfer
transferred_by submitter (message.Transfer cusip to amount) =
    record { from = submitter; to = to; cusip = cusip; amount = amount } ∷ []
transferred_by submitter other = []

-- a pledge of the sender under its number
abbrev pub pledged_by : List ℕ → ℕ → Message → List Mark
pledged_by submitter number (message.Pledge cusip to amount) =
    record { holder = submitter; number = number; pledgee = to; cusip = cusip; amount = amount } ∷ []
pledged_by submitter number other = []

-- a release of the holder's pledge
abbrev pub released_by : Message → List Release
released_by (message.Release holder pledge amount) = record { holder = holder; pledge = pledge; amount = amount } ∷ []
released_by other = []

-- an add-on of an auction
abbrev pub added_by : Message → List AddOn
added_by (message.AddOn auction holder amount) = record { auction = auction; holder = holder; amount = amount } ∷ []
added_by other = []

-- money that comes to a participant
abbrev pub deposited_by : Message → List Cash
deposited_by (message.Deposit participant cents) = record { participant = participant; cents = cents } ∷ []
deposited_by other = []

-- and money that goes from it
abbrev pub withdrawn_by : Message → List Cash
withdrawn_by (message.Withdraw participant cents) = record { participant = participant; cents = cents } ∷ []
withdrawn_by other = []

-- an offer of the sender under its number
abbrev pub offered_by : List ℕ → ℕ → Message → List Offer
offered_by submitter number (message.Sell cusip to amount price) =
    record { seller = submitter; number = number; buyer = to; cusip = cusip; amount = amount; price = price } ∷ []
offered_by submitter number other = []

-- a purchase by the sender
abbrev pub purchased_by : List ℕ → Message → List Purchase
purchased_by submitter (message.Buy seller offer) =
    record { buyer = submitter; seller = seller; offer = offer } ∷ []
purchased_by submitter other = []

-- the sender's offer, taken back
abbrev pub retracted_by : List ℕ → Message → List Retraction
retracted_by submitter (message.Retract offer) = record { seller = submitter; offer = offer } ∷ []
retracted_by submitter other = []

-- a sender is of the party
abbrev pub is_of_party : Party → List ℕ → Bool
is_of_party party.operator sender = is_same sender operator
is_of_party party.submitter sender = not (is_same sender operator)
is_of_party party.anyone sender = true
