-- Refusals as they are told: a number, a name, and of a request the member that is at fault (our choice of both).
use Rattle.std.specs.Prelude.{ℕ, List, codes}
use Rattle.tb_terms.specs.declared.refusal.Field.{Field}
use Rattle.tb_terms.specs.declared.refusal.Field.TheVariants as field
use Rattle.tb_terms.specs.declared.refusal.Refusal.{Refusal}
use Rattle.tb_terms.specs.declared.refusal.Refusal.TheVariants as refusal

-- the number by which a refusal is told, and its name
abbrev pub told_of : Refusal → ℕ × List ℕ
told_of refusal.UnknownKey = (1, codes "UnknownKey")
told_of refusal.NotPermitted = (2, codes "NotPermitted")
told_of refusal.NumberReused = (3, codes "NumberReused")
told_of refusal.MessageQuota = (4, codes "MessageQuota")
told_of refusal.BadJson = (5, codes "BadJson")
told_of (refusal.BadShape at_fault) = (6, codes "BadShape")
told_of refusal.NoRoute = (7, codes "NoRoute")
told_of refusal.BadMethod = (8, codes "BadMethod")
told_of refusal.UnknownAuction = (10, codes "UnknownAuction")
told_of refusal.UnknownBidder = (11, codes "UnknownBidder")
told_of refusal.BelowMinimum = (12, codes "BelowMinimum")
told_of refusal.NotMultiple = (13, codes "NotMultiple")
told_of refusal.RateTooHigh = (16, codes "RateTooHigh")
told_of (refusal.Late moment closing) = (17, codes "Late")
told_of refusal.NoncompetitiveCeiling = (18, codes "NoncompetitiveCeiling")
told_of refusal.MixedBids = (19, codes "MixedBids")
told_of refusal.PositionRequired = (20, codes "PositionRequired")
told_of refusal.BidQuota = (21, codes "BidQuota")
told_of refusal.UnknownBid = (30, codes "UnknownBid")
told_of refusal.AlreadyCancelled = (31, codes "AlreadyCancelled")
told_of refusal.AuctionExists = (40, codes "AuctionExists")
told_of refusal.BadCusip = (41, codes "BadCusip")
told_of refusal.BadDates = (42, codes "BadDates")
told_of refusal.BadAmounts = (43, codes "BadAmounts")
told_of refusal.BadClosing = (44, codes "BadClosing")
told_of (refusal.MaturityDiffers maturity) = (45, codes "MaturityDiffers")
told_of refusal.AddOnExists = (46, codes "AddOnExists")
told_of refusal.Exists = (50, codes "Exists")
told_of refusal.RosterFull = (51, codes "RosterFull")
told_of refusal.OtherSubmitter = (52, codes "OtherSubmitter")
told_of (refusal.NotClosed moment closing) = (60, codes "NotClosed")
told_of refusal.AlreadyPublished = (61, codes "AlreadyPublished")
told_of refusal.NotPublished = (62, codes "NotPublished")
told_of (refusal.NotIssueDate issue) = (63, codes "NotIssueDate")
told_of refusal.AlreadySettled = (64, codes "AlreadySettled")
told_of refusal.UnknownSecurity = (70, codes "UnknownSecurity")
told_of refusal.UnknownParticipant = (71, codes "UnknownParticipant")
told_of (refusal.InsufficientFree free) = (73, codes "InsufficientFree")
told_of (refusal.Unsettled auction) = (74, codes "Unsettled")
told_of refusal.SelfTransfer = (76, codes "SelfTransfer")
told_of refusal.Matured = (77, codes "Matured")
told_of refusal.UnknownPledge = (78, codes "UnknownPledge")
told_of refusal.NotPledgee = (79, codes "NotPledgee")
told_of (refusal.MoreThanPledged left) = (80, codes "MoreThanPledged")
told_of (refusal.NotDue payment) = (81, codes "NotDue")
told_of refusal.AlreadyRedeemed = (82, codes "AlreadyRedeemed")
told_of refusal.PledgeQuota = (83, codes "PledgeQuota")
told_of refusal.NotRedeemed = (84, codes "NotRedeemed")
told_of (refusal.InsufficientFunds balance) = (90, codes "InsufficientFunds")
told_of refusal.UnknownOffer = (91, codes "UnknownOffer")
told_of refusal.NotBuyer = (92, codes "NotBuyer")
told_of refusal.OfferClosed = (93, codes "OfferClosed")
told_of refusal.OfferUncovered = (94, codes "OfferUncovered")
told_of refusal.OfferQuota = (95, codes "OfferQuota")

-- the number alone
abbrev pub number_of : Refusal → ℕ
number_of refused = (told_of refused).0

-- the name alone
abbrev pub name_of : Refusal → List ℕ
name_of refused = (told_of refused).1

-- the name of a member as it stands in a request, and `body` for what is no object
abbrev pub member_of : Field → List ℕ
member_of field.Body = codes "body"
member_of field.Number = codes "number"
member_of field.Kind = codes "kind"
member_of field.Submitter = codes "submitter"
member_of field.Key = codes "key"
member_of field.Bidder = codes "bidder"
member_of field.Day = codes "day"
member_of field.Auction = codes "auction"
member_of field.Cusip = codes "cusip"
member_of field.Offering = codes "offering"
member_of field.Minimum = codes "minimum"
member_of field.Ceiling = codes "ceiling"
member_of field.Floor = codes "floor"
member_of field.Threshold = codes "threshold"
member_of field.Date = codes "date"
member_of field.NcClose = codes "nc_close"
member_of field.CClose = codes "c_close"
member_of field.Issue = codes "issue"
member_of field.Maturity = codes "maturity"
member_of field.Rate = codes "rate"
member_of field.Amount = codes "amount"
member_of field.Bid = codes "bid"
member_of field.Position = codes "position"
member_of field.To = codes "to"
member_of field.Holder = codes "holder"
member_of field.Pledge = codes "pledge"
member_of field.Participant = codes "participant"
member_of field.Cents = codes "cents"
member_of field.Seller = codes "seller"
member_of field.Offer = codes "offer"
