-- Messages as kinds with the values of their members.
use Rattle.std.specs.Prelude.{List, [], ◌∷◌, Some, None}
use Rattle.tb_message.specs.declared.kind.Kind.{Kind}
use Rattle.tb_message.specs.declared.kind.Kind.TheVariants as kind
use Rattle.tb_message.specs.declared.message.Message.{Message}
use Rattle.tb_message.specs.declared.message.Message.TheVariants as message
use Rattle.tb_message.specs.Forms.{Part, text, whole, signed}

abbrev pub kind_of : Message → Kind
kind_of (message.Register submitter key) = kind.Register
kind_of (message.Enrol bidder submitter) = kind.Enrol
kind_of (message.Holiday day) = kind.Holiday
kind_of (message.Announce a) = kind.Announce
kind_of (message.Bid auction bidder (Some rate) amount) = kind.Bid
kind_of (message.Bid auction bidder None amount) = kind.Noncompetitive
kind_of (message.Cancel auction bid) = kind.Cancel
kind_of (message.Position auction bidder position) = kind.Position
kind_of (message.Publish auction) = kind.Publish
kind_of (message.Settle auction) = kind.Settle
kind_of (message.Transfer cusip to amount) = kind.Transfer
kind_of (message.Pledge cusip to amount) = kind.Pledge
kind_of (message.Release holder pledge amount) = kind.Release
kind_of (message.Redeem cusip) = kind.Redeem
kind_of (message.AddOn auction holder amount) = kind.AddOn
kind_of (message.Deposit participant cents) = kind.Deposit
kind_of (message.Withdraw participant cents) = kind.Withdraw
kind_of (message.Sell cusip to amount price) = kind.Sell
kind_of (message.Buy seller offer) = kind.Buy
kind_of (message.Retract offer) = kind.Retract

-- the values of the members in order
abbrev pub parts_of : Message → List Part
parts_of (message.Register submitter key) = text submitter ∷ text key ∷ []
parts_of (message.Enrol bidder submitter) = text bidder ∷ text submitter ∷ []
parts_of (message.Holiday day) = whole day.number ∷ []
parts_of (message.Announce a) =
    text a.auction ∷ text a.cusip.bytes ∷ whole a.offering.value ∷ whole a.minimum.value ∷ whole a.nc_ceiling.value
    ∷ whole a.competitive_floor.value ∷ whole a.nlp_threshold.value ∷ whole a.auction_date.number ∷ whole a.nc_close
    ∷ whole a.c_close ∷ whole a.issue.number ∷ whole a.maturity.number ∷ []
parts_of (message.Bid auction bidder (Some rate) amount) =
    text auction ∷ text bidder ∷ whole rate.steps ∷ whole amount.value ∷ []
parts_of (message.Bid auction bidder None amount) = text auction ∷ text bidder ∷ whole amount.value ∷ []
parts_of (message.Cancel auction bid) = text auction ∷ whole bid ∷ []
parts_of (message.Position auction bidder position) = text auction ∷ text bidder ∷ signed position ∷ []
parts_of (message.Publish auction) = text auction ∷ []
parts_of (message.Settle auction) = text auction ∷ []
parts_of (message.Transfer cusip to amount) = text cusip.bytes ∷ text to ∷ whole amount.value ∷ []
parts_of (message.Pledge cusip to amount) = text cusip.bytes ∷ text to ∷ whole amount.value ∷ []
parts_of (message.Release holder pledge amount) = text holder ∷ whole pledge ∷ whole amount.value ∷ []
parts_of (message.Redeem cusip) = text cusip.bytes ∷ []
parts_of (message.AddOn auction holder amount) = text auction ∷ text holder ∷ whole amount.value ∷ []
parts_of (message.Deposit participant cents) = text participant ∷ whole cents.value ∷ []
parts_of (message.Withdraw participant cents) = text participant ∷ whole cents.value ∷ []
parts_of (message.Sell cusip to amount price) = text cusip.bytes ∷ text to ∷ whole amount.value ∷ whole price.value ∷ []
parts_of (message.Buy seller offer) = text seller ∷ whole offer ∷ []
parts_of (message.Retract offer) = whole offer ∷ []
