-- The kinds of messages: tag in a record, name in a request, sender, and members in order.
use Rattle.std.specs.Prelude.{ℕ, List, [], ◌∷◌, Option, ◌==◌, find, codes, map}
use Rattle.std.specs.Str.{bytes_eq}
use Rattle.tb_terms.specs.declared.refusal.Field.{Field}
use Rattle.tb_terms.specs.declared.refusal.Field.TheVariants.{Submitter, Key, Bidder, Day, Auction, Cusip, Offering}
use Rattle.tb_terms.specs.declared.refusal.Field.TheVariants.{Minimum, Ceiling, Floor, Threshold, Date, NcClose}
use Rattle.tb_terms.specs.declared.refusal.Field.TheVariants.{CClose, Issue, Maturity, Rate, Amount, Bid, Position}
use Rattle.tb_terms.specs.declared.refusal.Field.TheVariants.{To, Holder, Pledge, Participant, Cents, Seller, Offer}
use Rattle.tb_message.specs.declared.kind.Kind.{Kind}
use Rattle.tb_message.specs.declared.kind.Kind.TheVariants as kind
use Rattle.tb_message.specs.Forms.{Form, name, cusip, amount, money, number, position, rate, day, minute}

-- who may send a message or ask a query
pub data Party : Type 0 where
  operator : Party
  submitter : Party
  anyone : Party

-- the members of an announcement
abbrev pub announced : List (Field × Form)
announced =
    (Auction, name) ∷ (Cusip, cusip) ∷ (Offering, amount) ∷ (Minimum, amount) ∷ (Ceiling, amount) ∷ (Floor, amount)
    ∷ (Threshold, amount) ∷ (Date, day) ∷ (NcClose, minute) ∷ (CClose, minute) ∷ (Issue, day) ∷ (Maturity, day) ∷ []

-- the row of a kind: its tag in a record, its name in a request, who may send it, and its members in order, each of a
-- form; the members are also the fields of the record
abbrev pub row_of : Kind → ℕ × List ℕ × Party × List (Field × Form)
row_of kind.Register = (1, codes "register", operator, (Submitter, name) ∷ (Key, name) ∷ [])
row_of kind.Enrol = (2, codes "enrol", operator, (Bidder, name) ∷ (Submitter, name) ∷ [])
row_of kind.Holiday = (3, codes "holiday", operator, (Day, day) ∷ [])
row_of kind.Announce = (4, codes "announce", operator, announced)
row_of kind.Bid = (5, codes "bid", submitter, (Auction, name) ∷ (Bidder, name) ∷ (Rate, rate) ∷ (Amount, amount) ∷ [])
row_of kind.Noncompetitive =
    (6, codes "noncompetitive", submitter, (Auction, name) ∷ (Bidder, name) ∷ (Amount, amount) ∷ [])
row_of kind.Cancel = (7, codes "cancel", submitter, (Auction, name) ∷ (Bid, number) ∷ [])
row_of kind.Position = (8, codes "position", submitter, (Auction, name) ∷ (Bidder, name) ∷ (Position, position) ∷ [])
row_of kind.Publish = (9, codes "publish", operator, (Auction, name) ∷ [])
row_of kind.Settle = (10, codes "settle", operator, (Auction, name) ∷ [])
row_of kind.Transfer = (11, codes "transfer", submitter, (Cusip, cusip) ∷ (To, name) ∷ (Amount, amount) ∷ [])
row_of kind.Pledge = (12, codes "pledge", submitter, (Cusip, cusip) ∷ (To, name) ∷ (Amount, amount) ∷ [])
row_of kind.Release = (13, codes "release", submitter, (Holder, name) ∷ (Pledge, number) ∷ (Amount, amount) ∷ [])
row_of kind.Redeem = (14, codes "redeem", operator, (Cusip, cusip) ∷ [])
row_of kind.AddOn = (15, codes "addon", operator, (Auction, name) ∷ (Holder, name) ∷ (Amount, amount) ∷ [])
row_of kind.Deposit = (16, codes "deposit", operator, (Participant, name) ∷ (Cents, money) ∷ [])
row_of kind.Withdraw = (17, codes "withdraw", operator, (Participant, name) ∷ (Cents, money) ∷ [])
row_of kind.Sell = (18, codes "sell", submitter, (Cusip, cusip) ∷ (To, name) ∷ (Amount, amount) ∷ (Cents, money) ∷ [])
row_of kind.Buy = (19, codes "buy", submitter, (Seller, name) ∷ (Offer, number) ∷ [])
row_of kind.Retract = (20, codes "retract", submitter, (Offer, number) ∷ [])

abbrev pub tag_of : Kind → ℕ
tag_of kind = (row_of kind).0

abbrev pub kind_text : Kind → List ℕ
kind_text kind = (row_of kind).1

abbrev pub party_of : Kind → Party
party_of kind = (row_of kind).2

abbrev pub members_of : Kind → List (Field × Form)
members_of kind = (row_of kind).3

abbrev pub forms_of : Kind → List Form
forms_of kind = map (λ member. member.1) (members_of kind)

abbrev pub kinds : List Kind
kinds =
    kind.Register ∷ kind.Enrol ∷ kind.Holiday ∷ kind.Announce ∷ kind.Bid ∷ kind.Noncompetitive ∷ kind.Cancel
    ∷ kind.Position ∷ kind.Publish ∷ kind.Settle ∷ kind.Transfer ∷ kind.Pledge ∷ kind.Release ∷ kind.Redeem
    ∷ kind.AddOn ∷ kind.Deposit ∷ kind.Withdraw ∷ kind.Sell ∷ kind.Buy ∷ kind.Retract ∷ []

-- the kind of a tag; no other number is one
abbrev pub kind_of_tag : ℕ → Option Kind
kind_of_tag tag = find (λ kind. tag_of kind == tag) kinds

-- the kind of a name; no other text is one
unfoldable pub kind_of_text : List ℕ → Option Kind
kind_of_text text = find (λ kind. bytes_eq text (kind_text kind)) kinds
