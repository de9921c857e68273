-- What the entries of a history move, as a list of movements in numbers: the working form of holdings. Participants and
-- bills go by numbers that a numbering gives.
use Rattle.std.specs.Prelude.{◌≡◌, ℕ, ◌==◌, Bool, true, Option, Some, None, List, [], ◌∷◌, ◌++◌, map, Contains}
use Rattle.std.specs.List.{list_any, position_or_len}
use Rattle.tb_terms.specs.declared.announcement.Announcement.{Announcement}
use Rattle.tb_movements.specs.Movements.{Movement, Credit, Settled, Transferred, Pledged, Released, Redeemed}
use Rattle.tb_movements.specs.Marks as pledges
use Rattle.tb_movements.specs.Translated.{movements_of}
use Rattle.tb_message.specs.declared.message.Entry.{Entry}
use Rattle.tb_message.specs.declared.message.Message.{Message}
use Rattle.tb_message.specs.declared.message.Message.TheVariants as message
use Rattle.tb_history.specs.declared.roster.Registration.{Registration}
use Rattle.tb_history.specs.declared.roster.Enrolment.{Enrolment}
use Rattle.tb_history.specs.declared.accounts.Mark.{Mark}
use Rattle.tb_history.specs.declared.accounts.Offer.{Offer}
use Rattle.tb_history.specs.declared.accounts.AddOn.{AddOn}
use Rattle.tb_history.specs.Entries.{is_same}
use Rattle.tb_history.specs.Roster.{registrations, enrolments, announcements, is_registered, announcement_of}
use Rattle.tb_history.specs.Holdings.{award_in, awarded_add_on}
use Rattle.tb_history.specs.Offers.{offers, offer_of}

-- numbers of participants by their names, and of bills by their CUSIPs
pub record Numbering : Type 0 where
  pub holder : List ℕ → ℕ
  pub security : List ℕ → ℕ

-- a participant's number is its place in the order of registration, a bill's the place of its first announcement
abbrev pub numbering_of : List Registration → List Announcement → Numbering
numbering_of registered announced = record {
  holder = λ name. position_or_len (λ (r : Registration). is_same r.submitter name) registered;
  security = λ bytes. position_or_len (λ (a : Announcement). is_same a.cusip.bytes bytes) announced;
}

-- a bidder's award, for its participant
abbrev pub credit_of : Numbering → List Entry → Announcement → Enrolment → Credit
credit_of numbers before a e = record { holder = numbers.holder e.submitter; par = award_in before a e.bidder }

-- an add-on, for its holder
abbrev pub add_on_credits : Numbering → Option AddOn → List Credit
add_on_credits numbers None = []
add_on_credits numbers (Some x) = record { holder = numbers.holder x.holder; par = x.amount.value } ∷ []

-- a settlement credits each bidder's participant with the bidder's award, and the add-on's holder with the add-on
abbrev pub credits_of : Numbering → List Entry → Announcement → List Credit
credits_of numbers before a =
    map (credit_of numbers before a) (enrolments before) ++ add_on_credits numbers (awarded_add_on before a)

-- what a settlement of the auction that is found moves
abbrev pub settled_as : Numbering → List Entry → Option Announcement → Option Movement
settled_as numbers before None = None
settled_as numbers before (Some a) = Some (Settled (numbers.security a.cusip.bytes) (credits_of numbers before a))

-- what a purchase of the offer that is found moves: a transfer from its seller to its buyer
abbrev pub bought_as : Numbering → Option Offer → Option Movement
bought_as numbers None = None
bought_as numbers (Some o) =
    Some (Transferred (numbers.holder o.seller) (numbers.holder o.buyer) (numbers.security o.cusip.bytes)
    o.amount.value)

-- what a message of a sender under a number moves, on the entries before it
abbrev pub movement_by : Numbering → List Entry → List ℕ → ℕ → Message → Option Movement
movement_by numbers before sender number (message.Settle auction) =
    settled_as numbers before (announcement_of (announcements before) auction)
movement_by numbers before sender number (message.Transfer cusip to amount) =
    Some (Transferred (numbers.holder sender) (numbers.holder to) (numbers.security cusip.bytes) amount.value)
movement_by numbers before sender number (message.Pledge cusip to amount) =
    Some (Pledged (numbers.holder sender) number (numbers.holder to) (numbers.security cusip.bytes) amount.value)
movement_by numbers before sender number (message.Release holder pledge amount) =
    Some (Released (numbers.holder holder) pledge (numbers.holder sender) amount.value)
movement_by numbers before sender number (message.Redeem cusip) = Some (Redeemed (numbers.security cusip.bytes))
movement_by numbers before sender number (message.Buy seller offer) =
    bought_as numbers (offer_of (offers before) seller offer)
movement_by numbers before sender number other = None

-- what an entry moves
abbrev pub meaning_by : Numbering → List Entry → Entry → Option Movement
meaning_by numbers before entry = movement_by numbers before entry.submitter entry.number entry.message

-- the movements of a history
abbrev pub movements_by : Numbering → List Entry → List Movement
movements_by numbers history = movements_of (meaning_by numbers) history

-- the name has a number of its own
abbrev pub IsNumbered : Numbering → List ℕ → Type 0
IsNumbered numbers name = (other : List ℕ) → (numbers.holder name == numbers.holder other) ≡ is_same other name

-- and so has the bill
abbrev pub IsBillNumbered : Numbering → List ℕ → Type 0
IsBillNumbered numbers bytes =
    (other : List ℕ) → (numbers.security bytes == numbers.security other) ≡ is_same other bytes

-- a pledge as the movements have it
abbrev pub as_moved : Numbering → Mark → pledges.Mark
as_moved numbers mark = record {
  holder = numbers.holder mark.holder;
  number = mark.number;
  pledgee = numbers.holder mark.pledgee;
  security = numbers.security mark.cusip.bytes;
  par = mark.amount.value;
}

-- an auction of the bill is announced
abbrev pub has_bill : List Announcement → List ℕ → Bool
has_bill announced bytes = list_any (λ (a : Announcement). is_same a.cusip.bytes bytes) announced

-- the numbers of all who are registered
abbrev pub participants_of : Numbering → List Registration → List ℕ
participants_of numbers registered = map (λ (r : Registration). numbers.holder r.submitter) registered

-- whoever is registered has a number of its own among the participants, and so has each announced bill
pub record AreNumbered (numbers : Numbering) (participants : List ℕ) (history : List Entry) : Type 0 where
  pub names : (name : List ℕ) → is_registered (registrations history) name ≡ true → IsNumbered numbers name
  pub listed : (name : List ℕ)
      → is_registered (registrations history) name ≡ true
      → Contains participants (numbers.holder name)
  pub bills : (bytes : List ℕ) → has_bill (announcements history) bytes ≡ true → IsBillNumbered numbers bytes
