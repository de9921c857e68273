-- The verdict on a message of a submitter is that on its own part of the history.
use Rattle.std.proofs.Common.{◌≡◌, ℕ, Bool, false, not, if◌then◌else◌, Option, Some, None, inl}
use Rattle.std.proofs.Common.{inr, List, [], ◌∷◌, ◌++◌, map, refl, sym, ap, nat_le}
use Rattle.std.proofs.lemmas.Bool.{cases_Bool}
use Rattle.tb_units.specs.declared.rate.Rate.{Rate}
use Rattle.tb_units.specs.declared.moment.Moment.{Moment}
use Rattle.tb_terms.specs.declared.announcement.Announcement.{Announcement}
use Rattle.tb_terms.specs.declared.refusal.Refusal.TheVariants as refusal
use Rattle.tb_message.specs.declared.message.Entry.{Entry}
use Rattle.tb_message.specs.declared.message.Message.{Message}
use Rattle.tb_message.specs.declared.message.Message.TheVariants as message
use Rattle.tb_message.specs.declared.verdict.Verdict.{Verdict}
use Rattle.tb_message.specs.declared.verdict.Verdict.TheVariants as verdict
use Rattle.tb_history.specs.Roster.{is_caller, registrations, announcements, is_enrolled}
use Rattle.tb_history.specs.Roster.{announcement_of, kept, sent_by}
use Rattle.tb_history.specs.LiveBids.{bids, cancels, reports, standing_of}
use Rattle.tb_terms.specs.Rows.{Row, first_of}
use Rattle.tb_history.specs.Tables.{rows_of, bid_rows}
use Rattle.tb_history.specs.Verdict.{refused, verdict_on, is_permitted, number_rows}
use Rattle.tb_history.specs.OwnPart.{own_part, depends_on_others}
use Rattle.tb_history.specs.Legal.{IsLegal}
use Rattle.tb_history.proofs.LegalLemmas.{IsOrderly, IsLegal-orderly}
use Rattle.tb_history.proofs.OwnLemmas.{registrations-own, enrolments-own, announcements-own, publications-own}
use Rattle.tb_history.proofs.OwnLemmas.{holidays-own, settlements-own, redemptions-own, add_ons-own, kept-own}
use Rattle.tb_history.proofs.OwnLemmas.{sent_by-own}
use Rattle.tb_history.proofs.OwnLemmas.{bid_of-own, is_cancelled-own, is_party-same, standing_of-own}
use Rattle.tb_history.proofs.SameLemmas.{is_same-refl}

-- the outcome of rows
abbrev pub outcome : List Row → Verdict → Verdict
outcome rows last = first_of (map refused rows) last

-- a bid of a bidder that isn't enrolled under the sender is refused whatever stands of the bidder
bid_rows-own : (submitter : List ℕ) (history : List Entry)
    → IsOrderly history
    → (found : Option Announcement) (moment : Moment) (auction bidder : List ℕ) (rate : Option Rate) (amount : ℕ)
    (last : Verdict)
    → outcome (bid_rows found (is_enrolled history bidder submitter)
    (standing_of (bids (own_part submitter history)) (cancels (own_part submitter history))
    (reports (own_part submitter history)) auction bidder)
    moment rate amount) last ≡ outcome (bid_rows found (is_enrolled history bidder submitter)
    (standing_of (bids history) (cancels history) (reports history) auction bidder) moment rate amount) last
bid_rows-own submitter history orderly None moment auction bidder rate amount last = refl
bid_rows-own submitter history orderly (Some a) moment auction bidder rate amount last =
    elim (cases_Bool (is_enrolled history bidder submitter)) [
      | inl enrolled ↦ rw (standing_of-own submitter history orderly auction bidder enrolled) refl
      | inr unknown ↦ rw unknown refl
    ]

-- the rows of a message that doesn't depend on others tell alike on the own part
rows_of-own : (sender : List ℕ) (history : List Entry)
    → IsOrderly history
    → (moment : Moment) (sent : Message) (last : Verdict)
    → depends_on_others sent ≡ false
    → outcome (rows_of (own_part sender history) sender moment sent) last
    ≡ outcome (rows_of history sender moment sent) last
rows_of-own sender history orderly moment (message.Register submitter key) last still =
    rw (registrations-own sender history orderly) refl
rows_of-own sender history orderly moment (message.Enrol bidder submitter) last still =
    rw (enrolments-own sender history orderly, registrations-own sender history orderly) refl
rows_of-own sender history orderly moment (message.Announce terms) last still =
    rw (announcements-own sender history orderly, redemptions-own sender history orderly) refl
rows_of-own sender history orderly moment (message.Bid auction bidder rate amount) last still =
    rw (announcements-own sender history orderly, enrolments-own sender history orderly)
    (bid_rows-own sender history orderly (announcement_of (announcements history) auction)
    moment auction bidder rate amount.value last)
rows_of-own sender history orderly moment (message.Cancel auction bid) last still =
    rw (
      announcements-own sender history orderly,
      bid_of-own sender history auction bid,
      is_cancelled-own sender history sender auction bid
          (is_party-same sender sender (is_same-refl sender)),
    ) refl
rows_of-own sender history orderly moment (message.Position auction bidder position) last still =
    rw (announcements-own sender history orderly, enrolments-own sender history orderly) refl
rows_of-own sender history orderly moment (message.Publish auction) last still =
    rw (announcements-own sender history orderly, publications-own sender history orderly) refl
rows_of-own sender history orderly moment (message.Holiday day) last still =
    rw (holidays-own sender history orderly) refl
rows_of-own sender history orderly moment (message.Settle auction) last still =
    rw (
      announcements-own sender history orderly,
      publications-own sender history orderly,
      settlements-own sender history orderly,
    ) refl
rows_of-own sender history orderly moment (message.Redeem cusip) last still =
    rw (
      announcements-own sender history orderly,
      settlements-own sender history orderly,
      redemptions-own sender history orderly,
      holidays-own sender history orderly,
    ) refl
rows_of-own sender history orderly moment (message.AddOn auction holder amount) last still =
    rw (
      announcements-own sender history orderly,
      registrations-own sender history orderly,
      add_ons-own sender history orderly,
    ) refl
rows_of-own sender history orderly moment (message.Deposit participant cents) last still =
    rw (registrations-own sender history orderly) refl
rows_of-own sender history orderly moment (message.Withdraw participant cents) last still = cc
rows_of-own sender history orderly moment (message.Sell cusip to amount price) last still = cc
rows_of-own sender history orderly moment (message.Buy seller offer) last still = cc
rows_of-own sender history orderly moment (message.Retract offer) last still = cc
rows_of-own sender history orderly moment (message.Transfer cusip to amount) last still = cc
rows_of-own sender history orderly moment (message.Pledge cusip to amount) last still = cc
rows_of-own sender history orderly moment (message.Release holder pledge amount) last still = cc

-- rows behind others
first_of-append : {V : Type 0} (front one other : List (V × Bool)) (last : V)
    → first_of one last ≡ first_of other last
    → first_of (front ++ one) last ≡ first_of (front ++ other) last
first_of-append [] one other last same = same
first_of-append (row ∷ rows) one other last same =
    ap (λ v. if row.1 then row.0 else v) (first_of-append rows one other last same)

-- the verdict on an orderly history is that on the sender's own part of it
pub verdict_on-own : (submitter : List ℕ) (history : List Entry)
    → IsOrderly history
    → (number : ℕ) (moment : Moment) (sent : Message)
    → depends_on_others sent ≡ false
    → verdict_on (own_part submitter history) submitter number moment sent
    ≡ verdict_on history submitter number moment sent
verdict_on-own submitter history orderly number moment sent still =
    rw (registrations-own submitter history orderly, kept-own submitter number history, sent_by-own submitter history)
    (first_of-append ((verdict.Refused refusal.UnknownKey, not (is_caller (registrations history) submitter))
    ∷ (verdict.Refused refusal.NotPermitted, not (is_permitted submitter sent))
    ∷ number_rows (kept history submitter number) sent)
    ((verdict.Refused refusal.MessageQuota, nat_le 1048576 (sent_by history submitter))
    ∷ map refused (rows_of (own_part submitter history) submitter moment sent))
    ((verdict.Refused refusal.MessageQuota, nat_le 1048576 (sent_by history submitter))
    ∷ map refused (rows_of history submitter moment sent))
    (verdict.Accepted number moment)
    (ap (λ v. if nat_le 1048576 (sent_by history submitter) then verdict.Refused refusal.MessageQuota else v)
    (rows_of-own submitter history orderly moment sent (verdict.Accepted number moment) still)))

-- and so it is on every legal history
pub IsLegal-sealed : (submitter : List ℕ) (history : List Entry)
    → IsLegal history
    → (number : ℕ) (moment : Moment) (sent : Message)
    → depends_on_others sent ≡ false
    → verdict_on history submitter number moment sent
    ≡ verdict_on (own_part submitter history) submitter number moment sent
IsLegal-sealed submitter history legal number moment sent still =
    sym (verdict_on-own submitter history (IsLegal-orderly history legal) number moment sent still)
