-- The caller of a key word, the verdict on its messages and the refusals of its queries.
use Rattle.std.specs.Prelude.{ℕ, Bool, true, false, not, ◌&&◌, is_none, if◌then◌else◌}
use Rattle.std.specs.Prelude.{Option, Some, None, List, [], ◌∷◌}
use Rattle.std.specs.List.{find}
use Rattle.std.specs.Option.{option_map}
use Rattle.tb_units.specs.declared.moment.Moment.{Moment}
use Rattle.tb_terms.specs.declared.announcement.Announcement.{Announcement}
use Rattle.tb_terms.specs.declared.refusal.Refusal.{Refusal}
use Rattle.tb_terms.specs.declared.refusal.Refusal.TheVariants as refusal
use Rattle.tb_message.specs.declared.message.Entry.{Entry}
use Rattle.tb_message.specs.declared.message.Message.{Message}
use Rattle.tb_message.specs.declared.query.Query.{Query}
use Rattle.tb_message.specs.declared.query.Query.TheVariants as query
use Rattle.tb_message.specs.declared.key.Key.{Key}
use Rattle.tb_message.specs.declared.key.Key.TheVariants as key
use Rattle.tb_message.specs.declared.verdict.Verdict.{Verdict}
use Rattle.tb_message.specs.declared.verdict.Verdict.TheVariants as verdict
use Rattle.tb_message.specs.Queries.{query_kind_of, query_party_of}
use Rattle.tb_history.specs.declared.roster.Registration.{Registration}
use Rattle.tb_terms.specs.Rows.{Row, refusal_in}
use Rattle.tb_history.specs.Entries.{is_same, operator, is_of_party}
use Rattle.tb_history.specs.Roster.{registrations, announcements, redemptions, announcement_of}
use Rattle.tb_history.specs.Roster.{bill_of, is_caller, is_published, is_redeemed}
use Rattle.tb_history.specs.Verdict.{verdict_on}
use Rattle.tb_history.specs.Legal.{running}

-- the submitter that is registered with the key
abbrev pub submitter_of : List Registration → List ℕ → Option (List ℕ)
submitter_of registered word =
    option_map (λ (r : Registration). r.submitter) (find (λ (r : Registration). is_same r.key word) registered)

-- the caller of a key word, where the operator's is `op:` and this name
abbrev pub caller_of : List Registration → List ℕ → Key → Option (List ℕ)
caller_of registered name (key.Submitter word) = submitter_of registered word
caller_of registered name (key.Operator word) = if is_same word name then Some operator else None

-- the caller is of the party that may ask queries of this kind
abbrev pub may_ask : List ℕ → Query → Bool
may_ask caller query = is_of_party (query_party_of (query_kind_of query)) caller

-- what shows the results of an auction is told once they are published
abbrev pub auction_rows : Option Announcement → Bool → Bool → List Row
auction_rows None shows_results published = (refusal.UnknownAuction, true) ∷ []
auction_rows (Some a) shows_results published = (refusal.NotPublished, shows_results && not published) ∷ []

-- the query's own rows
abbrev pub asked_rows : List Entry → Query → List Row
asked_rows history (query.Terms auction) =
    auction_rows (announcement_of (announcements history) auction) false (is_published history auction)
asked_rows history (query.Results auction) =
    auction_rows (announcement_of (announcements history) auction) true (is_published history auction)
asked_rows history (query.Awards auction) =
    auction_rows (announcement_of (announcements history) auction) true (is_published history auction)
asked_rows history (query.Bids auction) =
    auction_rows (announcement_of (announcements history) auction) false (is_published history auction)
asked_rows history query.Holdings = []
asked_rows history query.Funds = []
asked_rows history (query.Redemption cusip) =
    (refusal.UnknownSecurity, is_none (bill_of (announcements history) cusip))
    ∷ (refusal.NotRedeemed, not (is_redeemed (redemptions history) cusip))
    ∷ []

-- the refusal of a caller's query, if it is refused
abbrev pub query_refusal : List Entry → List ℕ → Query → Option Refusal
query_refusal history caller query =
    refusal_in
    ((refusal.UnknownKey, not (is_caller (registrations history) caller))
    ∷ (refusal.NotPermitted, not (may_ask caller query))
    ∷ asked_rows history query)

-- the verdict on a caller's message, if there is such a caller
abbrev pub verdict_for : List Entry → Option (List ℕ) → ℕ → Moment → Message → Verdict
verdict_for history None number moment message = verdict.Refused refusal.UnknownKey
verdict_for history (Some caller) number moment message =
    verdict_on history caller number (running history moment) message

-- and the refusal of its query
abbrev pub refusal_for : List Entry → Option (List ℕ) → Query → Option Refusal
refusal_for history None query = Some refusal.UnknownKey
refusal_for history (Some caller) query = query_refusal history caller query

-- the query is on this auction
abbrev pub asks_on : List ℕ → Query → Bool
asks_on auction (query.Terms of) = is_same of auction
asks_on auction (query.Results of) = is_same of auction
asks_on auction (query.Awards of) = is_same of auction
asks_on auction (query.Bids of) = is_same of auction
asks_on auction query.Holdings = false
asks_on auction query.Funds = false
asks_on auction (query.Redemption cusip) = false
