-- Queries and their readings are sealed too.
use Rattle.std.proofs.Common.{◌≡◌, ℕ, Bool, true, false, not, ◌&&◌, is_some, Option, Some, None}
use Rattle.std.proofs.Common.{inl, inr, List, [], ◌∷◌, map, refl, sym, ap, ◌∙◌}
use Rattle.std.specs.List.{filter, AllByRecursion}
use Rattle.std.proofs.lemmas.Bool.{and_parts, cases_Bool}
use Rattle.tb_units.specs.declared.moment.Moment.{Moment}
use Rattle.tb_terms.specs.declared.announcement.Announcement.{Announcement}
use Rattle.tb_terms.specs.declared.refusal.Refusal.TheVariants as refusal
use Rattle.tb_message.specs.declared.message.Entry.{Entry}
use Rattle.tb_message.specs.declared.message.Message.{Message}
use Rattle.tb_message.specs.declared.query.Query.{Query}
use Rattle.tb_message.specs.declared.query.Query.TheVariants as query
use Rattle.tb_message.specs.declared.key.Key.{Key}
use Rattle.tb_history.specs.declared.roster.Registration.{Registration}
use Rattle.tb_history.specs.declared.bids.Bid.{Bid}
use Rattle.tb_history.specs.declared.bids.Cancel.{Cancel}
use Rattle.tb_history.specs.declared.readings.BidLine.{BidLine}
use Rattle.tb_terms.specs.Rows.{Row, refusal_in}
use Rattle.tb_history.specs.Entries.{is_same}
use Rattle.tb_history.specs.Roster.{registrations, announcements, announcement_of, is_caller, is_published}
use Rattle.tb_history.specs.LiveBids.{bids, cancels, is_live}
use Rattle.tb_history.specs.Verdict.{verdict_on}
use Rattle.tb_history.specs.Legal.{IsLegal, running}
use Rattle.tb_history.specs.OwnPart.{own_part, depends_on_others}
use Rattle.tb_history.specs.Answer.{may_ask, auction_rows, asked_rows, query_refusal, caller_of}
use Rattle.tb_history.specs.Answer.{verdict_for, refusal_for}
use Rattle.tb_history.specs.Readings.{bid_line, bid_lines}
use Rattle.tb_history.proofs.PartLemmas.{filter-filter, AllByRecursion-from, AllByRecursion-filter}
use Rattle.tb_history.proofs.LegalLemmas.{IsOrderly, IsLegal-orderly}
use Rattle.tb_history.proofs.OwnLemmas.{registrations-own, announcements-own, publications-own, redemptions-own}
use Rattle.tb_history.proofs.OwnLemmas.{bids-own, is_cancelled-own, is_party, is_party-same}
use Rattle.tb_history.proofs.SealedLemmas.{IsLegal-sealed}

-- the rows of a query are those on the own part
asked_rows-own : (submitter : List ℕ) (history : List Entry)
    → IsOrderly history
    → (q : Query)
    → asked_rows (own_part submitter history) q ≡ asked_rows history q
asked_rows-own submitter history orderly (query.Terms auction) =
    rw (announcements-own submitter history orderly, publications-own submitter history orderly) refl
asked_rows-own submitter history orderly (query.Results auction) =
    rw (announcements-own submitter history orderly, publications-own submitter history orderly) refl
asked_rows-own submitter history orderly (query.Awards auction) =
    rw (announcements-own submitter history orderly, publications-own submitter history orderly) refl
asked_rows-own submitter history orderly (query.Bids auction) =
    rw (announcements-own submitter history orderly, publications-own submitter history orderly) refl
asked_rows-own submitter history orderly query.Holdings = refl
asked_rows-own submitter history orderly query.Funds = refl
asked_rows-own submitter history orderly (query.Redemption cusip) =
    rw (announcements-own submitter history orderly, redemptions-own submitter history orderly) refl

-- so it is refused alike
pub query_refusal-own : (submitter : List ℕ) (history : List Entry)
    → IsLegal history
    → (q : Query)
    → query_refusal history submitter q ≡ query_refusal (own_part submitter history) submitter q
query_refusal-own submitter history legal q =
    let orderly = IsLegal-orderly history legal in
    rw (registrations-own submitter history orderly, asked_rows-own submitter history orderly q) refl

-- what shows results is refused while they aren't published
behind : (one two : Row) (rows : List Row)
    → is_some (refusal_in rows) ≡ true
    → is_some (refusal_in (one ∷ two ∷ rows)) ≡ true
behind one two rows refused =
    elim (cases_Bool one.1) [
      | inl holds ↦ rw holds refl
      | inr fails ↦ elim (cases_Bool two.1) [
        | inl also ↦ rw (fails, also) refl
        | inr fails_too ↦
            rw (fails, fails_too) refused
      ]
    ]

-- an auction that isn't published shows no results
auction_rows-refused : (found : Option Announcement) (published : Bool)
    → published ≡ false
    → is_some (refusal_in (auction_rows found true published)) ≡ true
auction_rows-refused None published not_yet = refl
auction_rows-refused (Some a) published not_yet = rw not_yet refl

-- results and awards are refused
pub shown-refused : (history : List Entry) (submitter auction : List ℕ) (q : Query)
    → is_published history auction ≡ false
    → asked_rows history q
    ≡ auction_rows (announcement_of (announcements history) auction) true (is_published history auction)
    → is_some (query_refusal history submitter q) ≡ true
shown-refused history submitter auction q not_yet asks =
    behind (refusal.UnknownKey, not (is_caller (registrations history) submitter))
    (refusal.NotPermitted, not (may_ask submitter q))
    (asked_rows history q)
    (rw asks (auction_rows-refused (announcement_of (announcements history) auction)
    (is_published history auction) not_yet))

-- a key is the same caller's on every own part
pub caller_of-own : (submitter : List ℕ) (history : List Entry)
    → IsLegal history
    → (name : List ℕ) (key : Key)
    → caller_of (registrations (own_part submitter history)) name key ≡ caller_of (registrations history) name key
caller_of-own submitter history legal name key =
    ap (λ (registered : List Registration). caller_of registered name key)
    (registrations-own submitter history (IsLegal-orderly history legal))

-- so its query is refused alike
pub refusal_for-own : (history : List Entry) (name submitter : List ℕ) (key : Key) (q : Query)
    → IsLegal history
    → caller_of (registrations history) name key ≡ Some submitter
    → refusal_for history (caller_of (registrations history) name key) q
    ≡ refusal_for (own_part submitter history) (caller_of (registrations (own_part submitter history)) name key) q
refusal_for-own history name submitter key q legal caller =
    rw (caller_of-own submitter history legal name key, caller) (query_refusal-own submitter history legal q)

-- the verdict by the sender's key
pub verdict_for-own : (history : List Entry) (name submitter : List ℕ) (key : Key) (number : ℕ) (moment other : Moment)
    (message : Message)
    → IsLegal history
    → depends_on_others message ≡ false
    → caller_of (registrations history) name key ≡ Some submitter
    → running history moment ≡ running (own_part submitter history) other
    → verdict_for history (caller_of (registrations history) name key) number moment message
    ≡ verdict_for (own_part submitter history) (caller_of (registrations (own_part submitter history)) name key) number
    other message
verdict_for-own history name submitter key number moment other message legal still caller agree =
    rw (caller_of-own submitter history legal name key, caller)
    (IsLegal-sealed submitter history legal number (running history moment) message still
    ∙ ap (λ (x : Moment). verdict_on (own_part submitter history) submitter number x message) agree)

-- two makers that agree on the elements make the same of them
map-agree : {X Y : Type 0} (one other : X → Y) (xs : List X)
    → AllByRecursion (λ x. one x ≡ other x) xs
    → map one xs ≡ map other xs
map-agree one other [] alike = refl
map-agree one other (x ∷ xs) alike = rw (alike.0, map-agree one other xs alike.1) refl

-- a bid's line is the same where its liveness is
bid_line-same : (one other : List Cancel) (bid : Bid)
    → is_live one bid ≡ is_live other bid
    → bid_line one bid ≡ bid_line other bid
bid_line-same one other bid same =
    ap (λ (live : Bool). let line : BidLine = record {
      number = bid.number;
      bidder = bid.bidder;
      rate = bid.rate;
      amount =
          bid.amount;
      live = live;
    } in line) same

-- a submitter reads its bids in the own part as in the whole history
pub bid_lines-own : (submitter : List ℕ) (history : List Entry) (auction : List ℕ)
    → bid_lines (bids history) (cancels history) submitter auction
    ≡ bid_lines (bids (own_part submitter history)) (cancels (own_part submitter history)) submitter auction
bid_lines-own submitter history auction =
    let theirs : Bid → Bool = λ (bid : Bid). is_same bid.submitter submitter && is_same bid.auction auction in
    let one : Bid → BidLine = bid_line (cancels (own_part submitter history)) in
    let other : Bid → BidLine = bid_line (cancels history) in
    let party : (b : Bid) → theirs b ≡ true → is_party submitter b.submitter ≡ true =
    λ b passes. is_party-same submitter b.submitter (and_parts (is_same b.submitter submitter)
    (is_same b.auction auction)
    passes).0 in
    let same_bids : filter theirs (bids (own_part submitter history)) ≡ filter theirs (bids history) =
    ap (filter theirs) (bids-own submitter history)
    ∙ filter-filter theirs (λ (bid : Bid). is_party submitter bid.submitter) (bids history)
    (AllByRecursion-from (λ b. theirs b ≡ true → is_party submitter b.submitter ≡ true) party (bids history)) in
    let alike : (b : Bid) → theirs b ≡ true → one b ≡ other b =
    λ b passes. bid_line-same (cancels (own_part submitter history)) (cancels history) b
    (ap not (is_cancelled-own submitter history b.submitter b.auction b.number (party b passes))) in
    sym (ap (map one) same_bids
    ∙ map-agree one other (filter theirs (bids history))
    (AllByRecursion-filter (λ b. one b ≡ other b) theirs (bids history)
    (AllByRecursion-from (λ b. theirs b ≡ true → one b ≡ other b) alike (bids history))))
