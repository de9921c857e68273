-- What a query has passed that isn't refused, and what the tables show of it.
use Rattle.std.proofs.Common.{◌≡◌, ℕ, ◌∙◌, Bool, true, false, not, is_some, is_none, Option, Some, None, inl, inr, List, [], ◌∷◌, refl, sym, ap}
use Rattle.std.proofs.lemmas.Bool.{both_ways, cases_Bool, not-false, or_cases}
use Rattle.tb_terms.specs.declared.announcement.Announcement.{Announcement}
use Rattle.tb_terms.specs.declared.cusip.Cusip.{Cusip}
use Rattle.tb_terms.specs.declared.refusal.Refusal.{Refusal}
use Rattle.tb_terms.specs.declared.refusal.Refusal.TheVariants as refusal
use Rattle.tb_terms.specs.Rows.{Row, refusal_in}
use Rattle.tb_message.specs.declared.message.Entry.{Entry}
use Rattle.tb_message.specs.declared.query.Query.{Query}
use Rattle.tb_message.specs.declared.query.Query.TheVariants as query
use Rattle.tb_history.specs.Roster.{announcements, announcement_of, bill_of, is_caller, is_named, is_of_bill, is_published, is_redeemed, is_registered, redemptions, registrations}
use Rattle.tb_history.specs.Entries.{is_same, operator}
use Rattle.tb_history.specs.Moves.{has_bill}
use Rattle.tb_history.proofs.PassLemmas.{found_any}
use Rattle.tb_history.specs.Answer.{asked_rows, auction_rows, may_ask, query_refusal}
use Rattle.tb_core.specs.declared.tables.Tables.{Tables}
use Rattle.tb_tables.specs.Auctions.{announced_in}
use Rattle.tb_core.specs.House.{AreTied}

-- where no row of a table holds, none of those behind the first two does
pub behind-passed : (one two : Row) (rows : List Row) → refusal_in (one ∷ two ∷ rows) ≡ None → refusal_in rows ≡ None
behind-passed one two rows passed =
    elim (cases_Bool one.1) [
      | inl holds ↦ let wrong : ◌≡◌ {A = Option Refusal} (Some one.0) None = rw holds at passed in absurd cc
      | inr fails ↦ elim (cases_Bool two.1) [
        | inl holds ↦ let wrong : ◌≡◌ {A = Option Refusal} (Some two.0) None = rw (fails, holds) at passed in absurd cc
        | inr fails_too ↦
            rw (fails, fails_too) at passed
      ]
    ]

-- so an auction that is asked for is announced
auction_rows-announced : (found : Option Announcement) (shows published : Bool)
    → refusal_in (auction_rows found shows published) ≡ None → is_some found ≡ true
auction_rows-announced None shows published passed = absurd cc
auction_rows-announced (Some a) shows published passed = refl

-- of a query that isn't refused
pub passed-announced : (h : List Entry) (caller auction : List ℕ) (q : Query) (shows : Bool)
    → asked_rows h q ≡ auction_rows (announcement_of (announcements h) auction) shows (is_published h auction)
    → query_refusal h caller q ≡ None
    → is_some (announcement_of (announcements h) auction) ≡ true
passed-announced h caller auction q shows asks passed =
    auction_rows-announced (announcement_of (announcements h) auction) shows (is_published h auction)
    (ap refusal_in (sym asks)
    ∙ behind-passed (refusal.UnknownKey, not (is_caller (registrations h) caller))
    (refusal.NotPermitted, not (may_ask caller q))
    (asked_rows h q) passed)

-- an auction of which results are asked for is published
auction_rows-published : (found : Option Announcement) (published : Bool)
    → refusal_in (auction_rows found true published) ≡ None → published ≡ true
auction_rows-published None published passed = absurd cc
auction_rows-published (Some a) true passed = refl
auction_rows-published (Some a) false passed = absurd cc

-- of a query that isn't refused
pub passed-published : (h : List Entry) (caller auction : List ℕ) (q : Query)
    → asked_rows h q ≡ auction_rows (announcement_of (announcements h) auction) true (is_published h auction)
    → query_refusal h caller q ≡ None
    → is_published h auction ≡ true
passed-published h caller auction q asks passed =
    auction_rows-published (announcement_of (announcements h) auction) (is_published h auction)
    (ap refusal_in (sym asks)
    ∙ behind-passed (refusal.UnknownKey, not (is_caller (registrations h) caller))
    (refusal.NotPermitted, not (may_ask caller q))
    (asked_rows h q) passed)

-- the tables show of an auction what the history says
pub tied_auction : (h : List Entry) (tables : Tables) → AreTied h tables
    → (auction : List ℕ) (shows : Bool)
    → auction_rows (announcement_of (announced_in tables.auctions.list) auction) shows
    (is_named tables.published.list auction)
    ≡ auction_rows (announcement_of (announcements h) auction) shows (is_published h auction)
tied_auction h tables tied auction shows = rw (tied.auctions_are, tied.published_are) refl

-- and of a bill
pub tied_redemption : (h : List Entry) (tables : Tables) → AreTied h tables
    → (cusip : Cusip)
    → (refusal.UnknownSecurity, is_none (bill_of (announced_in tables.auctions.list) cusip))
    ∷ (refusal.NotRedeemed, not (is_redeemed tables.redeemed.list cusip))
    ∷ []
    ≡ asked_rows h (query.Redemption cusip)
tied_redemption h tables tied cusip = rw (tied.auctions_are, tied.redeemed_are) refl

-- where neither of two rows holds
both-failed : (one two : Row) (rows : List Row) → refusal_in (one ∷ two ∷ rows) ≡ None
    → (one.1 ≡ false) × (two.1 ≡ false)
both-failed one two rows passed =
    elim (cases_Bool one.1) [
      | inl holds ↦ let wrong : ◌≡◌ {A = Option Refusal} (Some one.0) None = rw holds at passed in absurd cc
      | inr fails ↦ elim (cases_Bool two.1) [
        | inl holds ↦ let wrong : ◌≡◌ {A = Option Refusal} (Some two.0) None = rw (fails, holds) at passed in absurd cc
        | inr fails_too ↦ (fails, fails_too)
      ]
    ]

-- whoever reads its holdings is registered
pub passed-registered : (h : List Entry) (caller : List ℕ)
    → query_refusal h caller query.Holdings ≡ None
    → is_registered (registrations h) caller ≡ true
passed-registered h caller passed =
    let fails = both-failed (refusal.UnknownKey, not (is_caller (registrations h) caller))
    (refusal.NotPermitted, not (may_ask caller query.Holdings)) (asked_rows h query.Holdings) passed in
    elim (or_cases (is_same caller operator) (is_registered (registrations h) caller)
    (not-false (is_caller (registrations h) caller) fails.0)) [
      | inl is ↦ absurd (both_ways (not (is_same caller operator)) (rw is refl)
          (not-false (not (is_same caller operator)) fails.1))
      | inr known ↦ known
    ]

-- the bill whose redemption is read is announced
pub passed-bill : (h : List Entry) (caller : List ℕ) (cusip : Cusip)
    → query_refusal h caller (query.Redemption cusip) ≡ None
    → has_bill (announcements h) cusip.bytes ≡ true
passed-bill h caller cusip passed =
    found_any (is_of_bill cusip) (announcements h)
    (some (bill_of (announcements h) cusip)
    (behind-passed (refusal.UnknownKey, not (is_caller (registrations h) caller))
    (refusal.NotPermitted, not (may_ask caller (query.Redemption cusip))) (asked_rows h (query.Redemption cusip))
    passed))
  where
    -- where the first row doesn't hold there is an announcement
    some : (found : Option Announcement)
        → refusal_in ((refusal.UnknownSecurity, is_none found) ∷ (
          refusal.NotRedeemed,
          not (is_redeemed (redemptions h) cusip),
        ) ∷ [])
        ≡ None
        → is_some found ≡ true
    some None none = absurd cc
    some (Some a) none = refl
