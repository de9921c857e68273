-- The auction of a query, with the book of its bids, is one whose bidding can be cut.
use Rattle.std.proofs.Common.{◌≡◌, ℕ, ◌≤◌, ◌∙◌, Option, Some, None, List, refl, subst, arith}
use Rattle.std.specs.Prelude.{ℤ, Result, Ok, Err, IfOk, IfSome}
use Rattle.tb_units.specs.Multiples.{most_par}
use Rattle.tb_terms.specs.declared.announcement.Announcement.{Announcement}
use Rattle.tb_terms.specs.declared.terms.Terms.{Terms}
use Rattle.tb_book.specs.declared.book_line.BookLine.{BookLine}
use Rattle.tb_message.specs.declared.message.Entry.{Entry}
use Rattle.tb_history.specs.declared.roster.Enrolment.{Enrolment}
use Rattle.tb_history.specs.declared.accounts.AddOn.{AddOn}
use Rattle.tb_history.specs.declared.reading.Awards.{Awards}
use Rattle.tb_history.specs.Roster.{add_ons, add_on_of}
use Rattle.tb_history.specs.Holdings.{bidding_in}
use Rattle.tb_history.specs.Readings.{AreAddOn, AreAwardLines, AreAwards}
use Rattle.tb_history.proofs.AddOnLemmas.{found-known}
use Rattle.tb_results.specs.Biddings.{IsBookOf}
use Rattle.tb_results.specs.Outcomes.{bidders_among}
use Rattle.tb_results.proofs.LegalLemmas.{IsLegal-sound}
use Rattle.tb_core.specs.declared.tables.Tables.{Tables}
use Rattle.tb_core.specs.Bidden.{IsAuctionOf}
use Rattle.tb_core.specs.House.{AreTied}
use Rattle.tb_ledger.specs.Settling.{positions_by}
use Rattle.tb_core.proofs.SettleLemmas.{positions-tied}

-- the book and the positions are of the auction's bidding
pub IsAuctionOf-book : (h : List Entry) (tables : Tables) (terms : Terms) (lines : List BookLine) (positions : List ℤ)
    → IsAuctionOf h tables terms lines
    → positions ≡ positions_by tables.reports.list terms.announcement.auction tables.bidders.list
    → IsBookOf (bidding_in h terms.announcement) terms lines positions
IsAuctionOf-book h tables terms lines positions is reported = record {
  sound = IsLegal-sound h is.name terms.announcement is.tied.legal is.announced;
  announced = refl;
  booked = is.booked;
  reported = reported ∙ positions-tied h tables terms.announcement is.tied;
}

-- the awards of the caller's bidders in the table are those of its bidders, and so is the add-on
pub AreAwards-tied : (h : List Entry) (tables : Tables) (a : Announcement) (caller : List ℕ) (awards : Awards)
    → AreTied h tables
    → AreAwardLines (bidding_in h a) (bidders_among (bidding_in h a) caller tables.bidders.list) awards.lines
    → AreAddOn (bidding_in h a) (add_on_of tables.add_ons.list a.auction) caller awards.addon
    → AreAwards h a caller awards
AreAwards-tied h tables a caller awards tied lines addon = record {
  lines = subst (λ (es : List Enrolment).
      AreAwardLines (bidding_in h a) (bidders_among (bidding_in h a) caller es) awards.lines) tied.bidders_are lines;
  addon = subst (λ (all : List AddOn). AreAddOn (bidding_in h a) (add_on_of all a.auction) caller awards.addon)
      tied.add_ons_are addon;
}

-- an add-on in the table is in its range
pub add_on-limited : (h : List Entry) (tables : Tables) (auction : List ℕ)
    → AreTied h tables
    → IfSome (add_on_of tables.add_ons.list auction) (λ x. x.amount.value ≤ most_par)
add_on-limited h tables auction tied = by_found (add_on_of tables.add_ons.list auction) refl
  where
    -- by the one that is found
    by_found : (found : Option AddOn)
        → add_on_of tables.add_ons.list auction ≡ found
        → IfSome found (λ x. x.amount.value ≤ most_par)
    by_found None is = tt
    by_found (Some x) is =
        let there : add_on_of (add_ons h) auction ≡ Some x =
        subst (λ (all : List AddOn). add_on_of all auction ≡ Some x) tied.add_ons_are is in
        omega (arith, (found-known h auction x tied.legal there).amount)

-- two facts of an answer
pub IfOk-both : {A E : Type 0} (answer : Result A E) (P Q R : A → Type 0)
    → ((x : A) → P x → Q x → R x)
    → IfOk answer P
    → IfOk answer Q
    → IfOk answer R
IfOk-both (Ok x) P Q R both first second = both x first second
IfOk-both (Err e) P Q R both first second = tt
