-- The tables stay tied to the history as it grows.
use Rattle.std.proofs.Common.{◌≡◌, ℕ, ◌+◌, ◌++◌, List, [], ◌∷◌, map, Option, Some, None, true, false, refl, sym, ap, ◌∙◌, subst, arith}
use Rattle.std.specs.Prelude.{option_to_list}
use Rattle.std.specs.Option.{option_map}
use Rattle.std.specs.List.{AllByRecursion}
use Rattle.tb_terms.specs.declared.checking.TermsFault.{TermsFault}
use Rattle.tb_terms.specs.Faults.{fault_of, fault_rows}
use Rattle.tb_units.specs.declared.moment.Moment.{Moment}
use Rattle.tb_message.specs.declared.message.Entry.{Entry}
use Rattle.tb_message.specs.declared.message.Message.{Message}
use Rattle.tb_message.specs.declared.message.Message.TheVariants as message
use Rattle.tb_history.specs.Roster.{registrations, enrolments, holidays, announcements, publications, settlements, redemptions, add_ons, add_on_of, announcement_of, bill_of}
use Rattle.tb_history.specs.LiveBids.{bids, cancels, reports}
use Rattle.tb_history.specs.Tables.{rows_of, maturity_rows}
use Rattle.tb_history.specs.Legal.{Empty, Longer, Follows}
use Rattle.tb_history.proofs.PartLemmas.{AllByRecursion-front}
use Rattle.tb_history.proofs.AcceptedLemmas.{IsClear, accepted-passes}
use Rattle.tb_history.proofs.HistoryLemmas.{last_of-push}
use Rattle.tb_history.proofs.GrowthLemmas.{registrations-snoc, enrolments-snoc, holidays-snoc, announcements-snoc, publications-snoc, settlements-snoc, redemptions-snoc, add_ons-snoc, bids-snoc, cancels-snoc, reports-snoc}
use Rattle.tb_core.specs.declared.tables.Tables.{Tables}
use Rattle.tb_tables.specs.Auctions.{IsInOrder, announced_in}
use Rattle.tb_history.specs.declared.roster.Enrolment.{Enrolment}
use Rattle.tb_history.specs.declared.bids.Bid.{Bid}
use Rattle.tb_history.specs.declared.accounts.AddOn.{AddOn}
use Rattle.tb_history.specs.declared.accounts.Offer.{Offer}
use Rattle.tb_history.specs.Offers.{offers, offer_of}
use Rattle.tb_history.specs.Funds.{withdrawals, cents_in}
use Rattle.tb_funds.specs.declared.amount.Amount.{Amount}
use Rattle.tb_funds.specs.Amounts.{amount_in, total_in}
use Rattle.tb_funds.specs.Offers.{offer_in, open_in}
use Rattle.tb_funds.specs.Funds.{Money, SameMoney, offer_of as offer_kept}
use Rattle.tb_cashbook.specs.Cashbook.{Means, TellsFunds, TellsNext as TellsMoney, cash_by, holder_in, kept_in}
use Rattle.tb_history.specs.Holdings.{awarded_add_on, bidding_in, if_awarded}
use Rattle.tb_ledger.specs.Credits.{add_on_for}
use Rattle.tb_shelving.specs.Shelving.{HasShelved}
use Rattle.tb_units.specs.declared.day.Day.{Day}
use Rattle.tb_movements.specs.Movements.{Movement, Credit, Settled}
use Rattle.tb_movements.specs.Told.{IsTold}
use Rattle.tb_history.specs.Entries.{entered_by}
use Rattle.tb_history.specs.Moves.{Numbering, bought_as, credit_of, add_on_credits, settled_as, movement_by}
use Rattle.tb_history.proofs.NumberingLemmas.{movements-grow}
use Rattle.tb_terms.specs.declared.announcement.Announcement.{Announcement}
use Rattle.tb_core.specs.Crediting.{cash_in, settled_in, sold_in, movement_in}
use Rattle.tb_tables.specs.Calendar.{IsCalendar}
use Rattle.tb_ledger.specs.Accounting.{numbers_in, numbers_of, moved_in, TellsNext}
use Rattle.tb_core.specs.House.{AreTied, AreSame, HasEntered}
use Rattle.tb_tables.proofs.CalendarLemmas.{IsCalendar-push}
use Rattle.tb_shelving.proofs.BookLemmas.{AreBooks-nil, AreBooks-push}
use Rattle.tb_shelving.proofs.KeptLemmas.{AreBooks-kept}

-- a table that was what the history said is it again, where both are longer by the same
grown : {X : Type 0} (new old said before after : List X)
    → new ≡ old ++ said
    → old ≡ before
    → after ≡ before ++ said
    → new ≡ after
grown new old said before after grows is says = grows ∙ (ap (λ xs. xs ++ said) is ∙ sym says)

-- the books go by what the history says of bidders and bids
shelved-tied : (h : List Entry) (old new : Tables) (e : Entry)
    → AreTied h old
    → HasEntered e.submitter e.number e.message old new
    → HasShelved (enrolments h) (bids h) e.submitter e.number e.message old.shelf new.shelf
shelved-tied h old new e tied entered =
    subst (λ (es : List Enrolment). HasShelved es (bids h) e.submitter e.number e.message old.shelf new.shelf)
    tied.bidders_are
    (subst (λ (bs : List Bid). HasShelved old.bidders.list bs e.submitter e.number e.message old.shelf new.shelf)
    tied.bids_are
    entered.shelf)

-- the tables number participants and bills as the history does
pub numbers-tied : (h : List Entry) (tables : Tables)
    → AreTied h tables
    → numbers_in tables.submitters.list tables.auctions.list ≡ numbers_of h
numbers-tied h tables tied = rw (tied.submitters_are, tied.auctions_are) refl

-- and so the holder of an add-on
add_on_for-numbers : (h : List Entry) (add_on : Option AddOn)
    → add_on_for (registrations h) add_on ≡ add_on_credits (numbers_of h) add_on
add_on_for-numbers h None = refl
add_on_for-numbers h (Some x) = refl

-- what a settlement moves
settled-tied : (h : List Entry) (tables : Tables) (found : Option Announcement)
    → AreTied h tables
    → settled_in tables found ≡ settled_as (numbers_of h) h found
unfolding awarded_add_on
settled-tied h tables None tied = refl
settled-tied h tables (Some a) tied =
    rw (
      tied.submitters_are,
      tied.auctions_are,
      tied.bidders_are,
      tied.bids_are,
      tied.cancels_are,
      tied.reports_are,
      tied.add_ons_are,
    )
    (ap (λ (credits : List Credit). Some (Settled ((numbers_of h).security a.cusip.bytes)
    (map (credit_of (numbers_of h) h a) (enrolments h) ++ credits)))
    (add_on_for-numbers h (if_awarded (bidding_in h a) (add_on_of (add_ons h) a.auction))))

-- what a purchase of an offer moves
bought-tied : (h : List Entry) (found : Option Offer)
    → sold_in (option_map (kept_in h) found) ≡ bought_as (numbers_of h) found
bought-tied h None = refl
bought-tied h (Some o) = refl

-- the tables say what the next entry moves
pub movement-tied : (h : List Entry) (tables : Tables)
    → AreTied h tables
    → (s : List ℕ) (n : ℕ) (m : Message) → movement_in tables s n m ≡ movement_by (numbers_of h) h s n m
movement-tied h tables tied s n (message.Settle auction) =
    settled-tied h tables (announcement_of (announced_in tables.auctions.list) auction) tied
    ∙ ap (λ (all : List Announcement). settled_as (numbers_of h) h (announcement_of all auction)) tied.auctions_are
movement-tied h tables tied s n (message.Buy seller offer) =
    ap (λ (numbers : Numbering). sold_in (offer_kept (numbers.holder seller) offer tables.funds))
    (numbers-tied h tables tied)
    ∙ (ap sold_in (tied.funds_tell.offers seller offer)
    ∙ bought-tied h (offer_of (offers h) seller offer))
movement-tied h tables tied s n plain =
    ap (λ (numbers : Numbering). movement_by numbers [] s n plain) (numbers-tied h tables tied)

-- and what it does to the funds
pub cash-tied : (h : List Entry) (tables : Tables) (e : Entry)
    → AreTied h tables
    → Means (cash_in tables e.submitter e.number e.message) h e
cash-tied h tables e tied =
    ap (λ (numbers : Numbering). cash_by numbers e.submitter e.number e.message) (sym (numbers-tied h tables tied))

-- so the accounts tell what has moved with it
accounts_tell-push : (h : List Entry) (old new : Tables) (e : Entry)
    → AreTied h old
    → Follows h e
    → TellsNext (movement_in old e.submitter e.number e.message) old.accounts new.accounts
    → IsTold (moved_in (h ++ e ∷ [])) new.accounts
accounts_tell-push h old new e tied follows told =
    let next : Option Movement = movement_by (numbers_of h) h e.submitter e.number e.message in
    let now : IsTold (moved_in h ++ option_to_list next) new.accounts =
    subst (λ (m : Option Movement). IsTold (moved_in h ++ option_to_list m) new.accounts)
    (movement-tied h old tied e.submitter e.number e.message) (told (moved_in h) tied.accounts_tell) in
    subst (λ (ms : List Movement). IsTold ms new.accounts) (sym (movements-grow h e tied.legal follows)) now

-- with an accepted entry
pub AreTied-push : (h : List Entry) (old new : Tables) (e : Entry)
    → AreTied h old
    → Follows h e
    → TellsNext (movement_in old e.submitter e.number e.message) old.accounts new.accounts
    → TellsMoney (Means (cash_in old e.submitter e.number e.message)) old.funds new.funds
    → HasEntered e.submitter e.number e.message old new
    → new.last ≡ e.moment
    → AreTied (h ++ e ∷ []) new
AreTied-push h old new e tied follows told paid entered last = record {
  legal = Longer h e tied.legal follows;
  last_is = ap (λ (m : Moment). m.seconds) last ∙ sym (last_of-push 946702800 h e);
  submitters_are = grown _ _ _ _ _ entered.submitters tied.submitters_are (registrations-snoc h e);
  bidders_are = grown _ _ _ _ _ entered.bidders tied.bidders_are (enrolments-snoc h e);
  holidays_are = grown _ _ _ _ _ entered.holidays tied.holidays_are (holidays-snoc h e);
  auctions_are = grown _ _ _ _ _ entered.auctions tied.auctions_are (announcements-snoc h e);
  bids_are = grown _ _ _ _ _ entered.bids tied.bids_are (bids-snoc h e);
  cancels_are = grown _ _ _ _ _ entered.cancels tied.cancels_are (cancels-snoc h e);
  reports_are = grown _ _ _ _ _ entered.reports tied.reports_are (reports-snoc h e);
  published_are = grown _ _ _ _ _ entered.published tied.published_are (publications-snoc h e);
  settled_are = grown _ _ _ _ _ entered.settled tied.settled_are (settlements-snoc h e);
  redeemed_are = grown _ _ _ _ _ entered.redeemed tied.redeemed_are (redemptions-snoc h e);
  add_ons_are = grown _ _ _ _ _ entered.add_ons tied.add_ons_are (add_ons-snoc h e);
  books_are = AreBooks-push h e old.shelf new.shelf tied.legal follows tied.books_are
      (shelved-tied h old new e tied entered);
  calendar_is = subst (λ (days : List Day). IsCalendar new.calendar.list days) (sym (holidays-snoc h e))
      (IsCalendar-push old.calendar.list (holidays h)
      (entered_by e.message) new.calendar.list tied.calendar_is entered.calendar);
  accounts_tell = accounts_tell-push h old new e tied follows told;
  funds_tell = paid h e (record { legal = tied.legal; follows = follows; told = tied.funds_tell })
      (cash-tied h old e tied);
}

-- funds with the same balances and offers tell alike
TellsFunds-same : (h : List Entry) (old new : Money) → SameMoney old new → TellsFunds h old → TellsFunds h new
TellsFunds-same h old new same told = record {
  balances = λ participant.
      ap (amount_in (holder_in h participant)) same.balances ∙ told.balances participant;
  total = ap (λ (all : List Amount). total_in all + cents_in (withdrawals h)) same.balances ∙ told.total;
  offers = λ seller number.
      ap (offer_in (holder_in h seller) number) same.offers ∙ told.offers seller number;
  opens = λ seller. ap (open_in (holder_in h seller)) same.offers ∙ told.opens seller;
  beyond = λ holder far.
      let nothing = told.beyond holder far in
      record {
        balance = ap (amount_in holder) same.balances ∙ nothing.balance;
        opens = ap (open_in holder) same.offers ∙ nothing.opens;
        offers = λ number. ap (offer_in holder number) same.offers ∙ nothing.offers number;
      };
}

-- tables with the same rows are tied alike
pub AreTied-same : (h : List Entry) (old new : Tables) → AreTied h old → AreSame old new → AreTied h new
AreTied-same h old new tied same = record {
  legal = tied.legal;
  last_is = ap (λ (m : Moment). m.seconds) same.last ∙ tied.last_is;
  submitters_are = same.submitters ∙ tied.submitters_are;
  bidders_are = same.bidders ∙ tied.bidders_are;
  holidays_are = same.holidays ∙ tied.holidays_are;
  auctions_are = ap announced_in same.auctions ∙ tied.auctions_are;
  bids_are = same.bids ∙ tied.bids_are;
  cancels_are = same.cancels ∙ tied.cancels_are;
  reports_are = same.reports ∙ tied.reports_are;
  published_are = same.published ∙ tied.published_are;
  settled_are = same.settled ∙ tied.settled_are;
  redeemed_are = same.redeemed ∙ tied.redeemed_are;
  add_ons_are = same.add_ons ∙ tied.add_ons_are;
  books_are = AreBooks-kept h old.shelf new.shelf tied.books_are same.shelf;
  calendar_is = subst (λ (days : List Day). IsCalendar days (holidays h)) (sym same.calendar) tied.calendar_is;
  accounts_tell = same.accounts (moved_in h) tied.accounts_tell;
  funds_tell = TellsFunds-same h old.funds new.funds same.funds tied.funds_tell;
}

-- empty tables are those of the empty history
pub AreTied-empty : (tables : Tables)
    → (tables.submitters.list ≡ []) × (tables.bidders.list ≡ []) × (tables.holidays.list ≡ [])
    × (tables.calendar.list ≡ [])
    → (tables.auctions.list ≡ []) × (tables.published.list ≡ []) × (tables.settled.list ≡ [])
    × (tables.redeemed.list ≡ [])
    × (tables.add_ons.list ≡ [])
    → (tables.bids.list ≡ []) × (tables.cancels.list ≡ []) × (tables.reports.list ≡ [])
    → (tables.shelf.books ≡ []) × (tables.scratch.lasts ≡ 0)
    → IsTold [] tables.accounts
    → TellsFunds [] tables.funds
    → tables.last.seconds ≡ 946702800
    → AreTied [] tables
unfolding registrations enrolments holidays announcements publications settlements redemptions add_ons bids cancels
    reports
AreTied-empty tables roster auctions bidding shelf accounts funds last = record {
  legal = Empty;
  last_is = last;
  submitters_are = roster.0;
  bidders_are = roster.1;
  holidays_are = roster.2;
  auctions_are = ap announced_in auctions.0;
  bids_are = bidding.0;
  cancels_are = bidding.1;
  reports_are = bidding.2;
  published_are = auctions.1;
  settled_are = auctions.2;
  redeemed_are = auctions.3;
  add_ons_are = auctions.4;
  books_are = AreBooks-nil tables.shelf.books shelf.0;
  calendar_is = subst (λ (days : List Day). IsCalendar days []) (sym roster.3)
      (record { same = λ number. refl; few = omega arith });
  accounts_tell = accounts;
  funds_tell = funds;
}

-- an announcement none of whose rows holds has no fault
fault_rows-clear : (fault : Option TermsFault) → AllByRecursion IsClear (fault_rows fault) → fault ≡ None
fault_rows-clear None clear = refl
fault_rows-clear (Some fault) clear = let wrong : true ≡ false = clear.0 in cc

-- and so it is in order, as whatever else is accepted is
rows-in_order : (h : List Entry) (s : List ℕ) (moment : Moment) (m : Message)
    → AllByRecursion IsClear (rows_of h s moment m)
    → IsInOrder m
rows-in_order h s moment (message.Announce a) clear = (
  fault_rows-clear (fault_of a)
      (AllByRecursion-front IsClear (fault_rows (fault_of a))
      (maturity_rows (bill_of (announcements h) a.cusip) a.maturity)
      (AllByRecursion-front IsClear
      (fault_rows (fault_of a) ++ maturity_rows (bill_of (announcements h) a.cusip) a.maturity) _ clear.1)),
  tt,
)
rows-in_order h s moment other clear = tt

-- an accepted message is in order
pub Follows-in_order : (h : List Entry) (e : Entry) → Follows h e → IsInOrder e.message
Follows-in_order h e follows =
    rows-in_order h e.submitter e.moment e.message
    (accepted-passes h e.submitter e.number e.moment e.message follows.accepted).rows
