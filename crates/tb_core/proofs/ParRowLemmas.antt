-- The rows of a message that moves par, on the accounts that tell what has moved, are those on the history.
use Rattle.std.proofs.Common.{◌≡◌, ℕ, ◌+◌, ◌≤◌, ◌==◌, Bool, true, not, Option, Some, None, List, [], ◌∷◌, ◌++◌, nat_lt, length, length-append, refl, sym, ap, ◌∙◌, arith}
use Rattle.std.specs.Prelude.{◌↔◌, IfSome, IsNone}
use Rattle.std.specs.Option.{option_map}
use Rattle.std.specs.List.{AllByRecursion}
use Rattle.std.proofs.lemmas.Bool.{leb-false}
use Rattle.tb_units.specs.Amounts.{dollars_of, dollars_of-value}
use Rattle.tb_units.specs.declared.amount.Dollars.{Dollars}
use Rattle.tb_units.specs.declared.moment.Moment.{Moment}
use Rattle.tb_terms.specs.declared.announcement.Announcement.{Announcement}
use Rattle.tb_terms.specs.declared.cusip.Cusip.{Cusip}
use Rattle.tb_terms.specs.declared.terms.Terms.{Terms}
use Rattle.tb_terms.specs.declared.refusal.Refusal.TheVariants as refusal
use Rattle.tb_terms.specs.Rows.{Row}
use Rattle.tb_rules.specs.BidRule.{is_no_par}
use Rattle.tb_holdings.specs.declared.mark.Mark.{Mark as FoundMark}
use Rattle.tb_holdings.specs.declared.mark.KeptMark.{KeptMark}
use Rattle.tb_holdings.specs.Marks.{new_mark}
use Rattle.tb_holdings.specs.Book.{free_of as book_free, open_marks_of, mark_of as kept_mark_of}
use Rattle.tb_movements.specs.Marks as pledges
use Rattle.tb_movements.specs.Told.{HasFigures, as_kept}
use Rattle.tb_movements.proofs.TellingLemmas.{HasFigures-told}
use Rattle.tb_message.specs.declared.message.Entry.{Entry}
use Rattle.tb_message.specs.declared.message.Message.{Message}
use Rattle.tb_message.specs.declared.message.Message.TheVariants as message
use Rattle.tb_history.specs.declared.accounts.Mark.{Mark}
use Rattle.tb_history.specs.Entries.{is_same, entered_by}
use Rattle.tb_history.specs.Roster.{registrations, announcements, redemptions, holidays, is_registered, is_redeemed, is_of_bill, bill_of, unsettled_of}
use Rattle.tb_history.specs.Holdings.{free_of, open_marks, mark_of, left_of}
use Rattle.tb_history.specs.Tables.{rows_of, transfer_rows, par_rows, mark_rows, left_in, release_rows, redeem_rows}
use Rattle.tb_history.specs.Legal.{IsLegal, Follows}
use Rattle.tb_history.specs.Moves.{Numbering, as_moved, has_bill, participants_of, AreNumbered}
use Rattle.tb_history.proofs.GrowthLemmas.{holidays-snoc}
use Rattle.tb_history.proofs.AcceptedLemmas.{IsClear, accepted-passes}
use Rattle.tb_history.proofs.LegalLemmas.{by_entries}
use Rattle.tb_history.proofs.ClosedLemmas.{IsInOrder, IsLegal-in_order, found-in, dates_of}
use Rattle.tb_history.proofs.PassLemmas.{AreTold, found_any, free-told, opens-told, mark-told, left-told, known-mark}
use Rattle.tb_history.proofs.ToldLemmas.{IsLegal-told}
use Rattle.tb_history.proofs.ConservedLemmas.{places-numbered}
use Rattle.tb_core.specs.declared.tables.Tables.{Tables}
use Rattle.tb_tables.specs.Auctions.{announced_in, announcement_in}
use Rattle.tb_ledger.specs.Accounting.{numbers_in, numbers_of, moved_in}
use Rattle.tb_refusals.specs.ParRows.{kept_rows, kept_release_rows}
use Rattle.tb_core.specs.House.{AreTied}
use Rattle.tb_core.proofs.TiedLemmas.{numbers-tied}

-- the movements of a legal history tell its holdings
pub told_places : (h : List Entry) → IsLegal h
    → AreTold (numbers_of h) (participants_of (numbers_of h) (registrations h)) h
told_places h legal =
    IsLegal-told (numbers_of h) (participants_of (numbers_of h) (registrations h)) h legal (places-numbered h)

-- what is free in the book is what the history says
pub free_tied : (h : List Entry) (tables : Tables)
    → AreTied h tables
    → (name : List ℕ) (cusip : Cusip)
    → is_registered (registrations h) name ≡ true
    → has_bill (announcements h) cusip.bytes ≡ true
    → book_free ((numbers_in tables.submitters.list tables.auctions.list).holder name)
    ((numbers_in tables.submitters.list tables.auctions.list).security cusip.bytes) tables.accounts
    ≡ free_of h name cusip
free_tied h tables tied name cusip known bill =
    let numbers : Numbering = numbers_of h in
    let participants : List ℕ = participants_of numbers (registrations h) in
    let are : AreNumbered numbers participants h = places-numbered h in
    let figures : HasFigures (moved_in h) tables.accounts =
    HasFigures-told (moved_in h) tables.accounts tied.accounts_tell in
    ap (λ (n : Numbering). book_free (n.holder name) (n.security cusip.bytes) tables.accounts)
    (numbers-tied h tables tied)
    ∙ (figures.frees (numbers.holder name) (numbers.security cusip.bytes)
    ∙ free-told numbers participants h name cusip (told_places h tied.legal) (are.names name known)
    (are.bills cusip.bytes bill))

-- what the look-ups of a transfer or a pledge give
pub record HasFound (tables : Tables) (sender to : List ℕ) (cusip : Cusip) (found : Option Terms)
    (known own redeemed : Bool)
    (free : Dollars) : Type 0 where
  pub terms : announcement_in found ≡ bill_of (announced_in tables.auctions.list) cusip
  pub receiver : known ≡ is_registered tables.submitters.list to
  pub self : own ≡ is_same to sender
  pub bill : redeemed ≡ is_redeemed tables.redeemed.list cusip
  pub free_is : free.value
      ≡ book_free ((numbers_in tables.submitters.list tables.auctions.list).holder sender)
      ((numbers_in tables.submitters.list tables.auctions.list).security cusip.bytes) tables.accounts

-- transfer
pub tied_transfer : (h : List Entry) (tables : Tables)
    → AreTied h tables
    → (sender : List ℕ) (moment : Moment) (cusip : Cusip) (to : List ℕ) (amount : ℕ)
    → is_registered (registrations h) sender ≡ true
    → (found : Option Terms) (known own redeemed : Bool) (free : Dollars)
    → HasFound tables sender to cusip found known own redeemed free
    → transfer_rows (announcement_in found) known own redeemed free.value moment amount
    ≡ par_rows h sender moment cusip to amount
tied_transfer h tables tied sender moment cusip to amount registered found known own redeemed free looked =
    rw (
      looked.terms,
      looked.receiver,
      looked.self,
      looked.bill,
      tied.auctions_are,
      tied.submitters_are,
      tied.redeemed_are,
    )
    (by_bill (bill_of (announcements h) cusip) refl)
  where
    -- whether the bill is announced or not
    by_bill : (bill : Option Announcement)
        → bill_of (announcements h) cusip ≡ bill
        → transfer_rows bill (is_registered (registrations h) to) (is_same to sender)
        (is_redeemed (redemptions h) cusip)
        free.value moment amount
        ≡ transfer_rows bill (is_registered (registrations h) to) (is_same to sender)
        (is_redeemed (redemptions h) cusip)
        (free_of h sender cusip) moment amount
    by_bill None is = refl
    by_bill (Some a) is =
        ap (λ n. transfer_rows (Some a) (is_registered (registrations h) to) (is_same to sender)
        (is_redeemed (redemptions h) cusip) n moment amount)
        (looked.free_is ∙ free_tied h tables tied sender cusip registered
        (found_any (is_of_bill cusip) (announcements h) (rw is refl)))

-- open pledges
pub opens_tied : (h : List Entry) (tables : Tables)
    → AreTied h tables
    → (name : List ℕ)
    → open_marks_of ((numbers_in tables.submitters.list tables.auctions.list).holder name) tables.accounts
    ≡ open_marks h name
opens_tied h tables tied name =
    let numbers : Numbering = numbers_of h in
    let figures : HasFigures (moved_in h) tables.accounts =
    HasFigures-told (moved_in h) tables.accounts tied.accounts_tell in
    ap (λ (n : Numbering). open_marks_of (n.holder name) tables.accounts) (numbers-tied h tables tied)
    ∙ (figures.opens (numbers.holder name)
    ∙ opens-told numbers (participants_of numbers (registrations h)) h name (told_places h tied.legal))

-- the pledge of a holder and number, as the book has it
kept_tied : (h : List Entry) (tables : Tables)
    → AreTied h tables
    → (holder : List ℕ) (number : ℕ)
    → kept_mark_of ((numbers_in tables.submitters.list tables.auctions.list).holder holder) number tables.accounts
    ≡ option_map (as_kept (moved_in h))
    (option_map {U = pledges.Mark} (as_moved (numbers_of h)) (mark_of h holder number))
kept_tied h tables tied holder number =
    let numbers : Numbering = numbers_of h in
    ap (λ (n : Numbering). kept_mark_of (n.holder holder) number tables.accounts) (numbers-tied h tables tied)
    ∙ (tied.accounts_tell.tells.mark (numbers.holder holder) number
    ∙ ap (option_map (as_kept (moved_in h)))
    (mark-told numbers (participants_of numbers (registrations h)) h holder number (told_places h tied.legal)))

-- the rows of a mark that is found
tied_mark : (h : List Entry) (sender : List ℕ) (amount : ℕ) (found : Option FoundMark) (kept : Option KeptMark)
    (mark : Option Mark)
    → IsLegal h
    → is_registered (registrations h) sender ≡ true
    → IsNone found ↔ (kept ≡ None)
    → IfSome found (λ (m : FoundMark). (holder number : ℕ)
    × (kept ≡ Some (new_mark holder number m.pledgee m.security m.left.value)))
    → kept ≡ option_map (as_kept (moved_in h)) (option_map {U = pledges.Mark} (as_moved (numbers_of h)) mark)
    → ((m : Mark) → mark ≡ Some m → pledges.left_of (moved_in h) (as_moved (numbers_of h) m) ≡ left_of h m)
    → kept_rows found ((numbers_of h).holder sender) amount ≡ mark_rows mark (left_in h mark) sender amount
tied_mark h sender amount None kept None legal registered none some is left = refl
tied_mark h sender amount None kept (Some m) legal registered none some is left =
    let absent : kept ≡ None = none.0 refl in absurd (let wrong : None ≡ kept = sym absent in cc)
tied_mark h sender amount (Some f) kept None legal registered none some is left =
    absurd (let there = some.2 in cc)
tied_mark h sender amount (Some f) kept (Some m) legal registered none some is left =
    let numbers : Numbering = numbers_of h in
    let are : AreNumbered numbers (participants_of numbers (registrations h)) h = places-numbered h in
    let there : Some (as_kept (moved_in h) (as_moved numbers m))
    ≡ Some (new_mark some.0 some.1 f.pledgee f.security f.left.value) =
    sym is ∙ some.2 in
    let kept_as : as_kept (moved_in h) (as_moved numbers m) ≡ new_mark some.0 some.1 f.pledgee f.security f.left.value =
    cc in
    let pledgee : numbers.holder m.pledgee ≡ f.pledgee = ap (λ (k : KeptMark). k.pledgee) kept_as in
    let left_is : left_of h m ≡ f.left.value = sym (left m refl) ∙ ap (λ (k : KeptMark). k.left) kept_as in
    let theirs : (numbers.holder sender == f.pledgee) ≡ is_same m.pledgee sender =
    ap (λ n. numbers.holder sender == n) (sym pledgee) ∙ are.names sender registered m.pledgee in
    let shown : f.left ≡ dollars_of f.left.value = sym (dollars_of-value f.left) in
    rw (theirs, left_is)
    (ap (λ (d : Dollars). (refusal.NotPledgee, not (is_same m.pledgee sender))
    ∷ (refusal.MoreThanPledged d, nat_lt f.left.value amount) ∷ []) shown)

-- release
pub tied_release : (h : List Entry) (tables : Tables)
    → AreTied h tables
    → (sender holder : List ℕ) (number amount : ℕ)
    → is_registered (registrations h) sender ≡ true
    → (found : Option FoundMark)
    → IsNone found
    ↔ (kept_mark_of ((numbers_in tables.submitters.list tables.auctions.list).holder holder) number tables.accounts
    ≡ None)
    → IfSome found (λ (m : FoundMark).
    kept_mark_of ((numbers_in tables.submitters.list tables.auctions.list).holder holder) number tables.accounts
    ≡ Some (new_mark ((numbers_in tables.submitters.list tables.auctions.list).holder holder)
    number m.pledgee m.security m.left.value))
    → kept_release_rows found ((numbers_in tables.submitters.list tables.auctions.list).holder sender) amount
    ≡ release_rows (mark_of h holder number) (left_in h (mark_of h holder number)) sender amount
tied_release h tables tied sender holder number amount registered found none some =
    let numbers : Numbering = numbers_of h in
    let place : ℕ = (numbers_in tables.submitters.list tables.auctions.list).holder holder in
    let caller : (numbers_in tables.submitters.list tables.auctions.list).holder sender ≡ numbers.holder sender =
    ap (λ (n : Numbering). n.holder sender) (numbers-tied h tables tied) in
    let left : (m : Mark) → mark_of h holder number ≡ Some m
    → pledges.left_of (moved_in h) (as_moved numbers m) ≡ left_of h m =
    λ m is. left-told numbers (participants_of numbers (registrations h)) h m (told_places h tied.legal)
    (known-mark numbers (participants_of numbers (registrations h)) h holder number m (told_places h tied.legal) is) in
    let rows : kept_rows found (numbers.holder sender) amount
    ≡ mark_rows (mark_of h holder number) (left_in h (mark_of h holder number)) sender amount =
    tied_mark h sender amount found (kept_mark_of place number tables.accounts) (mark_of h holder number) tied.legal
    registered none (named found some) (kept_tied h tables tied holder number) left in
    rw caller (ap (λ (rs : List Row). (refusal.NotMultiple, is_no_par amount) ∷ rs) rows)
  where
    -- the holder's number and the pledge's are the two numbers
    named : (f : Option FoundMark)
        → IfSome f (λ (m : FoundMark).
        kept_mark_of ((numbers_in tables.submitters.list tables.auctions.list).holder holder) number tables.accounts
        ≡ Some (new_mark ((numbers_in tables.submitters.list tables.auctions.list).holder holder)
        number m.pledgee m.security m.left.value))
        → IfSome f (λ (m : FoundMark). (one under : ℕ)
        × (kept_mark_of ((numbers_in tables.submitters.list tables.auctions.list).holder holder) number tables.accounts
        ≡ Some (new_mark one under m.pledgee m.security m.left.value)))
    named None there = tt
    named (Some m) there = ((numbers_in tables.submitters.list tables.auctions.list).holder holder, number, there)

-- redeem
pub tied_redeem : (h : List Entry) (tables : Tables)
    → AreTied h tables
    → (sender : List ℕ) (moment : Moment) (cusip : Cusip)
    → (found : Option Terms) (redeemed : Bool) (unsettled : Option Terms)
    → announcement_in found ≡ bill_of (announced_in tables.auctions.list) cusip
    → redeemed ≡ is_redeemed tables.redeemed.list cusip
    → announcement_in unsettled ≡ unsettled_of (announced_in tables.auctions.list) tables.settled.list cusip
    → redeem_rows (announcement_in found) redeemed (announcement_in unsettled) (holidays h) moment
    ≡ rows_of h sender moment (message.Redeem cusip)
tied_redeem h tables tied sender moment cusip found redeemed unsettled bill gone first =
    rw (bill, gone, first, tied.auctions_are, tied.redeemed_are, tied.settled_are) refl

-- a holiday is one more, of few
holidays-few : (h : List Entry) (s : List ℕ) (moment : Moment) (m : Message)
    → AllByRecursion IsClear (rows_of h s moment m)
    → length (holidays h) ≤ 4096
    → length (holidays h) + length (entered_by m) ≤ 4096
holidays-few h s moment (message.Holiday day) clear few = omega (arith, leb-false 4096 (length (holidays h)) clear.1.0)
holidays-few h s moment other clear few = omega (arith, few)

-- and stays so with an accepted entry
holidays-push : (h : List Entry) (e : Entry)
    → IsLegal h
    → length (holidays h) ≤ 4096
    → Follows h e
    → length (holidays (h ++ e ∷ [])) ≤ 4096
holidays-push h e legal few follows =
    let passed = accepted-passes h e.submitter e.number e.moment e.message follows.accepted in
    rw (holidays-snoc h e, length-append (holidays h) (entered_by e.message))
    (holidays-few h e.submitter e.moment e.message passed.rows few)

-- none is entered yet
holidays-nil : length (holidays []) ≤ 4096
unfolding holidays
holidays-nil = omega arith

-- so there are few holidays in the calendar
pub few_days : (h : List Entry) (tables : Tables) → AreTied h tables → length tables.calendar.list ≤ 4096
few_days h tables tied =
    let few : length (holidays h) ≤ 4096 =
    by_entries (λ h. length (holidays h) ≤ 4096) holidays-nil holidays-push h tied.legal in
    omega (arith, tied.calendar_is.few, few)

-- a bill that is announced matures in time
pub early_maturity : (h : List Entry) (tables : Tables)
    → AreTied h tables
    → (cusip : Cusip) (found : Option Terms)
    → announcement_in found ≡ bill_of (announced_in tables.auctions.list) cusip
    → IfSome found (λ (terms : Terms). terms.announcement.maturity.number ≤ 40176)
early_maturity h tables tied cusip None is = tt
early_maturity h tables tied cusip (Some terms) is =
    let found : bill_of (announcements h) cusip ≡ Some terms.announcement =
    sym (is ∙ ap (λ (all : List Announcement). bill_of all cusip) tied.auctions_are) in
    (dates_of terms.announcement (found-in IsInOrder (is_of_bill cusip) (announcements h) terms.announcement
    (IsLegal-in_order h tied.legal) found)).early
