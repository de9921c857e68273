-- The lines of holdings and payments, from the accounts that tell what has moved.
use Rattle.std.proofs.Common.{◌≡◌, ℕ, ◌+◌, ◌<◌, ◌&&◌, Bool, true, false, Option, Some, None, inl, inr, List, [], ◌∷◌, ◌++◌, nat_lt, All, length, get_or, take, refl, sym, ap, ◌∙◌, subst, arith, append-nil}
use Rattle.std.specs.Prelude.{IfOk, OnOk, Result, Ok, Err, is_some}
use Rattle.std.specs.List.{filter}
use Rattle.std.proofs.lemmas.Bool.{cases_Bool, lt-ltb}
use Rattle.std.proofs.lemmas.List.{map_more, take_more}
use Rattle.std.proofs.lemmas.List.Elements.{filter-append}
use Rattle.tb_terms.specs.declared.announcement.Announcement.{Announcement}
use Rattle.tb_terms.specs.declared.cusip.Cusip.{Cusip}
use Rattle.tb_terms.specs.declared.terms.Terms.{Terms}
use Rattle.tb_holdings.specs.Book.{held_of as book_held, pledged_of as book_pledged, paid_of as book_paid}
use Rattle.tb_movements.specs.Told.{HasFigures}
use Rattle.tb_movements.proofs.TellingLemmas.{HasFigures-told}
use Rattle.tb_message.specs.declared.message.Entry.{Entry}
use Rattle.tb_history.specs.declared.roster.Registration.{Registration}
use Rattle.tb_history.specs.declared.readings.HoldingLine.{HoldingLine}
use Rattle.tb_history.specs.declared.readings.PaidLine.{PaidLine}
use Rattle.tb_history.specs.Roster.{registrations, announcements, is_registered, is_of_bill, bill_of}
use Rattle.tb_history.specs.Holdings.{held_of, paid_to}
use Rattle.tb_history.specs.Moves.{Numbering, has_bill, participants_of, AreNumbered}
use Rattle.tb_history.specs.Readings.{is_first, IsHoldingLine, AreHoldingLines, AreHoldings, IsPaidLine, ArePaidLines}
use Rattle.tb_history.proofs.PassLemmas.{AreTold, found_any, held-told, pledged-told}
use Rattle.tb_history.proofs.ConservedLemmas.{places-numbered, paid-told, registered-at}
use Rattle.tb_core.specs.declared.tables.Tables.{Tables}
use Rattle.tb_tables.specs.Auctions.{announced_in}
use Rattle.tb_ledger.specs.Accounting.{numbers_in, numbers_of, moved_in}
use Rattle.tb_core.specs.Shown.{IsLineOf, is_shown, IsShown, IsPaidOut}
use Rattle.tb_core.specs.House.{AreTied}
use Rattle.tb_core.proofs.TiedLemmas.{numbers-tied}
use Rattle.tb_core.proofs.ParRowLemmas.{told_places, free_tied}

-- what the book has held of a participant and a bill is what the history says
pub held-tied : (h : List Entry) (tables : Tables) (participant : List ℕ) (cusip : Cusip)
    → AreTied h tables
    → is_registered (registrations h) participant ≡ true
    → has_bill (announcements h) cusip.bytes ≡ true
    → book_held ((numbers_in tables.submitters.list tables.auctions.list).holder participant)
    ((numbers_in tables.submitters.list tables.auctions.list).security cusip.bytes) tables.accounts
    ≡ held_of h participant cusip
held-tied h tables participant cusip tied known bill =
    let numbers : Numbering = numbers_of h in
    let participants : List ℕ = participants_of numbers (registrations h) in
    let are : AreNumbered numbers participants h = places-numbered h in
    ap (λ (n : Numbering). book_held (n.holder participant) (n.security cusip.bytes) tables.accounts)
    (numbers-tied h tables tied)
    ∙ (tied.accounts_tell.tells.held (numbers.holder participant) (numbers.security cusip.bytes)
    ∙ held-told numbers participants h participant cusip (told_places h tied.legal) (are.names participant known)
    (are.bills cusip.bytes bill))

-- and so is what it has of a line
line-tied : (h : List Entry) (tables : Tables) (participant : List ℕ) (cusip : Cusip) (line : HoldingLine)
    → AreTied h tables
    → is_registered (registrations h) participant ≡ true
    → has_bill (announcements h) cusip.bytes ≡ true
    → IsLineOf tables.accounts ((numbers_in tables.submitters.list tables.auctions.list).holder participant)
    ((numbers_in tables.submitters.list tables.auctions.list).security cusip.bytes) cusip line
    → IsHoldingLine h participant cusip line
line-tied h tables participant cusip line tied known bill is =
    let numbers : Numbering = numbers_of h in
    let participants : List ℕ = participants_of numbers (registrations h) in
    let told : AreTold numbers participants h = told_places h tied.legal in
    let figures : HasFigures (moved_in h) tables.accounts =
    HasFigures-told (moved_in h) tables.accounts tied.accounts_tell in
    record {
      which = is.which;
      held = is.held ∙ held-tied h tables participant cusip tied known bill;
      pledged =
          is.pledged
          ∙ (ap (λ (n : Numbering). book_pledged (n.holder participant) (n.security cusip.bytes) tables.accounts)
          (numbers-tied h tables tied)
          ∙ (figures.pledges (numbers.holder participant) (numbers.security cusip.bytes)
          ∙ pledged-told numbers participants h participant cusip told));
      free = is.free ∙ free_tied h tables tied participant cusip known bill;
    }

-- the first announcement of a bill is one of it
pub first-bill : (announced : List Announcement) (a : Announcement)
    → is_first (bill_of announced a.cusip) a ≡ true
    → has_bill announced a.cusip.bytes ≡ true
first-bill announced a first = found_any (is_of_bill a.cusip) announced (some (bill_of announced a.cusip) first)
  where
    -- there is a first one
    some : (found : Option Announcement) → is_first found a ≡ true → is_some found ≡ true
    some None wrong = absurd cc
    some (Some b) is = refl

-- what isn't the first of its bill isn't shown
pub later-hidden : (h : List Entry) (participant : List ℕ) (a : Announcement)
    → is_first (bill_of (announcements h) a.cusip) a ≡ false
    → is_shown h participant a ≡ false
later-hidden h participant a later = rw later refl

-- nor is what the participant holds nothing of
pub none-hidden : (h : List Entry) (tables : Tables) (participant : List ℕ) (a : Announcement) (line : HoldingLine)
    → AreTied h tables
    → is_registered (registrations h) participant ≡ true
    → is_first (bill_of (announcements h) a.cusip) a ≡ true
    → IsLineOf tables.accounts ((numbers_in tables.submitters.list tables.auctions.list).holder participant)
    ((numbers_in tables.submitters.list tables.auctions.list).security a.cusip.bytes) a.cusip line
    → line.held.value ≡ 0
    → is_shown h participant a ≡ false
none-hidden h tables participant a line tied known first is none =
    let told = line-tied h tables participant a.cusip line tied known (first-bill (announcements h) a first) is in
    let nothing : held_of h participant a.cusip ≡ 0 = sym told.held ∙ none in
    rw (first, nothing) refl

-- all else is shown, with its line
pub some-shown : (h : List Entry) (tables : Tables) (participant : List ℕ) (a : Announcement) (line : HoldingLine)
    → AreTied h tables
    → is_registered (registrations h) participant ≡ true
    → is_first (bill_of (announcements h) a.cusip) a ≡ true
    → IsLineOf tables.accounts ((numbers_in tables.submitters.list tables.auctions.list).holder participant)
    ((numbers_in tables.submitters.list tables.auctions.list).security a.cusip.bytes) a.cusip line
    → 0 < line.held.value
    → IsShown h participant a (Some line)
some-shown h tables participant a line tied known first is some =
    let told = line-tied h tables participant a.cusip line tied known (first-bill (announcements h) a first) is in
    let held : nat_lt 0 (held_of h participant a.cusip) ≡ true =
    lt-ltb 0 (held_of h participant a.cusip) (omega (arith, some, told.held)) in
    (rw first held, told)

-- a line more
AreHoldingLines-push : (h : List Entry) (participant : List ℕ) (bills : List Announcement) (lines : List HoldingLine)
    (a : Announcement) (line : HoldingLine)
    → AreHoldingLines h participant bills lines
    → IsHoldingLine h participant a.cusip line
    → AreHoldingLines h participant (bills ++ a ∷ []) (lines ++ line ∷ [])
AreHoldingLines-push h participant [] [] a line are is = (is, tt)
AreHoldingLines-push h participant [] (l ∷ lines) a line are is = absurd are
AreHoldingLines-push h participant (b ∷ bills) [] a line are is = absurd are
AreHoldingLines-push h participant (b ∷ bills) (l ∷ lines) a line are is =
    (are.0, AreHoldingLines-push h participant bills lines a line are.1 is)

-- of one announcement more, that is shown
pub lines-shown : (h : List Entry) (participant : List ℕ) (front : List Announcement) (lines : List HoldingLine)
    (a : Announcement) (line : HoldingLine)
    → AreHoldingLines h participant (filter (is_shown h participant) front) lines
    → IsShown h participant a (Some line)
    → AreHoldingLines h participant (filter (is_shown h participant) (front ++ a ∷ [])) (lines ++ line ∷ [])
lines-shown h participant front lines a line are is =
    rw (filter-append (is_shown h participant) front (a ∷ []), is.0)
    (AreHoldingLines-push h participant (filter (is_shown h participant) front) lines a line are is.1)

-- or that isn't
pub lines-hidden : (h : List Entry) (participant : List ℕ) (front : List Announcement) (lines : List HoldingLine)
    (a : Announcement)
    → AreHoldingLines h participant (filter (is_shown h participant) front) lines
    → IsShown h participant a None
    → AreHoldingLines h participant (filter (is_shown h participant) (front ++ a ∷ [])) lines
lines-hidden h participant front lines a are isnt =
    rw (filter-append (is_shown h participant) front (a ∷ []), isnt, append-nil (filter (is_shown h participant) front))
    are

-- two tests in turn
filter_both : {X : Type 0} (one other : X → Bool) (xs : List X)
    → filter other (filter one xs) ≡ filter (λ x. one x && other x) xs
filter_both one other [] = refl
filter_both one other (x ∷ xs) =
    elim (cases_Bool (one x)) [
      | inl is ↦
          elim (cases_Bool (other x)) [
            | inl also ↦ rw (is, also) (ap (λ ys. x ∷ ys) (filter_both one other xs))
            | inr isnt ↦ rw (is, isnt) (filter_both one other xs)
          ]
      | inr isnt ↦ rw isnt (filter_both one other xs)
    ]

-- the announcements that are shown are those of the bills that the participant holds
pub holdings-shown : (h : List Entry) (participant : List ℕ) (lines : List HoldingLine)
    → AreHoldingLines h participant (filter (is_shown h participant) (announcements h)) lines
    → AreHoldings h participant lines
holdings-shown h participant lines are =
    subst (λ (bills : List Announcement). AreHoldingLines h participant bills lines)
    (sym (filter_both (λ (a : Announcement). is_first (bill_of (announcements h) a.cusip) a)
    (λ (a : Announcement). nat_lt 0 (held_of h participant a.cusip)) (announcements h))) are

-- what the book has paid is what the history says
pub paid-tied : (h : List Entry) (tables : Tables) (participant : List ℕ) (cusip : Cusip)
    → AreTied h tables
    → is_registered (registrations h) participant ≡ true
    → has_bill (announcements h) cusip.bytes ≡ true
    → book_paid ((numbers_in tables.submitters.list tables.auctions.list).holder participant)
    ((numbers_in tables.submitters.list tables.auctions.list).security cusip.bytes) tables.accounts
    ≡ paid_to h participant cusip
paid-tied h tables participant cusip tied known bill =
    let numbers : Numbering = numbers_of h in
    let participants : List ℕ = participants_of numbers (registrations h) in
    let are : AreNumbered numbers participants h = places-numbered h in
    ap (λ (n : Numbering). book_paid (n.holder participant) (n.security cusip.bytes) tables.accounts)
    (numbers-tied h tables tied)
    ∙ (tied.accounts_tell.tells.paid (numbers.holder participant) (numbers.security cusip.bytes)
    ∙ paid-told numbers participants h participant cusip
    (record { legal = tied.legal; numbered = are; told = told_places h tied.legal })
    (are.names participant known) (are.bills cusip.bytes bill))

-- nobody that was paid nothing has a line
pub unpaid-hidden : (h : List Entry) (participant : List ℕ) (cusip : Cusip) (paid : ℕ)
    → paid ≡ paid_to h participant cusip
    → paid ≡ 0
    → nat_lt 0 (paid_to h participant cusip) ≡ false
unpaid-hidden h participant cusip paid is none =
    let nothing : paid_to h participant cusip ≡ 0 = sym is ∙ none in rw nothing refl

-- all others have
pub paid-shown : (h : List Entry) (r : Registration) (cusip : Cusip) (line : PaidLine)
    → line.holder ≡ r.submitter
    → line.paid.value ≡ paid_to h r.submitter cusip
    → 0 < line.paid.value
    → IsPaidOut h cusip r (Some line)
paid-shown h r cusip line whose paid some =
    (lt-ltb 0 (paid_to h r.submitter cusip) (omega (arith, paid, some)), record { whose = whose; paid = paid })

-- a payment more
ArePaidLines-push : (h : List Entry) (cusip : Cusip) (holders : List Registration) (lines : List PaidLine)
    (r : Registration) (line : PaidLine)
    → ArePaidLines h cusip holders lines
    → IsPaidLine h cusip r.submitter line
    → ArePaidLines h cusip (holders ++ r ∷ []) (lines ++ line ∷ [])
ArePaidLines-push h cusip [] [] r line are is = (is, tt)
ArePaidLines-push h cusip [] (l ∷ lines) r line are is = absurd are
ArePaidLines-push h cusip (x ∷ holders) [] r line are is = absurd are
ArePaidLines-push h cusip (x ∷ holders) (l ∷ lines) r line are is =
    (are.0, ArePaidLines-push h cusip holders lines r line are.1 is)

-- of one submitter more, that was paid
pub payments-shown : (h : List Entry) (cusip : Cusip) (front : List Registration) (lines : List PaidLine)
    (r : Registration) (line : PaidLine)
    → ArePaidLines h cusip (filter (λ (x : Registration). nat_lt 0 (paid_to h x.submitter cusip)) front) lines
    → IsPaidOut h cusip r (Some line)
    → ArePaidLines h cusip (filter (λ (x : Registration). nat_lt 0 (paid_to h x.submitter cusip)) (front ++ r ∷ []))
    (lines ++ line ∷ [])
payments-shown h cusip front lines r line are is =
    let test : Registration → Bool = λ (x : Registration). nat_lt 0 (paid_to h x.submitter cusip) in
    rw (filter-append test front (r ∷ []), is.0) (ArePaidLines-push h cusip (filter test front) lines r line are is.1)

-- or that wasn't
pub payments-hidden : (h : List Entry) (cusip : Cusip) (front : List Registration) (lines : List PaidLine)
    (r : Registration)
    → ArePaidLines h cusip (filter (λ (x : Registration). nat_lt 0 (paid_to h x.submitter cusip)) front) lines
    → IsPaidOut h cusip r None
    → ArePaidLines h cusip (filter (λ (x : Registration). nat_lt 0 (paid_to h x.submitter cusip)) (front ++ r ∷ []))
    lines
payments-hidden h cusip front lines r are isnt =
    let test : Registration → Bool = λ (x : Registration). nat_lt 0 (paid_to h x.submitter cusip) in
    rw (filter-append test front (r ∷ []), isnt, append-nil (filter test front)) are

-- whoever is in the roster is registered
pub all_registered : (registered : List Registration)
    → All (λ (r : Registration). is_registered registered r.submitter ≡ true) registered
all_registered registered = λ k d within. registered-at registered k d within

-- the announcements so far, and one more
pub announced_more : (auctions : List Terms) (place : ℕ) (terms : Terms)
    → place < length auctions
    → terms ≡ get_or auctions place terms
    → announced_in (take (place + 1) auctions) ≡ announced_in (take place auctions) ++ terms.announcement ∷ []
announced_more auctions place terms short is =
    map_more (λ (t : Terms). t.announcement) auctions place terms short
    ∙ ap (λ (t : Terms). announced_in (take place auctions) ++ t.announcement ∷ []) (sym is)

-- the registrations so far, and one more
pub registered_more : (holders : List Registration) (place : ℕ) (r : Registration)
    → place < length holders
    → r ≡ get_or holders place r
    → take (place + 1) holders ≡ take place holders ++ r ∷ []
registered_more holders place r short is =
    take_more holders place r short ∙ ap (λ (x : Registration). take place holders ++ x ∷ []) (sym is)

-- what holds of a value gives what is meant
pub if_ok : {T E : Type 0} {P Q : T → Type 0} (result : Result T E)
    → IfOk result P → ((value : T) → P value → Q value) → IfOk result Q
if_ok (Ok value) holds gives = gives value holds
if_ok (Err error) holds gives = tt

-- and so it is of a fact
pub on_ok : {T E P Q : Type 0} (result : Result T E) → OnOk result P → (P → Q) → OnOk result Q
on_ok (Ok value) holds gives = gives holds
on_ok (Err error) holds gives = tt
