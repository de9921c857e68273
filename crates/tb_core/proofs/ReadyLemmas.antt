-- Each accepted message is done on the accounts of a history.
use Rattle.std.proofs.Common.{◌≡◌, ◌≢◌, ℕ, suc, ◌+◌, ◌%◌, ◌≤◌, ◌==◌, ◌++◌, true, false, not, Option, Some, None, List, [], ◌∷◌, nat_le, length, sum_by, append-nil, eq-eqb, refl, sym, ap, ◌∙◌, subst, arith}
use Rattle.std.specs.Prelude.{IfSome, IsSomeAnd, option_to_list}
use Rattle.std.specs.Option.{option_map}
use Rattle.std.specs.List.{position_or_len}
use Rattle.std.proofs.lemmas.List.Sums.{sum_by_push}
use Rattle.std.proofs.lemmas.Bool.{cond-true, both_ways, or_parts, not-false, eqb-true, eqb-false, leb-false}
use Rattle.tb_units.specs.declared.moment.Moment.{Moment}
use Rattle.tb_terms.specs.declared.announcement.Announcement.{Announcement}
use Rattle.tb_terms.specs.declared.terms.Terms.{Terms}
use Rattle.tb_terms.specs.declared.refusal.Refusal.TheVariants as refusal
use Rattle.tb_rules.specs.BidRule.{is_no_par}
use Rattle.tb_holdings.specs.Book.{Book, IsRedeemed, total_of}
use Rattle.tb_holdings.specs.Refusals.{MayRelease}
use Rattle.tb_movements.specs.Movements.{Credit, Movement, Settled, issues, credited_in_all}
use Rattle.tb_movements.specs.Holdings as moved
use Rattle.tb_movements.specs.Marks.{Mark, left_of}
use Rattle.tb_movements.specs.Legal as movements
use Rattle.tb_movements.specs.Told.{IsTold, HasFigures, as_kept}
use Rattle.tb_movements.proofs.TellingLemmas.{HasFigures-told}
use Rattle.tb_message.specs.declared.message.Entry.{Entry}
use Rattle.tb_message.specs.declared.message.Message.{Message}
use Rattle.tb_message.specs.declared.message.Message.TheVariants as message
use Rattle.tb_history.specs.Entries.{is_same, announced_by}
use Rattle.tb_history.specs.Roster.{registrations, announcements, announcement_of}
use Rattle.tb_history.specs.Holdings.{open_marks, issued}
use Rattle.tb_history.specs.Tables.{par_rows}
use Rattle.tb_history.specs.Legal.{IsLegal, Longer, Follows}
use Rattle.tb_history.specs.declared.accounts.Offer.{Offer}
use Rattle.tb_history.specs.Offers.{offers, offer_of}
use Rattle.tb_history.specs.Moves.{Numbering, bought_as, credits_of, settled_as, movement_by, has_bill, participants_of, AreNumbered}
use Rattle.tb_history.proofs.PartLemmas.{AllByRecursion-front, AllByRecursion-back}
use Rattle.tb_history.proofs.GrowthLemmas.{announcements-snoc}
use Rattle.tb_history.proofs.NumberingLemmas.{movements-grow}
use Rattle.tb_history.proofs.IssuedLemmas.{IsLegal-issued}
use Rattle.tb_history.proofs.AcceptedLemmas.{IsClear, Passes, accepted-passes, sender-registered}
use Rattle.tb_history.proofs.LengthLemmas.{IsLegal-bounded, IsLegal-announcements}
use Rattle.tb_history.proofs.PassLemmas.{AreTold, opens-told}
use Rattle.tb_history.proofs.ToldLemmas.{transfer_rows-clear, other-number, bill-found, passes-message, IsLegal-told}
use Rattle.tb_history.proofs.ConservedLemmas.{places-numbered}
use Rattle.tb_core.specs.declared.tables.Tables.{Tables}
use Rattle.tb_tables.specs.Auctions.{announced_in}
use Rattle.tb_tables.specs.Kinds.{settles}
use Rattle.tb_core.specs.Crediting.{movement_in}
use Rattle.tb_ledger.specs.Accounting.{numbers_of, moved_in, IsReady}
use Rattle.tb_core.specs.House.{AreTied, AreFew}
use Rattle.tb_core.proofs.TiedLemmas.{movement-tied}

-- a security that isn't redeemed by the movements isn't in the book
live_book : (movements : List Movement) (book : Book) (security : ℕ)
    → IsTold movements book
    → moved.is_redeemed security movements ≡ false
    → ¬ (IsRedeemed security book)
live_book movements book security told live redeemed =
    both_ways (moved.is_redeemed security movements) live ((told.tells.redeemed security).0 redeemed)

-- who may release by the movements may by the book
may_book : (movements : List Movement) (found : Option Mark) (caller par : ℕ)
    → IsSomeAnd found (λ mark. (mark.pledgee ≡ caller) × (par ≤ left_of movements mark))
    → MayRelease (option_map (as_kept movements) found) caller par
may_book movements None caller par may = may
may_book movements (Some mark) caller par may = may

-- par is at least 100
par_least : (amount : ℕ) → is_no_par amount ≡ false → 100 ≤ amount
par_least amount par =
    let parts = or_parts (amount == 0) (not (amount % 100 == 0)) par in
    let some : amount ≢ 0 = eqb-false amount 0 parts.0 in
    let whole : amount % 100 ≡ 0 = eqb-true (amount % 100) 0 (not-false (amount % 100 == 0) parts.1) in
    omega (arith, some, whole)

-- what a purchase moves by the movements is done on the book
ready-bought : (before : List Movement) (book : Book) (numbers : Numbering) (found : Option Offer)
    → IsTold before book
    → IfSome (bought_as numbers found) (movements.Passes before)
    → IsReady (bought_as numbers found) book
ready-bought before book numbers None told passes = tt
ready-bought before book numbers (Some o) told passes =
    let figures : HasFigures before book = HasFigures-told before book told in (
      live_book before book (numbers.security o.cusip.bytes) told passes.0,
      passes.1,
      omega (arith, passes.2, figures.frees (numbers.holder o.seller) (numbers.security o.cusip.bytes)),
    )

-- what an accepted message moves is done on a book that tells what has moved
ready-message : (h : List Entry) (s : List ℕ) (n : ℕ) (moment : Moment) (m : Message) (book : Book)
    → IsLegal h
    → Passes h s n moment m
    → IsTold (moved_in h) book
    → settles m ≡ false
    → IsReady (movement_by (numbers_of h) h s n m) book
ready-message h s n moment (message.Transfer cusip to amount) book legal passed told served =
    let numbers : Numbering = numbers_of h in
    let participants : List ℕ = participants_of numbers (registrations h) in
    let are : AreNumbered numbers participants h = places-numbered h in
    let figures : HasFigures (moved_in h) book = HasFigures-told (moved_in h) book told in
    let security : ℕ = numbers.security cusip.bytes in
    let passes = passes-message numbers participants h s n moment (message.Transfer cusip to amount)
    (record { legal = legal; numbered = are; told = IsLegal-told numbers participants h legal are }) passed in (
      live_book (moved_in h) book security told passes.0,
      passes.1,
      omega (arith, passes.2, figures.frees (numbers.holder s) security),
    )
ready-message h s n moment (message.Pledge cusip to amount) book legal passed told served =
    let numbers : Numbering = numbers_of h in
    let participants : List ℕ = participants_of numbers (registrations h) in
    let are : AreNumbered numbers participants h = places-numbered h in
    let figures : HasFigures (moved_in h) book = HasFigures-told (moved_in h) book told in
    let security : ℕ = numbers.security cusip.bytes in
    let all : AreTold numbers participants h = IsLegal-told numbers participants h legal are in
    let passes = passes-message numbers participants h s n moment (message.Pledge cusip to amount)
    (record { legal = legal; numbered = are; told = all }) passed in
    let clear = transfer_rows-clear h s moment cusip to amount.value
    (AllByRecursion-front IsClear (par_rows h s moment cusip to amount.value) _ passed.rows) in
    let few = (AllByRecursion-back IsClear (par_rows h s moment cusip to amount.value)
    ((refusal.PledgeQuota, nat_le 1000 (open_marks h s)) ∷ []) passed.rows).0 in
    let known = sender-registered h s (message.Pledge cusip to amount) passed.caller passed.permitted refl in (
      live_book (moved_in h) book security told passes.0,
      other-number numbers s to (are.names s known) clear.apart,
      omega (arith, passes.2, figures.frees (numbers.holder s) security),
      par_least amount.value clear.par,
      told.tells.mark (numbers.holder s) n ∙ ap (option_map (as_kept (moved_in h))) passes.1,
      omega (
        arith,
        figures.opens (numbers.holder s),
        opens-told numbers participants h s all,
        leb-false 1000 (open_marks h s) few,
      ),
    )
ready-message h s n moment (message.Release holder pledge amount) book legal passed told served =
    let numbers : Numbering = numbers_of h in
    let participants : List ℕ = participants_of numbers (registrations h) in
    let are : AreNumbered numbers participants h = places-numbered h in
    let passes = passes-message numbers participants h s n moment (message.Release holder pledge amount)
    (record { legal = legal; numbered = are; told = IsLegal-told numbers participants h legal are }) passed in
    rw (told.tells.mark (numbers.holder holder) pledge)
    (may_book (moved_in h) _ (numbers.holder s) amount.value passes)
ready-message h s n moment (message.Redeem cusip) book legal passed told served =
    let numbers : Numbering = numbers_of h in
    let participants : List ℕ = participants_of numbers (registrations h) in
    let are : AreNumbered numbers participants h = places-numbered h in
    let passes = passes-message numbers participants h s n moment (message.Redeem cusip)
    (record { legal = legal; numbered = are; told = IsLegal-told numbers participants h legal are }) passed in
    live_book (moved_in h) book (numbers.security cusip.bytes) told passes
ready-message h s n moment (message.Buy seller offer) book legal passed told served =
    let numbers : Numbering = numbers_of h in
    let participants : List ℕ = participants_of numbers (registrations h) in
    let are : AreNumbered numbers participants h = places-numbered h in
    ready-bought (moved_in h) book numbers (offer_of (offers h) seller offer) told
    (passes-message numbers participants h s n moment (message.Buy seller offer)
    (record { legal = legal; numbered = are; told = IsLegal-told numbers participants h legal are }) passed)
ready-message h s n moment (message.Settle auction) book legal passed told served = absurd cc
ready-message h s n moment other book legal passed told served = tt

-- what is issued with a settlement more
issued-settled : (movements : List Movement) (security : ℕ) (credits : List Credit)
    → sum_by (issues security) (movements ++ Settled security credits ∷ [])
    ≡ sum_by (issues security) movements + credited_in_all credits
issued-settled movements security credits =
    sum_by_push (issues security) movements (Settled security credits)
    ∙ ap (λ n. sum_by (issues security) movements + n)
    (cond-true (security == security) (credited_in_all credits) 0 (eq-eqb security security refl))

-- a settlement is done on a book that tells what has moved: no more is issued than is summed up
ready-settled : (h : List Entry) (e : Entry) (auction : List ℕ) (found : Option Announcement) (book : Book)
    → IsLegal h
    → Follows h e
    → e.message ≡ message.Settle auction
    → announcement_of (announcements h) auction ≡ found
    → IsTold (moved_in h) book
    → IsReady (settled_as (numbers_of h) h found) book
ready-settled h e auction None book legal follows settles_it is told = tt
ready-settled h e auction (Some a) book legal follows settles_it is told =
    let numbers : Numbering = numbers_of h in
    let participants : List ℕ = participants_of numbers (registrations h) in
    let longer : List Entry = h ++ e ∷ [] in
    let security : ℕ = numbers.security a.cusip.bytes in
    let credits : List Credit = credits_of numbers h a in
    let passed = subst (λ (m : Message). Passes h e.submitter e.number e.moment m) settles_it
    (accepted-passes h e.submitter e.number e.moment e.message follows.accepted) in
    let may : IfSome (settled_as numbers h (announcement_of (announcements h) auction))
    (movements.Passes (moved_in h)) =
    passes-message numbers participants h e.submitter e.number e.moment (message.Settle auction)
    (record {
      legal = legal;
      numbered = places-numbered h;
      told = IsLegal-told numbers participants h legal (places-numbered h);
    }) passed in
    let passes : moved.is_redeemed security (moved_in h) ≡ false = rw is at may in
    let means : movement_by numbers h e.submitter e.number e.message ≡ Some (Settled security credits) =
    ap (λ (m : Message). movement_by numbers h e.submitter e.number m) settles_it ∙ ap (settled_as numbers h) is in
    let grows : moved_in longer ≡ moved_in h ++ Settled security credits ∷ [] =
    movements-grow h e legal follows ∙ ap (λ (m : Option Movement). moved_in h ++ option_to_list m) means in
    let said : announcements longer ≡ announcements h =
    announcements-snoc h e
    ∙ (ap (λ (m : Message). announcements h ++ announced_by m) settles_it ∙ append-nil (announcements h)) in
    let now : (numbers_of longer).security a.cusip.bytes ≡ security =
    ap (λ (all : List Announcement). position_or_len (λ (x : Announcement). is_same x.cusip.bytes a.cusip.bytes) all)
    said in
    let known : has_bill (announcements longer) a.cusip.bytes ≡ true =
    subst (λ (all : List Announcement). has_bill all a.cusip.bytes ≡ true) (sym said)
    (bill-found (announcements h) a auction is) in
    let told_then : AreTold (numbers_of longer) (participants_of (numbers_of longer) (registrations longer)) longer =
    IsLegal-told (numbers_of longer) (participants_of (numbers_of longer) (registrations longer)) longer
    (Longer h e legal follows) (places-numbered longer) in
    let issued_then : sum_by (issues ((numbers_of longer).security a.cusip.bytes)) (moved_in longer)
    ≡ issued longer a.cusip =
    told_then.issued_is a.cusip ((places-numbered longer).bills a.cusip.bytes known) in
    let issued_now : sum_by (issues security) (moved_in h ++ Settled security credits ∷ []) ≡ issued longer a.cusip =
    subst (λ (ms : List Movement). sum_by (issues security) ms ≡ issued longer a.cusip) grows
    (subst (λ (n : ℕ). sum_by (issues n) (moved_in longer) ≡ issued longer a.cusip) now issued_then) in
    let total : total_of security book ≡ sum_by (issues security) (moved_in h) =
    told.tells.total security ∙ rw passes refl in (
      live_book (moved_in h) book security told passes,
      omega (
        arith,
        total,
        issued_now,
        issued-settled (moved_in h) security credits,
        IsLegal-issued longer a.cusip (Longer h e legal follows),
      ),
    )

-- so the next entry is done on the accounts, whatever it moves
ready-entry : (h : List Entry) (e : Entry) (m : Message) (book : Book)
    → IsLegal h
    → Follows h e
    → e.message ≡ m
    → IsTold (moved_in h) book
    → IsReady (movement_by (numbers_of h) h e.submitter e.number m) book
ready-entry h e (message.Settle auction) book legal follows is told =
    ready-settled h e auction (announcement_of (announcements h) auction) book legal follows is refl told
ready-entry h e plain book legal follows is told =
    ready-message h e.submitter e.number e.moment plain book legal
    (subst (λ (m : Message). Passes h e.submitter e.number e.moment m) is
    (accepted-passes h e.submitter e.number e.moment e.message follows.accepted)) told refl

-- by the tables
pub IsReady-tied : (h : List Entry) (tables : Tables) (e : Entry)
    → AreTied h tables
    → Follows h e
    → IsReady (movement_in tables e.submitter e.number e.message) tables.accounts
IsReady-tied h tables e tied follows =
    subst (λ (next : Option Movement). IsReady next tables.accounts)
    (sym (movement-tied h tables tied e.submitter e.number e.message))
    (ready-entry h e e.message tables.accounts tied.legal follows refl tied.accounts_tell)

-- as many announcements as terms
announced_length : (auctions : List Terms) → length (announced_in auctions) ≡ length auctions
announced_length [] = refl
announced_length (terms ∷ auctions) = ap suc (announced_length auctions)

-- there are few participants and bills
pub AreFew-tied : (h : List Entry) (tables : Tables) → AreTied h tables → AreFew tables
AreFew-tied h tables tied = record {
  submitters = omega (arith, ap length tied.submitters_are, (IsLegal-bounded h tied.legal).submitters);
  auctions =
      omega (
        arith,
        announced_length tables.auctions.list,
        ap length tied.auctions_are,
        IsLegal-announcements h tied.legal,
      );
}
