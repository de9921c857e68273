-- Readings of legal histories can be printed.
use Rattle.std.proofs.Common.{◌≡◌, ℕ, ◌^◌, ◌≤◌, Bool, false, Some, inl, inr, List, [], ◌∷◌, nat_lt, sum_by, refl, arith}
use Rattle.std.specs.List.{filter}
use Rattle.std.proofs.lemmas.Bool.{cases_Bool}
use Rattle.std.proofs.lemmas.List.Sums.{sum_by-cons}
use Rattle.tb_units.proofs.SumLemmas.{cond-le, sum_by-filter-cons}
use Rattle.tb_terms.specs.declared.announcement.Announcement.{Announcement}
use Rattle.tb_terms.specs.declared.cusip.Cusip.{Cusip}
use Rattle.tb_message.specs.declared.message.Entry.{Entry}
use Rattle.tb_message.specs.declared.query.Query.{Query}
use Rattle.tb_message.specs.declared.query.Query.TheVariants as query
use Rattle.tb_history.specs.declared.roster.Registration.{Registration}
use Rattle.tb_history.specs.declared.readings.PaidLine.{PaidLine}
use Rattle.tb_history.specs.declared.reading.Reading.{Reading}
use Rattle.tb_history.specs.declared.reading.Reading.TheVariants as reading
use Rattle.tb_history.specs.Entries.{is_same}
use Rattle.tb_history.specs.Roster.{registrations, announcements, redemptions, announcement_of, is_redeemed}
use Rattle.tb_history.specs.Holdings.{paid_to}
use Rattle.tb_history.specs.Legal.{IsLegal}
use Rattle.tb_history.specs.Readings.{ArePaidLines, IsReading}
use Rattle.tb_history.proofs.ClosedLemmas.{IsInOrder, IsDated, IsLegal-in_order, found-in, dates_of}
use Rattle.tb_history.proofs.ConservedLemmas.{paid-sum}
use Rattle.tb_history.proofs.IssuedLemmas.{IsLegal-issued}
use Rattle.tb_report.specs.Lists.{total_paid}
use Rattle.tb_report.specs.Readings.{IsPrintable}

-- the lines come to what their holders were paid
total-lines : (h : List Entry) (cusip : Cusip) (holders : List Registration) (lines : List PaidLine)
    → ArePaidLines h cusip holders lines
    → total_paid lines ≡ sum_by (λ (r : Registration). paid_to h r.submitter cusip) holders
total-lines h cusip [] [] are = refl
total-lines h cusip [] (line ∷ lines) are = absurd are
total-lines h cusip (r ∷ holders) [] are = absurd are
total-lines h cusip (r ∷ holders) (line ∷ lines) are =
    omega (
      arith,
      sum_by-cons (λ (l : PaidLine). l.paid.value) line lines,
      are.0.paid,
      total-lines h cusip holders lines are.1,
      sum_by-cons (λ (x : Registration). paid_to h x.submitter cusip) r holders,
    )

-- of some no more than of all
some_of : {X : Type 0} (f : X → ℕ) (test : X → Bool) (xs : List X) → sum_by f (filter test xs) ≤ sum_by f xs
some_of f test [] = omega arith
some_of f test (x ∷ xs) =
    omega (arith, sum_by-filter-cons f test x xs, cond-le (test x) (f x), sum_by-cons f x xs, some_of f test xs)

-- nobody was paid for a bill that isn't redeemed
unpaid : (h : List Entry) (cusip : Cusip) (holders : List Registration)
    → is_redeemed (redemptions h) cusip ≡ false
    → sum_by (λ (r : Registration). paid_to h r.submitter cusip) holders ≡ 0
unfolding paid_to
unpaid h cusip [] live = refl
unpaid h cusip (r ∷ holders) live =
    let none : paid_to h r.submitter cusip ≡ 0 = rw live refl in
    omega (
      arith,
      sum_by-cons (λ (x : Registration). paid_to h x.submitter cusip) r holders,
      none,
      unpaid h cusip holders live,
    )

-- all payments come to no more than may be issued
paid-most : (h : List Entry) (cusip : Cusip)
    → IsLegal h
    → sum_by (λ (r : Registration). paid_to h r.submitter cusip) (registrations h) ≤ 10 ^ 22
paid-most h cusip legal =
    elim (cases_Bool (is_redeemed (redemptions h) cusip)) [
      | inl is ↦ omega (arith, paid-sum h cusip legal is, IsLegal-issued h cusip legal)
      | inr live ↦ omega (arith, unpaid h cusip (registrations h) live)
    ]

-- the announcement of an auction is in order
announced-dated : (h : List Entry) (auction : List ℕ) (a : Announcement)
    → IsLegal h
    → announcement_of (announcements h) auction ≡ Some a
    → IsDated a
announced-dated h auction a legal found =
    dates_of a (found-in IsInOrder (λ (x : Announcement). is_same x.auction auction) (announcements h) a
    (IsLegal-in_order h legal) found)

-- what a legal history tells can be printed
pub IsPrintable-reading : (h : List Entry) (caller : List ℕ) (asked : Query) (told : Reading)
    → IsLegal h
    → IsReading h caller asked told
    → IsPrintable told
IsPrintable-reading h caller (query.Terms auction) (reading.Terms terms) legal is =
    let dated = announced-dated h auction terms legal is in (dated.noncompetitive, dated.competitive)
IsPrintable-reading h caller (query.Results auction) (reading.Results results) legal is =
    rw (is.2.terms) (announced-dated h auction is.0 legal is.1).issued
IsPrintable-reading h caller (query.Redemption cusip) (reading.Redemption lines) legal is =
    omega (
      arith,
      total-lines h cusip _ lines is,
      some_of (λ (r : Registration). paid_to h r.submitter cusip)
          (λ (r : Registration). nat_lt 0 (paid_to h r.submitter cusip)) (registrations h),
      paid-most h cusip legal,
    )
IsPrintable-reading h caller asked (reading.Awards lines) legal is = tt
IsPrintable-reading h caller asked (reading.Bids lines) legal is = tt
IsPrintable-reading h caller asked (reading.Holdings lines) legal is = tt
IsPrintable-reading h caller asked (reading.Funds cents) legal is = tt
IsPrintable-reading h caller asked told legal is = absurd is
