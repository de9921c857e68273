-- The competitive lines, as lines in order of rate.
use Rattle.std.proofs.Common.{◌≡◌, ℕ, zero, suc, ◌<◌, ◌≤◌, ◌⊎◌, Bool, true, false, cond, Option, Some, None, is_some, List, [], ◌∷◌, ◌++◌, length, get_or, All, AllPairs, inl, inr, refl, ap, sym, ◌∙◌, subst, arith}
use Rattle.std.specs.List.Sorted.{IsPartitionedBy, IsPartitionPoint}
use Rattle.std.proofs.lemmas.Bool.{cases_eq, false≢true}
use Rattle.std.proofs.lemmas.List.Elements.{All-nil, All-cons, All-head, All-tail, All-append}
use Rattle.std.proofs.lemmas.List.Kept.{AllPairs-cons}
use Rattle.tb_units.specs.declared.amount.Dollars.{Dollars}
use Rattle.tb_units.specs.declared.rate.Rate.{Rate}
use Rattle.tb_units.specs.declared.lines.RateLine.{RateLine}
use Rattle.tb_units.specs.LineOrder.{IsNoLater}
use Rattle.tb_book.specs.declared.book_line.BookLine.{BookLine}
use Rattle.tb_book.specs.Books.{AreRanked, IsLower, IsSmaller, IsEarlier, rate_line_of, rate_lines}
use Rattle.tb_units.proofs.ListLemmas.{AllPairs-head, AllPairs-tail, AllPairs-nil}

-- what stands before a competitive line is competitive
some_before : (one other : Option Rate) (S : Type 0)
    → (IsLower one other ⊎ ((one ≡ other) × S))
    → is_some other ≡ true
    → is_some one ≡ true
some_before (Some one) other S earlier some = refl
some_before None other S (inl lower) some = absurd lower
some_before None other S (inr same) some = ap is_some same.0 ∙ some

-- the competitive lines stand first
pub IsPartitionedBy-competitive : (lines : List BookLine)
    → AllPairs IsEarlier lines
    → IsPartitionedBy (λ line. is_some line.rate) lines
IsPartitionedBy-competitive lines order = λ i j d within short some.
    elim (cases_eq i j) [
      | inl at ↦ rw at some
      | inr apart ↦
          let one : BookLine = get_or lines i d in
          let other : BookLine = get_or lines j d in
          some_before one.rate other.rate (IsSmaller one other) (order i j d (omega arith) short) some
    ]

-- a competitive line is a line of a rate more
length-cons_some : (bidder : ℕ) (rate : Option Rate) (amount : Dollars) (rest : List RateLine)
    → is_some rate ≡ true
    → length (rate_line_of bidder rate amount ++ rest) ≡ suc (length rest)
length-cons_some bidder (Some rate) amount rest some = refl
length-cons_some bidder None amount rest some = absurd (false≢true some)

-- and another line is none
length-cons_none : (bidder : ℕ) (rate : Option Rate) (amount : Dollars) (rest : List RateLine)
    → is_some rate ≡ false
    → length (rate_line_of bidder rate amount ++ rest) ≡ length rest
length-cons_none bidder (Some rate) amount rest none = absurd (false≢true (sym none))
length-cons_none bidder None amount rest none = refl

-- there are as many lines of rates as lines up to where the others begin
pub length-rate_lines : (lines : List BookLine) (n : ℕ)
    → n ≤ length lines
    → IsPartitionPoint (λ line. is_some line.rate ≡ true) (λ line. is_some line.rate ≡ false) lines n
    → length (rate_lines lines) ≡ n
length-rate_lines [] n within point = omega arith
length-rate_lines (line ∷ lines) zero within point =
    length-cons_none line.bidder line.rate line.amount (rate_lines lines)
    (point.1 zero line (omega arith) (omega arith))
    ∙ length-rate_lines lines zero (omega arith)
    (λ k d low high. absurd (omega arith), λ k d low high. point.1 (suc k) d (omega arith) (omega arith))
length-rate_lines (line ∷ lines) (suc n) within point =
    length-cons_some line.bidder line.rate line.amount (rate_lines lines)
    (point.0 zero line (omega arith) (omega arith))
    ∙ ap suc (length-rate_lines lines n (omega arith) (
      λ k d low high. point.0 (suc k) d (omega arith) (omega arith),
      λ k d low high. point.1 (suc k) d (omega arith) (omega arith),
    ))

-- any line is one at most
length-cons-le : (bidder : ℕ) (rate : Option Rate) (amount : Dollars) (rest : List RateLine)
    → length (rate_line_of bidder rate amount ++ rest) ≤ suc (length rest)
length-cons-le bidder (Some rate) amount rest = omega arith
length-cons-le bidder None amount rest = omega arith

-- so there are at most as many as lines
pub length-rate_lines-le : (lines : List BookLine) → length (rate_lines lines) ≤ length lines
length-rate_lines-le [] = omega arith
length-rate_lines-le (line ∷ lines) =
    omega (arith, length-cons-le line.bidder line.rate line.amount (rate_lines lines), length-rate_lines-le lines)

-- a noncompetitive line is followed by no line of a rate
none_behind : (one other : Option Rate) (S : Type 0)
    → one ≡ None
    → (IsLower one other ⊎ ((one ≡ other) × S))
    → other ≡ None
none_behind one other S none (inl lower) = absurd (subst (λ rate. IsLower rate other) none lower)
none_behind one other S none (inr same) = sym same.0 ∙ none

-- so none of the lines behind it has a rate
rate_lines-none : (line : BookLine) (lines : List BookLine)
    → line.rate ≡ None
    → All (IsEarlier line) lines
    → rate_lines lines ≡ []
rate_lines-none line [] none later = refl
rate_lines-none line (other ∷ lines) none later =
    let here : other.rate ≡ None =
    none_behind line.rate other.rate (IsSmaller line other) none (All-head (IsEarlier line) other lines later) in
    ap (λ rate. rate_line_of other.bidder rate other.amount ++ rate_lines lines) here
    ∙ rate_lines-none line lines none (All-tail (IsEarlier line) other lines later)

-- the line of a rate is that of the line at the same place
abbrev pub IsReadFrom : BookLine → RateLine → Type 0
IsReadFrom line read = rate_line_of line.bidder line.rate line.amount ≡ read ∷ []

-- each line of a rate is that of the line at its place
abbrev AreReadFrom : List BookLine → List RateLine → Type 0
AreReadFrom lines reads =
    (k : ℕ) (d : BookLine) (r : RateLine) → k < length reads → IsReadFrom (get_or lines k d) (get_or reads k r)

-- so it is with a line before them
rate_lines-at_cons : (line : BookLine) (lines : List BookLine) (rate : Option Rate)
    → line.rate ≡ rate
    → All (IsEarlier line) lines
    → AreReadFrom lines (rate_lines lines)
    → AreReadFrom (line ∷ lines) (rate_line_of line.bidder rate line.amount ++ rate_lines lines)
rate_lines-at_cons line lines None is later rest k d r short =
    absurd (omega (arith, ap (λ (read : List RateLine). length read) (rate_lines-none line lines is later)))
rate_lines-at_cons line lines (Some rate) is later rest zero d r short =
    ap (λ found. rate_line_of line.bidder found line.amount) is
rate_lines-at_cons line lines (Some rate) is later rest (suc k) d r short = rest k d r (omega arith)

-- and with all lines of a book
pub rate_lines-at : (lines : List BookLine)
    → AllPairs IsEarlier lines
    → (k : ℕ) (d : BookLine) (r : RateLine)
    → k < length (rate_lines lines)
    → IsReadFrom (get_or lines k d) (get_or (rate_lines lines) k r)
rate_lines-at [] order k d r short = absurd (omega arith)
rate_lines-at (line ∷ lines) order k d r short =
    rate_lines-at_cons line lines line.rate refl (AllPairs-head IsEarlier line lines order)
    (rate_lines-at lines (AllPairs-tail IsEarlier line lines order)) k d r short

-- a line of which one of a rate is read has a rate
is_some-read : (bidder : ℕ) (rate : Option Rate) (amount : Dollars) (read : RateLine)
    → rate_line_of bidder rate amount ≡ read ∷ []
    → is_some rate ≡ true
is_some-read bidder (Some rate) amount read is = refl
is_some-read bidder None amount read is = absurd (cc)

-- so each line has whose place is among the lines of rates
pub is_some-at : (lines : List BookLine)
    → AllPairs IsEarlier lines
    → (k : ℕ) (d : BookLine)
    → k < length (rate_lines lines)
    → is_some (get_or lines k d).rate ≡ true
is_some-at lines order k d short =
    let r : RateLine = record {
      rate = record { steps = 0; in_range = omega arith };
      bidder = 0;
      amount = record { value = 0; in_range = omega arith };
    } in
    let line : BookLine = get_or lines k d in
    is_some-read line.bidder line.rate line.amount (get_or (rate_lines lines) k r)
    (rate_lines-at lines order k d r short)

-- and what is read of it is its bidder, its rate and its amount
pub read-is : (line : BookLine) (read : RateLine) (rate : Rate)
    → IsReadFrom line read
    → line.rate ≡ Some rate
    → read ≡ record { rate = rate; bidder = line.bidder; amount = line.amount }
read-is line read rate from is =
    let made : RateLine = record { rate = rate; bidder = line.bidder; amount = line.amount } in
    let both : read ∷ [] ≡ made ∷ [] = sym from ∙ ap (λ found. rate_line_of line.bidder found line.amount) is in
    ap (λ (reads : List RateLine). get_or reads 0 made) both

-- of two lines at one rate the earlier has no greater bidder
bidder_no_later : (one other : BookLine) → IsSmaller one other → one.bidder ≤ other.bidder
bidder_no_later one other (inl below) = omega arith
bidder_no_later one other (inr same) = omega arith

-- so the order of lines is that of lines of rates: of one and another
no_later : (one other : BookLine) (rate other_rate : Rate)
    → one.rate ≡ Some rate
    → other.rate ≡ Some other_rate
    → IsEarlier one other
    → (rate.steps < other_rate.steps) ⊎ ((rate.steps ≡ other_rate.steps) × (one.bidder ≤ other.bidder))
no_later one other rate other_rate is other_is (inl lower) =
    let steps : IsLower (Some rate) (Some other_rate) =
    subst (λ found. IsLower found (Some other_rate)) is (subst (IsLower one.rate) other_is lower) in
    inl steps
no_later one other rate other_rate is other_is (inr same) =
    let both : Some rate ≡ Some other_rate = sym is ∙ same.0 ∙ other_is in
    let equal : rate ≡ other_rate = cc in
    inr (ap (λ (found : Rate). found.steps) equal, bidder_no_later one other same.1)

-- of one and what another is read as
all_no_later_one : (line other : BookLine) (rate : Rate) (other_rate : Option Rate)
    → line.rate ≡ Some rate
    → other.rate ≡ other_rate
    → IsEarlier line other
    → All (IsNoLater (record { rate = rate; bidder = line.bidder; amount = line.amount }))
    (rate_line_of other.bidder other_rate other.amount)
all_no_later_one line other rate None is other_is earlier =
    All-nil (IsNoLater (record { rate = rate; bidder = line.bidder; amount = line.amount }))
all_no_later_one line other rate (Some other_rate) is other_is earlier =
    let P : RateLine → Type 0 = IsNoLater (record { rate = rate; bidder = line.bidder; amount = line.amount }) in
    All-cons P (record { rate = other_rate; bidder = other.bidder; amount = other.amount }) []
    (no_later line other rate other_rate is other_is earlier) (All-nil P)

-- of one and all behind it
all_no_later : (line : BookLine) (rate : Rate) (lines : List BookLine)
    → line.rate ≡ Some rate
    → All (IsEarlier line) lines
    → All (IsNoLater (record { rate = rate; bidder = line.bidder; amount = line.amount })) (rate_lines lines)
all_no_later line rate [] is later =
    All-nil (IsNoLater (record { rate = rate; bidder = line.bidder; amount = line.amount }))
all_no_later line rate (other ∷ lines) is later =
    All-append (IsNoLater (record { rate = rate; bidder = line.bidder; amount = line.amount }))
    (rate_line_of other.bidder other.rate other.amount) (rate_lines lines)
    (all_no_later_one line other rate other.rate is refl (All-head (IsEarlier line) other lines later))
    (all_no_later line rate lines is (All-tail (IsEarlier line) other lines later))

-- of a line before others
in_order_cons : (line : BookLine) (lines : List BookLine) (rate : Option Rate)
    → line.rate ≡ rate
    → All (IsEarlier line) lines
    → AllPairs IsNoLater (rate_lines lines)
    → AllPairs IsNoLater (rate_line_of line.bidder rate line.amount ++ rate_lines lines)
in_order_cons line lines None is later rest = rest
in_order_cons line lines (Some rate) is later rest =
    AllPairs-cons IsNoLater (record { rate = rate; bidder = line.bidder; amount = line.amount }) (rate_lines lines)
    (all_no_later line rate lines is later) rest

-- and of all lines
pub AreInOrder-rate_lines : (lines : List BookLine) → AllPairs IsEarlier lines → AllPairs IsNoLater (rate_lines lines)
AreInOrder-rate_lines [] order = AllPairs-nil IsNoLater
AreInOrder-rate_lines (line ∷ lines) order =
    in_order_cons line lines line.rate refl (AllPairs-head IsEarlier line lines order)
    (AreInOrder-rate_lines lines (AllPairs-tail IsEarlier line lines order))

-- so are those of an open book, and a sealed one shows none
pub AreInOrder-open_lines : (opened : Bool) (lines : List BookLine)
    → AreRanked opened lines
    → AllPairs IsNoLater (cond opened (rate_lines lines) [])
AreInOrder-open_lines true lines order = AreInOrder-rate_lines lines (order refl)
AreInOrder-open_lines false lines order = AllPairs-nil IsNoLater
