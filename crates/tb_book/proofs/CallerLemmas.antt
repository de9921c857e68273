-- What callers need: what a change of the lines means for sums over them, for what holds of each and for the bids that
-- are there, and what the competitive lines are as lines of rates.
use Rattle.std.proofs.Common.{◌≡◌, ℕ, ◌+◌, ◌≤◌, ◌==◌, ◌&&◌, Bool, true, false, cond, List, [], ◌∷◌, Option, Some, None, All, sum_by, refl, ap, ap₂, sym, ◌∙◌, subst, arith}
use Rattle.std.specs.Prelude.{IfNone, IfSome, IsPermutation}
use Rattle.std.proofs.lemmas.Bool.{cond-true}
use Rattle.std.proofs.lemmas.List.{get_or_default}
use Rattle.std.proofs.lemmas.List.Elements.{All-nil, All-cons, All-head, All-tail, All-append}
use Rattle.std.proofs.lemmas.List.Sorted.{sum_by-IsPermutation}
use Rattle.std.proofs.lemmas.List.Sums.{sum_by-cons, sum_by-append, sum_by-le-sum_by}
use Rattle.tb_units.proofs.ListLemmas.{All-one, All-one_less, All-one_more}
use Rattle.tb_units.proofs.SumLemmas.{sum_by-one_more}
use Rattle.tb_units.specs.declared.amount.Dollars.{Dollars}
use Rattle.tb_units.specs.declared.rate.Rate.{Rate}
use Rattle.tb_units.specs.declared.lines.RateLine.{RateLine}
use Rattle.tb_book.specs.declared.book_line.BookLine.{BookLine}
use Rattle.tb_book.specs.Books.{Bids, HasBid, IsInserted, IsTakenOut, competitive_at, is_at, open_lines, par_in, rate_line_of, rate_lines}

-- a sum over the lines with one more has its part more
pub sum_by-inserted : (f : BookLine → ℕ) (line : BookLine) (old new : List BookLine)
    → IsInserted line old new
    → sum_by f new ≡ sum_by f old + f line
sum_by-inserted f line old new inserted = sum_by-one_more f line old new inserted.among

-- and with one taken out it has its part less
pub sum_by-taken_out : (f : BookLine → ℕ) (line : BookLine) (old new : List BookLine)
    → IsTakenOut line old new
    → sum_by f new + f line ≡ sum_by f old
sum_by-taken_out f line old new taken = sym (sum_by-one_more f line new old taken)

-- what is left where a line is taken out, or none, has no more par
pub par-left : (found : Option BookLine) (old new : Bids)
    → IfSome found (λ line. IsPermutation old.lines (line ∷ new.lines))
    → IfNone found (new ≡ old)
    → par_in new.lines ≤ par_in old.lines
par-left None old new some none = subst (λ (book : Bids). par_in book.lines ≤ par_in old.lines) (sym none) (omega arith)
par-left (Some line) old new some none =
    let amount : BookLine → ℕ = λ one. one.amount.value in
    omega (
      arith,
      sum_by-IsPermutation amount old.lines (line ∷ new.lines) some,
      sum_by-cons amount line new.lines,
    )

-- what holds of the line and of each old one holds of each new one
pub All-inserted : (P : BookLine → Type 0) (line : BookLine) (old new : List BookLine)
    → IsInserted line old new
    → P line
    → All P old
    → All P new
All-inserted P line old new inserted here all = All-one_more P line old new inserted.among here all

-- what holds of each line holds of each that is left
pub All-taken_out : (P : BookLine → Type 0) (line : BookLine) (old new : List BookLine)
    → IsTakenOut line old new
    → All P old
    → All P new
All-taken_out P line old new taken all = All-one_less P line new old taken all

-- and of the one that was taken out
pub taken_out-holds : (P : BookLine → Type 0) (line : BookLine) (old new : List BookLine)
    → IsTakenOut line old new
    → All P old
    → P line
taken_out-holds P line old new taken all = All-one P line new old taken all

-- the line is another bid than the bidder's of this number
abbrev pub IsOther : ℕ → ℕ → BookLine → Type 0
IsOther bidder number line = ¬ ((line.bidder ≡ bidder) × (line.number ≡ number))

-- where a bid isn't there each line is another
pub IsOther-all : (bidder number : ℕ) (lines : List BookLine)
    → ¬ (HasBid bidder number lines)
    → All (IsOther bidder number) lines
IsOther-all bidder number lines none = λ k d short same.
    none (k, short, λ e. rw (get_or_default lines k e d short) same)

-- a line that stands for none
abbrev pub no_line : BookLine
no_line = record { bidder = 0; number = 0; rate = None; amount = record { value = 0; in_range = omega arith } }

-- and where each line is another the bid isn't there
pub HasBid-none : (bidder number : ℕ) (lines : List BookLine)
    → All (IsOther bidder number) lines
    → ¬ (HasBid bidder number lines)
HasBid-none bidder number lines others = λ has. others has.0 no_line has.1 (has.2 no_line)

-- what follows for the line of a rate from what holds of the book's line holds of each line of a rate
All-rate_line : (P : RateLine → Type 0) (bidder : ℕ) (rate : Option Rate) (amount : Dollars)
    → ((found : Rate) → rate ≡ Some found → P (record { rate = found; bidder = bidder; amount = amount }))
    → All P (rate_line_of bidder rate amount)
All-rate_line P bidder None amount holds = All-nil P
All-rate_line P bidder (Some rate) amount holds =
    All-cons P (record { rate = rate; bidder = bidder; amount = amount }) [] (holds rate refl) (All-nil P)

-- the same of all lines
pub All-rate_lines : (P : RateLine → Type 0) (Q : BookLine → Type 0)
    → ((line : BookLine) (rate : Rate) → line.rate ≡ Some rate → Q line
    → P (record { rate = rate; bidder = line.bidder; amount = line.amount }))
    → (lines : List BookLine) → All Q lines → All P (rate_lines lines)
All-rate_lines P Q follows [] all = All-nil P
All-rate_lines P Q follows (line ∷ lines) all =
    All-append P (rate_line_of line.bidder line.rate line.amount) (rate_lines lines)
    (All-rate_line P line.bidder line.rate line.amount (λ rate is. follows line rate is (All-head Q line lines all)))
    (All-rate_lines P Q follows lines (All-tail Q line lines all))

-- so it is with the numbers of their bidders
pub bidders-rate_lines : (P : ℕ → Type 0) (lines : List BookLine)
    → All (λ line. P line.bidder) lines → All (λ line. P line.bidder) (rate_lines lines)
bidders-rate_lines P lines all =
    All-rate_lines (λ line. P line.bidder) (λ line. P line.bidder) (λ line rate is holds. holds) lines all

-- with their amounts
pub amounts-rate_lines : (P : ℕ → Type 0) (lines : List BookLine)
    → All (λ line. P line.amount.value) lines → All (λ line. P line.amount.value) (rate_lines lines)
amounts-rate_lines P lines all =
    All-rate_lines (λ line. P line.amount.value) (λ line. P line.amount.value) (λ line rate is holds. holds) lines all

-- and with their rates
pub rates-rate_lines : (P : ℕ → Type 0) (lines : List BookLine)
    → All (λ line. IfSome line.rate (λ rate. P rate.steps)) lines → All (λ line. P line.rate.steps) (rate_lines lines)
rates-rate_lines P lines all =
    All-rate_lines (λ line. P line.rate.steps) (λ line. IfSome line.rate (λ rate. P rate.steps))
    (λ line rate is holds. subst (λ (found : Option Rate). IfSome found (λ given. P given.steps)) is holds) lines all

-- what a line counts in a sum over lines of rates
abbrev pub counts_as : (RateLine → ℕ) → BookLine → ℕ
counts_as f line = sum_by f (rate_line_of line.bidder line.rate line.amount)

-- a sum over the lines of rates is one over all lines, in which the noncompetitive ones count nothing
pub sum_by-rate_lines : (f : RateLine → ℕ) (lines : List BookLine)
    → sum_by f (rate_lines lines) ≡ sum_by (counts_as f) lines
sum_by-rate_lines f [] = refl
sum_by-rate_lines f (line ∷ lines) =
    sum_by-append f (rate_line_of line.bidder line.rate line.amount) (rate_lines lines)
    ∙ ap (λ rest. counts_as f line + rest) (sum_by-rate_lines f lines)
    ∙ sym (sum_by-cons (counts_as f) line lines)

-- the line of a rate, where there is one, has at most the line's amount
amount-le : (bidder : ℕ) (rate : Option Rate) (amount : Dollars)
    → sum_by (λ (line : RateLine). line.amount.value) (rate_line_of bidder rate amount) ≤ amount.value
amount-le bidder None amount = omega arith
amount-le bidder (Some rate) amount = omega arith

-- so are all of them together
pub par-rate_lines : (lines : List BookLine) → sum_by (λ line. line.amount.value) (rate_lines lines) ≤ par_in lines
par-rate_lines lines =
    let amount : RateLine → ℕ = λ line. line.amount.value in
    omega (
      arith,
      sum_by-rate_lines amount lines,
      sum_by-le-sum_by (counts_as amount) (λ (line : BookLine). line.amount.value) lines
          (λ line. amount-le line.bidder line.rate line.amount),
    )

-- what a line of a rate bids for a bidder at a rate
abbrev pub bid_of : ℕ → ℕ → RateLine → ℕ
bid_of bidder steps line = cond ((line.bidder == bidder) && (line.rate.steps == steps)) line.amount.value 0

-- a noncompetitive line bids at no rate
nothing : (own : Bool) (amount : ℕ) → 0 ≡ cond (own && false) amount 0
nothing true amount = refl
nothing false amount = refl

-- what one line bids for a bidder at a rate
bid-is : (bidder steps own : ℕ) (rate : Option Rate) (amount : Dollars)
    → sum_by (bid_of bidder steps) (rate_line_of own rate amount)
    ≡ cond ((own == bidder) && is_at steps rate) amount.value 0
bid-is bidder steps own None amount = nothing (own == bidder) amount.value
bid-is bidder steps own (Some rate) amount = omega arith

-- and what it bids beside further lines
bids-cons : (bidder steps : ℕ) (line : BookLine) (lines : List BookLine) (rest : ℕ)
    → rest ≡ competitive_at bidder steps lines
    → counts_as (bid_of bidder steps) line + rest ≡ competitive_at bidder steps (line ∷ lines)
bids-cons bidder steps line lines rest is =
    ap₂ (λ a b. a + b) (bid-is bidder steps line.bidder line.rate line.amount) is
    ∙ sym (sum_by-cons (λ (l : BookLine). cond ((l.bidder == bidder) && is_at steps l.rate) l.amount.value 0)
    line lines)

-- what the lines of rates bid for a bidder at a rate is the par of its lines at that rate
pub bids-rate_lines : (bidder steps : ℕ) (lines : List BookLine)
    → sum_by (bid_of bidder steps) (rate_lines lines) ≡ competitive_at bidder steps lines
bids-rate_lines bidder steps [] = refl
bids-rate_lines bidder steps (line ∷ lines) =
    sum_by-append (bid_of bidder steps) (rate_line_of line.bidder line.rate line.amount) (rate_lines lines)
    ∙ bids-cons bidder steps line lines (sum_by (bid_of bidder steps) (rate_lines lines))
    (bids-rate_lines bidder steps lines)

-- an open book is read whole
pub open_lines-open : (book : Bids) → book.opened ≡ true → open_lines book ≡ rate_lines book.lines
open_lines-open book opened = cond-true book.opened (rate_lines book.lines) [] opened
