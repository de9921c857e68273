-- What the order of keys says of lines.
use Rattle.std.proofs.Common.{◌≡◌, ℕ, ◌<◌, ◌⊎◌, true, false, Option, Some, None, is_some, List, get_or, AllPairs, Ordering, inl, inr, refl, ap, sym, ◌∙◌, arith}
use Rattle.std.specs.Ordering.{nat_cmp, ordering_then, is_lt, is_gt}
use Rattle.std.specs.declared.cmp.Ordering.TheVariants.{Less, Equal, Greater}
use Rattle.std.specs.List.Sorted.{IsPartitionPoint}
use Rattle.std.proofs.lemmas.Bool.{true≢false}
use Rattle.tb_units.specs.Same.{same_rate}
use Rattle.tb_units.proofs.OrderLemmas.{nat-less, nat-equal, less-nat, equal-nat}
use Rattle.tb_units.specs.declared.rate.Rate.{Rate}
use Rattle.tb_book.specs.declared.book_line.BookLine.{BookLine}
use Rattle.tb_book.specs.Books.{IsLower, IsEarlier}
use Rattle.tb_book.specs.Indexes.{rank_of}

-- the order of a line's key
abbrev pub line_order : BookLine → BookLine → Ordering
line_order one other =
    ordering_then (nat_cmp (rank_of one.rate) (rank_of other.rate))
    (ordering_then (nat_cmp one.bidder other.bidder) (nat_cmp one.number other.number))

-- two orders, the first before the second
pub then-less : (first second : Ordering) → ordering_then first second ≡ Less
    → (first ≡ Less) ⊎ ((first ≡ Equal) × (second ≡ Less))
then-less Less second is = inl refl
then-less Equal second is = inr (refl, is)
then-less Greater second is = absurd (true≢false (sym (ap is_lt is)))

-- where both together are equal, each is
pub then-equal : (first second : Ordering) → ordering_then first second ≡ Equal → (first ≡ Equal) × (second ≡ Equal)
then-equal Less second is = absurd (true≢false (ap is_lt is))
then-equal Equal second is = (refl, is)
then-equal Greater second is = absurd (true≢false (ap is_gt is))

-- and where each is, both together are
pub equal-then : (first second : Ordering) → first ≡ Equal → second ≡ Equal → ordering_then first second ≡ Equal
equal-then first second one two = ap (λ order. ordering_then order second) one ∙ two

-- a bidder and a number whose key is less: the bidder is, or else the number
pub pair-less : (bidder number other_bidder other_number : ℕ)
    → ordering_then (nat_cmp bidder other_bidder) (nat_cmp number other_number) ≡ Less
    → (bidder < other_bidder) ⊎ ((bidder ≡ other_bidder) × (number < other_number))
pair-less bidder number other_bidder other_number is =
    elim (then-less (nat_cmp bidder other_bidder) (nat_cmp number other_number) is) [
      | inl below ↦ inl (nat-less bidder other_bidder below)
      | inr both ↦ inr (nat-equal bidder other_bidder both.0, nat-less number other_number both.1)
    ]

-- a bidder and a number of the same key are the same
pub pair-equal : (bidder number other_bidder other_number : ℕ)
    → ordering_then (nat_cmp bidder other_bidder) (nat_cmp number other_number) ≡ Equal
    → (bidder ≡ other_bidder) × (number ≡ other_number)
pair-equal bidder number other_bidder other_number is =
    let both = then-equal (nat_cmp bidder other_bidder) (nat_cmp number other_number) is in
    (nat-equal bidder other_bidder both.0, nat-equal number other_number both.1)

-- and the same ones have the same key
pub equal-pair : (bidder number other_bidder other_number : ℕ)
    → bidder ≡ other_bidder → number ≡ other_number
    → ordering_then (nat_cmp bidder other_bidder) (nat_cmp number other_number) ≡ Equal
equal-pair bidder number other_bidder other_number one two =
    equal-then (nat_cmp bidder other_bidder) (nat_cmp number other_number)
    (equal-nat bidder other_bidder one) (equal-nat number other_number two)

-- a rank that is less is that of a lower rate
rank-less : (one other : Option Rate) → rank_of one < rank_of other → IsLower one other
rank-less (Some one) (Some other) below = below
rank-less (Some one) None below = tt
rank-less None (Some other) below = absurd (omega (arith, below, other.in_range))
rank-less None None below = absurd (omega (arith, below))

-- a rank that is equal is that of the same rate
pub rank-equal : (one other : Option Rate) → rank_of one ≡ rank_of other → one ≡ other
rank-equal (Some one) (Some other) same = ap Some (same_rate one other same)
rank-equal (Some one) None same = absurd (omega (arith, same, one.in_range))
rank-equal None (Some other) same = absurd (omega (arith, same, other.in_range))
rank-equal None None same = refl

-- a line whose key is less is earlier
pub earlier-key : (one other : BookLine) → line_order one other ≡ Less → IsEarlier one other
earlier-key one other is =
    elim (then-less (nat_cmp (rank_of one.rate) (rank_of other.rate))
    (ordering_then (nat_cmp one.bidder other.bidder) (nat_cmp one.number other.number)) is) [
      | inl below ↦ inl (rank-less one.rate other.rate (nat-less (rank_of one.rate) (rank_of other.rate) below))
      | inr both ↦ inr (
        rank-equal one.rate other.rate (nat-equal (rank_of one.rate) (rank_of other.rate) both.0),
        pair-less one.bidder one.number other.bidder other.number both.1,
      )
    ]

-- so lines in the order of keys are in order
pub earlier-lines : (lines : List BookLine) → AllPairs (λ one other. line_order one other ≡ Less) lines
    → AllPairs IsEarlier lines
earlier-lines lines order = λ a b d earlier short.
    earlier-key (get_or lines a d) (get_or lines b d) (order a b d earlier short)

-- a rank below that of a line with no rate is a rate's
pub some-below : (rate : Option Rate) (rest : Ordering)
    → ¬ (rest ≡ Less)
    → ordering_then (nat_cmp (rank_of rate) 200000) rest ≡ Less
    → is_some rate ≡ true
some-below (Some rate) rest never is = refl
some-below None rest never is = absurd (never is)

-- and one that isn't below is that of a line with no rate
pub none-behind : (rate : Option Rate) (rest : Ordering) → ¬ (ordering_then (nat_cmp (rank_of rate) 200000) rest ≡ Less)
    → is_some rate ≡ false
none-behind (Some rate) rest not_below =
    absurd (not_below (ap (λ order. ordering_then order rest)
    (less-nat rate.steps 200000 (omega (arith, rate.in_range)))))
none-behind None rest not_below = refl

-- no bidder and number are less than zero and zero
pub never-less : (bidder number : ℕ) → ¬ (ordering_then (nat_cmp bidder 0) (nat_cmp number 0) ≡ Less)
never-less bidder number is =
    elim (pair-less bidder number 0 0 is) [
      | inl below ↦ omega (arith, below)
      | inr both ↦ omega (arith, both.1)
    ]

-- so the place of that key parts the competitive lines from the others
pub competitive-point : (lines : List BookLine) (place : ℕ)
    → IsPartitionPoint
    (λ line. ordering_then (nat_cmp (rank_of line.rate) 200000)
    (ordering_then (nat_cmp line.bidder 0) (nat_cmp line.number 0)) ≡ Less)
    (λ line. ¬ (ordering_then (nat_cmp (rank_of line.rate) 200000)
    (ordering_then (nat_cmp line.bidder 0) (nat_cmp line.number 0)) ≡ Less))
    lines place
    → IsPartitionPoint (λ line. is_some line.rate ≡ true) (λ line. is_some line.rate ≡ false) lines place
competitive-point lines place point = (
  λ k d from to.
      let line : BookLine = get_or lines k d in
      some-below line.rate (ordering_then (nat_cmp line.bidder 0) (nat_cmp line.number 0))
      (never-less line.bidder line.number) (point.0 k d from to),
  λ k d from to.
      let line : BookLine = get_or lines k d in
      none-behind line.rate (ordering_then (nat_cmp line.bidder 0) (nat_cmp line.number 0)) (point.1 k d from to),
)
