-- Lines of which some are in order, and the others wait.
use Rattle.std.proofs.Common.{◌≡◌, ℕ, ◌+◌, Bool, true, Option, Some, None, List, [], ◌∷◌, ◌++◌, length, length-append, append-nil, All, AllPairs, ap, refl, arith}
use Rattle.std.specs.Prelude.{IfNone, IfSome, IsNone, IsPermutation}
use Rattle.std.specs.Ordering.{nat_cmp, ordering_then}
use Rattle.std.specs.declared.cmp.Ordering.TheVariants.{Equal}
use Rattle.std.proofs.lemmas.List.{get_or_append_left, get_or-append-add, get_or_default}
use Rattle.std.proofs.lemmas.List.Elements.{All-append}
use Rattle.std.proofs.lemmas.List.Sorted.{All-permutation, IsPermutation-trans}
use Rattle.tb_blocks.specs.Lists.{Listed}
use Rattle.tb_blocks.specs.Orders.{IsInserted as IsPutIn, IsRemoved}
use Rattle.tb_units.specs.declared.rate.Rate.{Rate}
use Rattle.tb_book.specs.declared.book_line.BookLine.{BookLine}
use Rattle.tb_book.specs.Books.{AreApart, AreRanked, HasBid, HasBidAt, IsEarlier, IsInserted, IsTakenOut}
use Rattle.tb_book.specs.Indexes.{rank_of}
use Rattle.tb_book.proofs.CallerLemmas.{HasBid-none, IsOther, IsOther-all, no_line}
use Rattle.tb_book.proofs.ApartLemmas.{apart-less, apart-permutation}
use Rattle.tb_book.proofs.IndexLemmas.{HasOneMore-inserted, IsOf, IsOf-key, IsPermutation-removed, IsTakenOut-removed}

-- ---- a bid among the first lines or the others

-- a bid of the first lines is there
pub HasBid-front : (bidder number : ℕ) (front back : List BookLine)
    → HasBid bidder number front
    → HasBid bidder number (front ++ back)
HasBid-front bidder number front back has = (
  has.0,
  omega (arith, has.1, length-append front back),
  λ d. rw (get_or_append_left front back d has.0 has.1) (has.2 d),
)

-- so it is at a rate
pub HasBidAt-front : (rate : Option Rate) (bidder number : ℕ) (front back : List BookLine)
    → HasBidAt rate bidder number front
    → HasBidAt rate bidder number (front ++ back)
HasBidAt-front rate bidder number front back has = (
  has.0,
  omega (arith, has.1, length-append front back),
  λ d. rw (get_or_append_left front back d has.0 has.1) (has.2 d),
)

-- and one of the others too
pub HasBidAt-back : (rate : Option Rate) (bidder number : ℕ) (front back : List BookLine)
    → HasBidAt rate bidder number back
    → HasBidAt rate bidder number (front ++ back)
HasBidAt-back rate bidder number front back has = (
  length front + has.0,
  omega (arith, has.1, length-append front back),
  λ d. rw (get_or-append-add front back has.0 d) (has.2 d),
)

-- where neither has it, it isn't there
pub HasBid-neither : (bidder number : ℕ) (front back : List BookLine)
    → ¬ (HasBid bidder number front)
    → ¬ (HasBid bidder number back)
    → ¬ (HasBid bidder number (front ++ back))
HasBid-neither bidder number front back one other =
    HasBid-none bidder number (front ++ back)
    (All-append (IsOther bidder number) front back (IsOther-all bidder number front one)
    (IsOther-all bidder number back other))

-- and it isn't there in another order
pub HasBid-moved : (bidder number : ℕ) (lines moved : List BookLine)
    → IsPermutation lines moved
    → ¬ (HasBid bidder number lines)
    → ¬ (HasBid bidder number moved)
HasBid-moved bidder number lines moved same none =
    HasBid-none bidder number moved
    (All-permutation (IsOther bidder number) lines moved same (IsOther-all bidder number lines none))

-- each line is another than the bidder's of this rate and number
abbrev pub AreOthers : Option Rate → ℕ → ℕ → List BookLine → Type 0
AreOthers rate bidder number lines = All (λ line. ¬ (IsOf rate bidder number line)) lines

-- where it isn't there at a rate each is
others-lacks : (rate : Option Rate) (bidder number : ℕ) (lines : List BookLine)
    → ¬ (HasBidAt rate bidder number lines)
    → AreOthers rate bidder number lines
others-lacks rate bidder number lines none = λ k d short is.
    none (k, short, λ e. rw (get_or_default lines k e d short) is)

-- and where each is, it isn't there
pub lacks-others : (rate : Option Rate) (bidder number : ℕ) (lines : List BookLine)
    → AreOthers rate bidder number lines
    → ¬ (HasBidAt rate bidder number lines)
lacks-others rate bidder number lines others has = others has.0 no_line has.1 (has.2 no_line)

-- so it is of two lists together
pub HasBidAt-neither : (rate : Option Rate) (bidder number : ℕ) (front back : List BookLine)
    → ¬ (HasBidAt rate bidder number front)
    → ¬ (HasBidAt rate bidder number back)
    → ¬ (HasBidAt rate bidder number (front ++ back))
HasBidAt-neither rate bidder number front back one other =
    lacks-others rate bidder number (front ++ back)
    (All-append (λ line. ¬ (IsOf rate bidder number line)) front back (others-lacks rate bidder number front one)
    (others-lacks rate bidder number back other))

-- and of lines in another order
pub HasBidAt-moved : (rate : Option Rate) (bidder number : ℕ) (lines moved : List BookLine)
    → IsPermutation lines moved
    → ¬ (HasBidAt rate bidder number lines)
    → ¬ (HasBidAt rate bidder number moved)
HasBidAt-moved rate bidder number lines moved same none =
    lacks-others rate bidder number moved
    (All-permutation (λ line. ¬ (IsOf rate bidder number line)) lines moved same
    (others-lacks rate bidder number lines none))

-- ---- an open book, in which none wait

-- its lines are in order
pub ranked : (opened : Bool) (sorted waiting : List BookLine)
    → AllPairs IsEarlier sorted
    → (opened ≡ true → waiting ≡ [])
    → AreRanked opened (sorted ++ waiting)
ranked opened sorted waiting order none is = rw (none is, append-nil sorted) order

-- a line is put in in order
pub inserted-opened : (line : BookLine) (sorted waiting added : List BookLine)
    → waiting ≡ []
    → IsPutIn line sorted added
    → AllPairs IsEarlier added
    → IsInserted line (sorted ++ waiting) (added ++ waiting)
inserted-opened line sorted waiting added none put order =
    rw (none, append-nil sorted, append-nil added)
    (record { among = HasOneMore-inserted line sorted added put; order = order })

-- and taken out
pub taken-opened : (line : BookLine) (sorted waiting rest : List BookLine)
    → waiting ≡ []
    → IsRemoved line sorted rest
    → IsTakenOut line (sorted ++ waiting) (rest ++ waiting)
taken-opened line sorted waiting rest none out =
    rw (none, append-nil sorted, append-nil rest) (IsTakenOut-removed line sorted rest out)

-- ---- what is taken out once all are in order

-- it is the line asked for
pub own-removed : (rate : Option Rate) (bidder number : ℕ) (found : Option BookLine)
    → IfSome found (λ line. ordering_then (nat_cmp (rank_of line.rate) (rank_of rate))
    (ordering_then (nat_cmp line.bidder bidder) (nat_cmp line.number number)) ≡ Equal)
    → IfSome found (λ line. IsOf rate bidder number line)
own-removed rate bidder number None key = tt
own-removed rate bidder number (Some line) key = IsOf-key rate bidder number line key

-- and the lines that there were are those left and it, in some order
pub less-removed : (found : Option BookLine) (lines sorted rest : List BookLine)
    → IsPermutation lines sorted
    → IfSome found (λ line. IsRemoved line sorted rest)
    → IfSome found (λ line. IsPermutation lines (line ∷ rest))
less-removed None lines sorted rest same out = tt
less-removed (Some line) lines sorted rest same out =
    IsPermutation-trans lines sorted (line ∷ rest) same (IsPermutation-removed line sorted rest out)

-- they are apart as before
pub apart-removed : (found : Option BookLine) (sorted rest : List BookLine)
    → AllPairs AreApart sorted
    → IfSome found (λ line. IsRemoved line sorted rest)
    → IfNone found (rest ≡ sorted)
    → AllPairs AreApart rest
apart-removed None sorted rest apart out same = rw same apart
apart-removed (Some line) sorted rest apart out same =
    apart-less line rest (apart-permutation sorted (line ∷ rest) (IsPermutation-removed line sorted rest out) apart)

-- the list is the same where nothing is found
pub same-unchanged : (found : Option BookLine) (old new : Listed BookLine)
    → IfNone found (new ≡ old)
    → IfNone found (new.elements ≡ old.elements)
same-unchanged None old new same = ap (λ (list : Listed BookLine). list.elements) same
same-unchanged (Some line) old new same = tt

-- what is found isn't missing
pub unless-missing : (P : Type 0) (found : Option BookLine) → ¬ (IsNone found) → IfNone found P
unless-missing P None never = absurd (never refl)
unless-missing P (Some line) never = tt

-- ---- what is found among those that wait

-- it is there
pub found-waiting : (bidder number : ℕ) (found : Option BookLine) (sorted waiting : List BookLine)
    → IfSome found (λ line. HasBidAt line.rate bidder number waiting)
    → IfSome found (λ line. HasBidAt line.rate bidder number (sorted ++ waiting))
found-waiting bidder number None sorted waiting has = tt
found-waiting bidder number (Some line) sorted waiting has =
    HasBidAt-back line.rate bidder number sorted waiting has

-- and where none is found there is none
pub missing-waiting : (bidder number : ℕ) (found : Option BookLine) (sorted waiting : List BookLine)
    → ¬ (HasBid bidder number sorted)
    → IfNone found (¬ (HasBid bidder number waiting))
    → IfNone found (¬ (HasBid bidder number (sorted ++ waiting)))
missing-waiting bidder number None sorted waiting none lacks =
    HasBid-neither bidder number sorted waiting none lacks
missing-waiting bidder number (Some line) sorted waiting none lacks = tt
