-- A book's lines after one is added or taken out, and what is kept beside them.
use Rattle.std.proofs.Common.{◌≡◌, ℕ, suc, ◌+◌, ◌<◌, ◌≤◌, ◌==◌, ◌&&◌, Bool, true, false, cond, Option, Some, None, is_some, is_none, List, [], ◌∷◌, ◌++◌, length, get_or, take, drop, AllPairs, sum_by, refl, ap, sym, ◌∙◌, subst, eq-eqb, drop-cons, arith}
use Rattle.std.specs.List.{insert, remove}
use Rattle.std.specs.HashMap.{HashMap}
use Rattle.std.specs.Prelude.{IsPermutation}
use Rattle.std.specs.Ordering.{nat_cmp, ordering_then}
use Rattle.std.specs.declared.cmp.Ordering.TheVariants.{Equal}
use Rattle.std.proofs.lemmas.Bool.{cond-true}
use Rattle.std.proofs.lemmas.List.{take-append-drop}
use Rattle.std.proofs.lemmas.List.Sums.{sum_by-cons, sum_by-le-sum_by}
use Rattle.std.proofs.lemmas.List.Sorted.{IsPermutation-insert, IsPermutation-remove, IsPermutation-sym, sum_by-IsPermutation}
use Rattle.tb_blocks.specs.Orders.{IsInserted, IsRemoved}
use Rattle.tb_units.proofs.SumLemmas.{cond-le}
use Rattle.tb_units.specs.Places.{HasOneMore}
use Rattle.tb_units.specs.declared.rate.Rate.{Rate}
use Rattle.tb_book.specs.declared.book_line.BookLine.{BookLine}
use Rattle.tb_book.specs.declared.bidder.Sums.{Sums}
use Rattle.tb_book.specs.Books.{AreApart, AreRanked, HasBid, HasBidAt, IsTakenOut, par_in, most_bid, competitive_of, noncompetitive_of, noncompetitive_in}
use Rattle.tb_book.specs.Indexes.{rank_of, IsRaised, IsIndexed, total_of}
use Rattle.tb_units.proofs.OrderLemmas.{nat-equal, equal-nat}
use Rattle.tb_book.proofs.KeyLemmas.{pair-equal, equal-pair, then-equal, equal-then, rank-equal}

-- ---- a line by its key

-- some line has the key
abbrev pub HasLineKey : ℕ → ℕ → ℕ → List BookLine → Type 0
HasLineKey rank bidder number lines =
    (k : ℕ) × (k < length lines)
    × ((d : BookLine) → ordering_then (nat_cmp (rank_of (get_or lines k d).rate) rank)
    (ordering_then (nat_cmp (get_or lines k d).bidder bidder) (nat_cmp (get_or lines k d).number number)) ≡ Equal)

-- a line has the rate, the bidder and the number of its key
abbrev pub IsOf : Option Rate → ℕ → ℕ → BookLine → Type 0
IsOf rate bidder number line = (line.rate ≡ rate) × (line.bidder ≡ bidder) × (line.number ≡ number)

-- so says the key
pub IsOf-key : (rate : Option Rate) (bidder number : ℕ) (line : BookLine)
    → ordering_then (nat_cmp (rank_of line.rate) (rank_of rate))
    (ordering_then (nat_cmp line.bidder bidder) (nat_cmp line.number number)) ≡ Equal
    → IsOf rate bidder number line
IsOf-key rate bidder number line key =
    let both = then-equal (nat_cmp (rank_of line.rate) (rank_of rate))
    (ordering_then (nat_cmp line.bidder bidder) (nat_cmp line.number number)) key in
    let own = pair-equal line.bidder line.number bidder number both.1 in
    (rank-equal line.rate rate (nat-equal (rank_of line.rate) (rank_of rate) both.0), own.0, own.1)

-- and a line of these has the key
pub key-IsOf : (rate : Option Rate) (bidder number : ℕ) (line : BookLine)
    → IsOf rate bidder number line
    → ordering_then (nat_cmp (rank_of line.rate) (rank_of rate))
    (ordering_then (nat_cmp line.bidder bidder) (nat_cmp line.number number)) ≡ Equal
key-IsOf rate bidder number line is =
    equal-then (nat_cmp (rank_of line.rate) (rank_of rate))
    (ordering_then (nat_cmp line.bidder bidder) (nat_cmp line.number number))
    (equal-nat (rank_of line.rate) (rank_of rate) (ap rank_of is.0))
    (equal-pair line.bidder line.number bidder number is.1 is.2)

-- a line with the key is the bidder's of this number
pub HasBid-line_key : (rank bidder number : ℕ) (lines : List BookLine)
    → HasLineKey rank bidder number lines
    → HasBid bidder number lines
HasBid-line_key rank bidder number lines has = (
  has.0,
  has.1,
  λ d.
      let line : BookLine = get_or lines has.0 d in
      pair-equal line.bidder line.number bidder number
      (then-equal (nat_cmp (rank_of line.rate) rank)
      (ordering_then (nat_cmp line.bidder bidder) (nat_cmp line.number number)) (has.2 d)).1,
)

-- and at this rate
pub HasBidAt-line_key : (rate : Option Rate) (bidder number : ℕ) (lines : List BookLine)
    → HasLineKey (rank_of rate) bidder number lines
    → HasBidAt rate bidder number lines
HasBidAt-line_key rate bidder number lines has =
    (has.0, has.1, λ d. IsOf-key rate bidder number (get_or lines has.0 d) (has.2 d))

-- a bid that is there at a rate has a line with the key
pub line_key-HasBidAt : (rate : Option Rate) (bidder number : ℕ) (lines : List BookLine)
    → HasBidAt rate bidder number lines
    → HasLineKey (rank_of rate) bidder number lines
line_key-HasBidAt rate bidder number lines has =
    (has.0, has.1, λ d. key-IsOf rate bidder number (get_or lines has.0 d) (has.2 d))

-- ---- a line that is put in or removed

-- a line put in at a place is among the lines
pub HasOneMore-insert : (line : BookLine) (lines : List BookLine) (place : ℕ)
    → HasOneMore line lines (insert lines place line)
HasOneMore-insert line lines place = record {
  front = take place lines;
  back = drop place lines;
  without = sym (take-append-drop place lines);
  whole = λ i. insert lines place line;
}

-- the line at a place is no more among the lines once it is removed
pub IsTakenOut-remove : (line : BookLine) (lines : List BookLine) (place : ℕ)
    → place < length lines
    → get_or lines place line ≡ line
    → IsTakenOut line lines (remove lines place)
IsTakenOut-remove line lines place within is =
    let rest : drop place lines ≡ line ∷ drop (suc place) lines =
    drop-cons lines place line within ∙ ap (λ (first : BookLine). first ∷ drop (suc place) lines) is in
    record {
      front = take place lines;
      back = drop (suc place) lines;
      without = λ i. remove lines place;
      whole = sym (take-append-drop place lines) ∙ ap (λ back. take place lines ++ back) rest;
    }

-- ---- what is kept beside them

-- what counts of a kind counts where the kind and the bidder agree
cond-both : (own kind : Bool) (amount : ℕ) → cond (own && kind) amount 0 ≡ cond own (cond kind amount 0) 0
cond-both true true amount = refl
cond-both true false amount = refl
cond-both false true amount = refl
cond-both false false amount = refl

-- what a line counts of a bidder's competitive lines
abbrev competitive_part : ℕ → BookLine → ℕ
competitive_part bidder line = cond ((line.bidder == bidder) && is_some line.rate) line.amount.value 0

-- and of its noncompetitive lines
abbrev noncompetitive_part : ℕ → BookLine → ℕ
noncompetitive_part bidder line = cond ((line.bidder == bidder) && is_none line.rate) line.amount.value 0

-- what a bidder bids of a kind is part of all that is bid
pub competitive-le : (bidder : ℕ) (lines : List BookLine) → competitive_of bidder lines ≤ par_in lines
competitive-le bidder lines =
    sum_by-le-sum_by (competitive_part bidder) (λ line. line.amount.value) lines
    (λ line. cond-le ((line.bidder == bidder) && is_some line.rate) line.amount.value)

-- of the other kind too
pub noncompetitive-le : (bidder : ℕ) (lines : List BookLine) → noncompetitive_of bidder lines ≤ par_in lines
noncompetitive-le bidder lines =
    sum_by-le-sum_by (noncompetitive_part bidder) (λ line. line.amount.value) lines
    (λ line. cond-le ((line.bidder == bidder) && is_none line.rate) line.amount.value)

-- and so is all that is bid noncompetitively
pub noncompetitive_in-le : (lines : List BookLine) → noncompetitive_in lines ≤ par_in lines
noncompetitive_in-le lines =
    sum_by-le-sum_by (λ (line : BookLine). cond (is_none line.rate) line.amount.value 0)
    (λ line. line.amount.value) lines (λ line. cond-le (is_none line.rate) line.amount.value)

-- an amount counts with the competitive ones of a bidder or with the noncompetitive ones, or with neither
one_kind-le : (own : Bool) (rate : Option Rate) (amount : ℕ)
    → cond (own && is_some rate) amount 0 + cond (own && is_none rate) amount 0 ≤ amount
one_kind-le false rate amount = omega arith
one_kind-le true (Some rate) amount = omega arith
one_kind-le true None amount = omega arith

-- what a bidder bids both ways is at most the par of all lines
pub both_kinds-le : (bidder : ℕ) (lines : List BookLine)
    → competitive_of bidder lines + noncompetitive_of bidder lines ≤ par_in lines
both_kinds-le bidder [] = omega arith
both_kinds-le bidder (line ∷ lines) =
    omega (
      arith,
      sum_by-cons (competitive_part bidder) line lines,
      sum_by-cons (noncompetitive_part bidder) line lines,
      sum_by-cons (λ (l : BookLine). l.amount.value) line lines,
      one_kind-le (line.bidder == bidder) line.rate line.amount.value,
      both_kinds-le bidder lines,
    )

-- a sum over the lines without one
sum-less : (line : BookLine) (lines rest : List BookLine)
    → IsPermutation lines (line ∷ rest)
    → (part : BookLine → ℕ)
    → sum_by part rest + part line ≡ sum_by part lines
sum-less line lines rest out = λ part.
    omega (arith, sum_by-IsPermutation part lines (line ∷ rest) out, sum_by-cons part line rest)

-- the sums of a line's parts: one list of lines and its bidders' sums have it, and the others haven't
record DifferBy {S : Type 0} (line : BookLine) (fewer more : List BookLine)
    (lower higher : HashMap ℕ Sums S) : Type 0 where
  lines : (part : BookLine → ℕ) → sum_by part fewer + part line ≡ sum_by part more
  competitive : IsRaised (λ sums. sums.competitive) line.bidder
      (cond (is_some line.rate) line.amount.value 0) lower higher
  noncompetitive : IsRaised (λ sums. sums.noncompetitive) line.bidder
      (cond (is_none line.rate) line.amount.value 0) lower higher

-- what the bidders have of each kind is what the lines say with the line just where it is so without it
competitive-more : {S : Type 0} (line : BookLine) (fewer more : List BookLine) (lower higher : HashMap ℕ Sums S)
    (bidder : ℕ)
    → DifferBy line fewer more lower higher
    → total_of (λ sums. sums.competitive) bidder lower + competitive_of bidder more
    ≡ total_of (λ sums. sums.competitive) bidder higher + competitive_of bidder fewer
competitive-more line fewer more lower higher bidder differ =
    omega (
      arith,
      differ.competitive bidder,
      cond-both (line.bidder == bidder) (is_some line.rate) line.amount.value,
      differ.lines (competitive_part bidder),
    )

-- of the other kind too
noncompetitive-more : {S : Type 0} (line : BookLine) (fewer more : List BookLine) (lower higher : HashMap ℕ Sums S)
    (bidder : ℕ)
    → DifferBy line fewer more lower higher
    → total_of (λ sums. sums.noncompetitive) bidder lower + noncompetitive_of bidder more
    ≡ total_of (λ sums. sums.noncompetitive) bidder higher + noncompetitive_of bidder fewer
noncompetitive-more line fewer more lower higher bidder differ =
    omega (
      arith,
      differ.noncompetitive bidder,
      cond-both (line.bidder == bidder) (is_none line.rate) line.amount.value,
      differ.lines (noncompetitive_part bidder),
    )

-- a line that is added, and what is raised for it
pub record IsAdded {S : Type 0} (opened : Bool) (line : BookLine) (lines more_lines : List BookLine)
    (bidders raised : HashMap ℕ Sums S) : Type 0 where
  pub elements : IsPermutation (line ∷ lines) more_lines
  pub order : AreRanked opened more_lines
  pub apart_lines : AllPairs AreApart more_lines
  pub fits : par_in lines + line.amount.value ≤ most_bid
  pub competitive : IsRaised (λ sums. sums.competitive) line.bidder
      (cond (is_some line.rate) line.amount.value 0) bidders raised
  pub noncompetitive : IsRaised (λ sums. sums.noncompetitive) line.bidder
      (cond (is_none line.rate) line.amount.value 0) bidders raised

-- all is kept with it
pub IsIndexed-added : {S : Type 0} (was_opened opened : Bool) (line : BookLine) (lines more_lines : List BookLine)
    (bidders raised : HashMap ℕ Sums S) (noncompetitive more : ℕ)
    → IsIndexed was_opened lines bidders noncompetitive
    → IsAdded opened line lines more_lines bidders raised
    → more ≡ noncompetitive + cond (is_none line.rate) line.amount.value 0
    → IsIndexed opened more_lines raised more
IsIndexed-added was_opened opened line lines more_lines bidders raised noncompetitive more kept added is =
    let sum_lines = sum-less line more_lines lines (IsPermutation-sym (line ∷ lines) more_lines added.elements) in
    let differ : DifferBy line lines more_lines bidders raised =
    record { lines = sum_lines; competitive = added.competitive; noncompetitive = added.noncompetitive } in
    record {
      kept = record {
        order = added.order;
        apart = added.apart_lines;
        limited = omega (arith, sum_lines (λ (other : BookLine). other.amount.value), added.fits);
      };
      competitive_are = λ bidder.
          omega (
            arith,
            kept.competitive_are bidder,
            competitive-more line lines more_lines bidders raised bidder differ,
          );
      noncompetitive_are = λ bidder.
          omega (
            arith,
            kept.noncompetitive_are bidder,
            noncompetitive-more line lines more_lines bidders raised bidder differ,
          );
      noncompetitive_is = omega (
        arith,
        is,
        kept.noncompetitive_is,
        sum_lines (λ l. cond (is_none l.rate) l.amount.value 0),
      );
    }

-- a line that is taken out, and what is lowered for it
pub record IsGone {S : Type 0} (opened : Bool) (line : BookLine) (lines rest : List BookLine)
    (bidders lowered : HashMap ℕ Sums S) : Type 0 where
  pub elements : IsPermutation lines (line ∷ rest)
  pub order : AreRanked opened rest
  pub apart_lines : AllPairs AreApart rest
  pub competitive : IsRaised (λ sums. sums.competitive) line.bidder
      (cond (is_some line.rate) line.amount.value 0) lowered bidders
  pub noncompetitive : IsRaised (λ sums. sums.noncompetitive) line.bidder
      (cond (is_none line.rate) line.amount.value 0) lowered bidders

-- all is kept without it
pub IsIndexed-gone : {S : Type 0} (was_opened opened : Bool) (line : BookLine) (lines rest : List BookLine)
    (bidders lowered : HashMap ℕ Sums S) (noncompetitive less : ℕ)
    → IsIndexed was_opened lines bidders noncompetitive
    → IsGone opened line lines rest bidders lowered
    → less + cond (is_none line.rate) line.amount.value 0 ≡ noncompetitive
    → IsIndexed opened rest lowered less
IsIndexed-gone was_opened opened line lines rest bidders lowered noncompetitive less kept gone is =
    let sum_lines = sum-less line lines rest gone.elements in
    let differ : DifferBy line rest lines lowered bidders =
    record { lines = sum_lines; competitive = gone.competitive; noncompetitive = gone.noncompetitive } in
    record {
      kept = record {
        order = gone.order;
        apart = gone.apart_lines;
        limited = omega (arith, sum_lines (λ (other : BookLine). other.amount.value), kept.kept.limited);
      };
      competitive_are = λ bidder.
          omega (arith, kept.competitive_are bidder, competitive-more line rest lines lowered bidders bidder differ);
      noncompetitive_are = λ bidder.
          omega (
            arith,
            kept.noncompetitive_are bidder,
            noncompetitive-more line rest lines lowered bidders bidder differ,
          );
      noncompetitive_is = omega (
        arith,
        is,
        kept.noncompetitive_is,
        sum_lines (λ l. cond (is_none l.rate) l.amount.value 0),
      );
    }

-- and all is kept where the lines go into another order
pub IsIndexed-moved : {S : Type 0} (was_opened opened : Bool) (lines moved : List BookLine) (bidders : HashMap ℕ Sums S)
    (noncompetitive : ℕ)
    → IsIndexed was_opened lines bidders noncompetitive
    → IsPermutation lines moved
    → AreRanked opened moved
    → AllPairs AreApart moved
    → IsIndexed opened moved bidders noncompetitive
IsIndexed-moved was_opened opened lines moved bidders noncompetitive kept same order apart =
    let sums : (part : BookLine → ℕ) → sum_by part lines ≡ sum_by part moved =
    λ part. sym (sum_by-IsPermutation part lines moved same) in
    record {
      kept = record {
        order = order;
        apart = apart;
        limited = omega (arith, sums (λ (other : BookLine). other.amount.value), kept.kept.limited);
      };
      competitive_are = λ bidder. kept.competitive_are bidder ∙ sums (competitive_part bidder);
      noncompetitive_are = λ bidder. kept.noncompetitive_are bidder ∙ sums (noncompetitive_part bidder);
      noncompetitive_is = kept.noncompetitive_is ∙ sums (λ l. cond (is_none l.rate) l.amount.value 0);
    }

-- what a bidder's line counts is at most what the bidder has of the kind
pub competitive-part-le : (line : BookLine) (lines rest : List BookLine) → IsPermutation lines (line ∷ rest)
    → cond (is_some line.rate) line.amount.value 0 ≤ competitive_of line.bidder lines
competitive-part-le line lines rest out =
    omega (
      arith,
      sum-less line lines rest out (competitive_part line.bidder),
      cond-both (line.bidder == line.bidder) (is_some line.rate) line.amount.value,
      cond-true (line.bidder == line.bidder) (cond (is_some line.rate) line.amount.value 0) 0
          (eq-eqb line.bidder line.bidder refl),
    )

-- of the other kind too
pub noncompetitive-part-le : (line : BookLine) (lines rest : List BookLine) → IsPermutation lines (line ∷ rest)
    → cond (is_none line.rate) line.amount.value 0 ≤ noncompetitive_of line.bidder lines
noncompetitive-part-le line lines rest out =
    omega (
      arith,
      sum-less line lines rest out (noncompetitive_part line.bidder),
      cond-both (line.bidder == line.bidder) (is_none line.rate) line.amount.value,
      cond-true (line.bidder == line.bidder) (cond (is_none line.rate) line.amount.value 0) 0
          (eq-eqb line.bidder line.bidder refl),
    )

-- and at most all that is bid noncompetitively
pub noncompetitive_in-part-le : (line : BookLine) (lines rest : List BookLine) → IsPermutation lines (line ∷ rest)
    → cond (is_none line.rate) line.amount.value 0 ≤ noncompetitive_in lines
noncompetitive_in-part-le line lines rest out =
    omega (arith, sum-less line lines rest out (λ l. cond (is_none l.rate) l.amount.value 0))

-- a line put in is among the lines
pub HasOneMore-inserted : (line : BookLine) (lines more_lines : List BookLine) → IsInserted line lines more_lines
    → HasOneMore line lines more_lines
HasOneMore-inserted line lines more_lines put =
    subst (HasOneMore line lines) (sym put.is) (HasOneMore-insert line lines put.place)

-- and the lines are the old ones and the new one, in some order
pub IsPermutation-inserted : (line : BookLine) (lines more_lines : List BookLine) → IsInserted line lines more_lines
    → IsPermutation (line ∷ lines) more_lines
IsPermutation-inserted line lines more_lines put =
    subst (IsPermutation (line ∷ lines)) (sym put.is) (IsPermutation-insert lines put.place line)

-- and one that is taken out is no more
pub IsTakenOut-removed : (line : BookLine) (lines rest : List BookLine)
    → IsRemoved line lines rest
    → IsTakenOut line lines rest
IsTakenOut-removed line lines rest out =
    subst (IsTakenOut line lines) (sym out.is) (IsTakenOut-remove line lines out.place out.within (out.there line))

-- and the old lines are the ones left and it, in some order
pub IsPermutation-removed : (line : BookLine) (lines rest : List BookLine) → IsRemoved line lines rest
    → IsPermutation lines (line ∷ rest)
IsPermutation-removed line lines rest out =
    subst (λ left. IsPermutation lines (line ∷ left)) (sym out.is)
    (IsPermutation-remove lines out.place line out.within (sym (out.there line)))
