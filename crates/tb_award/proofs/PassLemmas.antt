-- One pass over lines: nothing is settled at first, and a bid is read line by line.
use Rattle.std.proofs.Common.{◌≡◌, ℕ, ◌+◌, ◌<◌, ◌≤◌, inl, inr, List, [], ◌∷◌, ◌++◌, length, take}
use Rattle.std.proofs.Common.{get_or, replicate, All, refl, ap, sym, subst, ◌∙◌, arith}
use Rattle.std.specs.Prelude.{min}
use Rattle.std.proofs.lemmas.Bool.{cases_eq}
use Rattle.std.proofs.lemmas.List.{length-replicate, length_push, get_or-replicate, get_or_append_left}
use Rattle.std.proofs.lemmas.List.{get_or_push, get_or-take, length-take-le, append_assoc}
use Rattle.std.proofs.lemmas.List.Elements.{All-nil, All-cons, All-push, All-append}
use Rattle.std.proofs.lemmas.List.Sums.{sum_by_push}
use Rattle.tb_units.specs.declared.lines.RateLine.{RateLine}
use Rattle.tb_units.specs.LineOrder.{AreInOrder, IsNoLater}
use Rattle.tb_units.proofs.ListLemmas.{All-back}
use Rattle.tb_award.specs.Cuts.{amount_of}
use Rattle.tb_award.specs.Recognition.{bid_in, IsEarlier, IsRecognised}
use Rattle.tb_award.specs.Passes.{AreSettled, Bounds, IsReading, IsSameBid}
use Rattle.tb_award.proofs.BidLemmas.{let_through-flat, recognised_at-none}
use Rattle.tb_award.proofs.SettleLemmas.{IsEarlier-same}

-- a line more of the bid that is being read
pub IsReading-more : {lines : List RateLine} {bounds : Bounds} {recognised : List RateLine} {taken : List ℕ}
    {bid : RateLine}
    → IsReading lines bounds recognised taken bid
    → (line next : RateLine)
    → IsSameBid bid line
    → IsSameBid next bid
    → next.amount.value ≡ min (bid.amount.value + line.amount.value) bounds.cap
    → IsReading (lines ++ line ∷ []) bounds recognised taken next
IsReading-more {bid} reading line next same is amount = record {
  settled = reading.settled;
  last = reading.last ++ line ∷ [];
  lines_are = ap (λ ls. ls ++ line ∷ []) reading.lines_are ∙ append_assoc reading.settled reading.last (line ∷ []);
  done = reading.done;
  earlier = λ k d below. IsEarlier-same (get_or reading.settled k d) bid next is (reading.earlier k d below);
  same = All-push (λ l. IsSameBid l next) reading.last line
      (λ k d below. (omega (arith, (reading.same k d below).0, is.0), omega (arith, (reading.same k d below).1, is.1)))
      (omega (arith, same.0, is.0), omega (arith, same.1, is.1));
  some = omega (arith, length_push reading.last line);
  amount = omega (arith, amount, reading.amount, sum_by_push amount_of reading.last line);
  known = omega (arith, reading.known, is.1);
}

-- a line of another bid, behind lines that are settled
pub IsReading-next : {lines : List RateLine} {bounds : Bounds} {recognised : List RateLine} {taken : List ℕ}
    → AreSettled lines bounds recognised taken
    → (line next : RateLine)
    → All (λ l. IsEarlier l line) lines
    → line.bidder < bounds.bidders
    → IsSameBid next line
    → next.amount.value ≡ min line.amount.value bounds.cap
    → IsReading (lines ++ line ∷ []) bounds recognised taken next
IsReading-next {lines} done line next earlier known is amount = record {
  settled = lines;
  last = line ∷ [];
  lines_are = refl;
  done = done;
  earlier = λ k d below. IsEarlier-same (get_or lines k d) line next is (earlier k d below);
  same = All-cons (λ l. IsSameBid l next) line [] (sym is.0, sym is.1) (All-nil (λ l. IsSameBid l next));
  some = omega arith;
  amount = omega (arith, amount, sum_by_push amount_of [] line);
  known = omega (arith, known, is.1);
}

-- a line in order behind a bid, and not of it, is behind all lines
pub earlier-than_next : {lines : List RateLine} {bounds : Bounds} {recognised : List RateLine} {taken : List ℕ}
    {bid : RateLine}
    → IsReading lines bounds recognised taken bid
    → (line : RateLine)
    → AreInOrder (lines ++ line ∷ [])
    → ¬ (IsSameBid bid line)
    → All (λ l. IsEarlier l line) lines
earlier-than_next {lines} {bid = bid} reading line order other =
    let P : RateLine → Type 0 = λ l. IsEarlier l line in
    let no_later : All (λ l. IsNoLater l line) lines = λ k d below.
    subst (λ (l : RateLine). IsNoLater l line) (get_or_append_left lines (line ∷ []) d k below)
    (subst (λ (l : RateLine). IsNoLater (get_or (lines ++ line ∷ []) k d) l)
    (get_or_push lines line d (length lines) refl)
    (order k (length lines) d below (omega (arith, length_push lines line)))) in
    let parts = subst (All (λ l. IsNoLater l line)) reading.lines_are no_later in
    let last_no_later = All-back (λ l. IsNoLater l line) reading.settled reading.last parts 0 bid reading.some in
    let bid_earlier : IsEarlier bid line =
    IsEarlier-from (get_or reading.last 0 bid) bid line (reading.same 0 bid reading.some) last_no_later other in
    subst (All P) (sym reading.lines_are) (All-append P reading.settled reading.last
    (λ k d below. IsEarlier-on (get_or reading.settled k d) bid line (reading.earlier k d below) bid_earlier)
    (λ k d below. IsEarlier-of (get_or reading.last k d) bid line (reading.same k d below) bid_earlier))
  where
    -- a bid behind a line of its own, and of another bid than the next line, is earlier than that
    IsEarlier-from : (one bid line : RateLine)
        → IsSameBid one bid
        → IsNoLater one line
        → ¬ (IsSameBid bid line)
        → IsEarlier bid line
    IsEarlier-from one bid line same no_later other = elim no_later [
      | inl under ↦ inl (omega (arith, under, same.0))
      | inr at ↦ elim (cases_eq bid.bidder line.bidder) [
        | inl own ↦ absurd (other (omega (arith, at.0, same.0), own))
        | inr apart ↦ inr (omega (arith, at.0, same.0), omega (arith, at.1, same.1, apart))
      ]
    ]

    -- what is earlier than a bid is earlier than what follows it
    IsEarlier-on : (one bid line : RateLine) → IsEarlier one bid → IsEarlier bid line → IsEarlier one line
    IsEarlier-on one bid line (inl under) (inl over) = inl (omega arith)
    IsEarlier-on one bid line (inl under) (inr at) = inl (omega (arith, at.0))
    IsEarlier-on one bid line (inr at) (inl under) = inl (omega (arith, at.0))
    IsEarlier-on one bid line (inr at) (inr behind) = inr (omega (arith, at.0, behind.0), omega (arith, at.1, behind.1))

    -- and so is what is of the bid
    IsEarlier-of : (one bid line : RateLine) → IsSameBid one bid → IsEarlier bid line → IsEarlier one line
    IsEarlier-of one bid line same earlier = elim earlier [
      | inl under ↦ inl (omega (arith, under, same.0))
      | inr at ↦ inr (omega (arith, at.0, same.0), omega (arith, at.1, same.1))
    ]

-- nothing is settled yet
pub AreSettled-none : (bounds : Bounds) → AreSettled [] bounds [] (replicate bounds.bidders 0)
AreSettled-none bounds = record {
  are = record {
    order = λ i j d earlier below. absurd (omega (arith, below));
    each = All-nil (IsRecognised (bid_in []) bounds.cap bounds.limits bounds.bidders);
    all = λ bidder steps known some.
        absurd (omega (
          arith,
          some,
          recognised_at-none (bid_in [] bidder) bounds.cap
              (bounds.limits bidder) steps refl,
        ));
  };
  size = length-replicate bounds.bidders 0;
  sums = λ bidder above known under.
      get_or-replicate bounds.bidders bidder 0 0 known
      ∙ sym (let_through-flat (bid_in [] bidder) bounds.cap (bounds.limits bidder) 0 above (omega arith)
      (λ n from. refl) ∙ omega arith);
  within = omega arith;
  few = omega arith;
}

-- the first lines are in order
pub AreInOrder-take : (count : ℕ) (lines : List RateLine)
    → AreInOrder lines
    → count ≤ length lines
    → AreInOrder (take count lines)
AreInOrder-take count lines order within i j d earlier below =
    let short : length (take count lines) ≡ count = length-take-le count lines within in
    let first : get_or (take count lines) i d ≡ get_or lines i d = get_or-take count lines i d (omega arith) in
    let second : get_or (take count lines) j d ≡ get_or lines j d = get_or-take count lines j d (omega arith) in
    subst (λ (line : RateLine). IsNoLater line (get_or (take count lines) j d)) (sym first)
    (subst (λ (line : RateLine). IsNoLater (get_or lines i d) line) (sym second) (order i j d earlier (omega arith)))
