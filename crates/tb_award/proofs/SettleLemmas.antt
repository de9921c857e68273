-- The bid that is being read is settled.
use Rattle.std.proofs.Common.{◌≡◌, ℕ, suc, ◌+◌, ◌-◌, ◌<◌, ◌≤◌, ◌⊎◌, inl, inr, eqb, List, [], ◌∷◌, ◌++◌}
use Rattle.std.proofs.Common.{length, set, get_or, All, refl, ap, ap₂, sym, subst, ◌∙◌, arith}
use Rattle.std.specs.Prelude.{min, slice_index}
use Rattle.std.proofs.lemmas.Bool.{cases_lt, cases_eq, cases_order, cond_both, eqb-true, eqb-false}
use Rattle.std.proofs.lemmas.List.{length-append, length-set, length_push, get_or-set_same}
use Rattle.std.proofs.lemmas.List.{get_or-set_other, get_or_append_left, get_or_push}
use Rattle.std.proofs.lemmas.List.Elements.{All-push}
use Rattle.std.proofs.lemmas.List.Quantifiers.{all_pairs_push}
use Rattle.std.proofs.lemmas.List.Sums.{sum_by_push, sum_by-append}
use Rattle.tb_units.specs.declared.lines.RateLine.{RateLine}
use Rattle.tb_units.proofs.ListLemmas.{All-front, All-back}
use Rattle.tb_award.specs.Cuts.{amount_of, total_of}
use Rattle.tb_award.specs.Recognition.{bid_in, let_through, recognised_at, HasLineOf, IsEarlier, IsRecognised}
use Rattle.tb_award.specs.Passes.{AreSettled, Bounds, IsReading, IsSameBid, recognised_in, through_in, with_line}
use Rattle.tb_award.proofs.BidLemmas.{IsBidOf, bid_in-append, bid_in-none, bid_in-whole, let_through-agree}
use Rattle.tb_award.proofs.BidLemmas.{let_through-flat, let_through-more, recognised_at-agree, recognised_at-none}
use Rattle.tb_award.proofs.BidLemmas.{recognised_at-is}

-- a line is earlier than another, or it isn't
cases_earlier : (one other : RateLine) → IsEarlier one other ⊎ ¬ (IsEarlier one other)
cases_earlier one other = elim (cases_order one.rate.steps other.rate.steps) [
  | inl same ↦ elim (cases_lt one.bidder other.bidder) [
    | inl less ↦ inl (inr (same, less))
    | inr more ↦
        inr (λ earlier. elim earlier [ inl under ↦ omega (arith, under, same) | inr at ↦ omega (arith, at.1, more) ])
  ]
  | inr (inl under) ↦ inl (inl under)
  | inr (inr over) ↦
      inr (λ earlier. elim earlier [ inl under ↦ omega (arith, under, over) | inr at ↦ omega (arith, at.0, over) ])
]

-- lines that are all earlier than a bid bid nothing in the place of a line that isn't
late-none : (lines : List RateLine) (bid line : RateLine)
    → All (λ l. IsEarlier l bid) lines
    → ¬ (IsEarlier line bid)
    → bid_in lines line.bidder line.rate.steps ≡ 0
late-none lines bid line earlier late =
    bid_in-none lines line.bidder line.rate.steps (λ k d below own. late (elim (earlier k d below) [
      | inl under ↦ inl (omega (arith, under, own.1))
      | inr at ↦ inr (omega (arith, at.0, own.1), omega (arith, at.1, own.0))
    ]))

-- lines that are all earlier than a bid bid nothing for its bidder at its rate and above
above-none : (lines : List RateLine) (bid : RateLine) (steps : ℕ)
    → All (λ l. IsEarlier l bid) lines
    → bid.rate.steps ≤ steps
    → bid_in lines bid.bidder steps ≡ 0
above-none lines bid steps earlier from =
    bid_in-none lines bid.bidder steps (λ k d below own. elim (earlier k d below) [
      | inl under ↦ omega (arith, under, own.1, from)
      | inr at ↦ omega (arith, at.1, own.0)
    ])

-- lines of one bid bid nothing in another place
other-none : (lines : List RateLine) (bid : RateLine) (bidder steps : ℕ)
    → All (λ l. IsSameBid l bid) lines
    → ¬ (IsBidOf bidder steps bid)
    → bid_in lines bidder steps ≡ 0
other-none lines bid bidder steps same other =
    bid_in-none lines bidder steps
    (λ k d below own. other (omega (arith, (same k d below).1, own.0), omega (arith, (same k d below).0, own.1)))

-- the order of a line and a bid is that of lines of the same bids
pub IsEarlier-same : (one bid line : RateLine) → IsSameBid line bid → IsEarlier one bid → IsEarlier one line
IsEarlier-same one bid line same earlier = elim earlier [
  | inl under ↦ inl (omega (arith, under, same.0))
  | inr at ↦ inr (omega (arith, at.0, same.0), omega (arith, at.1, same.1))
]

-- a line that is there is there among one more
HasLineOf-push : (bidder steps : ℕ) (lines : List RateLine) (line : RateLine)
    → HasLineOf bidder steps lines
    → HasLineOf bidder steps (lines ++ line ∷ [])
HasLineOf-push bidder steps lines line has = (
  has.0,
  omega (arith, has.1, length_push lines line),
  λ d.
      rw (get_or_append_left lines (line ∷ []) d has.0 has.1) (has.2 d),
)

-- and the one more is there
HasLineOf-pushed : (bidder steps : ℕ) (lines : List RateLine) (line : RateLine)
    → line.bidder ≡ bidder
    → line.rate.steps ≡ steps
    → HasLineOf bidder steps (lines ++ line ∷ [])
HasLineOf-pushed bidder steps lines line own at = (
  length lines,
  omega (arith, length_push lines line),
  λ d.
      rw (get_or_push lines line d (length lines) refl) (own, at),
)

-- while the last lines are a bid that is being read
module _ {lines recognised : List RateLine} {bounds : Bounds} {taken : List ℕ} {bid : RateLine}
    (reading : IsReading lines bounds recognised taken bid) where
  -- lines bid what the settled ones bid and what the last ones bid
  bid_in-parts : (bidder steps : ℕ)
      → bid_in lines bidder steps ≡ bid_in reading.settled bidder steps + bid_in reading.last bidder steps
  bid_in-parts bidder steps =
      ap (λ ls. bid_in ls bidder steps) reading.lines_are ∙ bid_in-append reading.settled reading.last bidder steps

  -- for other bidders and at other rates only the settled ones do
  bid_in-elsewhere : (bidder steps : ℕ)
      → ¬ (IsBidOf bidder steps bid)
      → bid_in lines bidder steps ≡ bid_in reading.settled bidder steps
  bid_in-elsewhere bidder steps other =
      omega (arith, bid_in-parts bidder steps, other-none reading.last bid bidder steps reading.same other)

  -- for the bid only the last ones do
  bid_in-here : bid_in lines bid.bidder bid.rate.steps ≡ total_of reading.last
  bid_in-here =
      let whole =
      bid_in-whole reading.last bid.bidder bid.rate.steps
      (λ k d below. ((reading.same k d below).1, (reading.same k d below).0)) in
      let none = above-none reading.settled bid bid.rate.steps reading.earlier (omega arith) in
      omega (arith, bid_in-parts bid.bidder bid.rate.steps, none, whole)

  -- above its rate nothing is bid for its bidder
  bid_in-above : (steps : ℕ) → bid.rate.steps < steps → bid_in lines bid.bidder steps ≡ 0
  bid_in-above steps over =
      let elsewhere = bid_in-elsewhere bid.bidder steps (λ own. omega (arith, own.1, over)) in
      let none = above-none reading.settled bid steps reading.earlier (omega arith) in
      omega (arith, elsewhere, none)

  -- what the bidder's limit let through below the bid's rate is what was taken of it
  taken-is : slice_index taken bid.bidder ≡ through_in lines bounds bid.bidder bid.rate.steps
  taken-is =
      let limit = bounds.limits bid.bidder in
      let rate = bid.rate.steps in
      let before = bid_in reading.settled bid.bidder in
      let under : All (λ line. line.rate.steps < suc rate) reading.settled =
      λ k d below. elim (reading.earlier k d below) [
        | inl less ↦ omega (arith, less)
        | inr at ↦ omega (arith, at.0)
      ] in
      reading.done.sums bid.bidder (suc rate) reading.known under
      ∙ let_through-flat before bounds.cap limit rate (suc rate) (omega arith)
      (λ n from. above-none reading.settled bid n reading.earlier from)
      ∙ let_through-agree before (bid_in lines bid.bidder) bounds.cap limit rate
      (λ n below. sym (bid_in-elsewhere bid.bidder n (λ own. omega (arith, own.1, below))))

  -- what is still let through of the bid is what is recognised at its rate
  amount-is : min bid.amount.value (bounds.limits bid.bidder - slice_index taken bid.bidder)
      ≡ recognised_in lines bounds bid.bidder bid.rate.steps
  amount-is =
      let limit = bounds.limits bid.bidder in
      ap₂ (λ a t. min a (limit - t)) (reading.amount ∙ ap (λ n. min n bounds.cap) (sym bid_in-here)) taken-is
      ∙ sym (recognised_at-is (bid_in lines bid.bidder) bounds.cap limit bid.rate.steps)

  -- all that was recognised is earlier than the bid, since nothing else was bid
  recognised-earlier : All (λ line. IsEarlier line bid) recognised
  recognised-earlier = λ k d below.
      let line : RateLine = get_or recognised k d in
      let one = reading.done.are.each k d below in
      elim (cases_earlier line bid) [
        | inl earlier ↦ earlier
        | inr late ↦
            (let nothing = late-none reading.settled bid line reading.earlier late in
            let none =
            recognised_at-none (bid_in reading.settled line.bidder) bounds.cap
            (bounds.limits line.bidder) line.rate.steps nothing in
            absurd (omega (arith, one.some, one.amount, none)))
      ]

  -- at each rate up to one below the bid's, and for every other bidder, as much is recognised as before
  recognised_in-before : (bidder steps : ℕ)
      → ((n : ℕ) → n ≤ steps → ¬ (IsBidOf bidder n bid))
      → recognised_in reading.settled bounds bidder steps ≡ recognised_in lines bounds bidder steps
  recognised_in-before bidder steps other =
      recognised_at-agree (bid_in reading.settled bidder) (bid_in lines bidder) bounds.cap (bounds.limits bidder) steps
      (λ n within. sym (bid_in-elsewhere bidder n (other n within)))

  -- what was recognised stays so
  each-stays : All (IsRecognised (bid_in lines) bounds.cap bounds.limits bounds.bidders) recognised
  each-stays = λ k d below.
      let line : RateLine = get_or recognised k d in
      let one = reading.done.are.each k d below in
      record {
        known = one.known;
        some = one.some;
        amount =
            one.amount
            ∙ recognised_in-before line.bidder line.rate.steps
            (λ n within own. elim (recognised-earlier k d below) [
              | inl under ↦ omega (arith, under, own.1, within)
              | inr at ↦ omega (arith, at.1, own.0)
            ]);
      }

  -- where something is recognised now, a line stands or it is the bid's own place
  all-cases : (bidder steps : ℕ)
      → bidder < bounds.bidders
      → 0 < recognised_in lines bounds bidder steps
      → HasLineOf bidder steps recognised ⊎ IsBidOf bidder steps bid
  all-cases bidder steps known some =
      let before : ((n : ℕ) → n ≤ steps → ¬ (IsBidOf bidder n bid)) → HasLineOf bidder steps recognised = λ other.
      reading.done.are.all bidder steps known (omega (arith, some, recognised_in-before bidder steps other)) in
      elim (cases_eq bid.bidder bidder) [
        | inl own ↦ elim (cases_order bid.rate.steps steps) [
          | inl at ↦ inr (own, at)
          | inr (inl over) ↦
              (let none : bid_in lines bidder steps ≡ 0 =
              subst (λ (b : ℕ). bid_in lines b steps ≡ 0) own (bid_in-above steps over) in
              absurd (omega (
                arith,
                some,
                recognised_at-none (bid_in lines bidder) bounds.cap
                    (bounds.limits bidder) steps none,
              )))
          | inr (inr under) ↦ inl (before (λ n within own'. omega (arith, own'.1, within, under)))
        ]
        | inr other ↦ inl (before (λ n within own. other own.0))
      ]

  -- how much of the bidder's own limit is let through, once the bid is settled
  own-settled : (new above : ℕ)
      → new ≡ slice_index taken bid.bidder + recognised_in lines bounds bid.bidder bid.rate.steps
      → suc bid.rate.steps ≤ above
      → slice_index (set taken bid.bidder new) bid.bidder ≡ through_in lines bounds bid.bidder above
  own-settled new above is over =
      let rate = bid.rate.steps in
      let limit = bounds.limits bid.bidder in
      let bids = bid_in lines bid.bidder in
      let same : slice_index (set taken bid.bidder new) bid.bidder ≡ new =
      get_or-set_same taken bid.bidder new 0 (omega (arith, reading.done.size, reading.known)) in
      let sum : new ≡ let_through bids bounds.cap limit rate + recognised_at bids bounds.cap limit rate =
      is ∙ ap (λ t. t + recognised_at bids bounds.cap limit rate) taken-is in
      same ∙ sum ∙ sym (let_through-more bids bounds.cap limit rate)
      ∙ sym (let_through-flat bids bounds.cap limit (suc rate) above over
      (λ n from. bid_in-above n (omega (arith, from))))

  -- how much of each bidder's limit is
  sums-settled : (amount : ℕ)
      → amount ≡ min bid.amount.value (bounds.limits bid.bidder - slice_index taken bid.bidder)
      → (bidder above : ℕ)
      → bidder < bounds.bidders
      → All (λ line. line.rate.steps < above) lines
      → slice_index (set taken bid.bidder (slice_index taken bid.bidder + amount)) bidder
      ≡ through_in lines bounds bidder above
  sums-settled amount is bidder above known under =
      let new = slice_index taken bid.bidder + amount in
      let P : RateLine → Type 0 = λ line. line.rate.steps < above in
      let parts : All P (reading.settled ++ reading.last) = subst (All P) reading.lines_are under in
      elim (cases_eq bidder bid.bidder) [
        | inl own ↦
            (let over : suc bid.rate.steps ≤ above =
            omega (
              arith,
              All-back P reading.settled reading.last parts 0 bid reading.some,
              (reading.same 0 bid reading.some).0,
            ) in
            let here = own-settled new above (ap (λ n. slice_index taken bid.bidder + n) (is ∙ amount-is)) over in
            subst (λ (b : ℕ). slice_index (set taken bid.bidder new) b ≡ through_in lines bounds b above)
            (sym own) here)
        | inr other ↦
            (get_or-set_other taken bid.bidder bidder new 0 other
            ∙ reading.done.sums bidder above known (All-front P reading.settled reading.last parts)
            ∙ let_through-agree (bid_in reading.settled bidder) (bid_in lines bidder) bounds.cap
            (bounds.limits bidder) above
            (λ n below. sym (bid_in-elsewhere bidder n (λ own. other (sym own.0)))))
      ]

  -- the sizes of the parts
  total_of-parts : total_of lines ≡ total_of reading.settled + total_of reading.last
  total_of-parts = ap total_of reading.lines_are ∙ sum_by-append amount_of reading.settled reading.last

  -- the lines are the settled ones and the last ones
  length-parts : length lines ≡ length reading.settled + length reading.last
  length-parts = ap length reading.lines_are ∙ length-append reading.settled reading.last

  -- the bid is settled, and nothing of it is recognised
  nothing-settled : (amount : ℕ)
      → amount ≡ min bid.amount.value (bounds.limits bid.bidder - slice_index taken bid.bidder)
      → amount ≡ 0
      → AreSettled lines bounds recognised (set taken bid.bidder (slice_index taken bid.bidder + amount))
  nothing-settled amount is nothing =
      let at : ℕ → ℕ → ℕ = recognised_in lines bounds in
      let here : amount ≡ at bid.bidder bid.rate.steps = is ∙ amount-is in
      record {
        are = record {
          order = reading.done.are.order;
          each = each-stays;
          all = λ bidder steps known some. elim (all-cases bidder steps known some) [
            | inl has ↦ has
            | inr own ↦ absurd (omega (arith, some, nothing, here, ap₂ at own.0 own.1))
          ];
        };
        size = length-set taken bid.bidder (slice_index taken bid.bidder + amount) ∙ reading.done.size;
        sums = sums-settled amount is;
        within = omega (arith, reading.done.within, total_of-parts);
        few = omega (arith, reading.done.few, length-parts);
      }

  -- the bid is settled, and some of it is recognised
  some-settled : (line : RateLine)
      → line.amount.value ≡ min bid.amount.value (bounds.limits bid.bidder - slice_index taken bid.bidder)
      → 0 < line.amount.value
      → IsSameBid line bid
      → AreSettled lines bounds (recognised ++ line ∷ [])
      (set taken bid.bidder (slice_index taken bid.bidder + line.amount.value))
  some-settled line is some same =
      let amount = line.amount.value in
      let at : ℕ → ℕ → ℕ = recognised_in lines bounds in
      let own : IsRecognised (bid_in lines) bounds.cap bounds.limits bounds.bidders line = record {
        known = omega (arith, reading.known, same.1);
        some = some;
        amount = is ∙ amount-is ∙ ap₂ at (sym same.1) (sym same.0);
      } in
      record {
        are = record {
          order = all_pairs_push IsEarlier recognised line reading.done.are.order
              (λ k d below. IsEarlier-same (get_or recognised k d) bid line same (recognised-earlier k d below));
          each =
              All-push (IsRecognised (bid_in lines) bounds.cap bounds.limits bounds.bidders) recognised line each-stays
              own;
          all = λ bidder steps known is_some. elim (all-cases bidder steps known is_some) [
            | inl has ↦ HasLineOf-push bidder steps recognised line has
            | inr place ↦ HasLineOf-pushed bidder steps recognised line (same.1 ∙ place.0) (same.0 ∙ place.1)
          ];
        };
        size = length-set taken bid.bidder (slice_index taken bid.bidder + amount) ∙ reading.done.size;
        sums = sums-settled amount is;
        within =
            omega (
              arith,
              reading.done.within,
              total_of-parts,
              sum_by_push amount_of recognised line,
              is,
              reading.amount,
            );
        few = omega (arith, reading.done.few, length-parts, length_push recognised line, reading.some);
      }

  -- the bid is settled
  pub AreSettled-kept : (line : RateLine) {new : List RateLine}
      → new ≡ with_line recognised line
      → line.amount.value ≡ min bid.amount.value (bounds.limits bid.bidder - slice_index taken bid.bidder)
      → IsSameBid line bid
      → {old : ℕ}
      → old ≡ slice_index taken bid.bidder
      → AreSettled lines bounds new (set taken bid.bidder (old + line.amount.value))
  AreSettled-kept line {new} kept is same {old} was =
      let amount = line.amount.value in
      let now = set taken bid.bidder (slice_index taken bid.bidder + line.amount.value) in
      let P : List RateLine → Type 0 = λ ls. AreSettled lines bounds ls now in
      subst (λ (t : ℕ). AreSettled lines bounds new (set taken bid.bidder (t + line.amount.value))) (sym was)
      (subst P (sym kept) (cond_both (eqb amount 0) recognised (recognised ++ line ∷ []) P
      (λ none. nothing-settled amount is (eqb-true amount 0 none))
      (λ some. some-settled line is (pos_of (eqb-false amount 0 some)) same)))
    where
      -- what is not zero is something
      pos_of : {n : ℕ} → (n ≡ 0 → ⊥) → 0 < n
      pos_of {n} some = omega (arith, some)

  -- what the limit has let through is within it
  pub taken-within : slice_index taken bid.bidder ≤ bounds.limits bid.bidder
  taken-within = omega (arith, taken-is)
