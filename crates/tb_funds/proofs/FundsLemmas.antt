-- What keeps funds in order: an offer more, and an offer that is closed.
use Rattle.std.proofs.Common.{◌≡◌, ℕ, ◌+◌, ◌<◌, ◌≤◌, Bool, true, false, cond, ◌&&◌, ◌==◌, Some, List, refl, ap, sym}
use Rattle.std.proofs.Common.{◌∙◌, subst, arith}
use Rattle.std.proofs.lemmas.Bool.{and_parts, eqb-true, eq-eqb}
use Rattle.tb_units.proofs.PlaceLemmas.{find_passes, find-le-sum_by}
use Rattle.tb_funds.specs.declared.amount.Amount.{Amount}
use Rattle.tb_funds.specs.declared.offer.KeptOffer.{KeptOffer}
use Rattle.tb_funds.specs.declared.offer.Offer.{Offer}
use Rattle.tb_funds.specs.declared.offer.State.{State}
use Rattle.tb_funds.specs.declared.offer.State.TheVariants as state
use Rattle.tb_funds.specs.Amounts.{AreInOrder, amount_in, total_in, part}
use Rattle.tb_funds.specs.Offers.{OffersAreInOrder, is_offer, is_open, is_open_of, offer_in, open_in}
use Rattle.tb_funds.specs.Funds.{AreKept, most_offers, kept_as, offered}

-- the offer that is found is open
pub record IsClosing (seller number : ℕ) (offers : List KeptOffer) (kept : KeptOffer) : Type 0 where
  pub found : offer_in seller number offers ≡ Some kept
  pub unclosed : is_open kept.state ≡ true

-- it is where one is that is found
pub closing : (seller number : ℕ) (offers : List KeptOffer) (kept one : KeptOffer)
    → offer_in seller number offers ≡ Some kept
    → offer_in seller number offers ≡ Some one
    → is_open one.state ≡ true
    → IsClosing seller number offers kept
closing seller number offers kept one found other unclosed =
    let both : Some one ≡ Some kept = sym other ∙ found in
    let same : one ≡ kept = cc in
    record { found = found; unclosed = subst (λ (k : KeptOffer). is_open k.state ≡ true) same unclosed }

-- it is its seller's, under its number
pub closing-key : (seller number : ℕ) (offers : List KeptOffer) (kept : KeptOffer)
    → offer_in seller number offers ≡ Some kept
    → (kept.seller ≡ seller) × (kept.number ≡ number)
closing-key seller number offers kept found =
    let parts = and_parts (kept.seller == seller) (kept.number == number)
    (find_passes (is_offer seller number) offers kept found) in
    (eqb-true kept.seller seller parts.0, eqb-true kept.number number parts.1)

-- so it is found by them
pub closing-found : (seller number : ℕ) (offers : List KeptOffer) (kept : KeptOffer)
    → offer_in seller number offers ≡ Some kept
    → offer_in kept.seller kept.number offers ≡ Some kept
closing-found seller number offers kept found =
    let key = closing-key seller number offers kept found in
    ap (λ (s : ℕ). offer_in s kept.number offers) key.0 ∙ (ap (λ (n : ℕ). offer_in seller n offers) key.1 ∙ found)

-- an offer that is open counts for its seller alone
counts : (seller other : ℕ) (kept : KeptOffer)
    → kept.seller ≡ seller
    → is_open kept.state ≡ true
    → part (is_open_of other kept) 1 ≡ part (seller == other) 1
counts seller other kept own unclosed =
    ap (λ (s : ℕ). part (s == other && is_open kept.state) 1) own
    ∙ (ap (λ (b : Bool). part (seller == other && b) 1) unclosed ∙ with_true (seller == other))
  where
    -- and what holds
    with_true : (b : Bool) → part (b && true) 1 ≡ part b 1
    with_true true = refl
    with_true false = refl

-- and one that isn't open for nobody
counts_not : (other : ℕ) (kept : KeptOffer) → is_open kept.state ≡ false → part (is_open_of other kept) 1 ≡ 0
counts_not other kept closed =
    ap (λ (b : Bool). part (kept.seller == other && b) 1) closed ∙ with_false (kept.seller == other)
  where
    -- and what doesn't hold
    with_false : (b : Bool) → part (b && false) 1 ≡ 0
    with_false true = refl
    with_false false = refl

-- so its seller has one at least
pub closing-some : (seller number : ℕ) (offers : List KeptOffer) (kept : KeptOffer)
    → IsClosing seller number offers kept
    → 1 ≤ open_in seller offers
closing-some seller number offers kept is =
    let key = closing-key seller number offers kept is.found in
    let one = counts seller seller kept key.0 is.unclosed in
    let itself : part (seller == seller) 1 ≡ 1 = rw (eq-eqb seller seller refl) refl in
    omega (
      arith,
      find-le-sum_by (λ (k : KeptOffer). cond (is_open_of seller k) 1 0) (is_offer seller number) offers kept is.found,
      one,
      itself,
    )

-- and one less once it is closed
pub closing-opens : (seller number : ℕ) (offers new : List KeptOffer) (kept : KeptOffer) (closed : State)
    → IsClosing seller number offers kept
    → is_open closed ≡ false
    → ((other : ℕ) → open_in other new + part (is_open_of other kept) 1
    ≡ open_in other offers + part (is_open_of other (kept_as (offered kept) closed)) 1)
    → (other : ℕ) → open_in other new + part (seller == other) 1 ≡ open_in other offers
closing-opens seller number offers new kept closed is not_open put other =
    let key = closing-key seller number offers kept is.found in
    omega (
      arith,
      put other,
      counts seller other kept key.0 is.unclosed,
      counts_not other (kept_as (offered kept) closed) not_open,
    )

-- what is as much less on both sides
pub record AreLess (seller : ℕ) (offers new : List KeptOffer) (opens fewer : List Amount) : Type 0 where
  pub in_order : OffersAreInOrder new
  pub opens_in_order : AreInOrder fewer
  pub offers_less : (other : ℕ) → open_in other new + part (seller == other) 1 ≡ open_in other offers
  pub opens_less : (other : ℕ) → amount_in other fewer + part (seller == other) 1 ≡ amount_in other opens

-- so the funds stay in order
pub AreKept-closed : (balances moved : List Amount) (total seller : ℕ) (offers new : List KeptOffer)
    (opens fewer : List Amount)
    → AreKept balances total offers opens
    → AreInOrder moved
    → total_in moved ≡ total_in balances
    → AreLess seller offers new opens fewer
    → AreKept moved total new fewer
AreKept-closed balances moved total seller offers new opens fewer kept ordered same less = record {
  in_order = ordered;
  total_is = kept.total_is ∙ sym same;
  limited = omega (arith, kept.limited, same);
  offers_in_order = less.in_order;
  opens_in_order = less.opens_in_order;
  opens_are = λ other. omega (arith, kept.opens_are other, less.offers_less other, less.opens_less other);
  few = λ other. omega (arith, kept.few other, less.offers_less other);
}

-- and with an offer more
pub AreKept-offered : (balances : List Amount) (total : ℕ) (offers new : List KeptOffer) (opens more : List Amount)
    (offer : Offer)
    → AreKept balances total offers opens
    → OffersAreInOrder new
    → AreInOrder more
    → ((other : ℕ) → open_in other new ≡ open_in other offers
    + part (is_open_of other (kept_as offer state.Open)) 1)
    → ((other : ℕ) → amount_in other more ≡ amount_in other opens + part (offer.seller == other) 1)
    → amount_in offer.seller opens < most_offers
    → AreKept balances total new more
AreKept-offered balances total offers new opens more offer kept ordered opens_ordered one another few =
    let count : (other : ℕ) → part (is_open_of other (kept_as offer state.Open)) 1 ≡ part (offer.seller == other) 1 =
    λ other. counts offer.seller other (kept_as offer state.Open) refl refl in
    record {
      in_order = kept.in_order;
      total_is = kept.total_is;
      limited = kept.limited;
      offers_in_order = ordered;
      opens_in_order = opens_ordered;
      opens_are = λ other. omega (arith, kept.opens_are other, one other, another other, count other);
      few = λ other. least other (offer.seller == other) refl;
    }
  where
    -- the seller had fewer, and others have no more
    least : (other : ℕ) (b : Bool) → (offer.seller == other) ≡ b → open_in other new ≤ most_offers
    least other true is =
        let own : offer.seller ≡ other = eqb-true offer.seller other is in
        let before : amount_in other opens < most_offers =
        subst (λ (s : ℕ). amount_in s opens < most_offers) own few in
        omega (
          arith,
          before,
          kept.opens_are other,
          one other,
          counts offer.seller other (kept_as offer state.Open) refl refl,
          ap (λ (b : Bool). part b 1) is,
        )
    least other false isnt =
        omega (
          arith,
          kept.few other,
          one other,
          counts offer.seller other (kept_as offer state.Open) refl refl,
          ap (λ (b : Bool). part b 1) isnt,
        )
