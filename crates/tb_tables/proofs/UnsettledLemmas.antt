-- A bill's auctions from the last back to the first, to find the first that isn't settled.
use Rattle.std.proofs.Common.{◌≡◌, ℕ, ◌-◌, ◌<◌, ◌∙◌, ◌&&◌, not, Bool, true, cond, Option, Some, List, get_or, take, sym, ap, subst, arith}
use Rattle.std.specs.List.{HoldsAt}
use Rattle.std.proofs.lemmas.Bool.{and_parts}
use Rattle.tb_index.specs.Indexes.{end_by}
use Rattle.tb_terms.specs.declared.terms.Terms.{Terms}
use Rattle.tb_history.specs.Entries.{is_same}
use Rattle.tb_history.specs.Roster.{is_named}
use Rattle.tb_history.proofs.SameLemmas.{is_same-equal}
use Rattle.tb_tables.proofs.BehindLemmas.{IsFirstBehind, IsFirstBehind-step}

-- the auction is of the bill of these bytes
abbrev pub is_of : List ℕ → Terms → Bool
is_of bytes t = is_same t.announcement.cusip.bytes bytes

-- and it isn't settled
abbrev pub is_open : List ℕ → List (List ℕ) → Terms → Bool
is_open bytes settled t = is_of bytes t && not (is_named settled t.announcement.auction)

-- an auction of the bill that isn't settled is of the bill
pub open-of : (bytes : List ℕ) (settled : List (List ℕ)) (t : Terms)
    → is_open bytes settled t ≡ true
    → is_of bytes t ≡ true
open-of bytes settled t both = (and_parts (is_of bytes t) (not (is_named settled t.announcement.auction)) both).0

-- the auction before the end is of the bill, so the end of its own bill in what stands before it is the bill's
pub own-end : (bytes : List ℕ) (settled : List (List ℕ)) (auctions : List Terms) (end next : ℕ) (t : Terms)
    (first : Option Terms)
    → IsFirstBehind (is_of bytes) (is_open bytes settled) auctions end first
    → 0 < end
    → HoldsAt (λ (own : Terms). next ≡ end_by (is_of own.announcement.cusip.bytes) (take (end - 1) auctions)) auctions
    (end - 1)
    → next ≡ end_by (is_of bytes) (take (end - 1) auctions)
own-end bytes settled auctions end next t first so_far some link =
    let own : Terms = get_or auctions (end - 1) t in
    subst (λ (name : List ℕ). next ≡ end_by (is_of name) (take (end - 1) auctions))
    (is_same-equal own.announcement.cusip.bytes bytes (so_far.passes (end - 1) t (omega (arith, some)))) (link t)

-- one auction more is looked at
pub open-step : (bytes : List ℕ) (settled : List (List ℕ)) (auctions : List Terms) (end next : ℕ) (t : Terms)
    (first found : Option Terms)
    → IsFirstBehind (is_of bytes) (is_open bytes settled) auctions end first
    → 0 < end
    → t ≡ get_or auctions (end - 1) t
    → HoldsAt (λ (own : Terms). next ≡ end_by (is_of own.announcement.cusip.bytes) (take (end - 1) auctions)) auctions
    (end - 1)
    → found ≡ cond (not (is_named settled t.announcement.auction)) (Some t) first
    → IsFirstBehind (is_of bytes) (is_open bytes settled) auctions next found
open-step bytes settled auctions end next t first found so_far some is link chosen =
    let passes : is_of bytes t ≡ true = ap (is_of bytes) is ∙ so_far.passes (end - 1) t (omega (arith, some)) in
    subst (λ (o : Option Terms). IsFirstBehind (is_of bytes) (is_open bytes settled) auctions next o)
    (ap (λ b. cond (b && not (is_named settled t.announcement.auction)) (Some t) first) passes ∙ sym chosen)
    (IsFirstBehind-step (is_of bytes) (is_open bytes settled) auctions end next t first (open-of bytes settled) so_far
    some is
    (own-end bytes settled auctions end next t first so_far some link))
