-- Rows and their bids.
use Rattle.std.proofs.Common.{◌≡◌, ℕ, Bool, true, false, ◌==◌, ◌&&◌, map, Some, None, List, [], ◌∷◌, ◌++◌, inl, inr, refl, sym, ap, ◌∙◌, subst}
use Rattle.std.specs.List.{All, filter, position}
use Rattle.std.proofs.lemmas.Bool.{cases_Bool}
use Rattle.std.proofs.lemmas.List.{append_assoc, map-append}
use Rattle.std.proofs.lemmas.List.Elements.{All-head, All-tail, All-push}
use Rattle.tb_history.specs.declared.bids.Bid.{Bid}
use Rattle.tb_history.specs.Entries.{is_same}
use Rattle.tb_entries.specs.declared.row.BidRow.{BidRow}
use Rattle.tb_entries.specs.Rows.{name_at, bid_in, IsNumber, IsBidRow, Grown}
use Rattle.tb_entries.proofs.NumberLemmas.{name-stays, IsNumber-stays, IsOwnNumber-is, IsOwnNumber-stays, same_number, no_number}

-- those of a list that pass are made of those that pass a test that agrees
pub filter-made : {X Y : Type 0} (f : X → Y) (p : Y → Bool) (q : X → Bool) (P : X → Type 0) (xs : List X)
    → ((x : X) → P x → p (f x) ≡ q x)
    → All P xs
    → filter p (map f xs) ≡ map f (filter q xs)
filter-made f p q P [] agree all = refl
filter-made f p q P (x ∷ xs) agree all =
    let rest = filter-made f p q P xs agree (All-tail P x xs all) in
    let same = agree x (All-head P x xs all) in
    elim (cases_Bool (q x)) [
      | inl passes ↦ rw (same ∙ passes, passes) (ap (λ list. f x ∷ list) rest)
      | inr fails ↦ rw (same ∙ fails, fails) rest
    ]

-- and none where none passes
pub filter-none : {X Y : Type 0} (f : X → Y) (p : Y → Bool) (P : X → Type 0) (xs : List X)
    → ((x : X) → P x → p (f x) ≡ false)
    → All P xs
    → filter p (map f xs) ≡ []
filter-none f p P [] fails all = refl
filter-none f p P (x ∷ xs) fails all =
    let rest = filter-none f p P xs fails (All-tail P x xs all) in
    let other = fails x (All-head P x xs all) in
    rw other rest

-- no two tests pass where the second fails
and-fails : (one other : Bool) → other ≡ false → (one && other) ≡ false
and-fails true other fails = fails
and-fails false other fails = refl

-- two names are those that are sought just where they have the numbers of them
module _ (names : List (List ℕ)) (first second : List ℕ) (one other : ℕ) where
  pub two_numbers : (number place : ℕ)
      → position (λ name. is_same name first) names ≡ Some number
      → position (λ name. is_same name second) names ≡ Some place
      → IsNumber names (name_at names one) one
      → IsNumber names (name_at names other) other
      → (is_same (name_at names one) first && is_same (name_at names other) second)
      ≡ ((one == number) && (other == place))
  two_numbers number place placed also is so =
      ap (λ b. b && is_same (name_at names other) second) (same_number names _ first one number is placed)
      ∙ ap (λ b. (one == number) && b) (same_number names _ second other place so also)

  pub no_first : position (λ name. is_same name first) names ≡ None
      → IsNumber names (name_at names one) one
      → (is_same (name_at names one) first && is_same (name_at names other) second) ≡ false
  no_first none is = ap (λ b. b && is_same (name_at names other) second) (no_number names _ first one is none)

  pub no_second : position (λ name. is_same name second) names ≡ None
      → IsNumber names (name_at names other) other
      → (is_same (name_at names one) first && is_same (name_at names other) second) ≡ false
  no_second none so =
      and-fails (is_same (name_at names one) first) _ (no_number names _ second other so none)

-- a row stays a row, and its bid stays, as names are added
module _ (names more : List (List ℕ)) where
  IsBidRow-stays : (row : BidRow) → IsBidRow names row → IsBidRow (names ++ more) row
  IsBidRow-stays row is = record {
    submitter = IsOwnNumber-stays names more row.submitter is.submitter;
    auction = IsOwnNumber-stays names more row.auction is.auction;
    bidder = IsOwnNumber-stays names more row.bidder is.bidder;
  }

  bid-stays : (row : BidRow) → IsBidRow names row → bid_in (names ++ more) row ≡ bid_in names row
  bid-stays row is = λ i. record {
    submitter = name-stays names more row.submitter is.submitter.within i;
    number = row.number;
    auction = name-stays names more row.auction is.auction.within i;
    bidder = name-stays names more row.bidder is.bidder.within i;
    rate = row.rate;
    amount = row.amount;
  }

  rows-stay : (rows : List BidRow) → All (IsBidRow names) rows → All (IsBidRow (names ++ more)) rows
  rows-stay rows are place row within = IsBidRow-stays _ (are place row within)

  bids-stay : (rows : List BidRow) → All (IsBidRow names) rows
      → map (bid_in (names ++ more)) rows ≡ map (bid_in names) rows
  bids-stay [] are = refl
  bids-stay (row ∷ rows) are = λ i.
      bid-stays row (All-head (IsBidRow names) row rows are) i
      ∷ bids-stay rows (All-tail (IsBidRow names) row rows are) i

-- after a bid was added the rows are rows, and their bids are those before and this one
pub record Pushed (names now : List (List ℕ)) (rows longer : List BidRow) (bid : Bid) : Type 0 where
  pub rows_are : All (IsBidRow now) longer
  pub bids_are : map (bid_in now) longer ≡ map (bid_in names) rows ++ bid ∷ []

pub pushed : (names : List (List ℕ)) (rows : List BidRow) → All (IsBidRow names) rows
    → (bid : Bid) (one two now : List (List ℕ))
    → Grown names one → Grown one two → Grown two now
    → (submitter auction bidder : ℕ)
    → IsNumber one bid.submitter submitter
    → IsNumber two bid.auction auction
    → IsNumber now bid.bidder bidder
    → (longer : List BidRow)
    → longer ≡ rows ++ record {
      submitter = submitter;
      auction = auction;
      bidder = bidder;
      number = bid.number;
      rate = bid.rate;
      amount = bid.amount;
    } ∷ []
    → Pushed names now rows longer bid
pushed names rows are bid one two now first second third submitter auction bidder numbered told called longer added =
    let row : BidRow = record {
      submitter = submitter;
      auction = auction;
      bidder = bidder;
      number = bid.number;
      rate = bid.rate;
      amount = bid.amount;
    } in
    let behind : now ≡ one ++ (second.0 ++ third.0) =
    third.1 ∙ ap (λ (list : List (List ℕ)). list ++ third.0) second.1 ∙ append_assoc one second.0 third.0 in
    let whole : now ≡ names ++ (first.0 ++ (second.0 ++ third.0)) =
    behind ∙ ap (λ (list : List (List ℕ)). list ++ (second.0 ++ third.0)) first.1
    ∙ append_assoc names first.0 (second.0 ++ third.0) in
    let sent = subst (λ (list : List (List ℕ)). IsNumber list bid.submitter submitter) (sym behind)
    (IsNumber-stays one (second.0 ++ third.0) bid.submitter submitter numbered) in
    let asked = subst (λ (list : List (List ℕ)). IsNumber list bid.auction auction) (sym third.1)
    (IsNumber-stays two third.0 bid.auction auction told) in
    let is_row : IsBidRow now row = record {
      submitter = IsOwnNumber-is now bid.submitter submitter sent;
      auction = IsOwnNumber-is now bid.auction auction asked;
      bidder = IsOwnNumber-is now bid.bidder bidder called;
    } in
    let same : bid_in now row ≡ bid = λ i. record {
      submitter = sent.named i;
      number = bid.number;
      auction = asked.named i;
      bidder = called.named i;
      rate = bid.rate;
      amount = bid.amount;
    } in
    let still : All (IsBidRow now) rows = rw whole (rows-stay names (first.0 ++ (second.0 ++ third.0)) rows are) in
    let alike : map (bid_in now) rows ≡ map (bid_in names) rows =
    rw whole (bids-stay names (first.0 ++ (second.0 ++ third.0)) rows are) in
    record {
      rows_are = subst (λ (list : List BidRow). All (IsBidRow now) list) (sym added)
          (All-push (IsBidRow now) rows row still is_row);
      bids_are =
          ap (map (bid_in now)) added
          ∙ map-append (bid_in now) rows (row ∷ [])
          ∙ ap (λ (list : List Bid). list ++ bid_in now row ∷ []) alike
          ∙ ap (λ (last : Bid). map (bid_in names) rows ++ last ∷ []) same;
    }
