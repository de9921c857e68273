-- The bid that a row is tells the row.
use Rattle.std.proofs.Common.{◌≡◌, ℕ, ◌-◌, ◌≤◌, List, [], ◌∷◌, ◌++◌, length, take, drop, map, Bool, true, false, Option, Some, None, refl, ap, ◌∙◌, sym, arith, length-drop}
use Rattle.std.specs.Prelude.{if◌then◌else◌, min, option_map, IfSome}
use Rattle.std.specs.List.{All, list_any}
use Rattle.std.proofs.lemmas.List.{drop-map, take-map, take_all, take_min}
use Rattle.std.proofs.lemmas.List.Elements.{All-append, All-cons, All-head, All-nil, All-tail}
use Rattle.tb_units.specs.Same.{same_dollars, same_rate}
use Rattle.tb_units.specs.declared.amount.Dollars.{Dollars}
use Rattle.tb_units.specs.declared.rate.Rate.{Rate}
use Rattle.indexmap.specs.IndexSet.{insert_key}
use Rattle.tb_message.specs.declared.message.Message.{Message}
use Rattle.tb_message.specs.declared.message.Message.TheVariants as message
use Rattle.tb_import.specs.Rows.{row_of, same_row}
use Rattle.tb_import.specs.Sent.{IsInRange, amount_of, rate_of, sent_of}
use Rattle.tb_import.specs.declared.row.Row.{Row}

-- the steps of a rate are at most those of the last one
pub rate-in_range : (rate : Option Rate) → IfSome (option_map (λ r. r.steps) rate) (λ steps. steps ≤ 199999)
rate-in_range None = tt
rate-in_range (Some rate) = rate.in_range

-- a rate is that of its steps
pub rate_of-steps : (rate : Rate) → rate ≡ rate_of rate.steps
rate_of-steps rate = same_rate rate (rate_of rate.steps) (omega (arith, rate.in_range))

-- a bid of a row's rate and amount is the one that the row is
pub sent_of-row : (row : Row) (rate : Option Rate) (amount : Dollars)
    → IsInRange row
    → rate ≡ option_map rate_of row.steps
    → amount.value ≡ row.amount
    → ◌≡◌ {A = ℕ × Message} (row.number, message.Bid row.auction row.bidder rate amount) (sent_of row)
sent_of-row row rate amount within is value =
    let same : amount.value ≡ min row.amount 1000000000000 = omega (arith, value, within.amount) in
    let par : amount ≡ amount_of row.amount = same_dollars amount (amount_of row.amount) same in
    cc (is, par)

-- steps of a rate are those of the rate that they make
steps-rate_of : (steps : Option ℕ)
    → IfSome steps (λ s. s ≤ 199999)
    → option_map (λ r. r.steps) (option_map rate_of steps) ≡ steps
steps-rate_of None within = refl
steps-rate_of (Some steps) within = ap Some (omega (arith, within))

-- a row is that of its bid
pub row_of-sent_of : (row : Row) → IsInRange row → row_of (sent_of row) ≡ Some row
row_of-sent_of row within =
    let steps = steps-rate_of row.steps within.rate in
    let amount : min row.amount 1000000000000 ≡ row.amount = omega (arith, within.amount) in
    λ i. Some (record {
      number = row.number;
      auction = row.auction;
      bidder = row.bidder;
      steps = steps i;
      amount = amount i;
    })

-- and so rows are those of their bids
pub row_of-bids : (rows : List Row) → All IsInRange rows → map row_of (map sent_of rows) ≡ map Some rows
row_of-bids [] within = refl
row_of-bids (row ∷ rows) within =
    let head = row_of-sent_of row (All-head IsInRange row rows within) in
    let tail = row_of-bids rows (All-tail IsInRange row rows within) in
    cc (head, tail)

-- a row more is kept or not, and those that are kept are in range
pub All-insert : (rows : List Row) (row : Row)
    → All IsInRange rows
    → IsInRange row
    → All IsInRange (insert_key same_row rows row)
All-insert rows row within one = kept (list_any (same_row row) rows)
  where
    kept : (present : Bool) → All IsInRange (if present then rows else rows ++ row ∷ [])
    kept true = within
    kept false = All-append IsInRange rows (row ∷ []) within (All-cons IsInRange row [] one (All-nil IsInRange))

-- the bids of the rows from a place on, as many as are asked for or all that are left, are a run of the bids
pub run-bids : (rows : List Row) (run bids : List (ℕ × Message)) (place most count index : ℕ)
    → run ≡ map sent_of (take index (take count (take (length rows - place) (drop place rows))))
    → length (take count (take (length rows - place) (drop place rows))) ≤ index
    → count ≡ min most (length (take (length rows - place) (drop place rows)))
    → map sent_of rows ≡ bids
    → run ≡ take most (drop place bids)
run-bids rows run bids place most count index is all few same =
    let left = take (length rows - place) (drop place rows) in
    let rest : left ≡ drop place rows =
    take_all (length rows - place) (drop place rows) (omega (arith, length-drop place rows)) in
    let whole : take index (take count left) ≡ take most (drop place rows) =
    take_all index (take count left) all
    ∙ (ap (λ (n : ℕ). take n left) few ∙ (take_min most left ∙ ap (take most) rest)) in
    is
    ∙ (ap (λ (some : List Row). map sent_of some) whole
    ∙ (sym (take-map sent_of most (drop place rows))
    ∙ (ap (take most) (sym (drop-map sent_of place rows))
    ∙ ap (λ (b : List (ℕ × Message)). take most (drop place b)) same)))
