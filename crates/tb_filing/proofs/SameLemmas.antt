-- Rows are told by what a table keeps of them.
use Rattle.std.proofs.Common.{◌≡◌, ◌≤◌, ◌^◌, ◌==◌, ◌&&◌, Bool, true, Option, Some, None, bytes_eq, refl, ap}
use Rattle.std.specs.Option.{option_eq, option_map}
use Rattle.std.proofs.lemmas.Bool.{and_parts, eqb-true}
use Rattle.std.proofs.Math.Bridge.{le_prop}
use mathlib.Core.HLevel.{is_prop→PathP}
use Rattle.tb_units.specs.declared.percent.Percent.{Percent}
use Rattle.tb_units.specs.declared.price.Price.{Price}
use Rattle.tb_units.specs.Same.{same_day, same_dollars, same_rate}
use Rattle.tb_terms.specs.Same.{same_cusip}
use Rattle.tb_register.specs.declared.row.Row.{Row}
use Rattle.tb_register.specs.declared.row.RowFigures.{RowFigures}
use Rattle.tb_register.specs.Rows.{Kept, KeptFigures, kept, kept_figures}
use Rattle.tb_register.proofs.OrderLemmas.{same_name}

-- percentages of one number of hundredths are one
same_percent : (one other : Percent) → one.hundredths ≡ other.hundredths → one ≡ other
same_percent one other same = λ i. record {
  hundredths = same i;
  above_zero = is_prop→PathP (λ j. 1 ≤ same j) (λ j. le_prop) one.above_zero other.above_zero i;
  in_range = is_prop→PathP (λ j. same j ≤ 10000) (λ j. le_prop) one.in_range other.in_range i;
}

-- prices of one number of millionths are one
same_price : (one other : Price) → one.millionths ≡ other.millionths → one ≡ other
same_price one other same = λ i. record {
  millionths = same i;
  above_zero = is_prop→PathP (λ j. 1 ≤ same j) (λ j. le_prop) one.above_zero other.above_zero i;
  in_range = is_prop→PathP (λ j. same j ≤ 10 ^ 8) (λ j. le_prop) one.in_range other.in_range i;
}

-- so are figures
same_figures : (one other : Option RowFigures)
    → option_map kept_figures one ≡ option_map kept_figures other
    → one ≡ other
same_figures None None same = refl
same_figures None (Some other) same = absurd (cc (same))
same_figures (Some one) None same = absurd (cc (same))
same_figures (Some one) (Some other) same =
    let are : kept_figures one ≡ kept_figures other = cc (same) in
    λ i. Some (record {
      high = same_rate one.high other.high (ap (λ (f : KeptFigures). f.high) are) i;
      percent = same_percent one.percent other.percent (ap (λ (f : KeptFigures). f.percent) are) i;
      price = same_price one.price other.price (ap (λ (f : KeptFigures). f.price) are) i;
    })

-- and rows
pub same_row : (one other : Row) → kept one ≡ kept other → one ≡ other
same_row one other same =
    let offering = same_dollars one.offering other.offering (ap (λ (k : Kept). k.offering) same) in
    let total = same_dollars one.total other.total (ap (λ (k : Kept). k.total) same) in
    λ i. record {
      auction = ap (λ (k : Kept). k.auction) same i;
      cusip = same_cusip one.cusip other.cusip (ap (λ (k : Kept). k.cusip) same) i;
      issue = same_day one.issue other.issue (ap (λ (k : Kept). k.issue) same) i;
      maturity = same_day one.maturity other.maturity (ap (λ (k : Kept). k.maturity) same) i;
      offering = offering i;
      total = total i;
      figures = same_figures one.figures other.figures (ap (λ (k : Kept). k.figures) same) i;
      offering_fits =
          is_prop→PathP (λ j. (offering j).value ≤ 10 ^ 17) (λ j. le_prop) one.offering_fits other.offering_fits i;
      total_fits = is_prop→PathP (λ j. (total j).value ≤ 10 ^ 17) (λ j. le_prop) one.total_fits other.total_fits i;
    }

-- what `==` says of figures
abbrev are_equal_figures : RowFigures → RowFigures → Bool
are_equal_figures one other =
    (one.high.steps == other.high.steps)
    && ((one.percent.hundredths == other.percent.hundredths) && (one.price.millionths == other.price.millionths))

-- and of rows
abbrev are_equal_rows : Row → Row → Bool
are_equal_rows one other =
    bytes_eq one.auction other.auction
    && (bytes_eq one.cusip.bytes other.cusip.bytes
    && ((one.issue.number == other.issue.number)
    && ((one.maturity.number == other.maturity.number)
    && ((one.offering.value == other.offering.value)
    && ((one.total.value == other.total.value)
    && option_eq are_equal_figures one.figures other.figures)))))

-- figures that are equal are kept as one
equal_figures : (one other : Option RowFigures)
    → option_eq are_equal_figures one other ≡ true
    → option_map kept_figures one ≡ option_map kept_figures other
equal_figures None None equal = refl
equal_figures None (Some other) equal = absurd (cc (equal))
equal_figures (Some one) None equal = absurd (cc (equal))
equal_figures (Some one) (Some other) equal =
    let high = and_parts (one.high.steps == other.high.steps) _ equal in
    let rest = and_parts (one.percent.hundredths == other.percent.hundredths) _ high.1 in
    λ i. Some (record {
      high = eqb-true one.high.steps other.high.steps high.0 i;
      percent = eqb-true one.percent.hundredths other.percent.hundredths rest.0 i;
      price = eqb-true one.price.millionths other.price.millionths rest.1 i;
    })

-- and so are rows
pub equal_rows : (one other : Row) → are_equal_rows one other ≡ true → kept one ≡ kept other
equal_rows one other equal =
    let auction = and_parts (bytes_eq one.auction other.auction) _ equal in
    let cusip = and_parts (bytes_eq one.cusip.bytes other.cusip.bytes) _ auction.1 in
    let issue = and_parts (one.issue.number == other.issue.number) _ cusip.1 in
    let maturity = and_parts (one.maturity.number == other.maturity.number) _ issue.1 in
    let offering = and_parts (one.offering.value == other.offering.value) _ maturity.1 in
    let total = and_parts (one.total.value == other.total.value) _ offering.1 in
    λ i. record {
      auction = same_name one.auction other.auction auction.0 i;
      cusip = same_name one.cusip.bytes other.cusip.bytes cusip.0 i;
      issue = eqb-true one.issue.number other.issue.number issue.0 i;
      maturity = eqb-true one.maturity.number other.maturity.number maturity.0 i;
      offering = eqb-true one.offering.value other.offering.value offering.0 i;
      total = eqb-true one.total.value other.total.value total.0 i;
      figures = equal_figures one.figures other.figures total.1 i;
    }
