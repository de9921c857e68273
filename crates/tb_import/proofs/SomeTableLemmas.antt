-- Bytes that are no table have a first bad record.
use Rattle.std.proofs.Common.{◌≡◌, ◌≢◌, ℕ, ◌+◌, ◌-◌, ◌*◌, ◌^◌, ◌<◌, ◌≤◌, ◌⊎◌, List, [], ◌∷◌, ◌++◌, length, map, refl}
use Rattle.std.proofs.Common.{Bool, true, false, Option, Some, None, inl, inr, subst, sym, zero, suc, arith}
use Rattle.std.proofs.Common.{length-append}
use Rattle.std.specs.Prelude.{fold, if◌then◌else◌, IfSome}
use Rattle.std.specs.List.{All, after_first, before_first, list_any}
use Rattle.std.specs.Option.{option_and_then, option_map}
use Rattle.std.proofs.lemmas.Bool.{cases_lt}
use Rattle.std.proofs.lemmas.List.Elements.{All-nil}
use Rattle.csv.proofs.ReadFacts.{reached-more}
use Rattle.csv.specs.Machine.{Read, next_record}
use Rattle.csv.specs.Reading.{Reached, default_config, strip_bom}
use Rattle.csv.specs.declared.parser.State.{State}
use Rattle.csv.specs.declared.parser.State.TheVariants as st
use Rattle.indexmap.specs.IndexSet.{insert_key}
use Rattle.tb_units.proofs.RateLemmas.{short_numeral_of-below, short_numeral_of-small}
use Rattle.tb_units.specs.Rates.{is_point, short_numeral_of, thousandths_of, thousandths_of_decimals}
use Rattle.tb_message.specs.declared.message.Message.{Message}
use Rattle.tb_import.specs.declared.row.Row.{Row}
use Rattle.tb_import.specs.Rows.{AreRowsOf, Fields, IsRateOf, IsRowOf, Text, first_seen, same_row}
use Rattle.tb_import.specs.Sent.{IsInRange, sent_of}
use Rattle.tb_import.specs.Tables.{IsFirstBad, IsTable, header, most_bytes, most_rows}
use Rattle.tb_import.proofs.RowLemmas.{AreRowsOf-append}
use Rattle.tb_import.proofs.SentLemmas.{All-insert, row_of-bids}

-- a number below a thousand, and one below a million
abbrev AreThousandths : ℕ → Type 0
AreThousandths number = number < 1000

abbrev AreFew : ℕ → Type 0
AreFew number = number < 1000000

-- what so many digits write, with zeros up to the third
scaled : (found : Option ℕ) (size places : ℕ)
    → places ≡ 3 - size
    → IfSome found AreThousandths
    → IfSome found (λ number. number < 10 ^ size)
    → IfSome (option_map (λ number. number * 10 ^ places) found) AreThousandths
scaled None size places is small below = tt
scaled (Some number) size zero is small below = omega (arith, small)
scaled (Some number) size (suc zero) is small below =
    let two : size ≡ 2 = omega (arith, is) in
    let fits : number < 10 ^ 2 = subst (λ (digits : ℕ). number < 10 ^ digits) two below in
    omega (arith, fits)
scaled (Some number) size (suc (suc zero)) is small below =
    let one : size ≡ 1 = omega (arith, is) in
    let fits : number < 10 ^ 1 = subst (λ (digits : ℕ). number < 10 ^ digits) one below in
    omega (arith, fits)
scaled (Some number) size (suc (suc (suc zero))) is small below =
    let none : size ≡ 0 = omega (arith, is) in
    let fits : number < 10 ^ 0 = subst (λ (digits : ℕ). number < 10 ^ digits) none below in
    omega (arith, fits)
scaled (Some number) size (suc (suc (suc (suc more)))) is small below = absurd (omega (arith, is))

-- decimals stand for less than a whole percent
decimals-few : (decimals : List ℕ) → IfSome (thousandths_of_decimals decimals) AreThousandths
decimals-few decimals =
    scaled (short_numeral_of decimals) (length decimals) (3 - length decimals) refl (short_numeral_of-small decimals)
    (short_numeral_of-below decimals)

-- whole percents alone, and with decimals
whole-few : (whole : Option ℕ) → IfSome whole AreThousandths → IfSome (option_map (λ one. 1000 * one) whole) AreFew
whole-few None small = tt
whole-few (Some whole) small = omega (arith, small)

parts-few : (whole decimals : Option ℕ)
    → IfSome whole AreThousandths
    → IfSome decimals AreThousandths
    → IfSome (option_and_then (λ one. option_map (λ thousandths. 1000 * one + thousandths) decimals) whole) AreFew
parts-few None decimals small few = tt
parts-few (Some whole) None small few = tt
parts-few (Some whole) (Some decimals) small few = omega (arith, small, few)

-- of two texts either one
either-few : (test : Bool) (one other : Option ℕ)
    → IfSome one AreFew
    → IfSome other AreFew
    → IfSome (if test then one else other) AreFew
either-few true one other few few' = few
either-few false one other few few' = few'

-- what a text stands for is below a thousand percent
thousandths-few : (text : List ℕ) → IfSome (thousandths_of text) AreFew
unfolding thousandths_of
thousandths-few text = either-few (list_any is_point text) _ _
    (parts-few (short_numeral_of (before_first is_point text)) (thousandths_of_decimals (after_first is_point text))
    (short_numeral_of-small (before_first is_point text))
    (decimals-few (after_first is_point text)))
    (whole-few (short_numeral_of text) (short_numeral_of-small text))

-- so the rate of a row is one that a message has
rate-few : (steps : Option ℕ) (text : Text) → IsRateOf steps text → IfSome steps (λ some. some ≤ 199999)
rate-few None text is = tt
rate-few (Some steps) text is =
    let few : 5 * steps < 1000000 = subst (λ (found : Option ℕ). IfSome found AreFew) is.1 (thousandths-few text) in
    omega (arith, few)

-- and so are the values of a row
row-in_range : (fields : Fields) (row : Row) → IsRowOf fields row → IsInRange row
row-in_range [] row is = absurd is
row-in_range (number ∷ []) row is = absurd is
row-in_range (number ∷ auction ∷ []) row is = absurd is
row-in_range (number ∷ auction ∷ bidder ∷ []) row is = absurd is
row-in_range (number ∷ auction ∷ bidder ∷ rate ∷ []) row is = absurd is
row-in_range (number ∷ auction ∷ bidder ∷ rate ∷ amount ∷ []) row is = record {
  rate = rate-few row.steps rate is.3;
  amount = is.4.1;
}
row-in_range (number ∷ auction ∷ bidder ∷ rate ∷ amount ∷ other ∷ others) row is = absurd is

-- and those of all rows that are kept
rows-in_range : (records : List Fields) (rows kept : List Row)
    → AreRowsOf records rows
    → All IsInRange kept
    → All IsInRange (fold (λ seen row. insert_key same_row seen row) kept rows)
rows-in_range [] [] kept are within = within
rows-in_range [] (row ∷ rows) kept are within = absurd are
rows-in_range (fields ∷ records) [] kept are within = absurd are
rows-in_range (fields ∷ records) (row ∷ rows) kept are within =
    rows-in_range records rows (insert_key same_row kept row) are.1
    (All-insert kept row within (row-in_range fields row are.0))

-- what is read at a place
read_or_end : (found : Option Read) → (found ≡ None) ⊎ ((read : Read) × (found ≡ Some read))
read_or_end None = inl refl
read_or_end (Some read) = inr (read, refl)

module _ (bytes : Text)
    (no_table : (sent : List (ℕ × Message)) → ¬ (IsTable bytes sent))
    (no_bad : (place : ℕ) → ¬ (IsFirstBad bytes place))
    (few : length bytes ≤ most_bytes)
  where
    -- a header and rows aren't all records
    not_all : (records : List Fields) (rows : List Row) (state : State) (left : Text)
        → length records ≤ most_rows
        → Reached default_config st.StartRecord (strip_bom bytes) (header ∷ records) state left
        → AreRowsOf records rows
        → next_record default_config state [] [] left ≢ None
    not_all records rows state left within reached read ended = no_table (map sent_of (first_seen rows)) (record {
      records = records;
      rows = rows;
      few_bytes = few;
      few_rows = within;
      all = (state, left, reached, ended);
      read = read;
      distinct = row_of-bids (first_seen rows) (rows-in_range records rows [] read (All-nil IsInRange));
    })

    -- and the next one behind them isn't bad
    not_bad : (records : List Fields) (rows : List Row) (state : State) (left : Text) (next : Read)
        → length records ≤ most_rows
        → Reached default_config st.StartRecord (strip_bom bytes) (header ∷ records) state left
        → AreRowsOf records rows
        → next_record default_config state [] [] left ≡ Some next
        → ¬ ((length records ≡ most_rows) ⊎ ((row : Row) → ¬ (IsRowOf next.0 row)))
    not_bad records rows state left next within reached read is cause = no_bad (length records + 2) (inr (record {
      records = records;
      rows = rows;
      bad = next.0;
      few_bytes = few;
      begins = (
        next.1,
        next.2,
        reached-more default_config st.StartRecord state (strip_bom bytes) left (header ∷ records) next reached is,
      );
      read = read;
      within = within;
      cause = cause;
      here = refl;
    }))

    -- so there is one more row, and then one too many
    more_rows : (room : ℕ) (records : List Fields) (rows : List Row) (state : State) (left : Text)
        → room + length records ≡ most_rows
        → Reached default_config st.StartRecord (strip_bom bytes) (header ∷ records) state left
        → AreRowsOf records rows
        → ⊥
    more_rows zero records rows state left counted reached read =
        elim (read_or_end (next_record default_config state [] [] left)) [
          | inl ended ↦ not_all records rows state left (omega (arith, counted)) reached read ended
          | inr next ↦
              not_bad records rows state left next.0 (omega (arith, counted)) reached read next.1
              (inl (omega (arith, counted)))
        ]
    more_rows (suc room) records rows state left counted reached read =
        elim (read_or_end (next_record default_config state [] [] left)) [
          | inl ended ↦ not_all records rows state left (omega (arith, counted)) reached read ended
          | inr next ↦
              not_bad records rows state left next.0 (omega (arith, counted)) reached read next.1
              (inr (λ row is_row.
              more_rows room (records ++ next.0.0 ∷ []) (rows ++ row ∷ []) next.0.1 next.0.2
              (omega (arith, length-append records (next.0.0 ∷ []), counted))
              (reached-more default_config st.StartRecord state (strip_bom bytes) left (header ∷ records) next.0 reached
              next.1)
              (AreRowsOf-append records rows next.0.0 row read is_row)))
        ]

-- bytes that are no table have a first bad record
pub table_or_bad : (bytes : Text)
    → ((sent : List (ℕ × Message)) → ¬ (IsTable bytes sent))
    → ¬ ((place : ℕ) → ¬ (IsFirstBad bytes place))
unfolding Reached
table_or_bad bytes no_table no_bad = elim (cases_lt most_bytes (length bytes)) [
  | inl many ↦ no_bad 1 (inl (inl many, refl))
  | inr few ↦ elim (read_or_end (next_record default_config st.StartRecord [] [] (strip_bom bytes))) [
    | inl ended ↦
        no_bad 1 (inl (inr (inl (st.StartRecord, strip_bom bytes, (refl, refl), ended)), refl))
    | inr first ↦
        no_bad 1 (inl (
          inr (inr (
            first.0.0,
            (first.0.1, first.0.2, (first.0, first.1, refl, (refl, refl))),
            λ is. more_rows bytes no_table no_bad few most_rows [] [] first.0.1 first.0.2 refl
                (first.0, first.1, sym is, (refl, refl)) tt,
          )),
          refl,
        ))
  ]
]
