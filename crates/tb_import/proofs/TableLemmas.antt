-- Tables that end, and tables with a bad record.
use Rattle.std.proofs.Common.{Bor, ◌≡◌, ◌≢◌, ℕ, ◌+◌, ◌≤◌, List, [], ◌∷◌, ◌++◌, length}
use Rattle.std.proofs.Common.{map, Some, refl, ap, ◌∙◌, sym, inl, inr, arith}
use Rattle.std.specs.Prelude.{◌⊎◌}
use Rattle.std.specs.List.{All}
use Rattle.csv.specs.declared.reader.Reader.{Reader}
use Rattle.tb_import.specs.declared.row.Row.{Row}
use Rattle.tb_import.specs.Rows.{Fields, AreRowsOf, IsRowOf, first_seen}
use Rattle.tb_import.specs.Sent.{IsInRange, sent_of}
use Rattle.tb_import.specs.Tables.{AreRecordsOf, HasRead, IsFirstBad, IsTable, header, most_bytes}
use Rattle.tb_import.proofs.SentLemmas.{row_of-bids}

-- where the records end, the bids of the rows kept are those of the table
pub table_ends : (bytes : List ℕ) (records : List Fields) (rows keys : List Row)
    → length bytes ≤ most_bytes
    → length records + 2 ≤ 1000001
    → AreRecordsOf bytes (header ∷ records)
    → AreRowsOf records rows
    → keys ≡ first_seen rows
    → All IsInRange keys
    → IsTable bytes (map sent_of keys)
table_ends bytes records rows keys few small all read kept within = record {
  records = records;
  rows = rows;
  few_bytes = few;
  few_rows = omega (arith, small);
  all = all;
  read = read;
  distinct = row_of-bids keys within ∙ ap (λ (k : List Row). map Some k) kept;
}

-- the record that was read last is the first bad one, where it is no row or one too many
pub bad_row : (bytes : List ℕ) (records : List Fields) (rows : List Row) (bad : Fields) (reader : Reader (Bor (List ℕ)))
    (place : ℕ)
    → length bytes ≤ most_bytes
    → HasRead bytes (header ∷ records ++ bad ∷ []) reader
    → AreRowsOf records rows
    → length records + 2 ≡ place
    → place ≤ 1000001
    → (place ≡ 1000001) ⊎ ((row : Row) → ¬ (IsRowOf bad row))
    → IsFirstBad bytes place
bad_row bytes records rows bad reader place few begun read here small cause = inr (record {
  records = records;
  rows = rows;
  bad = bad;
  few_bytes = few;
  begins = (reader.state, begun.left, begun.reached);
  read = read;
  within = omega (arith, here, small);
  cause = elim cause [ inl last ↦ inl (omega (arith, here, last)) | inr other ↦ inr other ];
  here = sym here;
})

-- a first record that isn't the header is bad
pub bad_header : (bytes : List ℕ) (first : Fields) (reader : Reader (Bor (List ℕ)))
    → HasRead bytes (first ∷ []) reader
    → first ≢ header
    → IsFirstBad bytes 1
bad_header bytes first reader begun other =
    inl (inr (inr (first, (reader.state, begun.left, begun.reached), other)), refl)

-- where there is no record, the first is bad
pub no_record : (bytes : List ℕ) → AreRecordsOf bytes [] → IsFirstBad bytes 1
no_record bytes none = inl (inr (inl none), refl)
