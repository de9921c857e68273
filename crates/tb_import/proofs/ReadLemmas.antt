-- One record more.
use Rattle.std.proofs.Common.{Bor, ◌≡◌, ℕ, List, [], ◌∷◌, ◌++◌, Bool, true, false, Some, inl, ◌∙◌}
use Rattle.std.specs.Prelude.{MatchBool}
use Rattle.csv.specs.Reading.{ReadRecord, default_config, strip_bom}
use Rattle.csv.specs.declared.reader.Reader.{Reader}
use Rattle.csv.specs.declared.parser.State.TheVariants as st
use Rattle.csv.proofs.ReadFacts.{rows-end, rows-more}
use Rattle.tb_import.specs.Rows.{Fields}
use Rattle.tb_import.specs.Tables.{AreRecordsOf, HasRead}

-- a read that finds a record adds it to those that were read; one that finds none ends them
pub after_read : (bytes : List ℕ) (records : List Fields) (old new : Reader (Bor (List ℕ))) (found : Bool)
    (fields : Fields)
    → HasRead bytes records old
    → ReadRecord (λ s. Some s.now) old new found fields
    → new.first ≡ true
    → MatchBool found (HasRead bytes (records ++ fields ∷ []) new) (AreRecordsOf bytes records)
after_read bytes records old new true fields before read first =
    let more = rows-more (λ (s : Bor (List ℕ)). Some s.now) old new fields default_config st.StartRecord
    (strip_bom bytes) before.left records before.plain before.source before.reached read in
    record {
      untrimmed = read.3 ∙ before.untrimmed;
      ready = inl first;
      plain = read.2 ∙ before.plain;
      left = more.0;
      source = more.1;
      reached = more.2;
    }
after_read bytes records old new false fields before read first = (
  old.state,
  before.left,
  before.reached,
  rows-end (λ (s : Bor (List ℕ)). Some s.now) old new fields default_config before.left before.plain before.source read,
)
