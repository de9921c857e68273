-- What a writer has written.
use Rattle.std.specs.Prelude.{◌≡◌, ℕ, List, false, Some}
use Rattle.std.specs.Global.{Vec}
use Rattle.csv.specs.Writing.{default_writer, fields_written, has_written, text_written, writer_setup}
use Rattle.csv.specs.declared.writer.Writer.{Writer}
use Rattle.tb_import.specs.Rows.{Fields}
use Rattle.tb_import.specs.Exports.{table_text}

-- the writer has written these records and stands between two of them
pub record HasWritten (records : List Fields) (writer : Writer (Vec ℕ)) : Type 0 where
  pub setup : writer_setup writer ≡ default_writer
  pub between : fields_written writer ≡ 0
  pub clean : has_written writer ≡ false
  pub text : text_written (λ v. Some v.items) writer ≡ Some (table_text records)
