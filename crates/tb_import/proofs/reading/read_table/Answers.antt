use Rattle.std.proofs.Common.{[]}
use Rattle.csv.specs.Records.{fields_of}
use Rattle.tb_import.proofs.TableLemmas.{bad_header, no_record}
use Rattle.tb_import.proofs.reading.read_table.Goals as goal

pub returns-then-not-found : goal.returns-then-not-found
returns-then-not-found c =
    no_record c.args.bytes.now
    (rw c.if-not-found.true at (c.in_ok-found.ensures c.args.bytes.now [] c.open-reader.ensures))

pub returns-then-not-is_header : goal.returns-then-not-is_header
returns-then-not-is_header c =
    bad_header c.args.bytes.now (fields_of c.next.new.fields) c.next.new.reader
    (rw c.if-not-found.false at (c.in_ok-found.ensures c.args.bytes.now [] c.open-reader.ensures))
    (c.is_header.ensures.no c.if-not-is_header.true)
