use Rattle.csv.specs.Records.{fields_of}
use Rattle.tb_import.proofs.ReadLemmas.{after_read}
use Rattle.tb_import.proofs.records.next.Goals as goal

pub returns : goal.returns
returns c = λ bytes records before.
    after_read bytes records c.args.reader.now c.read_byte_record.new.self c.in-Ok.found
    (fields_of c.read_byte_record.new.row) before (c.in-Ok.ensures.reads before.untrimmed before.ready)
    (c.in-Ok.ensures.ready before.untrimmed)
