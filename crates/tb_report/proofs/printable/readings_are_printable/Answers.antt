-- By the kind of the reading.
use Rattle.tb_report.proofs.PrintableLemmas.{IsPrintable-reading}
use Rattle.tb_report.proofs.printable.readings_are_printable.Goals as goal

pub returns : goal.returns
returns c history caller query reading legal is = IsPrintable-reading history caller query reading legal is
