use Rattle.tb_import.proofs.OneTableLemmas.{never_both, one_bad_record, one_table}
use Rattle.tb_import.proofs.SomeTableLemmas.{table_or_bad}
use Rattle.tb_import.proofs.laws.one_table_or_bad_record.Goals as goal

pub returns-clause-table : goal.returns-clause-table
returns-clause-table c = one_table

pub returns-clause-bad_record : goal.returns-clause-bad_record
returns-clause-bad_record c = one_bad_record

pub returns-clause-never_both : goal.returns-clause-never_both
returns-clause-never_both c = never_both

pub returns-clause-never_neither : goal.returns-clause-never_neither
returns-clause-never_neither c = table_or_bad
