-- Each clause is a lemma on tables.
use Rattle.tb_register.proofs.MemberLemmas.{tables_are_one}
use Rattle.tb_register.proofs.RegisterLemmas.{registers, registered_again}
use Rattle.tb_register.proofs.register.registers_are_one.Goals as goal

pub returns-clause-tables : goal.returns-clause-tables
returns-clause-tables c one other is is' same =
    tables_are_one one other is is' (λ row. (same row).0) (λ row. (same row).1)

pub returns-clause-registered : goal.returns-clause-registered
returns-clause-registered c table rows is apart = registers table rows is apart

pub returns-clause-again : goal.returns-clause-again
returns-clause-again c table rows = registered_again table rows
