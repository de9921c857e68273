use Rattle.tb_import.proofs.ExportLemmas.{plain_award, plain_add_on, plain_holding}
use Rattle.tb_import.proofs.laws.exports_are_plain.Goals as goal

pub returns-clause-awards : goal.returns-clause-awards
returns-clause-awards c = plain_award

pub returns-clause-add_ons : goal.returns-clause-add_ons
returns-clause-add_ons c = plain_add_on

pub returns-clause-holdings : goal.returns-clause-holdings
returns-clause-holdings c = plain_holding
