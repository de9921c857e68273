use Rattle.tb_message.proofs.RecordLaws.{spelling_in-begins, spelling_in-one, spelling_in-sizes}
use Rattle.tb_message.proofs.laws.one_spelling.Goals as goal

pub returns-clause-prefix_free : goal.returns-clause-prefix_free
returns-clause-prefix_free c = spelling_in-begins

pub returns-clause-one_to_one : goal.returns-clause-one_to_one
returns-clause-one_to_one c = spelling_in-one

pub returns-clause-sizes : goal.returns-clause-sizes
returns-clause-sizes c = spelling_in-sizes
