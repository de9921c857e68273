-- The movements grow entry by entry.
use Rattle.tb_movements.proofs.TranslationLemmas.{movements_of-push, IsLegal-translated}
use Rattle.tb_movements.proofs.laws.entries_mean_legal_movements.Goals as goal

pub returns-clause-grows : goal.returns-clause-grows
returns-clause-grows g c = movements_of-push

pub returns-clause-legal : goal.returns-clause-legal
returns-clause-legal g c = IsLegal-translated
