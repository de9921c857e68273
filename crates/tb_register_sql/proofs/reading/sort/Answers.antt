-- The closure gives each row's name.
use Rattle.std.proofs.Common.{rules}
use Rattle.tb_register_sql.proofs.BillLemmas.{sorted_by_names}
use Rattle.tb_register_sql.proofs.reading.sort.Goals as goal

pub returns-clause-sorted : goal.returns-clause-sorted
returns-clause-sorted c =
    sorted_by_names _ _ c.sort_by_key.result c.sort_by_key.new.self.items c.sort_by_key.ensures.sorted
    (λ f a name f' called. search rules)
