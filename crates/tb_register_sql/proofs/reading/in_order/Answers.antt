-- The rows that were read, moved by the sort.
use Rattle.std.proofs.Common.{map, subst}
use Rattle.std.specs.List.Sorted.{IsPermutation}
use Rattle.std.proofs.lemmas.List.Sorted.{IsPermutation-map}
use Rattle.tb_register.specs.Rows.{kept}
use Rattle.tb_register_sql.proofs.reading.in_order.Goals as goal

pub returns-clause-moved : goal.returns-clause-moved
returns-clause-moved c =
    subst (λ rows. IsPermutation rows (map kept c.sort.new.rows.items)) c.in_ok-rows.ensures.read
    (IsPermutation-map kept c.in_ok-rows.rows.items c.sort.new.rows.items c.sort.ensures.moved)
