-- What is read of a lock as it is closed.
use Rattle.std.specs.Prelude.{◌≡◌, ℕ, List, Option}
use mathlib.Core.Option.{some}
use lib.ListN.{get_elem?}
use Rattle.atomic_table.specs.Table.{Final, Seen}
use Rattle.tb_lock.specs.declared.view.View.{View}
use Rattle.tb_lock.specs.Meanings.{Meanings}
use Rattle.tb_lock.specs.Rule.{Rule}

-- the table came to an end in these words and slots, as the last view saw it; read were the numbers of the next ticket
-- and of the turn, and what stood in the slot
pub record IsLeft {T : Type 0} (m : Meanings T) (id : ℕ) (last : View) (ticket serving : ℕ) (slot : Option T)
    : Type 0 where
  pub words : List ℕ
  pub slots : List (Option T)
  pub final : Final (Seen (Rule m) id last) words slots
  pub first : get_elem? words 0 ≡ some ticket
  pub second : get_elem? words 1 ≡ some serving
  pub there : get_elem? slots 0 ≡ some slot
