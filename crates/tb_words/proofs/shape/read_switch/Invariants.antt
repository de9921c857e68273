use Rattle.std.proofs.Common.{◌≡◌, ◌+◌, map, string_bytes}
use Rattle.std.specs.Prelude.{count_by}
use Rattle.tb_words.specs.Items.{items_of, is_csv}
use Rattle.tb_words.specs.Lines.{times}
use Rattle.tb_words.specs.Parts.{items_left}
use Rattle.tb_words.proofs.shape.read_switch.Given as goal

-- the switch stood as often as was seen
abbrev pub invariant-loop-item : goal.invariant-loop-item
invariant-loop-item l =
    (goal.iterator-loop-item).can_next l.item-iterator
    × (goal.iterator-loop-item).is_finite l.item-iterator
    × (count_by is_csv (items_of (map string_bytes l.fn.words))
    ≡ times l.csv + count_by is_csv (items_left l.item-iterator))
