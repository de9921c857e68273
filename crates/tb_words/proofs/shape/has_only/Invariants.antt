use Rattle.std.proofs.Common.{◌≡◌, map, string_bytes}
use Rattle.std.specs.List.{list_all}
use Rattle.tb_words.specs.Items.{items_of, is_known}
use Rattle.tb_words.specs.Parts.{items_left, names_of}
use Rattle.tb_words.proofs.shape.has_only.Given as goal

-- no item so far is unknown
abbrev pub invariant-loop-item : goal.invariant-loop-item
invariant-loop-item l =
    (goal.iterator-loop-item).can_next l.item-iterator
    × (goal.iterator-loop-item).is_finite l.item-iterator
    × (list_all (is_known (names_of l.fn.options)) (items_of (map string_bytes l.fn.words))
    ≡ list_all (is_known (names_of l.fn.options)) (items_left l.item-iterator))
