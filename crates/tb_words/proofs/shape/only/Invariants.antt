use Rattle.std.proofs.Common.{◌≡◌, map, string_bytes}
use Rattle.std.specs.Option.{option_map}
use Rattle.std.specs.List.{cons_option}
use Rattle.tb_words.specs.Items.{items_of, values_in}
use Rattle.tb_words.specs.Parts.{items_left}
use Rattle.tb_words.proofs.shape.only.Given as goal

-- the values so far are the one that was found, or none
abbrev pub invariant-loop-item : goal.invariant-loop-item
invariant-loop-item l =
    (goal.iterator-loop-item).can_next l.item-iterator
    × (goal.iterator-loop-item).is_finite l.item-iterator
    × (values_in l.fn.name (items_of (map string_bytes l.fn.words))
    ≡ cons_option (option_map (λ value. value.now) l.only) (values_in l.fn.name (items_left l.item-iterator)))
