use Rattle.std.proofs.Common.{◌≡◌, ◌++◌, map, string_bytes}
use Rattle.tb_words.specs.Items.{items_of, places_in}
use Rattle.tb_words.specs.Parts.{items_left, texts_of}
use Rattle.tb_words.proofs.shape.read_places.Given as goal

-- the positional words so far are those that were read
abbrev pub invariant-loop-item : goal.invariant-loop-item
invariant-loop-item l =
    (goal.iterator-loop-item).can_next l.item-iterator
    × (goal.iterator-loop-item).is_finite l.item-iterator
    × (places_in (items_of (map string_bytes l.fn.words)) ≡ texts_of l.places ++ places_in (items_left l.item-iterator))
