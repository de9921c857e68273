-- When two messages are the same one: of one kind, with the same values of its members.
use Rattle.std.specs.Prelude.{Bool, true, false, ◌==◌, ◌&&◌, List, [], ◌∷◌}
use Rattle.std.specs.Ordering.{int_eq}
use Rattle.tb_message.specs.declared.message.Message.{Message}
use Rattle.tb_message.specs.Forms.{Part, text, whole, signed}
use Rattle.tb_message.specs.Kinds.{tag_of}
use Rattle.tb_message.specs.Messages.{kind_of, parts_of}
use Rattle.tb_history.specs.Entries.{is_same}

-- one value
abbrev pub same_part : Part → Part → Bool
same_part (text one) (text other) = is_same one other
same_part (whole one) (whole other) = one == other
same_part (signed one) (signed other) = int_eq one other
same_part one other = false

-- the same values in order
abbrev pub same_parts : List Part → List Part → Bool
same_parts [] [] = true
same_parts (one ∷ ones) (other ∷ others) = same_part one other && same_parts ones others
same_parts ones others = false

-- of one kind, which its tag tells, with the same values of its members
unfoldable pub same_message : Message → Message → Bool
same_message one other =
    (tag_of (kind_of one) == tag_of (kind_of other)) && same_parts (parts_of one) (parts_of other)
