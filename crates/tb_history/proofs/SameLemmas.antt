-- Two messages are the same one just where they are equal.
use Rattle.std.proofs.Common.{◌≡◌, ℕ, true, ◌==◌, List, [], ◌∷◌, refl, sym, ap}
use Rattle.std.proofs.lemmas.Bool.{and_parts, eqb-true, eq-eqb}
use Rattle.std.proofs.lemmas.Bool.Decides.{Decides-int_eq}
use Rattle.std.proofs.lemmas.Slice.Eq.{bytes_eq-Decides}
use Rattle.tb_message.specs.declared.message.Message.{Message}
use Rattle.tb_message.specs.Forms.{Part, text, whole, signed}
use Rattle.tb_message.specs.Kinds.{tag_of}
use Rattle.tb_message.specs.Messages.{kind_of, parts_of}
use Rattle.tb_message.proofs.RecordLaws.{tag_of-one}
use Rattle.tb_message.proofs.Same.{messages}
use Rattle.tb_history.specs.Entries.{is_same}
use Rattle.tb_history.specs.Same.{same_part, same_parts, same_message}

-- names that are the same are equal
pub is_same-equal : (one other : List ℕ) → is_same one other ≡ true → one ≡ other
is_same-equal one other same = (bytes_eq-Decides one other).0 same

-- a name is the same as itself
pub is_same-refl : (name : List ℕ) → is_same name name ≡ true
is_same-refl name = (bytes_eq-Decides name name).1 refl

-- the same either way round
pub is_same-sym : (one other : List ℕ) → is_same one other ≡ true → is_same other one ≡ true
is_same-sym one other same = (bytes_eq-Decides other one).1 (sym (is_same-equal one other same))

-- a value is the same as itself
same_part-refl : (part : Part) → same_part part part ≡ true
same_part-refl (text t) = is_same-refl t
same_part-refl (whole n) = eq-eqb n n refl
same_part-refl (signed z) = (Decides-int_eq z z).1 refl

-- and so are values in order
same_parts-refl : (parts : List Part) → same_parts parts parts ≡ true
same_parts-refl [] = refl
same_parts-refl (part ∷ parts) = rw (same_part-refl part, same_parts-refl parts) refl

-- a message is the same as itself
pub same_message-refl : (sent : Message) → same_message sent sent ≡ true
unfolding same_message
same_message-refl sent =
    rw (eq-eqb (tag_of (kind_of sent)) (tag_of (kind_of sent)) refl, same_parts-refl (parts_of sent)) refl

-- values that are the same are equal
same_part-equal : (one other : Part) → same_part one other ≡ true → one ≡ other
same_part-equal (text one) (text other) same = ap text (is_same-equal one other same)
same_part-equal (whole one) (whole other) same = ap whole (eqb-true one other same)
same_part-equal (signed one) (signed other) same = ap signed ((Decides-int_eq one other).0 same)
same_part-equal one other same = absurd cc

-- and so are values in order
same_parts-equal : (ones others : List Part) → same_parts ones others ≡ true → ones ≡ others
same_parts-equal [] [] same = refl
same_parts-equal [] (other ∷ others) same = absurd cc
same_parts-equal (one ∷ ones) [] same = absurd cc
same_parts-equal (one ∷ ones) (other ∷ others) same =
    let parts = and_parts (same_part one other) (same_parts ones others) same in
    let first = same_part-equal one other parts.0 in
    let rest = same_parts-equal ones others parts.1 in
    cc

-- messages that are the same are equal
pub same_message-equal : (one other : Message) → same_message one other ≡ true → one ≡ other
unfolding same_message
same_message-equal one other same =
    let tags = tag_of (kind_of one) == tag_of (kind_of other) in
    let parts = and_parts tags (same_parts (parts_of one) (parts_of other)) same in
    let kinds = tag_of-one (kind_of one) (kind_of other) (eqb-true _ _ parts.0) in
    messages one other kinds (same_parts-equal (parts_of one) (parts_of other) parts.1)
