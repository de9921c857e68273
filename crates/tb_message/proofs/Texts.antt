-- Texts and records, one piece behind another.
use Rattle.std.proofs.Common.{append_assoc}
use Rattle.std.proofs.lemmas.List.{append-nil}

-- in one order of brackets
pub ruleset joined = (append_assoc, append-nil)
