-- What one turn makes of the history and the group in doubt.
use Rattle.std.specs.Prelude.{◌≡◌, ◌⊎◌, ℕ, ◌≤◌, List, [], ◌∷◌, ◌++◌, Some, None, codes}
use Rattle.tb_units.specs.Bytes.{line_feed}
use Rattle.tb_link.specs.Counts.{Rose}
use Rattle.tb_message.specs.declared.message.Entry.{Entry}
use Rattle.tb_message.specs.declared.verdict.Verdict.{Verdict}
use Rattle.tb_message.specs.Verdicts.{verdict_text}
use Rattle.tb_history.specs.Legal.{IsLegal}
use Rattle.tb_desk.specs.Desks.{doubted_by}
use Rattle.tb_desk.specs.Turn.{Asked, Held, Replies, IsStuck, IsAnswered, IsDoubted}
use Rattle.tb_desk.specs.declared.reply.Reply.{Reply}
use Rattle.tb_desk.specs.declared.reply.Reply.TheVariants as turned
use Rattle.tb_commands.specs.Standings.{Standing, held_at}

-- the line that tells a verdict
abbrev pub told : Verdict → List ℕ
told said = verdict_text said ++ line_feed ∷ []

-- the line that tells a disk fault
abbrev pub unavailable : List ℕ
unavailable = codes "unavailable DiskFault" ++ line_feed ∷ []

-- the line of what a turn was answered
abbrev pub turn_text : Reply → List ℕ
turn_text (turned.Verdict said) = told said
turn_text turned.DiskFault = unavailable

-- Resolving what was in doubt failed, and nothing changed; or the verdict was given on this history, and what it adds
-- was added, or is in doubt since the disk failed.
abbrev pub GoesOneWay : List Entry → Asked → Held → Held → Replies → Type 0
GoesOneWay at asked old new replies =
    IsStuck old new replies ⊎ IsAnswered at asked new replies ⊎ IsDoubted at asked new replies

-- a disk fault is answered only where the count of faults rose, or stands at its last value, and verdicts where it
-- stayed
abbrev pub Counts : Replies → ℕ → ℕ → Type 0
Counts (Some verdicts) old new = new ≡ old
Counts None old new = (old ≤ new) × Rose old new

-- Messages make one turn. Their verdicts stand on the history, or on that with the group that was in doubt. After a
-- disk fault the group that is in doubt then is one of those that were.
pub record MakesTurn (asked : Asked) (old new : Standing) (replies : Replies) : Type 0 where
  pub at : List Entry
  pub resolved : (at ≡ old.history) ⊎ (at ≡ old.history ++ old.doubt)
  pub legal : IsLegal at
  pub way : GoesOneWay at asked (held_at old) (held_at new) replies
  pub counts : Counts replies old.faults new.faults
  pub doubted : new.doubted ≡ old.doubted ++ doubted_by replies (held_at new)
