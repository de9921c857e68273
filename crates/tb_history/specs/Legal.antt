-- Legal histories.
use Rattle.std.specs.Prelude.{◌≡◌, ℕ, ◌≤◌, max, true, List, [], ◌∷◌, ◌++◌}
use Rattle.tb_units.specs.declared.moment.Moment.{Moment}
use Rattle.tb_message.specs.declared.message.Entry.{Entry}
use Rattle.tb_message.specs.declared.verdict.Verdict.TheVariants as verdict
use Rattle.tb_message.specs.Spelling.{IsInRange}
use Rattle.tb_units.specs.Moments.{moment_of}
use Rattle.tb_history.specs.Entries.{is_same}
use Rattle.tb_history.specs.Verdict.{verdict_on}

-- the seconds of the last entry's moment, and so many where there is no entry
abbrev pub seconds_from : ℕ → List Entry → ℕ
seconds_from seconds [] = seconds
seconds_from seconds (entry ∷ entries) = seconds_from entry.moment.seconds entries

-- where there is none, those of the least moment
abbrev pub last_of : List Entry → ℕ
last_of history = seconds_from 946702800 history

-- the running moment: the later of a moment and the last entry's
abbrev pub running : List Entry → Moment → Moment
running history moment = moment_of (max moment.seconds (last_of history))

-- the entry is accepted on the history, at a moment that isn't earlier, with its values in range
pub record Follows (history : List Entry) (entry : Entry) : Type 0 where
  pub in_range : IsInRange entry
  pub in_time : last_of history ≤ entry.moment.seconds
  pub accepted : verdict_on history entry.submitter entry.number entry.moment entry.message
      ≡ verdict.Accepted entry.number entry.moment

-- The empty history is legal, and so is a legal one with an entry that is accepted on it.
pub data IsLegal : List Entry → Type 0 where
  Empty : IsLegal []
  Longer : (history : List Entry) (entry : Entry)
      → IsLegal history
      → Follows history entry
      → IsLegal (history ++ entry ∷ [])

-- an entry's moment isn't later than another's
abbrev pub IsNotEarlier : Entry → Entry → Type 0
IsNotEarlier one other = one.moment.seconds ≤ other.moment.seconds

-- they aren't of one submitter under one number
abbrev pub IsOther : Entry → Entry → Type 0
IsOther one other = ¬ ((is_same one.submitter other.submitter ≡ true) × (one.number ≡ other.number))
