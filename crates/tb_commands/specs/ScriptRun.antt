-- What `run` prints for a script.
use Rattle.std.specs.Prelude.{◌≡◌, ◌≢◌, ℕ, List, [], ◌∷◌, ◌++◌}
use Rattle.tb_units.specs.declared.moment.Moment.{Moment}
use Rattle.tb_link.specs.Counts.{last_count}
use Rattle.tb_message.specs.declared.key.Key.{Key}
use Rattle.tb_history.specs.Answer.{caller_of}
use Rattle.tb_history.specs.Roster.{registrations}
use Rattle.tb_commands.specs.Replies.{IsAnswered}
use Rattle.tb_commands.specs.ScriptLines.{SpellsAsk}
use Rattle.tb_commands.specs.Standings.{Standing}

-- A line asks where the script stands, is answered so, and leaves the script standing there. The operator's key is
-- `op:` and this name; whose another key is, the history tells, without what is in doubt.
pub record IsActedOn (operator : List ℕ) (old : Standing) (line reply : List ℕ) (new : Standing) : Type 0 where
  pub moment : Moment
  pub key : Key
  pub json : List ℕ
  pub spells : SpellsAsk line moment key json
  pub answered : IsAnswered old (caller_of (registrations old.history) operator key) moment json reply new

-- lines that ask, one behind the other, each where those before it leave the script: the replies in order, and where
-- the script stands in the end
abbrev pub IsRun : List ℕ → Standing → List (List ℕ) → List ℕ → Standing → Type 0
IsRun operator old [] replies last = (replies ≡ []) × (last ≡ old)
IsRun operator old (line ∷ lines) replies last =
    (reply : List ℕ) × (next : Standing) × (later : List ℕ) × IsActedOn operator old line reply next
    × IsRun operator next lines later last × (replies ≡ reply ++ later)

-- a run without a fault, from where nothing was in doubt and the count wasn't at its last value: the count stayed
pub record IsFaultless (operator : List ℕ) (start : Standing) (lines : List (List ℕ)) (replies : List ℕ)
    (last : Standing) : Type 0
  where
    pub run : IsRun operator start lines replies last
    pub sure : start.doubt ≡ []
    pub counting : start.faults ≢ last_count
    pub no_fault : last.faults ≡ start.faults
