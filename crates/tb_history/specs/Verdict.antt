-- The verdict on a message: the first row of its table whose cause holds, else it is accepted.
use Rattle.std.specs.Prelude.{ℕ, Bool, true, not, nat_le, if◌then◌else◌, Option, Some, None, List, [], ◌∷◌, ◌++◌, map}
use Rattle.tb_units.specs.declared.moment.Moment.{Moment}
use Rattle.tb_terms.specs.declared.refusal.Refusal.TheVariants as refusal
use Rattle.tb_message.specs.declared.message.Entry.{Entry}
use Rattle.tb_message.specs.declared.message.Message.{Message}
use Rattle.tb_message.specs.declared.verdict.Verdict.{Verdict}
use Rattle.tb_message.specs.declared.verdict.Verdict.TheVariants as verdict
use Rattle.tb_message.specs.Kinds.{party_of}
use Rattle.tb_message.specs.Messages.{kind_of}
use Rattle.tb_terms.specs.Rows.{Row, first_of}
use Rattle.tb_history.specs.Entries.{is_of_party}
use Rattle.tb_history.specs.Roster.{registrations, is_caller, kept, sent_by}
use Rattle.tb_history.specs.Tables.{rows_of}
use Rattle.tb_history.specs.Same.{same_message}

-- a row of a verdict
abbrev pub refused : Row → Verdict × Bool
refused row = (verdict.Refused row.0, row.1)

-- the sender is of the party that may send messages of this kind
abbrev pub is_permitted : List ℕ → Message → Bool
is_permitted submitter message = is_of_party (party_of (kind_of message)) submitter

-- what is told where a message stands under the number: the kept reply, where the message is the same one
abbrev pub repeated : Entry → Message → Verdict
repeated entry message =
    if same_message entry.message message
    then verdict.Repeat entry.number entry.moment
    else verdict.Refused refusal.NumberReused

-- a number is used once
abbrev pub number_rows : Option Entry → Message → List (Verdict × Bool)
number_rows None message = []
number_rows (Some entry) message = (repeated entry message, true) ∷ []

-- the verdict on a message of a submitter under a number, at a moment
abbrev pub verdict_on : List Entry → List ℕ → ℕ → Moment → Message → Verdict
verdict_on history submitter number moment message =
    first_of
    ((verdict.Refused refusal.UnknownKey, not (is_caller (registrations history) submitter))
    ∷ (verdict.Refused refusal.NotPermitted, not (is_permitted submitter message))
    ∷ number_rows (kept history submitter number) message
    ++ (verdict.Refused refusal.MessageQuota, nat_le 1048576 (sent_by history submitter))
    ∷ map refused (rows_of history submitter moment message))
    (verdict.Accepted number moment)
