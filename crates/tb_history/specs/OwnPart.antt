-- What a submitter's replies may depend on before the results are published.
use Rattle.std.specs.Prelude.{ℕ, Bool, true, false, ◌||◌, List}
use Rattle.std.specs.List.{filter}
use Rattle.tb_message.specs.declared.message.Entry.{Entry}
use Rattle.tb_message.specs.declared.message.Message.{Message}
use Rattle.tb_message.specs.declared.message.Message.TheVariants as message
use Rattle.tb_history.specs.Entries.{is_same, operator}

-- the submitter's own entries, and the operator's
abbrev pub is_own : List ℕ → Entry → Bool
is_own submitter entry = is_same entry.submitter submitter || is_same entry.submitter operator

-- those entries of the history, in order
abbrev pub own_part : List ℕ → List Entry → List Entry
own_part submitter history = filter (is_own submitter) history

-- what is free, what is left of a pledge, which offers are open and what a balance is, others bring about too; no such
-- message is on an auction
abbrev pub depends_on_others : Message → Bool
depends_on_others (message.Transfer cusip to amount) = true
depends_on_others (message.Pledge cusip to amount) = true
depends_on_others (message.Release holder pledge amount) = true
depends_on_others (message.Withdraw participant cents) = true
depends_on_others (message.Sell cusip to amount price) = true
depends_on_others (message.Buy seller offer) = true
depends_on_others (message.Retract offer) = true
depends_on_others other = false
