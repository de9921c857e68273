-- Money is conserved in a history.
use Rattle.std.specs.Prelude.{◌≡◌, ℕ, ◌+◌, ◌≤◌, ◌^◌, false, List, sum_by}
use Rattle.tb_message.specs.declared.message.Entry.{Entry}
use Rattle.tb_history.specs.declared.roster.Registration.{Registration}
use Rattle.tb_history.specs.Roster.{registrations, is_registered}
use Rattle.tb_history.specs.Funds.{deposits, withdrawals, cents_in, money_to, money_from, balance_of}

-- No more went from a participant than came to it, so no balance is below 0; all balances and withdrawals sum to the
-- deposits; nobody who isn't registered has money; and no more is deposited than funds hold.
pub record IsFunded (history : List Entry) : Type 0 where
  pub covered : (participant : List ℕ) → money_from history participant ≤ money_to history participant
  pub balances :
      sum_by (λ (r : Registration). balance_of history r.submitter) (registrations history)
      + cents_in (withdrawals history)
      ≡ cents_in (deposits history)
  pub strangers : (stranger : List ℕ)
      → is_registered (registrations history) stranger ≡ false
      → balance_of history stranger ≡ 0
  pub limited : cents_in (deposits history) ≤ 10 ^ 22
