-- Par is conserved in a history.
use Rattle.std.specs.Prelude.{◌≡◌, ℕ, ◌≤◌, true, false, if◌then◌else◌, List, sum_by}
use Rattle.tb_units.specs.Multiples.{most_par}
use Rattle.tb_terms.specs.declared.cusip.Cusip.{Cusip}
use Rattle.tb_message.specs.declared.message.Entry.{Entry}
use Rattle.tb_history.specs.declared.roster.Registration.{Registration}
use Rattle.tb_history.specs.Roster.{registrations, redemptions, is_registered, is_redeemed}
use Rattle.tb_history.specs.Holdings.{held_of, issued, paid_to, pledged_of}

-- Of every bill: what all participants hold sums to what was issued, or to nothing once it is redeemed; then what they
-- were paid sums to what was issued; nobody has pledged more than it holds; nobody who isn't registered holds anything
-- or was paid; and no more is issued than is summed up.
pub record IsConserved (history : List Entry) : Type 0 where
  pub holdings : (cusip : Cusip)
      → sum_by (λ (r : Registration). held_of history r.submitter cusip) (registrations history)
      ≡ (if is_redeemed (redemptions history) cusip then 0 else issued history cusip)
  pub payments : (cusip : Cusip)
      → is_redeemed (redemptions history) cusip ≡ true
      → sum_by (λ (r : Registration). paid_to history r.submitter cusip) (registrations history) ≡ issued history cusip
  pub covered : (participant : List ℕ) (cusip : Cusip)
      → pledged_of history participant cusip ≤ held_of history participant cusip
  pub strangers : (stranger : List ℕ) (cusip : Cusip)
      → is_registered (registrations history) stranger ≡ false
      → (held_of history stranger cusip ≡ 0) × (paid_to history stranger cusip ≡ 0)
  pub limited : (cusip : Cusip) → issued history cusip ≤ most_par
