-- The last row of a redemption.
use Rattle.std.proofs.Common.{◌≡◌, ℕ, Option, [], ◌∷◌, ◌++◌, nat_lt, refl}
use Rattle.tb_units.specs.declared.day.Day.{Day}
use Rattle.tb_terms.specs.declared.announcement.Announcement.{Announcement}
use Rattle.tb_terms.specs.declared.refusal.Refusal.TheVariants as refusal
use Rattle.tb_terms.specs.Rows.{refusal_in}
use Rattle.tb_terms.specs.Eastern.{start_of}
use Rattle.tb_history.specs.Values.{day_of, day_of-number}
use Rattle.tb_history.specs.Tables.{unsettled_rows}

-- the rows behind that of the redemption, by the payment date
pub due_rows : (unsettled : Option Announcement) (payment : Day) (number seconds : ℕ)
    → number ≡ payment.number
    → refusal_in (unsettled_rows unsettled ++ (refusal.NotDue payment, nat_lt seconds (start_of payment.number)) ∷ [])
    ≡ refusal_in (unsettled_rows unsettled ++ (refusal.NotDue (day_of number), nat_lt seconds (start_of number)) ∷ [])
due_rows unsettled payment number seconds is = rw (is, day_of-number payment) refl
