-- The submitters so far have their lines.
use Rattle.std.proofs.Common.{◌≡◌, true, All, List, nat_lt, take}
use Rattle.std.specs.Prelude.{filter}
use Rattle.tb_terms.specs.declared.cusip.Cusip.{Cusip}
use Rattle.tb_message.specs.declared.message.Entry.{Entry}
use Rattle.tb_history.specs.declared.roster.Registration.{Registration}
use Rattle.tb_history.specs.Roster.{announcements, registrations, is_registered}
use Rattle.tb_history.specs.Holdings.{paid_to}
use Rattle.tb_history.specs.Moves.{has_bill}
use Rattle.tb_history.specs.Readings.{ArePaidLines}
use Rattle.tb_ledger.specs.Accounting.{numbers_in}
use Rattle.tb_core.specs.House.{AreTied}
use Rattle.tb_core.proofs.holdings.paid_lines.Given as goal

abbrev pub invariant-loop-registration : goal.invariant-loop-registration
invariant-loop-registration l =
    (history : List Entry) (cusip : Cusip) → AreTied history l.tables
    → has_bill (announcements history) cusip.bytes ≡ true
    → All (λ (r : Registration). is_registered (registrations history) r.submitter ≡ true) l.holders
    → l.security ≡ (numbers_in l.tables.submitters.list l.tables.auctions.list).security cusip.bytes
    → ArePaidLines history cusip
    (filter (λ (r : Registration). nat_lt 0 (paid_to history r.submitter cusip)) (take l.registration-index l.holders))
    l.lines
