-- The faults of an announcement, and the refusals by which they are told.
use Rattle.std.specs.Prelude.{true, if◌then◌else◌, Option, Some, None, List, [], ◌∷◌}
use Rattle.tb_terms.specs.declared.announcement.Announcement.{Announcement}
use Rattle.tb_terms.specs.declared.checking.TermsFault.{TermsFault}
use Rattle.tb_terms.specs.declared.checking.TermsFault.TheVariants.{BadCusip, BadDates, BadAmounts, BadClosing}
use Rattle.tb_terms.specs.declared.refusal.Refusal.{Refusal}
use Rattle.tb_terms.specs.declared.refusal.Refusal.TheVariants as refusal
use Rattle.tb_terms.specs.Cusips.{is_cusip}
use Rattle.tb_terms.specs.Announcements.{has_dates, has_amounts, has_closings}
use Rattle.tb_terms.specs.Rows.{Row}

-- the first fault of an announcement
abbrev pub fault_of : Announcement → Option TermsFault
fault_of a =
    if is_cusip a.cusip.bytes
    then (if has_dates a
    then (if has_amounts a
    then (if has_closings a then None else Some BadClosing)
    else Some BadAmounts)
    else Some BadDates)
    else Some BadCusip

-- the refusal of a fault
abbrev pub refusal_of : TermsFault → Refusal
refusal_of BadCusip = refusal.BadCusip
refusal_of BadDates = refusal.BadDates
refusal_of BadAmounts = refusal.BadAmounts
refusal_of BadClosing = refusal.BadClosing

-- the row of a fault, where there is one
abbrev pub fault_rows : Option TermsFault → List Row
fault_rows None = []
fault_rows (Some fault) = (refusal_of fault, true) ∷ []
