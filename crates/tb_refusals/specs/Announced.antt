-- The last rows of an announcement.
use Rattle.std.specs.Prelude.{Bool, List, [], ◌∷◌, ◌++◌, length}
use Rattle.tb_terms.specs.declared.announcement.Announcement.{Announcement}
use Rattle.tb_terms.specs.declared.refusal.Refusal.TheVariants as refusal
use Rattle.tb_terms.specs.Rows.{Row}
use Rattle.tb_history.specs.Roster.{bill_of}
use Rattle.tb_history.specs.Tables.{maturity_rows, full}

-- behind those of the faults and of the maturity
abbrev pub last_rows : List Announcement → Bool → List Row
last_rows announced redeemed = (refusal.AlreadyRedeemed, redeemed) ∷ full 65536 (length announced) ∷ []

-- behind those of the faults
abbrev pub later_rows : List Announcement → Bool → Announcement → List Row
later_rows announced redeemed a = maturity_rows (bill_of announced a.cusip) a.maturity ++ last_rows announced redeemed
