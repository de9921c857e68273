-- The rows of an announcement, part by part.
use Rattle.std.proofs.Common.{◌≡◌, ◌++◌, Bool, true, false, Some, None, List, is_some, refl, ap, ◌∙◌, append_assoc}
use Rattle.tb_terms.specs.declared.announcement.Announcement.{Announcement}
use Rattle.tb_terms.specs.declared.refusal.Refusal.{Refusal}
use Rattle.tb_terms.specs.declared.refusal.Refusal.TheVariants as refusal
use Rattle.tb_terms.specs.Faults.{fault_of, fault_rows}
use Rattle.tb_terms.specs.Rows.{Row, refusal_in}
use Rattle.tb_terms.proofs.RowLemmas.{refusal_in-append, refusal_in-front}
use Rattle.tb_history.specs.Roster.{announcement_of, bill_of}
use Rattle.tb_history.specs.Tables.{announce_rows, maturity_rows}
use Rattle.tb_refusals.specs.Announced.{last_rows, later_rows}

-- an auction of this name is announced
pub announce-exists : (announced : List Announcement) (redeemed : Bool) (a : Announcement)
    → is_some (announcement_of announced a.auction) ≡ true
    → refusal_in (announce_rows announced redeemed a) ≡ Some refusal.AuctionExists
announce-exists announced redeemed a exists = rw exists refl

-- the terms have a fault
pub announce-fault : (announced : List Announcement) (redeemed : Bool) (a : Announcement) (refused : Refusal)
    → is_some (announcement_of announced a.auction) ≡ false
    → refusal_in (fault_rows (fault_of a)) ≡ Some refused
    → refusal_in (announce_rows announced redeemed a) ≡ Some refused
announce-fault announced redeemed a refused unknown fault =
    let faults : List Row = fault_rows (fault_of a) in
    let dated : List Row = maturity_rows (bill_of announced a.cusip) a.maturity in
    rw unknown
    (refusal_in-front (faults ++ dated) (last_rows announced redeemed) refused
    (refusal_in-front faults dated refused fault))

-- they have none
pub announce-later : (announced : List Announcement) (redeemed : Bool) (a : Announcement)
    → is_some (announcement_of announced a.auction) ≡ false
    → refusal_in (fault_rows (fault_of a)) ≡ None
    → refusal_in (announce_rows announced redeemed a) ≡ refusal_in (later_rows announced redeemed a)
announce-later announced redeemed a unknown none =
    let faults : List Row = fault_rows (fault_of a) in
    let dated : List Row = maturity_rows (bill_of announced a.cusip) a.maturity in
    rw unknown
    (ap refusal_in (append_assoc faults dated (last_rows announced redeemed))
    ∙ refusal_in-append faults (later_rows announced redeemed a) none)
