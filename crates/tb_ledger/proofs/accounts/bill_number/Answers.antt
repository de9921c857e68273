-- The place among the terms is that among the announcements.
use Rattle.std.proofs.Common.{◌∙◌, sym, ap, length, List}
use Rattle.tb_terms.specs.declared.announcement.Announcement.{Announcement}
use Rattle.tb_terms.specs.declared.terms.Terms.{Terms}
use Rattle.tb_history.specs.Entries.{is_same}
use Rattle.tb_ledger.proofs.AccountLemmas.{placed_at, place_found, place_missing}
use Rattle.tb_ledger.proofs.accounts.bill_number.Goals as goal

pub returns-in-Some : goal.returns-in-Some
returns-in-Some c =
    place_found (λ (t : Terms). is_same t.announcement.cusip.bytes c.args.cusip.now.bytes)
    c.args.auctions.now.list c.in-Some.place
    (sym c.in-Some.ensures)
    ∙ sym (placed_at (λ (a : Announcement). is_same a.cusip.bytes c.args.cusip.now.bytes) c.args.auctions.now.list)

pub returns-in-None : goal.returns-in-None
returns-in-None c =
    ap (λ (ts : List Terms). length ts) c.rows.ensures
    ∙ (place_missing (λ (t : Terms). is_same t.announcement.cusip.bytes c.args.cusip.now.bytes) c.args.auctions.now.list
    (sym c.in-None.ensures)
    ∙ sym (placed_at (λ (a : Announcement). is_same a.cusip.bytes c.args.cusip.now.bytes) c.args.auctions.now.list))
