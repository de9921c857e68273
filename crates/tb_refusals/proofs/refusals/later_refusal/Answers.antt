use Rattle.std.proofs.Common.{◌∙◌, sym, ap, Option}
use Rattle.tb_terms.specs.declared.announcement.Announcement.{Announcement}
use Rattle.tb_terms.specs.Rows.{refusal_in}
use Rattle.tb_terms.proofs.RowLemmas.{refusal_in-append, refusal_in-front}
use Rattle.tb_history.specs.Roster.{bill_of}
use Rattle.tb_history.specs.Tables.{maturity_rows}
use Rattle.tb_tables.specs.Auctions.{announced_in}
use Rattle.tb_refusals.specs.Announced.{last_rows}
use Rattle.tb_refusals.proofs.refusals.later_refusal.Goals as goal

pub returns-in-Some : goal.returns-in-Some
returns-in-Some c =
    sym (refusal_in-front
    (maturity_rows (bill_of (announced_in c.args.auctions.now.list) c.args.announcement.now.cusip)
    c.args.announcement.now.maturity)
    (last_rows (announced_in c.args.auctions.now.list) c.args.redeemed) c.in-Some.refusal
    (ap (λ (found : Option Announcement). refusal_in (maturity_rows found c.args.announcement.now.maturity))
    (sym c.bill_terms-first.ensures)
    ∙ (sym c.maturity_refusal.ensures ∙ c.in-Some.is)))

pub returns-in-None : goal.returns-in-None
returns-in-None c =
    c.roster_refusal.ensures
    ∙ sym (refusal_in-append
    (maturity_rows (bill_of (announced_in c.args.auctions.now.list) c.args.announcement.now.cusip)
    c.args.announcement.now.maturity)
    (last_rows (announced_in c.args.auctions.now.list) c.args.redeemed)
    (ap (λ (found : Option Announcement). refusal_in (maturity_rows found c.args.announcement.now.maturity))
    (sym c.bill_terms-first.ensures)
    ∙ (sym c.maturity_refusal.ensures ∙ c.in-None.is)))
