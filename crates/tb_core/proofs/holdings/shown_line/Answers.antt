-- The accounts tell what the history says of the participant and the bill.
use Rattle.std.proofs.Common.{◌≡◌, ◌∙◌, true, List, sym, subst, arith}
use Rattle.tb_terms.specs.declared.announcement.Announcement.{Announcement}
use Rattle.tb_history.specs.Roster.{announcements, bill_of}
use Rattle.tb_history.specs.Readings.{is_first}
use Rattle.tb_core.proofs.ShownLemmas.{none-hidden, some-shown}
use Rattle.tb_core.proofs.holdings.shown_line.Goals as goal

pub returns-then-line-eq0 : goal.returns-then-line-eq0
returns-then-line-eq0 c history participant tied known same =
    let a : Announcement = c.args.terms.now.announcement in
    let first : is_first (bill_of (announcements history) a.cusip) a ≡ true =
    subst (λ (all : List Announcement). is_first (bill_of all a.cusip) a ≡ true) tied.auctions_are
    (sym c.is_first.ensures ∙ c.if-not-is_first.false) in
    none-hidden history c.args.tables.now participant a c.line_of-line.result tied known first
    (rw (same, c.bill_number-security.ensures) at c.line_of-line.ensures) (omega arith)

pub returns : goal.returns
returns c history participant tied known same =
    let a : Announcement = c.args.terms.now.announcement in
    let first : is_first (bill_of (announcements history) a.cusip) a ≡ true =
    subst (λ (all : List Announcement). is_first (bill_of all a.cusip) a ≡ true) tied.auctions_are
    (sym c.is_first.ensures ∙ c.if-not-is_first.false) in
    some-shown history c.args.tables.now participant a c.line_of-line.result tied known first
    (rw (same, c.bill_number-security.ensures) at c.line_of-line.ensures) (omega arith)
