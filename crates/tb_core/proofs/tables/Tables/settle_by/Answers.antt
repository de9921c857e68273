-- The auction is cut by its book, and each bidder is credited its award.
use Rattle.std.proofs.Common.{◌≡◌, true, Some, Option, List, refl, sym, ap, subst, length, arith}
use Rattle.tb_movements.specs.Movements.{Movement, Settled}
use Rattle.tb_book.specs.Books.{Bids}
use Rattle.tb_shelf.specs.Shelves.{is_open}
use Rattle.tb_history.specs.declared.roster.Enrolment.{Enrolment}
use Rattle.tb_ledger.specs.Accounting.{TellsNext}
use Rattle.tb_core.specs.Crediting.{bidding_on, settled_in}
use Rattle.tb_ledger.specs.Credits.{settled_for}
use Rattle.tb_core.proofs.HouseLemmas.{few-bidders}
use Rattle.tb_core.proofs.SettleLemmas.{book-on, book-there, lines-few}
use Rattle.tb_core.proofs.tables.Tables.settle_by.Goals as goal

pub cut_auction-outcome-requires-clause-bidding : goal.cut_auction-outcome-requires-clause-bidding
cut_auction-outcome-requires-clause-bidding c = (
  bidding_on c.args.self.now c.args.terms.now.announcement,
  book-on c.requires.tied.0 c.args.self.now c.args.terms.now c.in-Some.book.now c.requires.tied.1 c.requires.tied.2
      c.in-Some.ensures.some,
)

pub cut_auction-outcome-requires-clause-opened : goal.cut_auction-outcome-requires-clause-opened
cut_auction-outcome-requires-clause-opened c =
    subst (λ (found : Option Bids). is_open found ≡ true) c.in-Some.ensures.some c.requires.opened

pub cut_auction-outcome-requires-clause-lines : goal.cut_auction-outcome-requires-clause-lines
cut_auction-outcome-requires-clause-lines c =
    omega (
      arith,
      lines-few c.requires.tied.0 c.args.self.now c.args.terms.now.announcement.auction c.in-Some.book.now
          c.requires.tied.1
          c.in-Some.ensures.some,
      c.requires.room.lines,
    )

pub credit_awards-requires-clause-few : goal.credit_awards-requires-clause-few
credit_awards-requires-clause-few c =
    omega (
      arith,
      ap (λ (es : List Enrolment). length es) c.rows.ensures,
      few-bidders c.requires.tied.0 c.args.self.now c.requires.tied.1,
    )

pub credit_awards-requires-clause-bidding : goal.credit_awards-requires-clause-bidding
credit_awards-requires-clause-bidding c = (
  bidding_on c.args.self.now c.args.terms.now.announcement,
  c.cut_auction-outcome.ensures.cut (bidding_on c.args.self.now c.args.terms.now.announcement)
      (book-on c.requires.tied.0 c.args.self.now c.args.terms.now c.in-Some.book.now c.requires.tied.1 c.requires.tied.2
      c.in-Some.ensures.some),
  sym c.rows.ensures,
  rw (c.bill_number-security.ensures, c.rows.ensures, c.find_add_on-add_on.ensures) c.requires.ready.1,
)

pub returns-in-Some-clause-told : goal.returns-in-Some-clause-told
returns-in-Some-clause-told c =
    let bidding = bidding_on c.args.self.now c.args.terms.now.announcement in
    let same : Some (Settled c.bill_number-security.result
    (settled_for c.args.self.now.submitters.list bidding c.rows.result.now c.find_add_on-add_on.result))
    ≡ settled_in c.args.self.now (Some c.args.terms.now.announcement) =
    rw (c.bill_number-security.ensures, c.rows.ensures, c.find_add_on-add_on.ensures) refl in
    subst (λ (next : Option Movement). TellsNext next c.args.self.now.accounts c.credit_awards.new.accounts) same
    (c.credit_awards.ensures.told bidding
    (c.cut_auction-outcome.ensures.cut bidding
    (book-on c.requires.tied.0 c.args.self.now c.args.terms.now c.in-Some.book.now c.requires.tied.1 c.requires.tied.2
    c.in-Some.ensures.some))
    (sym c.rows.ensures))

pub returns-in_default-clause-told : goal.returns-in_default-clause-told
returns-in_default-clause-told c movements told =
    absurd (book-there c.requires.tied.0 c.args.self.now c.args.terms.now.announcement.auction
    c.args.terms.now.announcement
    c.requires.tied.1 c.requires.tied.2 c.in_default.ensures.none)
