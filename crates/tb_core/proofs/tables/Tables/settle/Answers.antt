-- The terms are those of the auction.
use Rattle.std.proofs.Common.{◌≡◌, ℕ, true, Some, Option, List, sym, subst}
use Rattle.tb_terms.specs.declared.announcement.Announcement.{Announcement}
use Rattle.tb_shelf.specs.Shelves.{book_in, is_open}
use Rattle.tb_history.specs.Roster.{announcement_of}
use Rattle.tb_history.proofs.StableLemmas.{announced-name}
use Rattle.tb_ledger.specs.Accounting.{TellsNext}
use Rattle.tb_core.specs.Crediting.{settled_in}
use Rattle.tb_core.proofs.SettleLemmas.{found-named}
use Rattle.tb_core.proofs.tables.Tables.settle.Goals as goal

pub settle_by-requires-clause-tied : goal.settle_by-requires-clause-tied
settle_by-requires-clause-tied c = (
  c.requires.tied.0,
  c.requires.tied.1,
  subst (λ (all : List Announcement). announcement_of all c.in-Some.terms.announcement.auction
      ≡ Some c.in-Some.terms.announcement)
      c.requires.tied.1.auctions_are
      (found-named _ c.args.auction.now c.in-Some.terms.announcement (sym c.in-Some.ensures)),
)

pub settle_by-requires-clause-opened : goal.settle_by-requires-clause-opened
settle_by-requires-clause-opened c =
    subst (λ (name : List ℕ). is_open (book_in c.args.self.now.shelf.books name) ≡ true)
    (sym (announced-name _ c.args.auction.now c.in-Some.terms.announcement (sym c.in-Some.ensures))) c.requires.opened

pub returns-in-Some-clause-told : goal.returns-in-Some-clause-told
returns-in-Some-clause-told c =
    subst (λ (found : Option Announcement). TellsNext (settled_in c.args.self.now found) c.args.self.now.accounts
    c.settle_by.new.self.accounts) c.in-Some.ensures c.settle_by.ensures.told
