use Rattle.std.proofs.Common.{subst, sym}
use Rattle.std.proofs.lemmas.Result.{IfOk-weaker}
use Rattle.tb_text_book.specs.Books.{Adds, Book, IsOneWay, IsPriced, with_entry}
use Rattle.tb_text_book.specs.Tallies.{IsTally}
use Rattle.tb_text_book.specs.declared.book_line.Entry.{Entry}
use Rattle.tb_text_book.specs.declared.book_line.Entry.TheVariants as entry
use Rattle.tb_text_book.specs.declared.book_line.Offering.{Offering}
use Rattle.tb_text_book.proofs.NumberingLemmas.{adds-with, adds-not}
use Rattle.tb_text_book.proofs.text_book.TextBook.add.Goals as goal

pub returns-in_ok-number-in-Bid-clause-added : goal.returns-in_ok-number-in-Bid-clause-added
returns-in_ok-number-in-Bid-clause-added c =
    let bid = c.in-Bid.bid in
    let number = c.in_ok-number-in-Bid.number in
    let names = c.number_of.new.self.bidders.keys in
    IfOk-weaker c.add_bid.result
    (λ _. (book : Book) → IsTally book c.number_of.new.self → IsOneWay book.entries number bid.rate
    × IsPriced c.number_of.new.self.offering bid.rate
    × IsTally (with_entry book number (entry.Bid bid)) c.add_bid.new.self)
    (λ _. (book : Book) → IsTally book c.args.self.now → (new : Book)
    × Adds c.args.self.now.offering book c.args.entry new × IsTally new c.add_bid.new.self)
    (λ _ added book tally.
    let numbered = c.in_ok-number-in-Bid.ensures.numbered book tally in
    let between : Book = record { names = c.number_of.new.self.bidders.keys; entries = book.entries } in
    let more = added between numbered.1 in
    let priced : IsPriced c.args.self.now.offering bid.rate =
    subst (λ (o : Offering). IsPriced o bid.rate) c.in_ok-number-in-Bid.ensures.offering more.1 in (
      with_entry between number (entry.Bid bid),
      subst (λ (e : Entry). Adds c.args.self.now.offering book e (with_entry between number (entry.Bid bid)))
          (sym c.in-Bid.is)
          (adds-with c.args.self.now.offering book names number (entry.Bid bid) numbered.0 (more.0, priced)),
      more.2,
    ))
    c.add_bid.ensures.added

pub returns-in_ok-number-in-Bid-clause-bad : goal.returns-in_ok-number-in-Bid-clause-bad
returns-in_ok-number-in-Bid-clause-bad c = λ bad book tally new adds.
    let bid = c.in-Bid.bid in
    let number = c.in_ok-number-in-Bid.number in
    let numbered = c.in_ok-number-in-Bid.ensures.numbered book tally in
    let between : Book = record { names = c.number_of.new.self.bidders.keys; entries = book.entries } in
    let not = c.add_bid.ensures.bad bad between numbered.1 in
    adds-not c.args.self.now.offering book c.number_of.new.self.bidders.keys number (entry.Bid bid) numbered.0
    (λ follows. not (
      follows.0,
      subst (λ (o : Offering). IsPriced o bid.rate)
          (sym c.in_ok-number-in-Bid.ensures.offering) follows.1,
    )) new
    (subst (λ (e : Entry). Adds c.args.self.now.offering book e new) c.in-Bid.is adds)

pub returns-in_ok-number-in-Report-clause-added : goal.returns-in_ok-number-in-Report-clause-added
returns-in_ok-number-in-Report-clause-added c = λ book tally.
    let report = c.in-Report.report in
    let number = c.in_ok-number-in-Report.number in
    let numbered = c.in_ok-number-in-Report.ensures.numbered book tally in
    let between : Book = record { names = c.number_of-in-Report.new.self.bidders.keys; entries = book.entries } in (
      with_entry between number (entry.Report report),
      subst (λ (e : Entry). Adds c.args.self.now.offering book e (with_entry between number (entry.Report report)))
          (sym c.in-Report.is)
          (adds-with c.args.self.now.offering book c.number_of-in-Report.new.self.bidders.keys number
          (entry.Report report) numbered.0 tt),
      c.add_report.ensures.added between numbered.1,
    )
