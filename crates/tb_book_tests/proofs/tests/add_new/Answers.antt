-- There is more par by that of the line at most.
use Rattle.std.proofs.Common.{ℕ, ◌∷◌, arith}
use Rattle.std.proofs.lemmas.List.Sorted.{sum_by-IsPermutation}
use Rattle.std.proofs.lemmas.List.Sums.{sum_by-cons}
use Rattle.tb_book.specs.declared.book_line.BookLine.{BookLine}
use Rattle.tb_book.proofs.CallerLemmas.{par-left}
use Rattle.tb_book_tests.proofs.tests.add_new.Goals as goal

pub returns-then-is_none-clause-par : goal.returns-then-is_none-clause-par
returns-then-is_none-clause-par c =
    let amount : BookLine → ℕ = λ one. one.amount.value in
    let left = c.take_out-there.new.self.lines in
    omega (
      arith,
      par-left c.take_out-there.result c.args.book.now c.take_out-there.new.self c.take_out-there.ensures.elements
          c.take_out-there.ensures.unchanged,
      sum_by-IsPermutation amount (c.args.line ∷ left) c.add.new.self.lines c.add.ensures.elements,
      sum_by-cons amount c.args.line left,
    )

pub returns-else-is_none-clause-par : goal.returns-else-is_none-clause-par
returns-else-is_none-clause-par c =
    omega (
      arith,
      par-left c.take_out-there.result c.args.book.now c.take_out-there.new.self c.take_out-there.ensures.elements
          c.take_out-there.ensures.unchanged,
    )
