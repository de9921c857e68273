-- The lines are those there were, but for one that may be taken out, and the new one.
use Rattle.std.proofs.Common.{◌≡◌, ℕ, true, Option, Some, None, List, ◌∷◌, ap, sym, subst, arith}
use Rattle.std.specs.Prelude.{All, IfNone, IfSome, IsPermutation}
use Rattle.std.proofs.lemmas.List.Elements.{All-cons, All-tail}
use Rattle.std.proofs.lemmas.List.Sorted.{All-permutation, sum_by-IsPermutation}
use Rattle.std.proofs.lemmas.List.Sums.{sum_by-cons}
use Rattle.tb_book.specs.declared.book_line.BookLine.{BookLine}
use Rattle.tb_book.specs.Books.{Bids, par_in}
use Rattle.tb_book.proofs.CallerLemmas.{par-left}
use Rattle.tb_results.specs.Biddings.{is_sound_line}
use Rattle.tb_results_tests.proofs.tests.add.Goals as goal

-- what holds of all lines holds of those that are left
left-all : (P : BookLine → Type 0) (found : Option BookLine) (old new : Bids)
    → IfSome found (λ line. IsPermutation old.lines (line ∷ new.lines))
    → IfNone found (new ≡ old)
    → All P old.lines
    → All P new.lines
left-all P None old new some none all = subst (λ (book : Bids). All P book.lines) (sym none) all
left-all P (Some line) old new some none all =
    All-tail P line new.lines (All-permutation P old.lines (line ∷ new.lines) some all)

pub returns-clause-par : goal.returns-clause-par
returns-clause-par g c =
    let amount : BookLine → ℕ = λ one. one.amount.value in
    let left = c.take_out-there.new.self.lines in
    omega (
      arith,
      par-left c.take_out-there.result c.reserve.new.self c.take_out-there.new.self c.take_out-there.ensures.elements
          c.take_out-there.ensures.unchanged,
      ap par_in c.reserve.ensures.lines,
      sum_by-IsPermutation amount (c.args.line ∷ left) c.add.new.self.lines c.add.ensures.elements,
      sum_by-cons amount c.args.line left,
    )

pub returns-clause-all : goal.returns-clause-all
returns-clause-all g c =
    let P : BookLine → Type 0 = λ line. is_sound_line c.args.bidders 91 line ≡ true in
    All-permutation P (c.args.line ∷ c.take_out-there.new.self.lines) c.add.new.self.lines c.add.ensures.elements
    (All-cons P c.args.line c.take_out-there.new.self.lines c.requires.sound
    (left-all P c.take_out-there.result c.reserve.new.self c.take_out-there.new.self c.take_out-there.ensures.elements
    c.take_out-there.ensures.unchanged
    (subst (λ (lines : List BookLine). All P lines) (sym c.reserve.ensures.lines) c.requires.all)))
