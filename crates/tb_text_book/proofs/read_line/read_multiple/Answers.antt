use Rattle.std.proofs.Common.{◌≡◌, subst, sym, ◌∙◌, arith}
use Rattle.tb_text_book.specs.BookLines.{IsMultiple}
use Rattle.tb_text_book.proofs.BookLineLemmas.{IsMultiple-no}
use Rattle.tb_text_book.proofs.DecimalLemmas.{decimal-one}
use Rattle.tb_text_book.proofs.read_line.read_multiple.Goals as goal

pub returns-then-not-is_multiple-clause-none : goal.returns-then-not-is_multiple-clause-none
returns-then-not-is_multiple-clause-none c = λ n multiple spelled.
    let read = c.in_ok-amount.ensures.read in
    let same : n ≡ c.in_ok-amount.amount =
    decimal-one c.args.text.now _ _ (omega (arith, multiple.within)) read.0 spelled read.1 in
    IsMultiple-no c.args.unit c.args.most c.in_ok-amount.amount
    (sym c.is_multiple.ensures ∙ c.if-not-is_multiple.true) (subst (IsMultiple c.args.unit c.args.most) same multiple)
