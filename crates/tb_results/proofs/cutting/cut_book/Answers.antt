-- What is recognised of the book is so of its bidding.
use Rattle.std.proofs.Common.{ℕ, ◌∙◌, ◌≤◌, ap, sym, subst, arith}
use Rattle.tb_award.specs.Cuts.{total_of}
use Rattle.tb_book.proofs.CallerLemmas.{open_lines-open}
use Rattle.tb_results.proofs.BookedLemmas.{par-shared}
use Rattle.tb_results.proofs.CutLemmas.{cut-booked, known-positions, offering-hundreds, recognised-priced, sought-booked}
use Rattle.tb_results.proofs.cutting.cut_book.Goals as goal

pub recognise_into_uncounted-requires-clause-hundreds : goal.recognise_into_uncounted-requires-clause-hundreds
recognise_into_uncounted-requires-clause-hundreds c =
    offering-hundreds c.requires.bidding.0 c.args.terms.now c.args.book.now.lines c.args.positions.now
    c.requires.bidding.1

pub recognise_into_uncounted-requires-clause-known : goal.recognise_into_uncounted-requires-clause-known
recognise_into_uncounted-requires-clause-known c =
    rw (open_lines-open c.args.book.now c.requires.opened)
    (known-positions c.requires.bidding.0 c.args.terms.now c.args.book.now.lines c.args.positions.now
    c.requires.bidding.1)

pub recognise_into_uncounted-requires-clause-line_room : goal.recognise_into_uncounted-requires-clause-line_room
recognise_into_uncounted-requires-clause-line_room c =
    rw (open_lines-open c.args.book.now c.requires.opened) c.requires.line_room

pub cut-requires-clause-sought : goal.cut-requires-clause-sought
cut-requires-clause-sought c =
    let is = c.requires.bidding.1 in
    subst (λ (n : ℕ). 100 ≤ n)
    (sym (c.sought_by.ensures.sought
    ∙ sought-booked c.requires.bidding.0 c.args.terms.now c.args.book.now.lines c.args.positions.now is))
    is.sound.sought

pub cut-requires-clause-priced : goal.cut-requires-clause-priced
cut-requires-clause-priced c =
    recognised-priced c.requires.bidding.0 c.args.terms.now c.args.book.now.lines c.args.positions.now
    c.recognise_into_uncounted.new.into.lines c.requires.bidding.1
    (rw (open_lines-open c.args.book.now c.requires.opened) at c.recognise_into_uncounted.ensures.recognised)

pub cut-requires-clause-fits : goal.cut-requires-clause-fits
cut-requires-clause-fits c =
    omega (
      arith,
      c.recognise_into_uncounted.ensures.within,
      ap total_of (open_lines-open c.args.book.now c.requires.opened),
      par-shared 0 c.args.book.now.lines,
      c.sought_by.ensures.kept.limited,
    )

pub returns-clause-cut : goal.returns-clause-cut
returns-clause-cut c bidding is =
    cut-booked bidding c.args.terms.now c.args.book.now.lines c.args.positions.now
    c.recognise_into_uncounted.new.into.lines c.sought_by.result.value c.cut.result is
    c.sought_by.ensures.kept.limited
    (rw (open_lines-open c.args.book.now c.requires.opened) at c.recognise_into_uncounted.ensures.recognised)
    (rw (open_lines-open c.args.book.now c.requires.opened) at c.recognise_into_uncounted.ensures.within)
    c.sought_by.ensures.sought
    record { none = c.cut.ensures.none.0; empty = c.cut.ensures.none.1; cut = c.cut.ensures.cut }
