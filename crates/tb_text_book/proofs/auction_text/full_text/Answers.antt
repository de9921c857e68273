use Rattle.std.proofs.Common.{ℕ, ◌≤◌, ◌^◌, List, true, refl, subst, sym, arith}
use Rattle.std.specs.Prelude.{All}
use Rattle.std.proofs.lemmas.Result.{IfOk-weaker}
use Rattle.tb_text_book.proofs.TextLemmas.{cut-text, lines-fit, lines-priced, nothing-text, sums-fit}
use Rattle.tb_text_book.proofs.auction_text.full_text.Goals as goal

pub cut-requires-clause-priced : goal.cut-requires-clause-priced
cut-requires-clause-priced c =
    lines-priced c.requires.0 c.args.book c.deref.result.now c.in_ok-recognised.recognised.lines c.requires.1.tally
    c.in_ok-recognised.ensures.recognised

pub cut-requires-clause-fits : goal.cut-requires-clause-fits
cut-requires-clause-fits c =
    omega (arith, c.in_ok-recognised.ensures.within, lines-fit c.requires.0 c.args.book c.requires.1)

pub returns-in-NoAwards : goal.returns-in-NoAwards
returns-in-NoAwards c = IfOk-weaker c.nothing_text.result _ _ (λ text has kept is.
    nothing-text true kept c.args.book c.as_slice.result.now c.in_ok-recognised.recognised.lines text.items
    record {
      tally = is.tally;
      names_are = c.as_slice.ensures.keys;
      positions = c.deref.result.now;
      positions_are = c.deref.ensures.value;
      recognised_are = c.in_ok-recognised.ensures.recognised;
    } (c.in-NoAwards.ensures.none.0 refl) has) c.nothing_text.ensures

pub cut_text-requires-clause-fits : goal.cut_text-requires-clause-fits
cut_text-requires-clause-fits c =
    omega (arith, c.in_ok-recognised.ensures.within, lines-fit c.requires.0 c.args.book c.requires.1)

pub cut_text-requires-clause-sums : goal.cut_text-requires-clause-sums
cut_text-requires-clause-sums c =
    subst (λ (ws : List ℕ). All (λ sum. sum ≤ 10 ^ 19) ws) (sym c.deref-in-Cut.ensures.value)
    (sums-fit c.requires.0 c.args.book c.requires.1)

pub returns : goal.returns
returns c = IfOk-weaker c.cut_text.result _ _ (λ text has kept is.
    cut-text true kept c.args.book c.as_slice-in-Cut.result.now c.in_ok-recognised.recognised.lines
    c.in-Cut.cut text.items
    record {
      tally = is.tally;
      names_are = c.as_slice-in-Cut.ensures.keys;
      positions = c.deref.result.now;
      positions_are = c.deref.ensures.value;
      recognised_are = c.in_ok-recognised.ensures.recognised;
    }
    record {
      sums = c.deref-in-Cut.result.now;
      sums_are = c.deref-in-Cut.ensures.value;
      sought = c.sought-sought.result.value;
      sought_is = c.sought-sought.ensures;
      is = c.in-Cut.ensures.cut c.in-Cut.cut refl;
      text_is = has;
    }) c.cut_text.ensures
