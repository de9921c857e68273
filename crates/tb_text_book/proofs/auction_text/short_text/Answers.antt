use Rattle.std.proofs.Common.{[], false, refl, sym, ◌∙◌, append-nil, arith}
use Rattle.std.proofs.lemmas.Result.{IfOk-weaker}
use Rattle.tb_text_book.proofs.TextLemmas.{cut-text, lines-fit, lines-priced, nothing-text}
use Rattle.tb_text_book.proofs.auction_text.short_text.Goals as goal

pub cut-requires-clause-priced : goal.cut-requires-clause-priced
cut-requires-clause-priced c =
    lines-priced c.requires.0 c.args.book c.deref.result.now c.in_ok-recognised.recognised.lines c.requires.1.tally
    c.in_ok-recognised.ensures.recognised

pub cut-requires-clause-fits : goal.cut-requires-clause-fits
cut-requires-clause-fits c =
    omega (arith, c.in_ok-recognised.ensures.within, lines-fit c.requires.0 c.args.book c.requires.1)

pub returns-in-NoAwards : goal.returns-in-NoAwards
returns-in-NoAwards c = IfOk-weaker c.nothing_line.result _ _ (λ text line kept is.
    nothing-text false kept c.args.book c.args.book.bidders.keys c.in_ok-recognised.recognised.lines text.items
    record {
      tally = is.tally;
      names_are = refl;
      positions = c.deref.result.now;
      positions_are = c.deref.ensures.value;
      recognised_are = c.in_ok-recognised.ensures.recognised;
    } (c.in-NoAwards.ensures.none.0 refl) record {
      bidders = [];
      bidders_are = refl;
      is = line ∙ sym (append-nil _);
    }) c.nothing_line.ensures

pub returns : goal.returns
returns c = IfOk-weaker c.cut_lines.result _ _ (λ text lines kept is.
    cut-text false kept c.args.book c.args.book.bidders.keys c.in_ok-recognised.recognised.lines c.in-Cut.cut text.items
    record {
      tally = is.tally;
      names_are = refl;
      positions = c.deref.result.now;
      positions_are = c.deref.ensures.value;
      recognised_are = c.in_ok-recognised.ensures.recognised;
    }
    record {
      sums = c.args.book.sums.items;
      sums_are = refl;
      sought = c.sought-sought.result.value;
      sought_is = c.sought-sought.ensures;
      is = c.in-Cut.ensures.cut c.in-Cut.cut refl;
      text_is = record {
        bidders = [];
        bidders_are = refl;
        is = lines ∙ sym (append-nil _);
      };
    }) c.cut_lines.ensures
