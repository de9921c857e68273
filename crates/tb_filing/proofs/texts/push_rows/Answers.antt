-- The line of one row more was put.
use Rattle.std.proofs.Common.{◌≡◌, ◌+◌, ◌∷◌, [], ◌++◌, List, map, take, sym, ap, ◌∙◌, arith}
use Rattle.std.proofs.lemmas.List.{take_more}
use Rattle.tb_report.specs.Lines.{line, text_of}
use Rattle.tb_register.specs.Rows.{kept}
use Rattle.tb_register.specs.declared.row.Row.{Row}
use Rattle.tb_filing.specs.Texts.{row_words}
use Rattle.tb_filing.proofs.TextLemmas.{rows-more}
use Rattle.tb_filing.proofs.texts.push_rows.Goals as goal

pub loop-row-preserved : goal.loop-row-preserved
loop-row-preserved c =
    let rows : List Row = c.args.rows.now in
    let at = c.loop-row.row-index in
    let row : Row = c.row-item.result in
    let old = c.args.text.now.items in
    let step : take (at + 1) rows ≡ take at rows ++ row ∷ [] =
    take_more rows at row (omega arith) ∙ ap (λ x. take at rows ++ x ∷ []) (sym c.row-item.is) in
    c.in_ok-push_row.ensures
    ∙ ap (λ text. text ++ line (row_words (kept row))) c.loop-row.invariant
    ∙ rows-more old (take at rows) row
    ∙ ap (λ those. old ++ text_of (map row_words (map kept those))) (sym step)
