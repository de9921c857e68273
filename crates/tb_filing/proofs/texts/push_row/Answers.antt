-- The words of a row were put, and then the end of the line.
use Rattle.std.proofs.Common.{◌∷◌, ◌++◌, ap, ◌∙◌}
use Rattle.tb_units.specs.Bytes.{blank}
use Rattle.tb_register.specs.Rows.{kept}
use Rattle.tb_filing.proofs.TextLemmas.{row-line}
use Rattle.tb_filing.proofs.texts.push_row.Goals as goal

pub returns : goal.returns
returns c =
    let old = c.args.text.now.items in
    let named = c.extend_from_slice.new.self.items in
    let issued = c.push_word.new.text.items in
    let matured = c.push_word-2.new.text.items in
    let offered = c.push_word-3.new.text.items in
    c.in_ok-push.ensures.items
    ∙ row-line (kept c.args.row.now) old named issued matured offered c.push_word-4.new.text.items
    c.push_figures.new.text.items
    (c.in_ok-extend_from_slice.ensures.items ∙ ap (λ word. old ++ word) c.bytes.ensures.bytes)
    (c.in_ok-push_word.ensures
    ∙ ap (λ word. named ++ blank ∷ word) (c.bytes-2.ensures.bytes ∙ c.print_day.ensures.text))
    (c.in_ok-push_word-2.ensures
    ∙ ap (λ word. issued ++ blank ∷ word) (c.bytes-3.ensures.bytes ∙ c.print_day-2.ensures.text))
    (c.in_ok-push_word-3.ensures ∙ ap (λ word. matured ++ blank ∷ word) (c.bytes-4.ensures.bytes ∙ c.print.ensures))
    (c.in_ok-push_word-4.ensures ∙ ap (λ word. offered ++ blank ∷ word) (c.bytes-5.ensures.bytes ∙ c.print-2.ensures))
    c.in_ok-push_figures.ensures
