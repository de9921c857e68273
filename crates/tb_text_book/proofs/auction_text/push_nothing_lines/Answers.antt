use Rattle.std.proofs.Common.{◌≡◌, ◌+◌, ◌∷◌, [], ◌++◌, take, sym, ap, ◌∙◌, arith, append_assoc}
use Rattle.std.proofs.lemmas.List.{take_more}
use Rattle.tb_text_book.specs.BookRun.{award_line, nothing_lines}
use Rattle.tb_text_book.proofs.AwardLemmas.{nothing-lines-more}
use Rattle.tb_text_book.proofs.auction_text.push_nothing_lines.Goals as goal

pub loop-bidder-preserved : goal.loop-bidder-preserved
loop-bidder-preserved c =
    let names = c.args.bidders.now in
    let k = c.loop-bidder.bidder-index in
    let name = c.bidder-item.result in
    let old = c.args.text.now.items in
    let step : take (k + 1) names ≡ take k names ++ name ∷ [] =
    take_more names k name (omega arith) ∙ ap (λ x. take k names ++ x ∷ []) (sym c.bidder-item.is) in
    c.in_ok-push_award_line.ensures ∙ ap (λ t. t ++ award_line name 0 0) c.loop-bidder.invariant
    ∙ append_assoc old (nothing_lines (take k names)) (award_line name 0 0)
    ∙ ap (λ t. old ++ t) (sym (ap nothing_lines step ∙ nothing-lines-more (take k names) name))
