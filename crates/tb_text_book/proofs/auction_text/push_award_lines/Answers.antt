use Rattle.std.proofs.Common.{◌≡◌, ℕ, ◌+◌, List, ◌∷◌, [], ◌++◌, length, take, slice_index, sym, ap, subst, ◌∙◌, arith, append_assoc}
use Rattle.std.proofs.lemmas.List.{take_more, length-take-le}
use Rattle.tb_price.specs.Payments.{IsPayment}
use Rattle.tb_text_book.specs.BookRun.{AreAwardLines, award_line}
use Rattle.tb_text_book.proofs.AwardLemmas.{award-lines-more}
use Rattle.tb_text_book.proofs.auction_text.push_award_lines.Goals as goal

pub loop-number-preserved : goal.loop-number-preserved
loop-number-preserved c =
    let names = c.args.bidders.now in
    let k = c.loop-number.number in
    let name = c.index-bidders-number.result in
    let amounts = slice_index c.args.amounts.now in
    let price = c.args.price.millionths in
    let cents = c.payment.result.value in
    let so_far = c.loop-number.invariant in
    let size : 0 + length (take k names) ≡ k = omega (arith, length-take-le k names (omega arith)) in
    let step : take (k + 1) names ≡ take k names ++ name ∷ [] =
    take_more names k name (omega arith) ∙ ap (λ x. take k names ++ x ∷ []) (sym c.index-bidders-number.is) in
    let paid : IsPayment (amounts (0 + length (take k names))) price cents =
    subst (λ (n : ℕ). IsPayment (amounts n) price cents) (sym size) c.payment.ensures in
    let line : award_line name (amounts (0 + length (take k names))) cents ≡ award_line name (amounts k) cents =
    ap (λ n. award_line name (amounts n) cents) size in (
      so_far.0 ++ award_line name (amounts (0 + length (take k names))) cents,
      c.in_ok-push_award_line.ensures ∙ ap (λ t. t ++ award_line name (amounts k) cents) so_far.1
          ∙ append_assoc c.args.text.now.items so_far.0 (award_line name (amounts k) cents)
          ∙ ap (λ t. c.args.text.now.items ++ (so_far.0 ++ t)) (sym line),
      subst (λ (ns : List (List ℕ)). AreAwardLines amounts price 0 ns
          (so_far.0 ++ award_line name (amounts (0 + length (take k names))) cents)) (sym step)
          (award-lines-more amounts price 0 (take k names) so_far.0 name cents so_far.2 paid),
    )
