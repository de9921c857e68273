-- The bid is settled.
use Rattle.std.proofs.Common.{◌≡◌, ◌-◌, ◌<◌, length, ap₂, ◌∙◌, refl, arith, rules}
use Rattle.std.specs.Prelude.{min, slice_index}
use Rattle.std.proofs.lemmas.List.{get_or_read}
use Rattle.tb_award.specs.Recognition.{limits_by}
use Rattle.tb_award.proofs.SettleLemmas.{AreSettled-kept}
use Rattle.tb_award.proofs.recognising.settle.Goals as goal

pub returns-clause-settled : goal.returns-clause-settled
returns-clause-settled c = λ lines reading.
    let bidder = c.args.bid.bidder in
    let taken = c.args.taken.now.items in
    let within : bidder < length taken = omega arith in
    let limit : c.limit.result.value ≡ limits_by c.args.offering.value c.args.positions.now bidder = search rules in
    let before : c.index.result.now ≡ slice_index taken bidder = get_or_read taken bidder _ within c.index.ensures 0 in
    let old : c.index_mut.result.now ≡ slice_index taken bidder =
    get_or_read taken bidder _ within c.index_mut.ensures.value 0 in
    let is = c.min-amount.ensures ∙ ap₂ (λ l t. min c.args.bid.amount.value (l - t)) limit before in
    AreSettled-kept reading _ c.keep.ensures.recognised is (refl, refl) old
