use Rattle.std.proofs.Common.{◌<◌, length, refl, arith}
use Rattle.std.proofs.lemmas.List.Sorted.{All-permutation, sum_by-IsPermutation}
use Rattle.std.proofs.lemmas.Result.{IfOk-weaker}
use Rattle.tb_units.specs.declared.lines.RateLine.{RateLine}
use Rattle.tb_award.specs.Cuts.{amount_of}
use Rattle.tb_award.specs.Limits.{cap_of}
use Rattle.tb_award.specs.Recognition.{bid_in, limits_by}
use Rattle.tb_award.proofs.BidLemmas.{bid_of}
use Rattle.tb_award.proofs.CallerLemmas.{AreRecognised-same}
use Rattle.tb_text_book.proofs.auction_text.recognise_lines.Goals as goal

pub recognise_uncounted-requires-clause-known : goal.recognise_uncounted-requires-clause-known
recognise_uncounted-requires-clause-known c =
    All-permutation (λ (l : RateLine). l.bidder < length c.args.positions.now) c.args.lines.items
    c.new-ordered.result c.new-ordered.ensures c.requires.known

pub returns-clause-recognised : goal.returns-clause-recognised
returns-clause-recognised c =
    let limits = limits_by c.args.offering.value c.args.positions.now in
    let bidders = length c.args.positions.now in
    IfOk-weaker c.recognise_uncounted.result _ _
    (λ r are. AreRecognised-same (bid_in c.new-ordered.result) (bid_in c.args.lines.items)
    (cap_of c.args.offering.value) limits limits bidders r.lines
    (λ b steps. sum_by-IsPermutation (bid_of b steps) c.args.lines.items c.new-ordered.result c.new-ordered.ensures)
    (λ b below. refl) are) c.recognise_uncounted.ensures.recognised

pub returns-clause-within : goal.returns-clause-within
returns-clause-within c =
    IfOk-weaker c.recognise_uncounted.result _ _
    (λ r within. omega (
      arith,
      within,
      sum_by-IsPermutation amount_of c.args.lines.items c.new-ordered.result c.new-ordered.ensures,
    )) c.recognise_uncounted.ensures.within
