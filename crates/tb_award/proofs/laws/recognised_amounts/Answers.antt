use Rattle.std.proofs.Common.{length}
use Rattle.tb_award.specs.Limits.{cap_of}
use Rattle.tb_award.specs.Recognition.{bid_in, limits_by}
use Rattle.tb_award.proofs.RecognitionLemmas.{IsRecognitionOf-hundreds, recognised_of-le}
use Rattle.tb_award.proofs.laws.recognised_amounts.Goals as goal

pub returns-clause-hundreds : goal.returns-clause-hundreds
returns-clause-hundreds c lines positions offering recognised are hundreds =
    IsRecognitionOf-hundreds lines positions offering recognised hundreds are

pub returns-clause-limited : goal.returns-clause-limited
returns-clause-limited c lines positions offering recognised bidder are =
    recognised_of-le (bid_in lines) (cap_of offering) (limits_by offering positions)
    (length positions) bidder recognised are
