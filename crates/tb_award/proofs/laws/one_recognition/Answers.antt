use Rattle.std.proofs.Common.{length}
use Rattle.tb_award.specs.Limits.{cap_of}
use Rattle.tb_award.specs.Recognition.{bid_in, limits_by}
use Rattle.tb_award.proofs.RecognitionLemmas.{AreRecognised-one}
use Rattle.tb_award.proofs.laws.one_recognition.Goals as goal

pub returns : goal.returns
returns c lines positions offering one other are are' =
    AreRecognised-one (bid_in lines) (cap_of offering) (limits_by offering positions)
    (length positions) one other are are'
