use Rattle.std.proofs.Common.{length}
use Rattle.tb_disk.proofs.ImageLemmas.{Torn-none, Torn-any, MaybeCut-none}
use Rattle.tb_disk.proofs.laws.unsynced_may_be_lost.Goals as goal

pub returns-clause-write : goal.returns-clause-write
returns-clause-write c past place bytes image left = (image, left, Torn-none place (length bytes) _ image)

pub returns-clause-any_bytes : goal.returns-clause-any_bytes
returns-clause-any_bytes c past place bytes others image as_many within left =
    (image, left, Torn-any place bytes others image as_many within)

pub returns-clause-failed_write : goal.returns-clause-failed_write
returns-clause-failed_write c past place count contents image left = (image, left, Torn-none place count _ image)

pub returns-clause-cut : goal.returns-clause-cut
returns-clause-cut c past n image left = (image, left, MaybeCut-none n image)
