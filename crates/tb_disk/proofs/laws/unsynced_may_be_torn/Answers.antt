use Rattle.tb_disk.proofs.laws.unsynced_may_be_torn.Goals as goal

pub returns-clause-write : goal.returns-clause-write
returns-clause-write c past place bytes image torn left is_torn = (image, left, is_torn)

pub returns-clause-failed_write : goal.returns-clause-failed_write
returns-clause-failed_write c past place count contents image torn left is_torn = (image, left, is_torn)

pub returns-clause-cut : goal.returns-clause-cut
returns-clause-cut c past n image shortened left is_cut = (image, left, is_cut)
