-- the ledger of the steps is that of the blank
use Rattle.tb_award_tests.proofs.tests.recognised_of_one.Given as goal

abbrev pub ghosts-recognised_by : goal.ghosts-recognised_by
ghosts-recognised_by g a = record { name = a.blank.name; parts = a.blank.parts }
