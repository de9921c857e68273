-- the ledger of the steps is that of the blank
use Rattle.tb_award.proofs.uncounted.recognise_into_uncounted.Given as goal

abbrev pub ghosts-recognise_for : goal.ghosts-recognise_for
ghosts-recognise_for g a = record { name = a.blank.name; parts = a.blank.parts }
