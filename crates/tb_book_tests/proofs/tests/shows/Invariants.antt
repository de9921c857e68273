-- the steps are counted in the ledger of the blank
use Rattle.tb_book_tests.proofs.tests.shows.Given as goal

abbrev pub ghosts-has_lines : goal.ghosts-has_lines
ghosts-has_lines a = record { name = a.blank.name; parts = a.blank.parts }
