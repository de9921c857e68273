use Rattle.std.proofs.Common.{◌≡◌, ◌*◌, ◌^◌, ◌≤◌, true}
use Rattle.std.specs.Prelude.{All}
use Rattle.tb_book.specs.Books.{par_in}
use Rattle.tb_results.specs.Biddings.{is_sound_line}
use Rattle.tb_results_tests.proofs.tests.book_of.Given as goal

-- the lines so far are sound, and of so much par at most, and the book is open
abbrev pub invariant-loop-place : goal.invariant-loop-place
invariant-loop-place g l =
    All (λ line. is_sound_line l.bidders 91 line ≡ true) l.book.lines × (par_in l.book.lines ≤ l.place * 2 ^ 32)
    × (l.book.opened ≡ true)
