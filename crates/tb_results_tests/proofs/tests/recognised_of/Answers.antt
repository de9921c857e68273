-- A sound line is of one of the bidders.
use Rattle.std.proofs.Common.{◌<◌, get_or}
use Rattle.tb_book.proofs.CallerLemmas.{bidders-rate_lines, open_lines-open}
use Rattle.tb_results.proofs.SampleLemmas.{line-parts}
use Rattle.tb_results_tests.proofs.tests.recognised_of.Goals as goal

pub recognised_by-requires-clause-known : goal.recognised_by-requires-clause-known
recognised_by-requires-clause-known g c =
    rw (open_lines-open c.args.book.now c.requires.opened)
    (bidders-rate_lines (λ bidder. bidder < 5) c.args.book.now.lines
    (λ k d below. (line-parts 5 91 (get_or c.args.book.now.lines k d) (c.requires.sound k d below)).0))
