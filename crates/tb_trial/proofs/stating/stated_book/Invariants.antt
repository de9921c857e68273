-- The book has the bids up to this one.
use Rattle.std.proofs.Common.{◌≡◌}
use Rattle.std.specs.Prelude.{IsPermutation}
use Rattle.tb_trial.specs.Trials.{drawn_for}
use Rattle.tb_trial.proofs.StatedLemmas.{lines_to}
use Rattle.tb_trial.proofs.stating.stated_book.Given as goal

abbrev pub invariant-loop-stated : goal.invariant-loop-stated
invariant-loop-stated l = record {
  drawn : l.drawn ≡ drawn_for l.fn.seed l.stated;
  booked : IsPermutation (lines_to l.fn.seed l.stated) l.book.lines;
}
