-- A book of sound lines is of some bidding.
use Rattle.std.proofs.Common.{◌≡◌, ℕ, true, sym, subst}
use Rattle.std.specs.Prelude.{All}
use Rattle.tb_results.specs.Biddings.{is_sound_line}
use Rattle.tb_results.proofs.SampleLemmas.{IsBookOf-sample, distinct-numbered, numbered, sample_of}
use Rattle.tb_results_tests.proofs.tests.results_of.Goals as goal

pub results-requires-clause-bidding : goal.results-requires-clause-bidding
results-requires-clause-bidding g c = (
  sample_of c.args.terms.now c.args.book.now.lines (numbered 0 5),
  IsBookOf-sample c.args.terms.now c.args.book.now.lines (numbered 0 5) (distinct-numbered 5) c.requires.offering
      c.requires.floor
      (subst (λ (n : ℕ). All (λ line. is_sound_line 5 n line ≡ true) c.args.book.now.lines) (sym c.requires.days)
      c.requires.sound),
)
