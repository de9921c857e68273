-- A book of one bidder's sound lines is of some bidding.
use Rattle.std.proofs.Common.{◌≡◌, ℕ, true, List, [], ◌∷◌, refl, sym, subst, arith}
use Rattle.std.specs.Prelude.{All}
use Rattle.tb_history.specs.declared.roster.Enrolment.{Enrolment}
use Rattle.tb_history.specs.Readings.{AreDistinct}
use Rattle.tb_results.specs.Biddings.{is_sound_line}
use Rattle.tb_results.proofs.SampleLemmas.{IsBookOf-sample, sample_of}
use Rattle.tb_results_tests.proofs.tests.awards_of.Goals as goal

-- one bidder isn't enrolled twice
distinct-one : (e : Enrolment) → AreDistinct (e ∷ [])
distinct-one e = λ j k d before within same. absurd (omega (arith, before, within))

pub awards-requires-clause-bidding : goal.awards-requires-clause-bidding
awards-requires-clause-bidding g c =
    let enrolled : List Enrolment = c.fund-bidder.result ∷ [] in (
      sample_of c.args.terms.now c.args.book.now.lines enrolled,
      IsBookOf-sample c.args.terms.now c.args.book.now.lines enrolled (distinct-one c.fund-bidder.result)
          c.requires.offering c.requires.floor
          (subst (λ (n : ℕ). All (λ line. is_sound_line 1 n line ≡ true) c.args.book.now.lines) (sym c.requires.days)
          c.requires.sound),
      refl,
    )
