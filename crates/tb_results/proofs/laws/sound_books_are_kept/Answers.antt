use Rattle.std.proofs.Common.{refl}
use Rattle.tb_results.proofs.SampleLemmas.{IsBookOf-sample, sample_of}
use Rattle.tb_results.proofs.laws.sound_books_are_kept.Goals as goal

pub returns : goal.returns
returns c terms lines enrolled distinct offering floor sound =
    (sample_of terms lines enrolled, IsBookOf-sample terms lines enrolled distinct offering floor sound, refl)
