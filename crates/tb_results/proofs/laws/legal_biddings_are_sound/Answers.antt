use Rattle.tb_results.proofs.LegalLemmas.{IsLegal-sound}
use Rattle.tb_results.proofs.laws.legal_biddings_are_sound.Goals as goal

pub returns : goal.returns
returns c history auction a legal found = IsLegal-sound history auction a legal found
