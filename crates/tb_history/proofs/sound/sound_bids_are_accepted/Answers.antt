-- Each clause is a lemma on legal histories.
use Rattle.tb_history.proofs.SoundLemmas.{sound-accepted, accepted-sound, kept-repeated}
use Rattle.tb_history.proofs.sound.sound_bids_are_accepted.Goals as goal

pub returns-clause-accepted : goal.returns-clause-accepted
returns-clause-accepted c history submitter number moment auction bidder rate amount legal unused = (
  λ sound. sound-accepted history submitter number moment auction bidder rate amount legal unused sound,
  λ accepted. accepted-sound history submitter number moment auction bidder rate amount accepted,
)

pub returns-clause-repeated : goal.returns-clause-repeated
returns-clause-repeated c history submitter number moment entry legal found =
    kept-repeated history submitter number moment entry legal found
