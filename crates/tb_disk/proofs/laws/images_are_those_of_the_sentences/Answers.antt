use Rattle.tb_disk.proofs.SentenceLemmas.{becomes, is_left}
use Rattle.tb_disk.proofs.laws.images_are_those_of_the_sentences.Goals as goal

pub returns : goal.returns
returns c past image made = (becomes past image made, is_left past image made)
