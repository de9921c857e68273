use Rattle.tb_words.proofs.KeyLemmas.{key_some, key_none}
use Rattle.tb_words.proofs.shape.read_key.Goals as goal

pub returns-clause-key : goal.returns-clause-key
returns-clause-key c = key_some c.args.text.now c.read.result c.read.ensures

pub returns-clause-none : goal.returns-clause-none
returns-clause-none c = key_none c.args.text.now c.read.result c.read.ensures
