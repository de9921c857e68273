-- The place of the key is that of the holder and number.
use Rattle.tb_holdings.proofs.KeyLemmas.{IsPlace-key}
use Rattle.tb_holdings.proofs.MarkLemmas.{mark_key}
use Rattle.tb_holdings.proofs.mark.mark_place_of.Goals as goal

pub returns : goal.returns
returns c =
    IsPlace-key mark_key (c.args.holder, c.args.number) c.args.marks.now.elements c.place_of.result
    c.place_of.ensures.within c.place_of.ensures.place
