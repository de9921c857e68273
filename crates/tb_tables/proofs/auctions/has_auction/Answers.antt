use Rattle.std.proofs.Common.{◌∙◌, sym, ap, is_some}
use Rattle.tb_tables.proofs.FindLemmas.{announced_some}
use Rattle.tb_tables.proofs.auctions.has_auction.Goals as goal

pub returns : goal.returns
returns c = c.is_some.ensures ∙ (sym (announced_some c.terms_of.result) ∙ ap is_some c.terms_of.ensures)
