use Rattle.tb_filing.proofs.FitsLemmas.{FitsRow-results}
use Rattle.tb_filing.proofs.results.row_on.Goals as goal

pub row_of-requires : goal.row_of-requires
row_of-requires g c =
    FitsRow-results c.args.desk.now.host.history c.args.auction.now c.in_ok-results.results c.entries.ensures.legal
    c.in_ok-results.ensures
