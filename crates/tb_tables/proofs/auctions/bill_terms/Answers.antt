-- The announcement that is found is that of the terms.
use Rattle.std.proofs.Common.{◌≡◌, ap, ◌∙◌}
use Rattle.std.specs.List.{find}
use Rattle.tb_terms.specs.declared.terms.Terms.{Terms}
use Rattle.tb_history.specs.Roster.{is_of_bill}
use Rattle.tb_tables.specs.Auctions.{announcement_in}
use Rattle.tb_tables.proofs.FindLemmas.{announced_at}
use Rattle.tb_tables.proofs.auctions.bill_terms.Goals as goal

pub returns : goal.returns
returns c =
    let test = is_of_bill c.args.cusip.now in
    let found : c.copied.result ≡ find (λ (terms : Terms). test terms.announcement) c.args.auctions.now.list =
    c.copied.ensures ∙ c.get_other.ensures in
    ap announcement_in found ∙ announced_at test c.args.auctions.now.list
