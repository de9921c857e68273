-- The announcement that is found is that of the terms.
use Rattle.std.proofs.Common.{◌≡◌, ap, ◌∙◌, List}
use Rattle.std.specs.List.{find}
use Rattle.tb_terms.specs.declared.announcement.Announcement.{Announcement}
use Rattle.tb_terms.specs.declared.terms.Terms.{Terms}
use Rattle.tb_history.specs.Entries.{is_same}
use Rattle.tb_tables.specs.Auctions.{announcement_in}
use Rattle.tb_tables.proofs.FindLemmas.{announced_at}
use Rattle.tb_tables.proofs.auctions.terms_of.Goals as goal

pub returns : goal.returns
returns c =
    let test = λ (a : Announcement). is_same a.auction c.args.auction.now in
    let found : c.copied.result ≡ find (λ (terms : Terms). test terms.announcement) c.args.auctions.now.list =
    c.copied.ensures
    ∙ (c.get.ensures ∙ ap (λ (list : List Terms). find (λ (terms : Terms). test terms.announcement) list)
    c.named.ensures) in
    ap announcement_in found ∙ announced_at test c.args.auctions.now.list
