-- The position is that of the last report.
use Rattle.std.proofs.Common.{rules, ◌≡◌, ◌∙◌, sym, w64, to_z, of_z}
use Rattle.std.specs.List.{filter}
use Rattle.tb_history.specs.declared.bids.Report.{Report}
use Rattle.tb_history.specs.Entries.{is_same}
use Rattle.tb_entries.proofs.CallerLemmas.{and-swap}
use Rattle.tb_tables.proofs.ReportLemmas.{position_of-last}
use Rattle.tb_tables.proofs.bidding.position_of.Goals as goal

pub returns-in-Some : goal.returns-in-Some
returns-in-Some c =
    let auction = c.args.auction.now in
    let bidder = c.args.bidder.now in
    let all = c.args.reports.now.list in
    let report = c.in-Some.report.now in
    let back : to_z w64 (of_z w64 report.position) ≡ report.position = search rules in
    let last = (λ i. filter
    (λ (report : Report). and-swap (is_same report.auction auction) (is_same report.bidder bidder) i) all)
    ∙ c.in-Some.ensures.some.1 in
    back ∙ sym (position_of-last all auction bidder c.in-Some.ensures.some.0 report last)
