-- The last row is a row, so its auction's number is the first place of its name.
use Rattle.std.proofs.Common.{◌<◌, ◌-◌, length, arith}
use Rattle.std.proofs.lemmas.Bool.Decides.{nat_tests}
use Rattle.tb_entries.proofs.entries.last_auction.Goals as goal

pub returns : goal.returns
returns c names others are =
    let within : length c.args.rows.now - 1 < length c.args.rows.now = grind (arith, nat_tests) in
    c.auction_in.ensures names others (are (length c.args.rows.now - 1) c.index-rows-rows.result within).said
