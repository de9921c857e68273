-- Entries and tables lose what the last bid added.
use Rattle.tb_core.proofs.HouseLemmas.{few-bidders}
use Rattle.tb_core.proofs.TakenBackLemmas.{KeepsRoom-back, has_bids-tied, house_back, popped}
use Rattle.tb_core.proofs.host.take_back.Goals as goal

pub take_back-requires-clause-some : goal.take_back-requires-clause-some
take_back-requires-clause-some c =
    has_bids-tied c.args.entries.now.list c.args.before c.args.tables.now c.requires.house.1.tied c.requires.bid

pub take_back-requires-clause-few : goal.take_back-requires-clause-few
take_back-requires-clause-few c = few-bidders c.args.entries.now.list c.args.tables.now c.requires.house.1.tied

pub returns-clause-history : goal.returns-clause-history
returns-clause-history c earlier last is =
    popped c.pop.result c.args.entries.now.list c.pop.new.self.list earlier last is c.pop.ensures.none
    c.pop.ensures.some

pub returns-clause-house : goal.returns-clause-house
returns-clause-house c =
    let ends = c.requires.bid in
    house_back c.args.entries.now c.pop.new.self c.args.before c.args.tables.now c.take_back.new.self ends
    (popped c.pop.result c.args.entries.now.list c.pop.new.self.list ends.earlier ends.last ends.is c.pop.ensures.none
    c.pop.ensures.some)
    c.pop.ensures.spare c.take_back.ensures

pub returns-clause-room : goal.returns-clause-room
returns-clause-room c room =
    KeepsRoom-back c.args.before room c.args.tables.now c.take_back.new.self c.take_back.ensures
