-- Bids that share a turn, by what they were answered.
use Rattle.std.proofs.Common.{arith, drop}
use Rattle.tb_gates.specs.Links.{link_of}
use Rattle.tb_lock.specs.Passes.{view}
use Rattle.tb_session.proofs.RowLemmas.{after-none-err, after-none-ok, row-bids, row-counted, row-numbered, row-plain, row-shared, told-on, told-unwritten}
use Rattle.tb_session.proofs.session.serve_row.Goals as goal

pub perform_group-requires-clause-bids : goal.perform_group-requires-clause-bids
perform_group-requires-clause-bids g c =
    row-bids c.args.row.key c.args.inbox.now (drop c.args.row.used c.args.inbox.now) c.requires.row.requests
    c.args.row.bids.items c.requires.row.are

pub perform_group-requires-clause-numbered : goal.perform_group-requires-clause-numbered
perform_group-requires-clause-numbered g c =
    row-numbered c.args.row.key c.args.inbox.now (drop c.args.row.used c.args.inbox.now) c.requires.row.requests
    c.args.row.bids.items c.requires.row.are

pub returns-in-OutOfMemory-clause-on : goal.returns-in-OutOfMemory-clause-on
returns-in-OutOfMemory-clause-on g c =
    after-none-ok c.args.turns c.args.inbox.now (view c.args.pass.now) (view c.perform_group.new.pass)
    (view c.serve_one.new.pass) (link_of g.K.Source.source g.K.Sink.sink c.args.link.now)
    (link_of g.K.Source.source g.K.Sink.sink c.serve_one.new.link) (omega (arith, c.requires.few))
    c.in-OutOfMemory.ensures.gains c.serve_one.result c.serve_one.new.inbox c.serve_one.ensures.on

pub returns-in-OutOfMemory-clause-ended : goal.returns-in-OutOfMemory-clause-ended
returns-in-OutOfMemory-clause-ended g c =
    after-none-err c.args.turns c.args.inbox.now (view c.args.pass.now) (view c.perform_group.new.pass)
    (view c.serve_one.new.pass) (link_of g.K.Source.source g.K.Sink.sink c.args.link.now)
    (link_of g.K.Source.source g.K.Sink.sink c.serve_one.new.link) (omega (arith, c.requires.few))
    c.in-OutOfMemory.ensures.gains c.serve_one.result c.serve_one.ensures.ended

pub reply_row-requires-clause-counted : goal.reply_row-requires-clause-counted
reply_row-requires-clause-counted g c =
    let gains = row-shared (view c.args.pass.now) (view c.perform_group.new.pass) c.args.row.key c.args.row.bids.items
    c.perform_group.result c.perform_group.new.verdicts c.in_default.not-OutOfMemory c.perform_group.ensures.gains in
    row-counted c.count-count.result c.args.row.key (view c.args.pass.now) (view c.perform_group.new.pass)
    c.args.row.bids.items c.perform_group.result c.perform_group.new.verdicts c.count-count.ensures gains

pub reply_row-requires-clause-plain : goal.reply_row-requires-clause-plain
reply_row-requires-clause-plain g c =
    let gains = row-shared (view c.args.pass.now) (view c.perform_group.new.pass) c.args.row.key c.args.row.bids.items
    c.perform_group.result c.perform_group.new.verdicts c.in_default.not-OutOfMemory c.perform_group.ensures.gains in
    row-plain c.count-count.result c.args.row.key (view c.args.pass.now) (view c.perform_group.new.pass)
    c.args.row.bids.items c.perform_group.result c.perform_group.new.verdicts c.count-count.ensures gains

pub returns-in-Ok-clause-on : goal.returns-in-Ok-clause-on
returns-in-Ok-clause-on g c =
    let gains = row-shared (view c.args.pass.now) (view c.perform_group.new.pass) c.args.row.key c.args.row.bids.items
    c.perform_group.result c.perform_group.new.verdicts c.in_default.not-OutOfMemory c.perform_group.ensures.gains in
    told-on c.args.turns c.count-count.result c.args.row.key c.args.inbox.now (drop c.args.row.used c.args.inbox.now)
    (view c.args.pass.now) (view c.perform_group.new.pass) (link_of g.K.Source.source g.K.Sink.sink c.args.link.now)
    (link_of g.K.Source.source g.K.Sink.sink c.reply_row.new.link) c.requires.row.requests c.args.row.bids.items
    c.perform_group.result c.perform_group.new.verdicts c.requires.row.are c.count-count.ensures gains c.requires.few
    c.used.new.self c.used.ensures c.in-Ok.ensures

pub returns-clause-ended : goal.returns-clause-ended
returns-clause-ended g c =
    let gains = row-shared (view c.args.pass.now) (view c.perform_group.new.pass) c.args.row.key c.args.row.bids.items
    c.perform_group.result c.perform_group.new.verdicts c.in_default.not-OutOfMemory c.perform_group.ensures.gains in
    told-unwritten c.args.turns c.count-count.result c.args.row.key c.args.inbox.now
    (drop c.args.row.used c.args.inbox.now) (view c.args.pass.now) (view c.perform_group.new.pass)
    (link_of g.K.Source.source g.K.Sink.sink c.args.link.now)
    (link_of g.K.Source.source g.K.Sink.sink c.reply_row.new.link) c.requires.row.requests c.args.row.bids.items
    c.perform_group.result c.perform_group.new.verdicts c.requires.row.are c.count-count.ensures gains c.requires.few
    c.in-Err.field-0 c.in-Err.ensures
