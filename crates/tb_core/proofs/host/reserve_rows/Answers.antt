-- The rows stay, and no room is lost.
use Rattle.std.proofs.Common.{arith}
use Rattle.tb_core.proofs.HouseLemmas.{HasScratch-same, KeepsRoom-same, house_kept, house_more}
use Rattle.tb_core.proofs.host.reserve_rows.Goals as goal

pub returns-in_err-reserve_rows-clause-house : goal.returns-in_err-reserve_rows-clause-house
returns-in_err-reserve_rows-clause-house c =
    let old = c.args.tables.now in
    let new = c.reserve_rows.new.self in
    let same = c.reserve_rows.ensures.same in
    house_kept c.args.entries.now c.reserve.new.self old new c.reserve.ensures.list c.reserve.ensures.room same
    c.reserve_rows.ensures.room (HasScratch-same old new same c.reserve_rows.ensures.scratch c.requires.scratch)
    c.args.room.now c.requires

pub returns-in_err-reserve_rows-clause-room : goal.returns-in_err-reserve_rows-clause-room
returns-in_err-reserve_rows-clause-room c =
    KeepsRoom-same c.args.room.now c.args.room.now c.args.tables.now c.reserve_rows.new.self (omega arith)
    c.reserve_rows.ensures.same

pub returns-clause-house : goal.returns-clause-house
returns-clause-house c =
    let old = c.args.tables.now in
    let new = c.reserve_rows.new.self in
    let same = c.reserve_rows.ensures.same in
    house_more c.args.entries.now c.reserve.new.self old new c.max-rows.result c.reserve.ensures.list
    c.in_ok-reserve.ensures.spare same c.in_ok-reserve_rows.ensures.spare
    (HasScratch-same old new same c.reserve_rows.ensures.scratch c.requires.scratch) c.args.room.now c.requires

pub returns-clause-room : goal.returns-clause-room
returns-clause-room c =
    KeepsRoom-same c.args.room.now c.max-rows.result c.args.tables.now c.reserve_rows.new.self
    (omega (arith, c.max-rows.ensures, c.if-more-room.false)) c.reserve_rows.ensures.same
