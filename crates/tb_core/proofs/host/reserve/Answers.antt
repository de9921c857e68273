-- The rows stay, and no room is lost.
use Rattle.std.proofs.Common.{refl, arith}
use Rattle.std.proofs.lemmas.Result.{on_ok_weaker}
use Rattle.tb_core.proofs.HouseLemmas.{KeepsRoom-same, fits_more, house_kept}
use Rattle.tb_core.proofs.host.reserve.Goals as goal

pub returns-clause-house : goal.returns-clause-house
returns-clause-house c =
    let entries = c.reserve_rows.new.entries in
    let room = c.reserve_rows.new.room in
    let house = c.reserve_rows.ensures.house in
    house_kept entries entries c.reserve_rows.new.tables c.reserve_ahead.new.self refl (omega arith)
    c.reserve_ahead.ensures.same c.reserve_ahead.ensures.room c.reserve_ahead.ensures.scratch room house

pub returns-clause-fits : goal.returns-clause-fits
returns-clause-fits c =
    on_ok_weaker c.reserve_ahead.result
    (fits_more c.reserve_rows.new.room c.reserve_ahead.new.self c.args.ahead.now c.args.messages.now
    c.in_ok-reserve_rows.ensures.enough) c.reserve_ahead.ensures.ahead

pub returns-clause-room : goal.returns-clause-room
returns-clause-room c = λ messages fits.
    KeepsRoom-same c.reserve_rows.new.room c.reserve_rows.new.room c.reserve_rows.new.tables c.reserve_ahead.new.self
    (omega arith) c.reserve_ahead.ensures.same messages (c.reserve_rows.ensures.room messages fits)
