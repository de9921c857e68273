-- The history is legal with the entry, and each table is longer by what it says.
use Rattle.std.proofs.Common.{◌-◌, ◌≤◌, ◌≡◌, ◌+◌, arith}
use Rattle.tb_core.proofs.TiedLemmas.{Follows-in_order, cash-tied}
use Rattle.tb_core.proofs.SettleLemmas.{settle-room_of}
use Rattle.tb_core.proofs.ReadyLemmas.{AreFew-tied, IsReady-tied}
use Rattle.tb_core.proofs.HouseLemmas.{few-bidders, house_one_more, house_push, takes-entry, takes-room}
use Rattle.tb_core.proofs.host.enter.Goals as goal

pub enter-requires-clause-tied : goal.enter-requires-clause-tied
enter-requires-clause-tied c = c.requires.house.tied

pub enter-requires-clause-settling : goal.enter-requires-clause-settling
enter-requires-clause-settling c is =
    settle-room_of c.args.entries.now c.args.tables.now c.args.room.now c.args.entry.message c.requires.house
    c.requires.fits is

pub enter-requires-clause-order : goal.enter-requires-clause-order
enter-requires-clause-order c = Follows-in_order c.args.entries.now.list c.args.entry c.requires.follows

pub enter-requires-clause-few : goal.enter-requires-clause-few
enter-requires-clause-few c = few-bidders c.args.entries.now.list c.args.tables.now c.requires.house.tied

pub enter-requires-clause-takes : goal.enter-requires-clause-takes
enter-requires-clause-takes c =
    takes-entry c.args.entries.now.list c.args.tables.now c.args.room.now c.args.entry c.requires.house.tied
    c.requires.follows c.requires.fits

pub enter-requires-clause-numbered : goal.enter-requires-clause-numbered
enter-requires-clause-numbered c = AreFew-tied c.args.entries.now.list c.args.tables.now c.requires.house.tied

pub enter-requires-clause-ready : goal.enter-requires-clause-ready
enter-requires-clause-ready c =
    IsReady-tied c.args.entries.now.list c.args.tables.now c.args.entry c.requires.house.tied c.requires.follows

pub enter-requires-clause-next : goal.enter-requires-clause-next
enter-requires-clause-next c = (
  c.args.entries.now.list,
  c.args.entry,
  record {
    legal = c.requires.house.tied.legal;
    follows = c.requires.follows;
    told = c.requires.house.tied.funds_tell;
  },
  cash-tied c.args.entries.now.list c.args.tables.now c.args.entry c.requires.house.tied,
)

pub returns-clause-house : goal.returns-clause-house
returns-clause-house c =
    let some : 1 ≤ c.args.room.now = omega (arith, c.requires.fits.rows) in
    house_push c.args.entries.now c.push.new.self c.args.tables.now c.enter.new.self c.args.entry c.requires.follows
    c.enter.ensures.told c.enter.ensures.funds c.push.ensures.list c.push.ensures.spare c.enter.ensures.entered
    c.enter.ensures.last c.enter.ensures.room
    (c.args.room.now - 1) (house_one_more c.args.entries.now c.args.tables.now c.args.room.now some c.requires.house)

pub returns-clause-room : goal.returns-clause-room
returns-clause-room c =
    let less : c.args.room.now - 1 + 1 ≡ c.args.room.now = omega (arith, c.requires.fits.rows) in
    takes-room c.args.entries.now.list c.args.room.now (c.args.room.now - 1) c.args.tables.now c.enter.new.self
    c.args.entry.submitter c.args.entry.number c.args.entry.message c.requires.house.roomy c.enter.ensures.entered less
