-- The entries' announcements, and those that are asked.
use Rattle.std.proofs.Common.{arith}
use Rattle.tb_tables.specs.Kinds.{announces}
use Rattle.tb_shelving.proofs.RoomLemmas.{count-behind}
use Rattle.tb_shelving.proofs.ahead.count_announced.Goals as goal

pub returns : goal.returns
returns c =
    omega (
      arith,
      count-behind announces c.args.ahead.now c.args.messages.now,
      c.count_in.ensures.count,
      c.count_in-2.ensures.count,
    )
