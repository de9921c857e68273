-- At a pace of one no block has come anywhere, at one of two only the full ones.
use Rattle.std.proofs.Common.{◌≡◌, arith, sym}
use Rattle.tb_blocks.proofs.CountsLemmas.{full_of-le}
use Rattle.tb_blocks.proofs.SureLemmas.{progress_of-one}
use Rattle.tb_blocks.proofs.room.progress_at.Goals as goal

pub returns-in-1-clause-progress : goal.returns-in-1-clause-progress
returns-in-1-clause-progress g c =
    let one : c.args.pace ≡ 1 = omega arith in
    rw one (sym (progress_of-one c.args.rows.now.blocks.items c.args.rows.now.rows.small))

pub returns-in-2-clause-fits : goal.returns-in-2-clause-fits
returns-in-2-clause-fits g c =
    omega (
      arith,
      c.args.rows.now.fullness,
      full_of-le c.args.rows.now.blocks.items c.args.rows.now.rows.small,
      c.args.rows.now.rows.few,
    )
