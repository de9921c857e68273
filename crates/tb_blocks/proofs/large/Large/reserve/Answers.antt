-- More blocks are free, and none of the others changed.
use Rattle.std.proofs.Common.{◌≡◌, ◌*◌, length, min, ap₂, arith}
use Rattle.tb_blocks.specs.Sizes.{half_size}
use Rattle.tb_blocks.proofs.SureLemmas.{sure-more}
use Rattle.tb_blocks.proofs.large.Large.reserve.Goals as goal

pub invariant_of-self : goal.invariant_of-self
invariant_of-self g c =
    let ready = c.self.invariant.0 in (
      rw c.fill.ensures.same record {
        paced = ready.paced;
        sure = sure-more c.self.inside.pace c.self.inside.spare c.self.inside.rows.blocks.items _ _
            c.fill.ensures.free ready.sure;
        begun = ready.begun;
        filled = ready.filled;
      },
      c.fill.ensures.room,
    )

pub invariant_of-self-2 : goal.invariant_of-self-2
invariant_of-self-2 g c =
    let ready = c.self.invariant.0 in
    let pace = c.pace_for-pace.result in
    let free = length c.fill.new.pool.free.items in
    let free_is : c.len-2.result ≡ free = omega (arith, c.len-2.ensures) in
    let adds : c.min.result * c.len-2.result ≡ min pace half_size * free =
    ap₂ (λ slow blocks. slow * blocks) c.min.ensures free_is in (
      rw c.fill.ensures.same record {
        paced = c.pace_for-pace.ensures;
        sure = omega (
          arith,
          adds,
          c.needed.ensures free c.in_ok-fill.ensures.filled,
          c.progress_at-progress.ensures.progress,
        );
        begun = ready.begun;
        filled = ready.filled;
      },
      c.fill.ensures.room,
    )
