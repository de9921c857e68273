-- the blocks so far are counted
use Rattle.std.proofs.Common.{◌≡◌, ◌*◌, ◌≤◌, vec_capacity}
use Rattle.tb_blocks.specs.Sizes.{block_size}
use Rattle.tb_blocks.proofs.CountingLemmas.{IsCounting}
use Rattle.tb_blocks.proofs.counts.count_from.Given as goal

abbrev pub invariant-loop-at : goal.invariant-loop-at
invariant-loop-at g l = record {
  counting : IsCounting l.at l.total l.group l.groups.items l.starts.items l.blocks;
  total : l.total ≤ block_size * l.at;
  capacity : vec_capacity l.starts ≡ vec_capacity l.fn.starts;
  groups_capacity : vec_capacity l.groups ≡ vec_capacity l.fn.groups;
}
