-- The binary search asks whether a run stands before.
use Rattle.std.proofs.Common.{rules, tests}
use Rattle.std.proofs.lemmas.List.Sorted.{IsPartitionPoint-from_clause}
use Rattle.tb_holdings.specs.Runs.{stands_before}
use Rattle.tb_holdings.proofs.PlaceLemmas.{IsPlace-found}
use Rattle.tb_holdings.proofs.RunLemmas.{IsPartitionedBy-runs}
use Rattle.tb_holdings.proofs.runs.run_place_of.Goals as goal

pub returns : goal.returns
returns c =
    let before = stands_before c.args.security in
    let found = c.partition_point.result in
    IsPlace-found before c.args.runs.now found c.partition_point.ensures.bound
    (IsPartitionPoint-from_clause before c.args.runs.now found c.partition_point.ensures.partitioned
    (IsPartitionedBy-runs c.args.security c.args.runs.now c.requires)
    (λ run answer q k. search (rules, tests)))
