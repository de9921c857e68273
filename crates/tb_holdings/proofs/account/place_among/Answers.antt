-- The binary search asks whether an account stands before.
use Rattle.std.proofs.Common.{rules, tests}
use Rattle.std.proofs.lemmas.List.Sorted.{IsPartitionPoint-from_clause}
use Rattle.tb_holdings.specs.Holdings.{comes_before}
use Rattle.tb_holdings.proofs.PlaceLemmas.{IsPlace-found}
use Rattle.tb_holdings.proofs.AccountLemmas.{account_key}
use Rattle.tb_holdings.proofs.KeyLemmas.{IsPartitionedBy-key}
use Rattle.tb_holdings.proofs.account.place_among.Goals as goal

pub returns : goal.returns
returns c =
    let before = comes_before c.args.holder c.args.security in
    let found = c.partition_point.result in
    IsPlace-found before c.args.accounts.now found c.partition_point.ensures.bound
    (IsPartitionPoint-from_clause before c.args.accounts.now found c.partition_point.ensures.partitioned
    (IsPartitionedBy-key account_key (c.args.holder, c.args.security) c.args.accounts.now c.requires)
    (λ account answer q k. search (rules, tests)))
