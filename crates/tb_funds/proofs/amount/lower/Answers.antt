-- What is written differs by so much from what stood there.
use Rattle.std.proofs.Common.{◌≡◌, ◌+◌, ◌-◌, ◌==◌, ap, ◌∙◌, refl, arith}
use Rattle.tb_funds.specs.Amounts.{amount_in, total_in, part}
use Rattle.tb_funds.proofs.AmountLemmas.{amount_in-found, amount_in-lacks, amount_in-written, total_in-written}
use Rattle.tb_funds.proofs.AmountLemmas.{lowered, nothing_less}
use Rattle.tb_funds.proofs.amount.lower.Goals as goal

pub overflow_sub-value : goal.overflow_sub-value
overflow_sub-value c =
    omega (
      arith,
      c.requires.there,
      amount_in-found c.args.key c.args.amounts.now.elements c.in-Some.spot.place c.at_spot.result.now
          c.requires.in_order c.in-Some.ensures.found c.at_spot.ensures,
    )

pub returns-in-Some-clause-amounts : goal.returns-in-Some-clause-amounts
returns-in-Some-clause-amounts c = λ other.
    let amounts = c.args.amounts.now.elements in
    let key = c.args.key in
    let place = c.in-Some.spot.place in
    let found = c.in-Some.ensures.found in
    let value = c.at_spot.result.now.value - c.args.less in
    let was : c.at_spot.result.now.value ≡ amount_in key amounts =
    amount_in-found key amounts place c.at_spot.result.now c.requires.in_order found c.at_spot.ensures in
    ap (λ xs. amount_in other xs + part (key == other) c.args.less) c.replace_at.ensures.elements
    ∙ lowered (key == other) _ (amount_in other amounts) (amount_in key amounts) c.args.less c.requires.there
    (amount_in-written key other place amounts (record { key = key; value = value }) c.requires.in_order found refl
    ∙ ap (λ n. amount_in other amounts + part (key == other) (n - c.args.less)) was)

pub returns-in-Some-clause-total : goal.returns-in-Some-clause-total
returns-in-Some-clause-total c =
    let amounts = c.args.amounts.now.elements in
    let value = c.at_spot.result.now.value - c.args.less in
    omega (
      arith,
      ap total_in c.replace_at.ensures.elements,
      c.requires.there,
      amount_in-found c.args.key amounts c.in-Some.spot.place c.at_spot.result.now c.requires.in_order
          c.in-Some.ensures.found c.at_spot.ensures,
      total_in-written c.args.key c.in-Some.spot.place amounts (record { key = c.args.key; value = value })
          c.requires.in_order c.in-Some.ensures.found,
    )

pub returns-in_default-clause-amounts : goal.returns-in_default-clause-amounts
returns-in_default-clause-amounts c = λ other.
    let amounts = c.args.amounts.now.elements in
    nothing_less (c.args.key == other) (amount_in other amounts) c.args.less
    (omega (arith, c.requires.there, amount_in-lacks c.args.key amounts (c.in_default.ensures.none.0 refl)))

pub returns-in_default-clause-total : goal.returns-in_default-clause-total
returns-in_default-clause-total c =
    omega (
      arith,
      c.requires.there,
      amount_in-lacks c.args.key c.args.amounts.now.elements (c.in_default.ensures.none.0 refl),
    )
