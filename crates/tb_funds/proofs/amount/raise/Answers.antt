-- What is written differs by so much from what stood there.
use Rattle.std.proofs.Common.{◌≡◌, ◌+◌, ◌==◌, ap, ◌∙◌, refl, arith}
use Rattle.tb_funds.specs.Amounts.{amount_in, part}
use Rattle.tb_funds.proofs.AmountLemmas.{amount_in-found, amount_in-written, amount_in-inserted, raised}
use Rattle.tb_funds.proofs.amount.raise.Goals as goal

pub returns-in-Some-clause-amounts : goal.returns-in-Some-clause-amounts
returns-in-Some-clause-amounts c = λ other.
    let amounts = c.args.amounts.now.elements in
    let key = c.args.key in
    let place = c.in-Some.spot.place in
    let found = c.in-Some.ensures.found in
    let value = c.at_spot.result.now.value + c.args.more in
    let was : c.at_spot.result.now.value ≡ amount_in key amounts =
    amount_in-found key amounts place c.at_spot.result.now c.requires.in_order found c.at_spot.ensures in
    ap (amount_in other) c.replace_at.ensures.elements
    ∙ raised (key == other) _ (amount_in other amounts) (amount_in key amounts) c.args.more
    (amount_in-written key other place amounts (record { key = key; value = value }) c.requires.in_order found refl
    ∙ ap (λ n. amount_in other amounts + part (key == other) (n + c.args.more)) was)

pub returns-in-None-clause-amounts : goal.returns-in-None-clause-amounts
returns-in-None-clause-amounts c = λ other.
    let put = c.insert.ensures.inserted in
    ap (amount_in other) put.is
    ∙ amount_in-inserted other put.place c.args.amounts.now.elements
    (record { key = c.args.key; value = c.args.more })

pub overflow_add-value : goal.overflow_add-value
overflow_add-value c =
    omega (
      arith,
      c.requires.fits,
      amount_in-found c.args.key c.args.amounts.now.elements c.in-Some.spot.place c.at_spot.result.now
          c.requires.in_order c.in-Some.ensures.found c.at_spot.ensures,
    )
