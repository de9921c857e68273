-- The lists are as before.
use Rattle.tb_movements.proofs.TellingLemmas.{IsTold-same}
use Rattle.tb_movements.proofs.calls.reserve.Goals as goal

pub returns-clause-told : goal.returns-clause-told
returns-clause-told c = λ history.
    IsTold-same history c.args.accounts.now c.reserve.new.self c.reserve.ensures.lists
