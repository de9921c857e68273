-- The pledgee released what was left.
use Rattle.tb_movements.proofs.TellingLemmas.{TellsMore-released, done_with}
use Rattle.tb_movements.proofs.calls.release.Goals as goal

pub returns-clause-told : goal.returns-clause-told
returns-clause-told c =
    done_with c.release.result
    (λ done marks. TellsMore-released c.args.holder c.args.number c.args.caller c.args.par.value
    c.args.accounts.now c.release.new.self (c.release.ensures.released.0 done)
    (record { marks = marks; others = c.release.ensures.others }))
    c.release.ensures.marks
