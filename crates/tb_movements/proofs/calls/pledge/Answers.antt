-- What was pledged was free.
use Rattle.tb_movements.proofs.TellingLemmas.{TellsMore-pledged, done_with}
use Rattle.tb_movements.proofs.calls.pledge.Goals as goal

pub returns-clause-told : goal.returns-clause-told
returns-clause-told c =
    done_with c.pledge.result
    (λ done marks. TellsMore-pledged c.args.holder c.args.number c.args.pledgee c.args.security c.args.par.value
    c.args.accounts.now c.pledge.new.self c.requires.live c.requires.new
    (c.pledge.ensures.pledged.0 done).0
    (record { marks = marks; others = c.pledge.ensures.others }))
    c.pledge.ensures.mark
