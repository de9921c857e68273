-- What was moved was free.
use Rattle.tb_movements.proofs.TellingLemmas.{TellsMore-transferred, done_with, enough_free}
use Rattle.tb_movements.proofs.calls.transfer.Goals as goal

pub returns-clause-told : goal.returns-clause-told
returns-clause-told c =
    done_with c.transfer.result
    (λ done moved. TellsMore-transferred c.args.from c.args.to c.args.security c.args.par.value
    c.args.accounts.now c.transfer.new.self c.requires.live c.requires.apart
    (enough_free c.transfer.result _ c.args.par.value c.transfer.ensures.refused done)
    (record { accounts = moved; others = c.transfer.ensures.others }))
    c.transfer.ensures.moved
