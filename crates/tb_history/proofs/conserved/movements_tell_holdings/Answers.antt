-- Each clause is a lemma on legal histories.
use Rattle.tb_history.proofs.PassLemmas.{held-told, free-told, opens-told, mark-told, left-told, known-mark}
use Rattle.tb_history.proofs.ToldLemmas.{IsLegal-told}
use Rattle.tb_history.proofs.NumberingLemmas.{movements-grow}
use Rattle.tb_history.proofs.ConservedLemmas.{places-numbered, paid-told}
use Rattle.tb_history.proofs.conserved.movements_tell_holdings.Goals as goal

pub returns-clause-places : goal.returns-clause-places
returns-clause-places c history legal = places-numbered history

pub returns-clause-legal : goal.returns-clause-legal
returns-clause-legal c numbers participants history legal are =
    (IsLegal-told numbers participants history legal are).legal

pub returns-clause-held : goal.returns-clause-held
returns-clause-held c numbers participants history participant cusip legal are known bill =
    held-told numbers participants history participant cusip (IsLegal-told numbers participants history legal are)
    (are.names participant known) (are.bills cusip.bytes bill)

pub returns-clause-free : goal.returns-clause-free
returns-clause-free c numbers participants history participant cusip legal are known bill =
    free-told numbers participants history participant cusip (IsLegal-told numbers participants history legal are)
    (are.names participant known) (are.bills cusip.bytes bill)

pub returns-clause-paid : goal.returns-clause-paid
returns-clause-paid c numbers participants history participant cusip legal are known bill =
    paid-told numbers participants history participant cusip
    (record { legal = legal; numbered = are; told = IsLegal-told numbers participants history legal are })
    (are.names participant known) (are.bills cusip.bytes bill)

pub returns-clause-mark : goal.returns-clause-mark
returns-clause-mark c numbers participants history holder number legal are =
    mark-told numbers participants history holder number (IsLegal-told numbers participants history legal are)

pub returns-clause-left : goal.returns-clause-left
returns-clause-left c numbers participants history holder number mark legal are found =
    let told = IsLegal-told numbers participants history legal are in
    left-told numbers participants history mark told
    (known-mark numbers participants history holder number mark told found)

pub returns-clause-opens : goal.returns-clause-opens
returns-clause-opens c numbers participants history holder legal are =
    opens-told numbers participants history holder (IsLegal-told numbers participants history legal are)

pub returns-clause-grows : goal.returns-clause-grows
returns-clause-grows c history entry legal follows = movements-grow history entry legal follows
