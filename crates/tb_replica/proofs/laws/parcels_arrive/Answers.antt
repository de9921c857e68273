-- Each clause is a lemma on arrivals.
use Rattle.tb_replica.proofs.ArrivalLemmas.{delivered, no_fork, DeliverAll-one}
use Rattle.tb_replica.proofs.GoingLemmas.{AreTaken-goes_on, Takes-goes_on}
use Rattle.tb_replica.proofs.KeptLemmas.{kept_came}
use Rattle.tb_replica.proofs.OwnLemmas.{added_came}
use Rattle.tb_replica.proofs.laws.parcels_arrive.Goals as goal

pub returns-clause-delivered : goal.returns-clause-delivered
returns-clause-delivered c history parcels old new legal begins of taken =
    delivered history parcels old new legal begins of taken

pub returns-clause-no_fork : goal.returns-clause-no_fork
returns-clause-no_fork c history parcels old between new parcel at legal begins are taken of takes =
    no_fork history parcels old between new parcel at legal begins are taken of takes

pub returns-clause-one : goal.returns-clause-one
returns-clause-one c places old one other first_one first_other =
    DeliverAll-one places old one other first_one first_other

pub returns-clause-legal : goal.returns-clause-legal
returns-clause-legal c parcels old new legal taken = AreTaken-goes_on parcels old new legal taken

pub returns-clause-legal_last : goal.returns-clause-legal_last
returns-clause-legal_last c parcel old new outcome legal takes = Takes-goes_on parcel old new outcome legal takes

pub returns-clause-kept : goal.returns-clause-kept
returns-clause-kept c parcels old new place entry fresh taken behind kept =
    kept_came parcels old new place entry fresh taken behind kept

pub returns-clause-own : goal.returns-clause-own
returns-clause-own c parcels old new more fresh taken grown = added_came parcels old new more fresh taken grown
