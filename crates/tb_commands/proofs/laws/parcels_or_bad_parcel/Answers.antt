use Rattle.tb_commands.proofs.ParcelTextLemmas.{one_bad, whole_not_bad}
use Rattle.tb_commands.proofs.SomeParcelLemmas.{parcels-or-bad}
use Rattle.tb_commands.proofs.laws.parcels_or_bad_parcel.Goals as goal

pub returns-clause-bad_parcel : goal.returns-clause-bad_parcel
returns-clause-bad_parcel c text one other before other_before = one_bad before other_before one other text

pub returns-clause-never_both : goal.returns-clause-never_both
returns-clause-never_both c text parcels before number = whole_not_bad parcels before number text

pub returns-clause-never_neither : goal.returns-clause-never_neither
returns-clause-never_neither c = parcels-or-bad
