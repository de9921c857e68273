use Rattle.tb_commands.proofs.DoubtedLemmas.{doubted-lines, doubted-parcels, doubted-runs}
use Rattle.tb_commands.proofs.laws.groups_are_sent.Goals as goal

pub returns-clause-by_lines : goal.returns-clause-by_lines
returns-clause-by_lines c operator first last lines replies run sure none =
    doubted-lines operator first last lines replies run sure none

pub returns-clause-by_rows : goal.returns-clause-by_rows
returns-clause-by_rows c sender clock clock' runs first last text sent sure none =
    doubted-runs sender clock clock' runs first last text sent sure none

pub returns-clause-by_parcels : goal.returns-clause-by_parcels
returns-clause-by_parcels c parcels parcel first last breaks none =
    doubted-parcels parcels parcel first last breaks none
