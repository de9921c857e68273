use Rattle.std.proofs.Common.{◌≡◌, ◌≤◌, ◌-◌, length, take}
use Rattle.tb_history.specs.Roster.{publications}
use Rattle.tb_filing.specs.Filing.{FilesAll}
use Rattle.tb_filing.proofs.filing.file_published.Given as goal

-- the auctions published before this place are filed
abbrev pub invariant-auctions : goal.invariant-auctions
invariant-auctions g l =
    (l.place ≤ length (publications l.desk.host.history))
    × FilesAll l.desk.host.history (take l.place (publications l.desk.host.history)) l.tally
    (g.K.Keeper.keeper l.fn.keeper) (g.K.Keeper.keeper l.keeper)
    × ((g.K.Keeper.keeper l.keeper).faults ≡ (g.K.Keeper.keeper l.fn.keeper).faults)

abbrev pub decreases-auctions : goal.decreases-auctions
decreases-auctions g l = length (publications l.desk.host.history) - l.place
