-- What the book of accounts tells of a history, and when a movement is done on it.
use Rattle.std.specs.Prelude.{◌≡◌, ◌≢◌, ◌+◌, ◌<◌, ◌≤◌, List, ◌++◌, Option, Some, None, option_to_list}
use Rattle.tb_terms.specs.declared.terms.Terms.{Terms}
use Rattle.tb_message.specs.declared.message.Entry.{Entry}
use Rattle.tb_holdings.specs.Book.{Book, free_of, total_of, mark_of, open_marks_of, most_held, most_open, IsRedeemed}
use Rattle.tb_holdings.specs.Refusals.{MayRelease}
use Rattle.tb_movements.specs.Movements.{Movement, Settled, Transferred, Pledged, Released, Redeemed, credited_in_all}
use Rattle.tb_movements.specs.Told.{IsTold}
use Rattle.tb_history.specs.declared.roster.Registration.{Registration}
use Rattle.tb_history.specs.Roster.{registrations, announcements}
use Rattle.tb_history.specs.Moves.{Numbering, numbering_of, movements_by}
use Rattle.tb_tables.specs.Auctions.{announced_in}

-- participants and bills go by their places in the tables
abbrev pub numbers_in : List Registration → List Terms → Numbering
numbers_in submitters auctions = numbering_of submitters (announced_in auctions)

-- and so in the history
abbrev pub numbers_of : List Entry → Numbering
numbers_of history = numbering_of (registrations history) (announcements history)

-- what has moved
abbrev pub moved_in : List Entry → List Movement
moved_in history = movements_by (numbers_of history) history

-- the book tells the same movements
abbrev pub TellsSame : Book → Book → Type 0
TellsSame old new = (movements : List Movement) → IsTold movements old → IsTold movements new

-- the book tells the next movement too, if there is one
abbrev pub TellsNext : Option Movement → Book → Book → Type 0
TellsNext next old new =
    (movements : List Movement) → IsTold movements old → IsTold (movements ++ option_to_list next) new

-- the movement is done on the book: no call of it is refused
abbrev pub IsReady : Option Movement → Book → Type 0
IsReady None book = Unit {0}
IsReady (Some (Settled security credits)) book =
    (¬ (IsRedeemed security book)) × (total_of security book + credited_in_all credits ≤ most_held)
IsReady (Some (Transferred from to security par)) book =
    (¬ (IsRedeemed security book)) × (from ≢ to) × (par ≤ free_of from security book)
IsReady (Some (Pledged holder number pledgee security par)) book =
    (¬ (IsRedeemed security book)) × (holder ≢ pledgee) × (par ≤ free_of holder security book) × (100 ≤ par)
    × (mark_of holder number book ≡ None) × (open_marks_of holder book < most_open)
IsReady (Some (Released holder number caller par)) book = MayRelease (mark_of holder number book) caller par
IsReady (Some (Redeemed security)) book = ¬ (IsRedeemed security book)
