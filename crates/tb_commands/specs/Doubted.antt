-- Whose groups were in doubt.
use Rattle.std.specs.Prelude.{◌≡◌, ℕ, List, [], ◌∷◌, take, Contains, Ok, Some}
use Rattle.tb_units.specs.declared.moment.Moment.{Moment}
use Rattle.tb_message.specs.declared.key.Key.{Key}
use Rattle.tb_message.specs.declared.message.Entry.{Entry}
use Rattle.tb_message.specs.declared.message.Message.{Message}
use Rattle.tb_message.specs.declared.query.Request.TheVariants as request
use Rattle.tb_history.specs.Answer.{caller_of}
use Rattle.tb_history.specs.Legal.{Follows}
use Rattle.tb_history.specs.Roster.{registrations}
use Rattle.tb_parcel.specs.declared.parcel.Parcel.{Parcel}
use Rattle.tb_desk.specs.Desks.{PlacedGroup}
use Rattle.tb_desk.specs.Turn.{Asked, group}
use Rattle.tb_commands.specs.ImportRun.{SentRow}
use Rattle.tb_commands.specs.Replies.{Asks, asked_by}
use Rattle.tb_commands.specs.ScriptLines.{SpellsAsk}
use Rattle.tb_commands.specs.declared.sender.Sender.{Sender}

-- by a beginning of the history the key is the caller's
pub record IsKnownAs (operator : List ℕ) (history : List Entry) (key : Key) (caller : List ℕ) : Type 0 where
  pub known : ℕ
  pub told : caller_of (registrations (take known history)) operator key ≡ Some caller

-- the group is all that these messages would have added, had the disk not failed, right behind the entries before it
abbrev pub IsAddedBy : Asked → List Entry → PlacedGroup → Type 0
IsAddedBy asked history placed = placed.group ≡ group (take placed.before history) asked

-- it is the entry of the message that the line sends
pub record IsOfLine (operator : List ℕ) (history : List Entry) (placed : PlacedGroup) (line : List ℕ) : Type 0 where
  pub moment : Moment
  pub key : Key
  pub json : List ℕ
  pub number : ℕ
  pub message : Message
  pub caller : List ℕ
  pub spells : SpellsAsk line moment key json
  pub asks : Asks json (Ok (request.Message number message))
  pub caller_is : IsKnownAs operator history key caller
  pub added : IsAddedBy (asked_by caller moment number message) history placed

-- it is the entries of the rows, which made one turn
pub record IsOfRows (sender : Sender) (history : List Entry) (placed : PlacedGroup) (rows : List SentRow) : Type 0 where
  pub moment : Moment
  pub caller : List ℕ
  pub caller_is : IsKnownAs sender.operator history sender.key caller
  pub added : IsAddedBy (record { submitter = caller; moment = moment; messages = rows }) history placed

-- it is that of one of the lines
abbrev pub IsOfLines : List ℕ → List (List ℕ) → List Entry → PlacedGroup → Type 0
IsOfLines operator lines history placed =
    (line : List ℕ) × Contains lines line × IsOfLine operator history placed line

-- it is that of one of the runs of rows
abbrev pub IsOfRuns : Sender → List (List SentRow) → List Entry → PlacedGroup → Type 0
IsOfRuns sender runs history placed =
    (rows : List SentRow) × Contains runs rows × IsOfRows sender history placed rows

-- it is the entry of the parcel, whose place it is: one that could follow there
pub record IsOfParcel (history : List Entry) (placed : PlacedGroup) (parcel : Parcel) : Type 0 where
  pub place : placed.before ≡ parcel.place
  pub alone : placed.group ≡ parcel.entry ∷ []
  pub follows : Follows (take placed.before history) parcel.entry

-- it is that of one of the parcels
abbrev pub IsOfParcels : List Parcel → List Entry → PlacedGroup → Type 0
IsOfParcels parcels history placed = (parcel : Parcel) × Contains parcels parcel × IsOfParcel history placed parcel
