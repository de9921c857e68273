-- Parcels of one history, and what a follower makes of them.
use Rattle.std.specs.Prelude.{◌≡◌, ℕ, ◌+◌, ◌-◌, ◌<◌, nat_le, ◌&&◌, List, [], ◌∷◌, ◌++◌, length, take, map, Option, Some, None, Ok, slice_index_or}
use Rattle.std.specs.Option.{is_some}
use Rattle.tb_message.specs.declared.message.Entry.{Entry}
use Rattle.tb_parcel.specs.declared.parcel.Parcel.{Parcel}
use Rattle.tb_replica.specs.declared.taken.Taken.{Taken}
use Rattle.tb_replica.specs.Delivery.{Arrived, DeliverAll, arrived_up_to}
use Rattle.tb_replica.specs.Following.{Following, Takes}

-- the entry stands at this place of the history
pub record StandsAt (history : List Entry) (place : ℕ) (entry : Entry) : Type 0 where
  pub within : place < length history
  pub is : slice_index_or history place entry ≡ entry

-- the parcel is of this history
abbrev pub IsOf : List Entry → Parcel → Type 0
IsOf history parcel = StandsAt history parcel.place parcel.entry

-- what is kept for a place
abbrev pub kept_at : Following → ℕ → Option Entry
kept_at follower place = slice_index_or follower.ahead (place - (length follower.history + 1)) None

-- the places that are there
abbrev pub arrived : Following → Arrived
arrived follower = record {
  next = length follower.history;
  ahead = λ (place : ℕ). nat_le (length follower.history + 1) place && is_some (kept_at follower place);
}

-- The copy is a beginning of the history, and what is kept ahead is of it.
pub record Copies (history : List Entry) (follower : Following) : Type 0 where
  pub rest : List Entry
  pub begins : history ≡ follower.history ++ rest
  pub window : length follower.ahead ≡ 1023
  pub kept : (index : ℕ) (entry : Entry) → slice_index_or follower.ahead index None ≡ Some entry
      → StandsAt history (length follower.history + 1 + index) entry

-- nothing is kept ahead, as when the follower was opened
abbrev pub KeepsNothing : Following → Type 0
KeepsNothing follower = (index : ℕ) → slice_index_or follower.ahead index None ≡ None

-- the copy is a beginning of the history, and nothing is kept ahead
pub record Begins (history : List Entry) (follower : Following) : Type 0 where
  pub rest : List Entry
  pub is : history ≡ follower.history ++ rest
  pub window : length follower.ahead ≡ 1023
  pub nothing : KeepsNothing follower

-- the places of parcels
abbrev pub places_of : List Parcel → List ℕ
places_of parcels = map (λ (parcel : Parcel). parcel.place) parcels

-- each of the parcels is of the history
abbrev pub AreOf : List Entry → List Parcel → Type 0
AreOf history [] = Unit {0}
AreOf history (parcel ∷ parcels) = IsOf history parcel × AreOf history parcels

-- each of the parcels is taken, one after another
abbrev pub AreTaken : List Parcel → Following → Following → Type 0
AreTaken [] old new = new ≡ old
AreTaken (parcel ∷ parcels) old new =
    (between : Following) × (answer : Taken) × Takes parcel old between (Ok answer) × AreTaken parcels between new

-- What was opened on a beginning of the history goes on to the beginning that delivery says.
pub record IsDelivered (history : List Entry) (places : List ℕ) (old new : Following) : Type 0 where
  pub beginning : new.history ≡ take (length new.history) history
  pub delivered : DeliverAll places (arrived_up_to (length old.history)) (arrived new)
