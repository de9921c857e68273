-- A follower's copy of a history, and what a parcel makes of it.
use Rattle.std.specs.Prelude.{◌≡◌, ◌⊎◌, ℕ, ◌+◌, ◌-◌, ◌<◌, ◌≤◌, List, [], ◌∷◌, ◌++◌, length, Option, Some, None, Result, Ok, Err, Contains}
use Rattle.tb_message.specs.declared.message.Entry.{Entry}
use Rattle.tb_history.specs.Legal.{IsLegal, Follows}
use Rattle.tb_replica.specs.Window.{first, shifted, keeping}
use Rattle.tb_parcel.specs.declared.parcel.Parcel.{Parcel}
use Rattle.tb_replica.specs.declared.taken.Taken.{Taken}
use Rattle.tb_replica.specs.declared.taken.Taken.TheVariants as taken
use Rattle.tb_replica.specs.declared.taken.TakeFault.{TakeFault}
use Rattle.tb_replica.specs.declared.taken.TakeFault.TheVariants as fault

-- The copy so far, and what is kept for the 1,023 places behind its next one, in their order.
pub record Following : Type 0 where
  pub history : List Entry
  pub ahead : List (Option Entry)

abbrev pub Outcome : Type 0
Outcome = Result Taken TakeFault

-- the disk failed, or memory ran out
abbrev pub IsBroken : Outcome → Type 0
IsBroken outcome = (outcome ≡ Err fault.DiskFault) ⊎ (outcome ≡ Err fault.OutOfMemory)

-- the history goes on, and is legal
pub record GoesOn (old new : List Entry) : Type 0 where
  pub more : List Entry
  pub is : new ≡ old ++ more
  pub legal : IsLegal new

-- After an entry was added, what is kept for the place behind it is taken, and so on as long as the next one is there.
-- `ahead` begins with that place. One that stands already is let go, and ends it.
pub data Runs (new : Following) (outcome : Outcome) : List Entry → List (Option Entry) → ℕ → Type 0 where
  Gap : (history : List Entry) (ahead : List (Option Entry)) (added : ℕ)
      → first ahead ≡ None
      → outcome ≡ Ok (taken.Added added)
      → new ≡ record { history = history; ahead = shifted ahead }
      → Runs new outcome history ahead added
  LetGo : (history : List Entry) (ahead : List (Option Entry)) (added : ℕ) (entry : Entry)
      → first ahead ≡ Some entry
      → Contains history entry
      → outcome ≡ Ok (taken.Added added)
      → new ≡ record { history = history; ahead = shifted ahead }
      → Runs new outcome history ahead added
  Forks : (history : List Entry) (ahead : List (Option Entry)) (added : ℕ) (entry : Entry)
      → first ahead ≡ Some entry
      → ¬ (Contains history entry)
      → ¬ (Follows history entry)
      → outcome ≡ Err (fault.Forked (length history))
      → new.history ≡ history
      → Runs new outcome history ahead added
  Breaks : (history : List Entry) (ahead : List (Option Entry)) (added : ℕ) (entry : Entry)
      → first ahead ≡ Some entry
      → ¬ (Contains history entry)
      → IsBroken outcome
      → new.history ≡ history
      → Runs new outcome history ahead added
  Goes : (history : List Entry) (ahead : List (Option Entry)) (added : ℕ) (entry : Entry)
      → first ahead ≡ Some entry
      → Follows history entry
      → Runs new outcome (history ++ entry ∷ []) (shifted ahead) (added + 1)
      → Runs new outcome history ahead added

-- What a parcel makes of the copy, and what is answered.
pub data Takes (parcel : Parcel) (old new : Following) (outcome : Outcome) : Type 0 where
  Stands : Contains old.history parcel.entry
      → outcome ≡ Ok taken.Standing
      → new ≡ old
      → Takes parcel old new outcome
  Below : ¬ (Contains old.history parcel.entry)
      → parcel.place < length old.history
      → outcome ≡ Err (fault.Forked parcel.place)
      → new ≡ old
      → Takes parcel old new outcome
  Refused : ¬ (Contains old.history parcel.entry)
      → parcel.place ≡ length old.history
      → ¬ (Follows old.history parcel.entry)
      → outcome ≡ Err (fault.Forked parcel.place)
      → new ≡ old
      → Takes parcel old new outcome
  Adds : parcel.place ≡ length old.history
      → Follows old.history parcel.entry
      → Runs new outcome (old.history ++ parcel.entry ∷ []) old.ahead 1
      → Takes parcel old new outcome
  Keeps : ¬ (Contains old.history parcel.entry)
      → length old.history < parcel.place
      → parcel.place < length old.history + 1024
      → outcome ≡ Ok taken.Ahead
      → new ≡ record {
        history = old.history;
        ahead = keeping old.ahead (parcel.place - (length old.history + 1)) parcel.entry;
      }
      → Takes parcel old new outcome
  Drops : ¬ (Contains old.history parcel.entry)
      → length old.history + 1024 ≤ parcel.place
      → outcome ≡ Ok taken.Dropped
      → new ≡ old
      → Takes parcel old new outcome
  Fails : ¬ (Contains old.history parcel.entry)
      → parcel.place ≡ length old.history
      → IsBroken outcome
      → new ≡ old
      → Takes parcel old new outcome
