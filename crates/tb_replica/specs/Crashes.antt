-- What a crash leaves while a parcel is taken, and what is in doubt after a fault.
use Rattle.std.specs.Prelude.{◌≡◌, ◌⊎◌, ℕ, ◌-◌, ◌<◌, ◌≤◌, List, [], ◌∷◌, ◌++◌, length, Option, Some, None, slice_index_or}
use Rattle.tb_message.specs.declared.message.Entry.{Entry}
use Rattle.tb_history.specs.Legal.{Follows}
use Rattle.tb_parcel.specs.declared.parcel.Parcel.{Parcel}
use Rattle.tb_desk.specs.Desks.{IsBeginning}
use Rattle.tb_desk.specs.Stands.{StandsForHistory}
use Rattle.tb_desk.specs.Turn.{Held}
use Rattle.tb_replica.specs.Arrival.{kept_at}
use Rattle.tb_replica.specs.Following.{Following}

-- the file stands for a beginning of the new history that has the old one, or for the new one followed by what is in
-- doubt
abbrev pub IsLeft : List Entry → Held → List ℕ → Type 0
IsLeft old new file =
    IsBeginning new.history (length old) file ⊎ StandsForHistory (new.history ++ new.doubt) file

-- one entry is in doubt, which can follow on the history, and which waited for the place behind it
pub record IsInDoubt (Waited : ℕ → Entry → Type 0) (now : Held) : Type 0 where
  pub entry : Entry
  pub alone : now.doubt ≡ entry ∷ []
  pub follows : Follows now.history entry
  pub waited : Waited (length now.history) entry

-- the entry is kept for the place, where what is kept begins with the place behind this history
abbrev pub WaitsBehind : List Entry → List (Option Entry) → ℕ → Entry → Type 0
WaitsBehind history ahead place entry =
    (length history ≤ place) × (slice_index_or ahead (place - length history) None ≡ Some entry)

-- it is the parcel's, whose place it is, or it was kept for the place
abbrev pub WaitsFor : Parcel → Following → ℕ → Entry → Type 0
WaitsFor parcel old place entry =
    ((place ≡ parcel.place) × (entry ≡ parcel.entry))
    ⊎ ((length old.history < place) × (kept_at old place ≡ Some entry))
