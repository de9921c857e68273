-- What the lock knows of its value. An entry and a call are each a list of numbers.
use Rattle.std.specs.Prelude.{◌≡◌, ℕ, List, ◌++◌, Option, Contains}

abbrev pub History : Type 0
History = List (List ℕ)

-- one history begins another
abbrev pub IsPrefix : History → History → Type 0
IsPrefix first whole = (rest : History) × (whole ≡ first ++ rest)

-- how a call was answered: its entry was added, or stood there already, or met a fault and may come to stand, or the
-- call has none
pub data Answer : Type 0 where
  accepted : Answer
  repeated : Answer
  faulted : Answer
  entryless : Answer

-- the meanings of a locked value
pub record Meanings (T : Type 0) : Type 1 where
  pub history : T → History
  -- a group of entries of which it is not known whether they stand
  pub doubt : T → History
  pub faults : T → ℕ
  -- the clock's last reading, and how many readings it gave
  pub reading : T → ℕ
  pub readings : T → ℕ
  -- what stays the same for good
  pub fixed : T → List ℕ
  -- with this fixed part and this history before it, the call may be answered as it was, while the count of faults
  -- goes from the one number to the other, in a turn at whose end the clock had given so many readings
  pub answered : List ℕ → History → List ℕ → ℕ → ℕ → ℕ → Type 0
  pub answer : List ℕ → Answer
  -- with this fixed part and this history before it, the entry of a call that has one
  pub entry : List ℕ → History → List ℕ → List ℕ
  -- the moment of a call that has one
  pub moment : List ℕ → Option ℕ

-- the entry of a call that was answered as a repeat stands in the history before it
abbrev pub RepeatsStand : {T : Type 0} → Meanings T → Type 0
RepeatsStand m = (fixed : List ℕ) (prefix : History) (code : List ℕ) (before after readings : ℕ)
    → m.answered fixed prefix code before after readings
    → m.answer code ≡ repeated
    → Contains prefix (m.entry fixed prefix code)
