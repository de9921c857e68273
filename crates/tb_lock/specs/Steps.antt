-- What each kind of step tells the pass that makes it: its view before, the number found, and its view after.
use Rattle.std.specs.Prelude.{◌≡◌, ◌≢◌, ℕ, ◌+◌, ◌%◌, ◌^◌, ◌<◌, ◌≤◌, List, [], ◌∷◌, length, Option, Some, All, AllPairs}
use Rattle.atomic_table.specs.Table.{Me, Step}
use Rattle.tb_lock.specs.declared.view.Call.{Call}
use Rattle.tb_lock.specs.declared.view.View.{View}
use Rattle.tb_lock.specs.declared.view.Stage.TheVariants.{Idle, Waiting, Come, Holding, Raised}
use Rattle.tb_lock.specs.Meanings.{IsPrefix, Meanings}
use Rattle.tb_lock.specs.Calls.{IsBetween, IsReadBy, LieApart, IsOnce, Stands}
use Rattle.tb_lock.specs.Views.{at_stage, raised}
use Rattle.tb_lock.specs.Turns.{taken, counted, HaveCounts, MayGive}

-- a ticket was drawn, and its number found
abbrev pub Draws : {S : Type 0} → Step S → Me S View → ℕ → Me S View → Type 0
Draws st me found after = (n : ℕ) × (found ≡ n % 2 ^ 64) × (after ≡ (at_stage (Waiting n) me.0, me.1))

-- the turn has ended
abbrev pub PassesOn : {S : Type 0} → Step S → Me S View → ℕ → Me S View → Type 0
PassesOn st me found after = after ≡ (at_stage Idle me.0, me.1)

-- the turn has come exactly where the number found is the ticket's
abbrev pub LooksAtServing : {S : Type 0} → Step S → Me S View → ℕ → Me S View → Type 0
LooksAtServing st me found after = (n : ℕ) → me.0.stage ≡ Waiting n
    → (found ≡ n % 2 ^ 64 → after ≡ (at_stage (Come n) me.0, me.1)) × (found ≢ n % 2 ^ 64 → after ≡ me)

-- the faults are raised by the number that is added
abbrev pub RaisesFaults : {S : Type 0} → Step S → Me S View → ℕ → Me S View → Type 0
RaisesFaults st me found after = (n : ℕ) → me.0.stage ≡ Holding n → after ≡ (raised n st.first me.0, me.1)

module _ {T : Type 0} (m : Meanings T) where
  -- the slot with the value is taken, and the number found is its count of faults
  pub record Takes (n found : ℕ) (me after : Me (Option T) View) : Type 0 where
    pub value : T
    pub is : after ≡ (taken m n me.0 value, (0, Some value) ∷ me.1)
    pub faults : found ≡ m.faults value
    pub fixed : m.fixed value ≡ me.0.fixed
    pub begins : IsPrefix me.0.seen (m.history value)
    pub has_opening : IsPrefix me.0.opening (m.history value)
    pub stand : All (Stands m me.0.fixed (m.history value)) me.0.mine
    pub once : IsOnce m me.0.mine
    pub counts : All (IsBetween me.0.opening_faults (m.faults value)) me.0.mine
    pub read : All (IsReadBy (m.readings value)) me.0.mine
    pub apart : AllPairs LieApart me.0.spans
    pub least : me.0.opening_faults ≤ m.faults value

  abbrev pub LooksAtFaults : Step (Option T) → Me (Option T) View → ℕ → Me (Option T) View → Type 0
  LooksAtFaults st me found after = (n : ℕ) → me.0.stage ≡ Come n → Takes n found me after

  -- what is asked of a pass that raises the count by so many: it has raised the faults, and carries the value, with
  -- which the turn may end so
  pub record MayCount (calls : List Call) (entries : ℕ) (me : Me (Option T) View) : Type 0 where
    pub number : ℕ
    pub value : T
    pub stage : me.0.stage ≡ Raised number
    pub carried : me.1 ≡ (0, Some value) ∷ []
    pub may : MayGive m me.0 calls value
    pub counts : HaveCounts m me.0 value calls
    pub faults : me.0.faults ≡ m.faults value
    pub new : entries + length me.0.seen ≡ length (m.history value)
    pub fits : length (m.history value) < 2 ^ 64

  -- the calls are made, and the value is at home
  abbrev pub RaisesCount : List Call → Step (Option T) → Me (Option T) View → ℕ → Me (Option T) View → Type 0
  RaisesCount calls st me found after = (n : ℕ) (value : T) → me.0.stage ≡ Raised n → me.1 ≡ (0, Some value) ∷ []
      → after ≡ (counted m n me.0 calls value, [])
