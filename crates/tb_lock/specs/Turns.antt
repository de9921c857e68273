-- What the calls of the lock promise, and what a turn has to show at its end.
use Rattle.std.specs.Prelude.{◌≡◌, ℕ, ◌+◌, ◌-◌, ◌%◌, ◌^◌, ◌<◌, ◌≤◌, ◌⊎◌, List, [], ◌∷◌, ◌++◌, Some, All, AllPairs, Any, Contains}
use Rattle.tb_lock.specs.declared.view.Call.{Call}
use Rattle.tb_lock.specs.declared.view.View.{View}
use Rattle.tb_lock.specs.declared.view.Stage.TheVariants.{Idle, Holding, Counted}
use Rattle.tb_lock.specs.Meanings.{History, IsPrefix, repeated, Meanings}
use Rattle.tb_lock.specs.Views.{at_stage}
use Rattle.tb_lock.specs.Calls.{IsBetween, IsReadBy, LieApart, calls_on, entry_of, IsOnce, Stands, Makes, Leaves, accepted_of}

-- a clock whose readings were counted before and after was read in between: the number rose, or stands at its last
-- value
abbrev pub IsReadBetween : ℕ → ℕ → Type 0
IsReadBetween before after = (before < after) ⊎ (after ≡ 2 ^ 64 - 1)

module _ {T : Type 0} (m : Meanings T) where
  -- the view that has taken the value
  abbrev pub taken : ℕ → View → T → View
  taken n v value = record v {
    stage = Holding n;
    seen = m.history value;
    doubt = m.doubt value;
    faults_taken = m.faults value;
    reading = m.reading value;
    readings = m.readings value;
    faults = m.faults value;
  }

  -- what a turn begins with: the pass shows the value as it was taken, and keeps its share, its calls, its turns, the
  -- fixed part and the opening
  pub record IsTaken (before after : View) (value : T) : Type 0 where
    pub seen : after.seen ≡ m.history value
    pub doubt : after.doubt ≡ m.doubt value
    pub faults_taken : after.faults_taken ≡ m.faults value
    pub reading : after.reading ≡ m.reading value
    pub readings : after.readings ≡ m.readings value
    pub share : after.share ≡ before.share
    pub mine : after.mine ≡ before.mine
    pub spans : after.spans ≡ before.spans
    pub same_fixed : after.fixed ≡ before.fixed
    pub opening : after.opening ≡ before.opening
    pub opening_faults : after.opening_faults ≡ before.opening_faults
    -- the value has the fixed part of the pass, and its history begins with what the pass has seen
    pub fixed : m.fixed value ≡ before.fixed
    pub begins : IsPrefix before.seen (m.history value)
    pub has_opening : IsPrefix before.opening (m.history value)
    -- and with the prefix of each call of the pass, and that call's entry where it was accepted
    pub stand : All (Stands m before.fixed (m.history value)) before.mine
    -- and no entry was told to two of them as accepted
    pub once : IsOnce m before.mine
    -- the counts of faults of these calls are at least the opening's and at most the value's
    pub counts : All (IsBetween before.opening_faults (m.faults value)) before.mine
    -- and the turn of none of them ended at more readings of the clock than the value has
    pub read : All (IsReadBy (m.readings value)) before.mine
    -- of any two turns of the pass one ended at no more faults than the other began with
    pub apart : AllPairs LieApart before.spans
    pub least : before.opening_faults ≤ m.faults value

  -- the calls that are told of a turn at whose end the value is this one: each on as many first entries as are told,
  -- with the counts of faults at the take and at the give, and the number of the clock's readings at the give
  abbrev pub calls_of : View → T → List (List ℕ × ℕ) → List Call
  calls_of v value told = calls_on (m.history value) v.faults_taken (m.faults value) (m.readings value) told

  -- the new entries are first the whole group in doubt, or nothing, and then those of the calls that were accepted
  pub record Adds (v : View) (calls : List Call) (history : History) : Type 0 where
    pub group : History
    pub resolved : (group ≡ []) ⊎ (group ≡ v.doubt)
    pub grown : history ≡ v.seen ++ (group ++ accepted_of m v.fixed calls)

  -- the group in doubt is none; or the one that was taken, where there are no new entries; or of calls that met a fault
  abbrev pub Doubts : View → List Call → History → History → Type 0
  Doubts v calls history doubt = (doubt ≡ [])
      ⊎ (((doubt ≡ v.doubt) × (history ≡ v.seen)) ⊎ All (λ e. Any (Leaves m v.fixed e) calls) doubt)

  -- a call that has a moment has the clock's last reading, and the clock was read in this turn
  abbrev pub IsTimed : View → T → Call → Type 0
  IsTimed v value c = (moment : ℕ) → m.moment c.code ≡ Some moment
      → (moment ≡ m.reading value) × IsReadBetween v.readings (m.readings value)

  -- the counts of faults of the calls are those at the take and at the give, and they have the number of readings at
  -- the give
  abbrev pub HaveCounts : View → T → List Call → Type 0
  HaveCounts v value calls = All (λ c. (c.faults_before ≡ v.faults_taken) × (c.faults_after ≡ m.faults value)
      × (c.readings ≡ m.readings value)) calls

  -- What a turn with these calls has to show at its end. Each was answered on a beginning of the value's history, which
  -- itself begins with the history taken, and its entry follows there where it was accepted. No entry is told to two of
  -- them as accepted. The fixed part is as it was taken, and neither the count of faults nor the number of the clock's
  -- readings is less.
  pub record MayGive (v : View) (calls : List Call) (value : T) : Type 0 where
    pub stand : All (Stands m v.fixed (m.history value)) calls
    pub begin : All (λ c. IsPrefix v.seen c.prefix) calls
    pub once : IsOnce m calls
    pub timed : All (IsTimed v value) calls
    pub fixed : m.fixed value ≡ v.fixed
    pub faults : v.faults_taken ≤ m.faults value
    pub readings : v.readings ≤ m.readings value
    pub adds : Adds v calls (m.history value)
    pub doubts : Doubts v calls (m.history value) (m.doubt value)

  -- the view that has raised the count: it has seen the value's history, and the calls are its own, and the turn with
  -- its two counts of faults
  abbrev pub counted : ℕ → View → List Call → T → View
  counted n v calls value = record v {
    stage = Counted n;
    seen = m.history value;
    mine = v.mine ++ calls;
    spans = v.spans ++ (record { before = v.faults_taken; after = m.faults value }) ∷ [];
    doubt = [];
    faults_taken = 0;
    reading = 0;
    readings = 0;
    faults = 0;
  }

  -- and the same view when the turn is over
  abbrev pub given : View → List Call → T → View
  given v calls value = at_stage Idle (counted 0 v calls value)

  -- all past the opening is of calls of the pass that were accepted or met a fault, and so is the group in doubt
  pub record HasOnlyOwn (last : View) (value : T) : Type 0 where
    pub later : History
    pub history : m.history value ≡ last.opening ++ later
    pub entries : All (λ e. Any (Makes m last.fixed e) last.mine) later
    pub doubt : All (λ e. Any (Makes m last.fixed e) last.mine) (m.doubt value)

  -- what a closed lock gives: a value with the fixed part of the last pass, whose history begins with what that pass
  -- has seen
  pub record Closes (last : View) (value : T) : Type 0 where
    pub fixed : m.fixed value ≡ last.fixed
    pub seen : IsPrefix last.seen (m.history value)
    pub has_opening : IsPrefix last.opening (m.history value)
    -- and with the prefix of each of its calls, and that call's entry where it was accepted
    pub stand : All (Stands m last.fixed (m.history value)) last.mine
    -- and no entry was told to two of them as accepted
    pub once : IsOnce m last.mine
    -- the entry of a repeat stands in that call's prefix
    pub repeats : All (λ c. m.answer c.code ≡ repeated → Contains c.prefix (entry_of m last.fixed c)) last.mine
    -- the counts of faults of these calls are at least the opening's and at most the value's
    pub counts : All (IsBetween last.opening_faults (m.faults value)) last.mine
    -- the turn of none of them ended at more readings of the clock than the value has
    pub read : All (IsReadBy (m.readings value)) last.mine
    -- of any two turns, of whichever passes that it took in, one ended at no more faults than the other began with
    pub apart : AllPairs LieApart last.spans
    -- which itself is at least the opening's, also where the pass made no call
    pub least : last.opening_faults ≤ m.faults value
    pub whole : last.share ≡ 2 ^ 64 - 1 → HasOnlyOwn last value

-- The first word is ahead of the second by at least one, and by at most 2^64 less the share of the last pass.
pub record AreOut (last : View) (ticket serving : ℕ) : Type 0 where
  pub out : ℕ
  pub least : 0 < out
  pub most : out + last.share ≤ 2 ^ 64
  pub ahead : ticket ≡ (serving + out) % 2 ^ 64
