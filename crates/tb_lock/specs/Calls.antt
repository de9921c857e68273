-- Calls, and the entries that they make.
use Rattle.std.specs.Prelude.{◌≡◌, ◌≢◌, ℕ, List, [], ◌∷◌, ◌++◌, ◌+◌, ◌≤◌, ◌⊎◌, length, take, nat_eq, if◌then◌else◌, All, AllPairs}
use Rattle.tb_lock.specs.declared.view.Call.{Call}
use Rattle.tb_lock.specs.declared.view.Span.{Span}
use Rattle.tb_lock.specs.Meanings.{History, IsPrefix, Answer, accepted, repeated, faulted, entryless, Meanings}

-- a call so answered may add an entry: it was accepted, or met a fault
abbrev pub MayAdd : Answer → Type 0
MayAdd accepted = Unit {0}
MayAdd repeated = ⊥
MayAdd faulted = Unit {0}
MayAdd entryless = ⊥

-- an entry before others, where the call was accepted
abbrev pub added_if : Answer → List ℕ → History → History
added_if accepted entry others = entry ∷ others
added_if repeated entry others = others
added_if faulted entry others = others
added_if entryless entry others = others

-- the calls that are told, each with as many first entries of the history as are told for it, between these counts of
-- faults, in a turn at whose end the clock had given so many readings
abbrev pub calls_on : History → ℕ → ℕ → ℕ → List (List ℕ × ℕ) → List Call
calls_on history before after readings [] = []
calls_on history before after readings (c ∷ cs) =
    (record {
      code = c.0;
      prefix = take c.1 history;
      faults_before = before;
      faults_after = after;
      readings = readings;
    })
    ∷ calls_on history before after readings cs

-- the call's counts of faults lie between two numbers, the one before not above the one after
pub record IsBetween (low high : ℕ) (c : Call) : Type 0 where
  pub least : low ≤ c.faults_before
  pub rising : c.faults_before ≤ c.faults_after
  pub most : c.faults_after ≤ high

-- the turn of the call ended at no more readings of the clock than these
abbrev pub IsReadBy : ℕ → Call → Type 0
IsReadBy readings c = c.readings ≤ readings

-- the turn ended at no more faults than these
abbrev pub EndsBy : ℕ → Span → Type 0
EndsBy met span = span.after ≤ met

-- one of the two turns ended at no more faults than the other began with
abbrev pub LieApart : Span → Span → Type 0
LieApart one other = (one.after ≤ other.before) ⊎ (other.after ≤ one.before)

-- so lie each of these turns and each of those
abbrev pub AllApart : List Span → List Span → Type 0
AllApart these those = All (λ one. All (LieApart one) those) these

-- one, where a call so answered behind so many entries has its entry at place n of the history
abbrev pub one_at : ℕ → Answer → ℕ → ℕ
one_at n accepted place = if nat_eq place n then 1 else 0
one_at n repeated place = 0
one_at n faulted place = 0
one_at n entryless place = 0

module _ {T : Type 0} (m : Meanings T) where
  -- how many of the calls were accepted behind exactly n entries
  abbrev pub accepted_at : ℕ → List Call → ℕ
  accepted_at n [] = 0
  accepted_at n (c ∷ cs) = one_at n (m.answer c.code) (length c.prefix) + accepted_at n cs

  -- the two calls weren't both accepted behind equally many entries
  abbrev pub AreApart : Call → Call → Type 0
  AreApart c d = m.answer c.code ≡ accepted → m.answer d.code ≡ accepted → length c.prefix ≢ length d.prefix

  -- no entry of a history is told to two of the calls as accepted
  abbrev pub IsOnce : List Call → Type 0
  IsOnce calls = AllPairs AreApart calls

module _ {T : Type 0} (m : Meanings T) (fixed : List ℕ) where
  abbrev pub entry_of : Call → List ℕ
  entry_of c = m.entry fixed c.prefix c.code

  -- the call was answered on a beginning of the history, and there its entry follows where it was accepted
  pub record Stands (history : History) (c : Call) : Type 0 where
    pub answered : m.answered fixed c.prefix c.code c.faults_before c.faults_after c.readings
    pub prefix : IsPrefix c.prefix history
    pub entry : m.answer c.code ≡ accepted → IsPrefix (c.prefix ++ entry_of c ∷ []) history

  -- the entry is that of the call, which was accepted or met a fault
  abbrev pub Makes : List ℕ → Call → Type 0
  Makes entry c = MayAdd (m.answer c.code) × (entry_of c ≡ entry)

  -- the entry is that of the call, which met a fault
  abbrev pub Leaves : List ℕ → Call → Type 0
  Leaves entry c = (m.answer c.code ≡ faulted) × (entry_of c ≡ entry)

  -- the entries of the calls that were accepted, in order
  abbrev pub accepted_of : List Call → History
  accepted_of [] = []
  accepted_of (c ∷ cs) = added_if (m.answer c.code) (entry_of c) (accepted_of cs)
