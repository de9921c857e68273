-- What a pass gains by the calls that are made with it.
use Rattle.std.specs.Prelude.{◌≡◌, ◌⊎◌, ◌≤◌, ℕ, List, [], ◌∷◌, ◌++◌, length, map, flat_map, Some, All, Contains}
use Rattle.tb_message.specs.declared.key.Key.{Key}
use Rattle.tb_message.specs.declared.message.Message.{Message}
use Rattle.tb_core.specs.House.{IsBid}
use Rattle.tb_lock.specs.declared.view.Call.{Call}
use Rattle.tb_lock.specs.declared.view.Span.{Span}
use Rattle.tb_lock.specs.declared.view.View.{View}
use Rattle.tb_lock.specs.Meanings.{History, IsPrefix}
use Rattle.tb_lock.specs.Calls.{added_if}
use Rattle.tb_lock.specs.Turns.{IsReadBetween}
use Rattle.tb_session.specs.declared.answer.Answer.{Answer}
use Rattle.tb_session.specs.declared.answer.Answer.TheVariants as answer
use Rattle.tb_session.specs.declared.called.Ask.{Ask}
use Rattle.tb_session.specs.declared.called.Ask.TheVariants as ask
use Rattle.tb_session.specs.Codes.{Made, call_of, span_of, spelled_all, kind_in, moment_in, entry_in, IsAnswered, IsAnswerOf}

-- the history that a call leaves behind: its prefix, and its entry where it was accepted
abbrev pub left_by : Call → History
left_by c = c.prefix ++ added_if (kind_in c.code) (entry_in c.code) []

-- the later call was answered on a history that begins with what the earlier one left, its faults were counted later,
-- and the clock had given no fewer readings; where it has a moment the clock was read again
pub record Follows (earlier later : Call) : Type 0 where
  pub history : IsPrefix (left_by earlier) later.prefix
  pub faults : earlier.faults_after ≤ later.faults_before
  pub readings : earlier.readings ≤ later.readings
  pub read : (moment : ℕ) → moment_in later.code ≡ Some moment → IsReadBetween earlier.readings later.readings

-- the same of two calls of one turn, which have its two counts of faults and its readings
pub record StandsBeside (earlier later : Call) : Type 0 where
  pub history : IsPrefix (left_by earlier) later.prefix
  pub before : earlier.faults_before ≡ later.faults_before
  pub after : earlier.faults_after ≡ later.faults_after
  pub readings : earlier.readings ≡ later.readings

-- calls of one turn, in order
abbrev pub AreBeside : List Call → Type 0
AreBeside [] = Unit {0}
AreBeside (call ∷ calls) = All (StandsBeside call) calls × AreBeside calls

-- each call of the later turn follows each of the earlier one
abbrev pub TurnFollows : List Call → List Call → Type 0
TurnFollows earlier later = All (λ call. All (Follows call) later) earlier

-- turns, of which each follows each one before it
abbrev pub AreInOrder : List (List Call) → Type 0
AreInOrder [] = Unit {0}
AreInOrder (turn ∷ turns) = AreBeside turn × All (TurnFollows turn) turns × AreInOrder turns

-- the elements of several lists, one list's behind the other's
abbrev pub joined : {A : Type 0} → List (List A) → List A
joined lists = flat_map (λ list. list) lists

-- what is asked is a bid
abbrev pub AsksBid : Ask → Type 0
AsksBid (ask.Message number message) = IsBid message
AsksBid other = ⊥

-- the call is a bid with this key
abbrev pub IsBidWith : Key → Made → Type 0
IsBidWith k m = (m.called.key ≡ k) × AsksBid m.called.ask

-- bids of one key, at most 64
abbrev pub AreBidsOfOne : List Made → Type 0
AreBidsOfOne made = (length made ≤ 64) × ((k : Key) × All (IsBidWith k) made)

-- a turn has one call, or some bids of one key
abbrev pub IsTurn : List Made → Type 0
IsTurn made = (length made ≡ 1) ⊎ ((1 ≤ length made) × AreBidsOfOne made)

-- the turns as the lock keeps their calls
abbrev pub turns_of : List (List Made) → List (List Call)
turns_of turns = map (λ turn. map call_of turn) turns

-- Calls of one pass can be cut, in order, into turns, of which each follows each one before it.
pub record AreTurns (made : List Made) : Type 0 where
  pub turns : List (List Made)
  pub cut : made ≡ joined turns
  pub each : All IsTurn turns
  pub order : AreInOrder (turns_of turns)

-- The pass gained these calls and no others, in these turns. Each was answered on a history that begins with what the
-- pass had seen, and its counts of faults are those of a turn that the pass had meanwhile. Turns that were in order
-- stay so.
pub record Gains (old new : View) (made : List Made) : Type 0 where
  pub mine : new.mine ≡ old.mine ++ map call_of made
  pub answered : All (λ m. IsAnswered old.fixed m.history m.called m.before m.after m.readings) made
  pub begin : All (λ m. IsPrefix old.seen (spelled_all m.history)) made
  pub seen : IsPrefix old.seen new.seen
  pub spans : List Span
  pub had : new.spans ≡ old.spans ++ spans
  pub counts : All (λ m. Contains spans (span_of m)) made
  pub turns : List (List Made)
  pub cut : made ≡ joined turns
  pub each : All IsTurn turns
  pub order : (earlier : List (List Call)) → old.mine ≡ joined earlier → AreInOrder earlier
      → AreInOrder (earlier ++ turns_of turns)
  pub share : new.share ≡ old.share
  pub fixed : new.fixed ≡ old.fixed
  pub opening : new.opening ≡ old.opening
  pub opening_faults : new.opening_faults ≡ old.opening_faults

-- one call, with this key and this ask, got the answer
pub record GainsOne (old new : View) (key : Key) (asked : Ask) (said : Answer) : Type 0 where
  pub made : Made
  pub gains : Gains old new (made ∷ [])
  pub key_is : made.called.key ≡ key
  pub ask_is : made.called.ask ≡ asked
  pub answer_is : IsAnswerOf old.fixed made said

-- these bids became these calls, in order, with this key and these answers
abbrev pub BecameCalls : List ℕ → Key → List (ℕ × Message) → List Made → List Answer → Type 0
BecameCalls fixed k [] [] [] = Unit {0}
BecameCalls fixed k (asked ∷ bids) (m ∷ made) (said ∷ answers) =
    (m.called.key ≡ k) × (m.called.ask ≡ ask.Message asked.0 asked.1) × IsAnswerOf fixed m said
    × BecameCalls fixed k bids made answers
BecameCalls fixed k bids made answers = ⊥

-- an answer that takes no memory to tell
abbrev pub IsPlain : Answer → Type 0
IsPlain (answer.Verdict said) = Unit {0}
IsPlain answer.DiskFault = Unit {0}
IsPlain other = ⊥

-- these bids shared a turn, and got these answers
pub record GainsTogether (old new : View) (k : Key) (bids : List (ℕ × Message)) (answers : List Answer) : Type 0 where
  pub made : List Made
  pub gains : Gains old new made
  pub became : BecameCalls old.fixed k bids made answers
  pub beside : AreBeside (map call_of made)
  pub one : (1 ≤ length made) × AreBidsOfOne made
  pub plain : All IsPlain answers
