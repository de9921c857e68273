-- The small value of this crate's tests. An entry is a number alone. A call's code is how it was answered, a number,
-- and the moment where it has one.
use Rattle.std.specs.Prelude.{◌≡◌, ◌⊎◌, ◌≤◌, ℕ, zero, suc, List, [], ◌∷◌, ◌++◌, map, length, Option, Some, None, Contains}
use Rattle.tb_lock_tests.specs.declared.tally.Outcome.{Outcome}
use Rattle.tb_lock_tests.specs.declared.tally.Outcome.TheVariants.{Accepted, Repeated, Faulted}
use Rattle.tb_lock_tests.specs.declared.tally.Addition.{Addition}
use Rattle.tb_lock_tests.specs.declared.tally.Reading.{Reading}
use Rattle.tb_lock_tests.specs.declared.tally.Tally.{Tally}
use Rattle.tb_lock.specs.declared.view.Call.{Call}
use Rattle.tb_lock.specs.declared.view.View.{View}
use Rattle.tb_lock.specs.Meanings.{History, Answer, accepted, repeated, faulted, entryless, Meanings, RepeatsStand}
use Rattle.tb_lock.specs.Turns.{IsReadBetween}

-- the entries of these numbers
abbrev pub entries_of : List ℕ → History
entries_of numbers = map (λ n. n ∷ []) numbers

-- the group in doubt: the number that met a fault, or nothing
abbrev pub group_of : Option ℕ → List ℕ
group_of None = []
group_of (Some number) = number ∷ []

-- the first number of the code of a call that adds
abbrev pub kind_of : Outcome → ℕ
kind_of Accepted = 1
kind_of Repeated = 2
kind_of Faulted = 0

-- how a call was answered whose code begins so
abbrev pub answer_of : ℕ → Answer
answer_of zero = faulted
answer_of (suc zero) = accepted
answer_of (suc (suc zero)) = repeated
answer_of (suc (suc (suc others))) = entryless

-- how a call with this code was answered
abbrev pub answer_in : List ℕ → Answer
answer_in [] = entryless
answer_in (kind ∷ others) = answer_of kind

-- the number of the call, as an entry
abbrev pub entry_in : List ℕ → List ℕ
entry_in [] = []
entry_in (kind ∷ []) = []
entry_in (kind ∷ number ∷ others) = number ∷ []

-- the moment of the call, where it has one
abbrev pub moment_in : List ℕ → Option ℕ
moment_in [] = None
moment_in (kind ∷ []) = None
moment_in (kind ∷ number ∷ []) = None
moment_in (kind ∷ number ∷ moment ∷ others) = Some moment

-- a repeat's number stands before it; a number meets a fault only where the count rises, or stands at its last value;
-- and what is read is how many entries stand before it
abbrev pub MayAnswer : Answer → History → List ℕ → ℕ → ℕ → Type 0
MayAnswer accepted prefix number before after = Unit {0}
MayAnswer repeated prefix number before after = Contains prefix number
MayAnswer faulted prefix number before after = IsReadBetween before after
MayAnswer entryless prefix number before after = number ≡ length prefix ∷ []

-- what the lock knows of a tally
abbrev pub tally_means : Meanings Tally
tally_means = record {
  history = λ t. entries_of t.numbers.items;
  doubt = λ t. entries_of (group_of t.doubt);
  faults = λ t. t.faults;
  reading = λ t. t.clock;
  readings = λ t. t.clock;
  fixed = λ t. t.room ∷ t.fails ∷ [];
  answered = λ fixed prefix code before after readings. MayAnswer (answer_in code) prefix (entry_in code) before after;
  answer = answer_in;
  entry = λ fixed prefix code. entry_in code;
  moment = moment_in;
}

-- the number of a repeat stands before it
pub tally_repeats : RepeatsStand tally_means
tally_repeats fixed prefix code before after readings answered is = stands (answer_in code) is answered
  where
    stands : (answer : Answer) → answer ≡ repeated → MayAnswer answer prefix (entry_in code) before after
        → Contains prefix (entry_in code)
    stands accepted is answered = absurd (cc)
    stands repeated is answered = answered
    stands faulted is answered = absurd (cc)
    stands entryless is answered = absurd (cc)

-- the one call of a turn that adds a number
abbrev pub addition_of : Addition → List (List ℕ × ℕ)
addition_of a = ((kind_of a.outcome ∷ a.number ∷ a.moment ∷ []), a.before) ∷ []

-- and of one that reads
abbrev pub reading_of : Reading → List (List ℕ × ℕ)
reading_of r = ((3 ∷ r.entries ∷ []), r.entries) ∷ []

-- the number in doubt stands now, or was dropped
pub record Settles (old new : Tally) : Type 0 where
  pub group : List ℕ
  pub grown : new.numbers.items ≡ old.numbers.items ++ group
  pub resolved : (group ≡ []) ⊎ (group ≡ group_of old.doubt)
  pub none : new.doubt ≡ None
  pub same : (new.room ≡ old.room) × (new.fails ≡ old.fails) × (new.faults ≡ old.faults) × (new.clock ≡ old.clock)

-- the numbers, the number in doubt and the count of faults after a number was so answered
abbrev pub IsAnswered : Outcome → Tally → Tally → ℕ → Type 0
IsAnswered Accepted old new number =
    (new.numbers.items ≡ old.numbers.items ++ number ∷ []) × (new.doubt ≡ None) × (new.faults ≡ old.faults)
IsAnswered Repeated old new number = (new.numbers.items ≡ old.numbers.items) × (new.doubt ≡ None)
    × (new.faults ≡ old.faults) × Contains (entries_of old.numbers.items) (number ∷ [])
IsAnswered Faulted old new number = (new.numbers.items ≡ old.numbers.items) × (new.doubt ≡ Some number)
    × IsReadBetween old.faults new.faults × (old.faults ≤ new.faults)

-- a number was so answered, and nothing else changed
pub record Adds (outcome : Outcome) (old new : Tally) (number : ℕ) : Type 0 where
  pub answered : IsAnswered outcome old new number
  pub same : (new.room ≡ old.room) × (new.fails ≡ old.fails) × (new.clock ≡ old.clock)

-- the pass has made one call more, with this number, so answered
pub record HasAdded (old new : View) (number : ℕ) (outcome : Outcome) : Type 0 where
  pub call : Call
  pub made : new.mine ≡ old.mine ++ call ∷ []
  pub answer : answer_in call.code ≡ answer_of (kind_of outcome)
  pub entry : entry_in call.code ≡ number ∷ []
  pub share : new.share ≡ old.share

-- the pass has made one call more, which was told that so many entries stand before it
pub record HasRead (old new : View) (entries : ℕ) : Type 0 where
  pub call : Call
  pub made : new.mine ≡ old.mine ++ call ∷ []
  pub answer : answer_in call.code ≡ entryless
  pub told : entries ≡ length call.prefix
  pub share : new.share ≡ old.share
