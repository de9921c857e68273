-- The rule of the lock, in parts. It holds between any two steps.
use Rattle.std.specs.Prelude.{◌≡◌, ℕ, ◌+◌, ◌-◌, ◌%◌, ◌^◌, ◌<◌, ◌≤◌, ◌⊎◌, List, [], ◌∷◌, ◌++◌, ◌≢◌, length, Option, Some, All, AllPairs, Any}
use mathlib.Core.Option.{none, some}
use Rattle.atomic_table.specs.Table.{State}
use Rattle.tb_lock.specs.declared.view.View.{View}
use Rattle.tb_lock.specs.declared.view.Stage.TheVariants.{Holding}
use Rattle.tb_lock.specs.Meanings.{History, IsPrefix, Meanings}
use Rattle.tb_lock.specs.Calls.{IsBetween, IsReadBy, EndsBy, LieApart, AllApart, Stands, Makes, accepted_at}
use Rattle.tb_lock.specs.Views.{IsLive, spent, IsView, EachView, SomeView, total, share_of, tickets_of, HasTicket, HasTurn, HasTaken}

-- Tickets. As many views have one as were drawn and not yet served. Their numbers are the one served now and those
-- after it, each once.
pub record IsQueue (drawn served : ℕ) (views : List View) : Type 0 where
  pub number : drawn ≡ served + total tickets_of views
  pub range : (j n : ℕ) (v : View) → IsView views j v → HasTicket n v.stage → (served ≤ n) × (n < drawn)
  pub once : (j k n : ℕ) (v w : View)
      → IsView views j v
      → IsView views k w
      → HasTicket n v.stage
      → HasTicket n w.stage
      → j ≡ k

-- Shares. Together they are the whole. Each view is live, or spent, and then has no share, no call and no ticket.
pub record AreShares (views : List View) : Type 0 where
  pub whole : total share_of views ≡ 2 ^ 64 - 1
  pub each : EachView views (λ v. IsLive v ⊎ (v ≡ spent))

-- the slots, of which one that is out has no value
abbrev pub Homes : Type 0 → Type 0
Homes T = List (mathlib.Core.Option.Option (Option T))

-- the value is at home, in the one slot
abbrev pub IsHome : {T : Type 0} → Homes T → T → Type 0
IsHome homes value = homes ≡ some (Some value) ∷ []

-- The value. It is at home, unless the view whose turn it is has taken it. Every live view has its fixed part.
pub record IsKept {T : Type 0} (m : Meanings T) (served : ℕ) (fixed : List ℕ) (homes : Homes T) (views : List View)
    : Type 0 where
  pub turn : (j n : ℕ) (v : View) → IsView views j v → HasTurn n v.stage → n ≡ served
  pub place : ((value : T) × IsHome homes value) ⊎ SomeView views (λ v. HasTaken served v.stage)
  pub away : (j n : ℕ) (v : View) → IsView views j v → HasTaken n v.stage → homes ≡ none ∷ []
  pub value : (value : T) → IsHome homes value → m.fixed value ≡ fixed
  pub same : EachView views (λ v. IsLive v → v.fixed ≡ fixed)

-- The count. The value's history is the counted one, also when it was taken.
pub record IsCounted {T : Type 0} (m : Meanings T) (counted : History) (homes : Homes T) (views : List View)
    : Type 0 where
  pub value : (value : T) → IsHome homes value → m.history value ≡ counted
  pub taken : (j n : ℕ) (v : View) → IsView views j v → HasTaken n v.stage → v.seen ≡ counted

-- a live view's history begins the counted one, and begins with the opening
pub record HasSeen (opening counted : History) (v : View) : Type 0 where
  pub begins : IsPrefix v.seen counted
  pub has_opening : IsPrefix opening v.seen
  pub same : v.opening ≡ opening

-- What was seen. Some live view has seen the whole, so the views know the counted history also while the value is away.
pub record AreSeen (opening counted : History) (views : List View) : Type 0 where
  pub each : EachView views (λ v. IsLive v → HasSeen opening counted v)
  pub whole : SomeView views (λ v. IsLive v × (v.seen ≡ counted))

-- Calls. Each was answered on a beginning of the counted history, and its entry follows there where it was accepted.
abbrev pub AreAnswered : {T : Type 0} → Meanings T → List ℕ → History → List View → Type 0
AreAnswered m fixed counted views = EachView views (λ v. All (Stands m fixed counted) v.mine)

-- Places. At each place of the history at most one of all calls was accepted.
abbrev pub AreOnce : {T : Type 0} → Meanings T → List View → Type 0
AreOnce m views = (n : ℕ) → total (λ v. accepted_at m n v.mine) views ≤ 1

-- the entry is that of a call of some live view, which was accepted or met a fault
abbrev pub IsMade : {T : Type 0} → Meanings T → List ℕ → List View → List ℕ → Type 0
IsMade m fixed views entry = SomeView views (λ v. IsLive v × Any (Makes m fixed entry) v.mine)

-- Entries. Each past the opening is made by a call, and so is each of the group in doubt, outside the turn that makes
-- it.
pub record AreMade {T : Type 0} (m : Meanings T) (fixed : List ℕ) (opening counted : History) (homes : Homes T)
    (views : List View) : Type 0 where
  pub later : History
  pub history : counted ≡ opening ++ later
  pub entries : All (IsMade m fixed views) later
  pub value : (value : T) → IsHome homes value → All (IsMade m fixed views) (m.doubt value)
  pub taken : (j n : ℕ) (v : View) → IsView views j v → HasTaken n v.stage → All (IsMade m fixed views) v.doubt

-- a view that has looked at the faults knows the word, and took the value at a count from the opening's to the word's
pub record KnowsFaults (opening_faults faults : ℕ) (v : View) : Type 0 where
  pub word : v.faults ≡ faults
  pub least : opening_faults ≤ v.faults_taken
  pub most : v.faults_taken ≤ faults

-- Faults. The word is the count of the value at home, and of the value as it was taken until the view that took it
-- raises the faults. It is at least the opening's, which every live view has, and the counts of each call lie between
-- the two.
pub record AreFaults {T : Type 0} (m : Meanings T) (opening_faults faults : ℕ) (homes : Homes T) (views : List View)
    : Type 0 where
  pub value : (value : T) → IsHome homes value → m.faults value ≡ faults
  pub taken : (j n : ℕ) (v : View) → IsView views j v → v.stage ≡ Holding n → v.faults_taken ≡ faults
  pub known : (j n : ℕ) (v : View) → IsView views j v → HasTaken n v.stage → KnowsFaults opening_faults faults v
  pub least : opening_faults ≤ faults
  pub same : EachView views (λ v. IsLive v → v.opening_faults ≡ opening_faults)
  pub calls : EachView views (λ v. All (IsBetween opening_faults faults) v.mine)

-- Readings. So many readings the clock of the value at home has given, and had given as the value was taken. The turn
-- of no call ended at more of them.
pub record AreRead {T : Type 0} (m : Meanings T) (read : ℕ) (homes : Homes T) (views : List View) : Type 0 where
  pub value : (value : T) → IsHome homes value → m.readings value ≡ read
  pub taken : (j n : ℕ) (v : View) → IsView views j v → HasTaken n v.stage → v.readings ≡ read
  pub calls : EachView views (λ v. All (IsReadBy read) v.mine)

-- Spans. So many faults the value at home has met, and had met as it was taken. No turn ended at more of them. Of any
-- two turns, of one view or of two, one ended at no more faults than the other began with.
pub record AreSpans {T : Type 0} (m : Meanings T) (met : ℕ) (homes : Homes T) (views : List View) : Type 0 where
  pub value : (value : T) → IsHome homes value → m.faults value ≡ met
  pub taken : (j n : ℕ) (v : View) → IsView views j v → HasTaken n v.stage → v.faults_taken ≡ met
  pub ended : EachView views (λ v. All (EndsBy met) v.spans)
  pub within : EachView views (λ v. AllPairs LieApart v.spans)
  pub between : (j k : ℕ) (v w : View) → IsView views j v → IsView views k w → j ≢ k → AllApart v.spans w.spans

-- the words: the numbers of the next ticket and of the turn, the count, and the faults
abbrev pub words_of : ℕ → ℕ → ℕ → ℕ → List ℕ
words_of drawn served count faults = (drawn % 2 ^ 64) ∷ (served % 2 ^ 64) ∷ count ∷ faults ∷ []

-- the rule: of the tickets drawn and served since the lock was made, the fixed part, the opening, the counted history,
-- the faults, those that the value had met as it was given back last, and the number of the clock's readings
pub record Rule {T : Type 0} (m : Meanings T) (s : State (Option T) View) : Type 0 where
  pub drawn : ℕ
  pub served : ℕ
  pub fixed : List ℕ
  pub opening : History
  pub opening_faults : ℕ
  pub counted : History
  pub faults : ℕ
  pub met : ℕ
  pub read : ℕ
  pub words : s.words ≡ words_of drawn served (length counted) faults
  pub queue : IsQueue drawn served s.views
  pub shares : AreShares s.views
  pub kept : IsKept m served fixed s.homes s.views
  pub count : IsCounted m counted s.homes s.views
  pub seen : AreSeen opening counted s.views
  pub answered : AreAnswered m fixed counted s.views
  pub once : AreOnce m s.views
  pub made : AreMade m fixed opening counted s.homes s.views
  pub failed : AreFaults m opening_faults faults s.homes s.views
  pub readings : AreRead m read s.homes s.views
  pub spans : AreSpans m met s.homes s.views
