-- What a pass knows, its view, and how views are made, cut and joined.
use Rattle.std.specs.Prelude.{◌≡◌, ℕ, ◌+◌, ◌-◌, ◌/◌, ◌^◌, ◌<◌, List, [], ◌∷◌, ◌++◌, length, nat_lt, if◌then◌else◌, Bool, true, false}
use mathlib.Core.Option.{some}
use lib.ListN.{get_elem?}
use Rattle.tb_lock.specs.declared.view.Stage.{Stage}
use Rattle.tb_lock.specs.declared.view.Stage.TheVariants.{Idle, Waiting, Come, Holding, Raised, Counted}
use Rattle.tb_lock.specs.declared.view.View.{View}
use Rattle.tb_lock.specs.Meanings.{History, Meanings}

-- a live view has a share
abbrev pub IsLive : View → Type 0
IsLive v = 0 < v.share

-- the first view: it has the whole share, has seen the history of the value given, and has no calls
abbrev pub newcomer : {T : Type 0} → Meanings T → T → View
newcomer m given = record {
  stage = Idle;
  share = 2 ^ 64 - 1;
  seen = m.history given;
  mine = [];
  spans = [];
  fixed = m.fixed given;
  opening = m.history given;
  opening_faults = m.faults given;
  doubt = [];
  faults_taken = 0;
  reading = 0;
  readings = 0;
  faults = 0;
}

-- what is left of a view that was joined to another: nothing
abbrev pub spent : View
spent = record {
  stage = Idle;
  share = 0;
  seen = [];
  mine = [];
  spans = [];
  fixed = [];
  opening = [];
  opening_faults = 0;
  doubt = [];
  faults_taken = 0;
  reading = 0;
  readings = 0;
  faults = 0;
}

abbrev pub at_stage : Stage → View → View
at_stage stage v = record v { stage = stage }

-- the view that has raised the faults by so many
abbrev pub raised : ℕ → ℕ → View → View
raised n more v = record v { stage = Raised n; faults = v.faults + more }

-- what stays with a view that is split
abbrev pub kept_half : View → View
kept_half v = record v { share = v.share - v.share / 2 }

-- and what the new view has: half of the share, rounded down, and no calls and no turns
abbrev pub given_half : View → View
given_half v = record v { stage = Idle; share = v.share / 2; mine = []; spans = [] }

-- the longer of two histories
abbrev pub longer : History → History → History
longer xs ys = if nat_lt (length xs) (length ys) then ys else xs

-- a view that has taken in another: its share, what it has seen, its calls and its turns
abbrev pub joined : View → View → View
joined v other = record v {
  share = v.share + other.share;
  seen = longer v.seen other.seen;
  mine = v.mine ++ other.mine;
  spans = v.spans ++ other.spans;
}

-- the view number j is v
abbrev pub IsView : List View → ℕ → View → Type 0
IsView views j v = get_elem? views j ≡ some v

abbrev pub EachView : List View → (View → Type 0) → Type 0
EachView views P = (j : ℕ) (v : View) → IsView views j v → P v

abbrev pub SomeView : List View → (View → Type 0) → Type 0
SomeView views P = (j : ℕ) × (v : View) × IsView views j v × P v

-- a number of each view, added up
abbrev pub total : (View → ℕ) → List View → ℕ
total f [] = 0
total f (v ∷ vs) = f v + total f vs

abbrev pub share_of : View → ℕ
share_of v = v.share

-- how many tickets a view has
abbrev pub tickets_at : Stage → ℕ
tickets_at Idle = 0
tickets_at (Waiting n) = 1
tickets_at (Come n) = 1
tickets_at (Holding n) = 1
tickets_at (Raised n) = 1
tickets_at (Counted n) = 1

abbrev pub tickets_of : View → ℕ
tickets_of v = tickets_at v.stage

-- the ticket has the number n
abbrev pub HasTicket : ℕ → Stage → Type 0
HasTicket n Idle = ⊥
HasTicket n (Waiting k) = k ≡ n
HasTicket n (Come k) = k ≡ n
HasTicket n (Holding k) = k ≡ n
HasTicket n (Raised k) = k ≡ n
HasTicket n (Counted k) = k ≡ n

-- the turn of ticket n has come
abbrev pub HasTurn : ℕ → Stage → Type 0
HasTurn n Idle = ⊥
HasTurn n (Waiting k) = ⊥
HasTurn n (Come k) = k ≡ n
HasTurn n (Holding k) = k ≡ n
HasTurn n (Raised k) = k ≡ n
HasTurn n (Counted k) = k ≡ n

-- the value is away with ticket n
abbrev pub HasTaken : ℕ → Stage → Type 0
HasTaken n Idle = ⊥
HasTaken n (Waiting k) = ⊥
HasTaken n (Come k) = ⊥
HasTaken n (Holding k) = k ≡ n
HasTaken n (Raised k) = k ≡ n
HasTaken n (Counted k) = ⊥

abbrev pub is_holding : Stage → Bool
is_holding Idle = false
is_holding (Waiting n) = false
is_holding (Come n) = false
is_holding (Holding n) = true
is_holding (Raised n) = false
is_holding (Counted n) = false
