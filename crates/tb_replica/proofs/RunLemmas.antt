-- Steps of a run over what is kept.
use Rattle.std.proofs.Common.{◌≡◌, inl, inr, ℕ, ◌+◌, List, [], ◌∷◌, ◌++◌, get_or, refl, ap, sym, ◌∙◌, subst}
use Rattle.std.specs.Prelude.{Option, Some, None, Err, Contains}
use Rattle.tb_message.specs.declared.message.Entry.{Entry}
use Rattle.tb_history.specs.Legal.{Follows}
use Rattle.tb_replica.specs.declared.taken.TakeFault.{TakeFault}
use Rattle.tb_replica.specs.declared.taken.TakeFault.TheVariants as fault
use Rattle.tb_replica.specs.Window.{first, shifted}
use Rattle.tb_replica.specs.Following.{Following, Outcome, Runs, Forks, Breaks, Goes}
use Rattle.tb_replica.specs.Followers.{AreInRange}
use Rattle.tb_replica.specs.Adding.{IsAdded}
use Rattle.tb_replica.proofs.WindowLemmas.{get_or-shifted}

-- what is left is in its ranges
pub AreInRange-shifted : (ahead left : List (Option Entry))
    → left ≡ shifted ahead
    → AreInRange ahead
    → AreInRange left
AreInRange-shifted ahead left is are index entry kept =
    are (index + 1) entry
    (sym (get_or-shifted ahead index)
    ∙ ap (λ (places : List (Option Entry)). get_or places index None) (sym is)
    ∙ kept)

-- an entry that couldn't be added ends the run
pub Runs-failed : (history after : List Entry) (ahead left : List (Option Entry)) (added : ℕ) (entry : Entry)
    (why : TakeFault)
    → IsAdded history entry after (Err why)
    → first ahead ≡ Some entry
    → ¬ (Contains history entry)
    → Runs (record { history = after; ahead = left }) (Err why) history ahead added
Runs-failed history after ahead left added entry (fault.Forked place) told kept not_among =
    Forks history ahead added entry kept not_among told.0 (ap (λ (n : ℕ). Err (fault.Forked n)) told.1) told.2
Runs-failed history after ahead left added entry fault.DiskFault same kept not_among =
    Breaks history ahead added entry kept not_among (inl refl) same
Runs-failed history after ahead left added entry fault.OutOfMemory same kept not_among =
    Breaks history ahead added entry kept not_among (inr refl) same

-- one that was added, and the run behind it
pub Runs-goes : (new : Following) (outcome : Outcome) (history after : List Entry) (ahead left : List (Option Entry))
    (added : ℕ) (entry : Entry)
    → Follows history entry
    → after ≡ history ++ entry ∷ []
    → first ahead ≡ Some entry
    → left ≡ shifted ahead
    → Runs new outcome after left (added + 1)
    → Runs new outcome history ahead added
Runs-goes new outcome history after ahead left added entry follows is kept left_is more =
    Goes history ahead added entry kept follows
    (subst (λ (h : List Entry). Runs new outcome h (shifted ahead) (added + 1)) is
    (subst (λ (places : List (Option Entry)). Runs new outcome after places (added + 1)) left_is more))

-- a copy and what is kept ahead of it
abbrev pub following_of : List Entry → List (Option Entry) → Following
following_of history ahead = record { history = history; ahead = ahead }

pub same_left : (history : List Entry) (left right : List (Option Entry))
    → left ≡ right
    → following_of history left ≡ following_of history right
same_left history left right is = ap (λ (places : List (Option Entry)). following_of history places) is
