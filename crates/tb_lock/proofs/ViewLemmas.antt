-- Views in a list, and their stages.
use Rattle.std.proofs.Common.{◌≡◌, ◌≢◌, ℕ, zero, suc, ◌+◌, ◌<◌, ◌≤◌, List, [], ◌∷◌, ◌++◌, length, set, true, refl, sym, ap, ◌∙◌, subst, ⊎_elim, arith, le_refl}
use mathlib.Core.Option.{some-injective, some-ne-none}
use lib.ListN.{get_elem?}
use Rattle.atomic_table.proofs.Lists.{at_set, at_snoc}
use Rattle.tb_lock.specs.declared.view.View.{View}
use Rattle.tb_lock.specs.declared.view.Stage.{Stage}
use Rattle.tb_lock.specs.declared.view.Stage.TheVariants.{Idle, Waiting, Come, Holding, Raised, Counted}
use Rattle.tb_lock.specs.Views.{IsView, EachView, total, tickets_at, HasTicket, HasTurn, HasTaken, is_holding}

-- a sum over views in which one is changed
pub total-set : (f : View → ℕ) (vs : List View) (j : ℕ) (v w : View)
    → IsView vs j v
    → total f (set vs j w) + f v ≡ total f vs + f w
total-set f [] j v w e = absurd (some-ne-none v (sym e))
total-set f (x ∷ xs) zero v w e = let s = ap f (some-injective x v e) in omega arith
total-set f (x ∷ xs) (suc j) v w e = let s = total-set f xs j v w e in omega arith

-- a sum with one view more
pub total-snoc : (f : View → ℕ) (vs : List View) (w : View) → total f (vs ++ w ∷ []) ≡ total f vs + f w
total-snoc f [] w = omega arith
total-snoc f (x ∷ xs) w = let s = total-snoc f xs w in omega arith

-- one view's number is at most the sum
pub total-at : (f : View → ℕ) (vs : List View) (j : ℕ) (v : View) → IsView vs j v → f v ≤ total f vs
total-at f [] j v e = absurd (some-ne-none v (sym e))
total-at f (x ∷ xs) zero v e = let s = ap f (some-injective x v e) in omega arith
total-at f (x ∷ xs) (suc j) v e = let s = total-at f xs j v e in omega arith

-- a sum of smaller numbers is no greater
pub total-less : (f g : View → ℕ) (vs : List View) → EachView vs (λ v. f v ≤ g v) → total f vs ≤ total g vs
total-less f g [] h = le_refl 0
total-less f g (x ∷ xs) h = let a = h 0 x refl in let b = total-less f g xs (λ j v e. h (suc j) v e) in omega arith

-- the place of a view is below the number of views
pub below-length : (vs : List View) (j : ℕ) (v : View) → IsView vs j v → j < length vs
below-length [] j v e = absurd (some-ne-none v (sym e))
below-length (x ∷ xs) zero v e = omega arith
below-length (x ∷ xs) (suc j) v e = let h = below-length xs j v e in omega arith

-- what holds of the others and of the new view holds of each after a change
pub each-set : (P : ℕ → View → Type 0) (vs : List View) (id : ℕ) (w : View)
    → ((j : ℕ) (v : View) → j ≢ id → IsView vs j v → P j v)
    → P id w
    → (j : ℕ) (v : View)
    → IsView (set vs id w) j v
    → P j v
each-set P vs id w others mine j v e = ⊎_elim
    (λ (x : (j ≡ id) × (w ≡ v)). subst (λ (y : ℕ × View). P y.0 y.1) (λ i. (sym x.0 i, x.1 i)) mine)
    (λ (x : (j ≢ id) × IsView vs j v). others j v x.0 x.1)
    (at_set vs id j w v e)

-- what each view meets, and one view more
pub each-snoc : (P : View → Type 0) (vs : List View) (w : View) → EachView vs P → P w → EachView (vs ++ w ∷ []) P
each-snoc P vs w others mine j v e = ⊎_elim (others j v) (λ (x : w ≡ v). subst P x mine) (at_snoc vs w v j e)

-- the only view of a list of one
pub first-only : (P : View → Type 0) (u : View) → P u → EachView (u ∷ []) P
first-only P u p zero v e = subst P (some-injective u v e) p
first-only P u p (suc j) v e = absurd (some-ne-none v (sym e))

-- at one place stands one view
pub same-view : (vs : List View) (id j : ℕ) (v w : View) → IsView vs id v → IsView vs j w → id ≡ j → v ≡ w
same-view vs id j v w at there same = some-injective v w (sym at ∙ (ap (get_elem? vs) same ∙ there))

-- a view with a ticket has one ticket
pub tickets-of_ticket : (n : ℕ) (st : Stage) → HasTicket n st → tickets_at st ≡ 1
tickets-of_ticket n Idle has = absurd has
tickets-of_ticket n (Waiting k) has = refl
tickets-of_ticket n (Come k) has = refl
tickets-of_ticket n (Holding k) has = refl
tickets-of_ticket n (Raised k) has = refl
tickets-of_ticket n (Counted k) has = refl

-- a view has at most one ticket
pub tickets-at_most : (st : Stage) → tickets_at st ≤ 1
tickets-at_most Idle = omega arith
tickets-at_most (Waiting n) = omega arith
tickets-at_most (Come n) = omega arith
tickets-at_most (Holding n) = omega arith
tickets-at_most (Raised n) = omega arith
tickets-at_most (Counted n) = omega arith

-- a view whose turn has come has the ticket
pub ticket-of_turn : (n : ℕ) (st : Stage) → HasTurn n st → HasTicket n st
ticket-of_turn n Idle has = has
ticket-of_turn n (Waiting k) has = absurd has
ticket-of_turn n (Come k) has = has
ticket-of_turn n (Holding k) has = has
ticket-of_turn n (Raised k) has = has
ticket-of_turn n (Counted k) has = has

-- a view that has taken the value has the turn
pub turn-of_taken : (n : ℕ) (st : Stage) → HasTaken n st → HasTurn n st
turn-of_taken n Idle has = has
turn-of_taken n (Waiting k) has = has
turn-of_taken n (Come k) has = absurd has
turn-of_taken n (Holding k) has = has
turn-of_taken n (Raised k) has = has
turn-of_taken n (Counted k) has = absurd has

-- between turns a view has none of these
pub idle-ticket : (n : ℕ) (st : Stage) → st ≡ Idle → HasTicket n st → ⊥
idle-ticket n st idle has = subst (HasTicket n) idle has

-- nor the turn
pub idle-turn : (n : ℕ) (st : Stage) → st ≡ Idle → HasTurn n st → ⊥
idle-turn n st idle has = subst (HasTurn n) idle has

-- nor the value
pub idle-taken : (n : ℕ) (st : Stage) → st ≡ Idle → HasTaken n st → ⊥
idle-taken n st idle has = subst (HasTaken n) idle has

-- a view that holds the turn has taken the value
pub holding-taken : (n : ℕ) (st : Stage) → st ≡ Holding n → HasTaken n st
holding-taken n st is = subst (HasTaken n) (sym is) refl

-- one whose turn has just come has not
pub come-taken : (n k : ℕ) (st : Stage) → st ≡ Come k → HasTaken n st → ⊥
come-taken n k st is has = subst (HasTaken n) is has

-- nor has one that waits
pub waiting-taken : (n k : ℕ) (st : Stage) → st ≡ Waiting k → HasTaken n st → ⊥
waiting-taken n k st waits has = subst (HasTaken n) waits has

-- nor one that has raised the count
pub counted-taken : (n k : ℕ) (st : Stage) → st ≡ Counted k → HasTaken n st → ⊥
counted-taken n k st is has = subst (HasTaken n) is has

-- a stage has one ticket: that of holding
pub holding-same : (n k : ℕ) (st : Stage) → st ≡ Holding n → st ≡ Holding k → n ≡ k
holding-same n k st is also = cc

-- a view that has raised the faults isn't at the stage of holding
pub raised-holding : (n k : ℕ) (st : Stage) → st ≡ Raised n → st ≡ Holding k → ⊥
raised-holding n k st is also = cc

-- a stage has one ticket: that of a turn that has come
pub come-same : (n k : ℕ) (st : Stage) → st ≡ Come n → st ≡ Come k → n ≡ k
come-same n k st is also = cc

-- that of raised faults
pub raised-same : (n k : ℕ) (st : Stage) → st ≡ Raised n → st ≡ Raised k → n ≡ k
raised-same n k st is also = cc

-- that of waiting
pub waiting-number : (n k : ℕ) (st : Stage) → st ≡ Waiting n → st ≡ Waiting k → n ≡ k
waiting-number n k st is also = cc

-- a stage that tests as holding has a ticket
pub holding-number : (st : Stage) → is_holding st ≡ true → (n : ℕ) × (st ≡ Holding n)
holding-number Idle e = absurd (cc)
holding-number (Waiting n) e = absurd (cc)
holding-number (Come n) e = absurd (cc)
holding-number (Holding n) e = (n, refl)
holding-number (Raised n) e = absurd (cc)
holding-number (Counted n) e = absurd (cc)
