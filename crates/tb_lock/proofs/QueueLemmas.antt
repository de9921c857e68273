-- The tickets stay in order.
use Rattle.std.proofs.Common.{◌≡◌, ◌≢◌, ℕ, ◌+◌, ◌<◌, ◌≤◌, List, [], ◌∷◌, ◌++◌, set, sym, ap, ◌∙◌, subst, ⊎_elim, arith}
use mathlib.Core.Logic.{dite}
use native.Mathlib.Decide.{ℕ_discrete}
use Rattle.atomic_table.proofs.Lists.{at_set, at_snoc}
use Rattle.tb_lock.specs.declared.view.View.{View}
use Rattle.tb_lock.specs.declared.view.Stage.TheVariants.{Idle}
use Rattle.tb_lock.specs.Views.{IsView, tickets_of, tickets_at, HasTicket}
use Rattle.tb_lock.specs.Rule.{IsQueue}
use Rattle.tb_lock.proofs.ViewLemmas.{total-set, total-snoc, each-set, idle-ticket, tickets-of_ticket}

-- no two views have one number after a change, where the changed view shares its number with no other
once-set : (vs : List View) (id : ℕ) (w : View)
    → ((j k n : ℕ) (v u : View) → IsView vs j v → IsView vs k u → HasTicket n v.stage → HasTicket n u.stage → j ≡ k)
    → ((j n : ℕ) (v : View) → j ≢ id → IsView vs j v → HasTicket n v.stage → HasTicket n w.stage → ⊥)
    → (j k n : ℕ) (v u : View)
    → IsView (set vs id w) j v
    → IsView (set vs id w) k u
    → HasTicket n v.stage
    → HasTicket n u.stage
    → j ≡ k
once-set vs id w once apart j k n v u ej ek hj hk = ⊎_elim
    (λ (x : (j ≡ id) × (w ≡ v)). ⊎_elim
    (λ (y : (k ≡ id) × (w ≡ u)). x.0 ∙ sym y.0)
    (λ (y : (k ≢ id) × IsView vs k u). absurd
    (apart k n u y.0 y.1 hk (subst (λ (z : View). HasTicket n z.stage) (sym x.1) hj)))
    (at_set vs id k w u ek))
    (λ (x : (j ≢ id) × IsView vs j v). ⊎_elim
    (λ (y : (k ≡ id) × (w ≡ u)). absurd
    (apart j n v x.0 x.1 hj (subst (λ (z : View). HasTicket n z.stage) (sym y.1) hk)))
    (λ (y : (k ≢ id) × IsView vs k u). once j k n v u x.1 y.1 hj hk)
    (at_set vs id k w u ek))
    (at_set vs id j w v ej)

-- a view keeps its number, or its want of one
pub queue-same : (drawn served : ℕ) (vs : List View) (id : ℕ) (v w : View)
    → IsQueue drawn served vs
    → IsView vs id v
    → tickets_of w ≡ tickets_of v
    → ((n : ℕ) → HasTicket n w.stage → HasTicket n v.stage)
    → IsQueue drawn served (set vs id w)
queue-same drawn served vs id v w q at same has =
    let sum = total-set tickets_of vs id v w at in
    let before = q.number in
    record {
      number = omega arith;
      range = λ j n u. each-set (λ j u. HasTicket n u.stage → (served ≤ n) × (n < drawn)) vs id w
          (λ k x _ there. q.range k n x there) (λ mine. q.range id n v at (has n mine)) j u;
      once = once-set vs id w q.once
          (λ j n u ne there theirs mine. ne (q.once j id n u v there at theirs (has n mine)));
    }

-- a ticket is drawn
pub queue-drawn : (drawn served : ℕ) (vs : List View) (id : ℕ) (v w : View)
    → IsQueue drawn served vs
    → IsView vs id v
    → v.stage ≡ Idle
    → tickets_of w ≡ 1
    → ((n : ℕ) → HasTicket n w.stage → drawn ≡ n)
    → IsQueue (drawn + 1) served (set vs id w)
queue-drawn drawn served vs id v w q at idle one is =
    let sum = total-set tickets_of vs id v w at in
    let none = ap tickets_at idle in
    let before = q.number in
    record {
      number = omega arith;
      range = λ j n u. each-set (λ j u. HasTicket n u.stage → (served ≤ n) × (n < drawn + 1)) vs id w
          (λ k x _ there theirs. let r = q.range k n x there theirs in let low = r.0 in let high = r.1 in
          (low, omega arith))
          (λ mine. let e = is n mine in (omega arith, omega arith)) j u;
      once = once-set vs id w q.once
          (λ j n u _ there theirs mine. let r = q.range j n u there theirs in let high = r.1 in let e = is n mine in
          absurd (omega arith));
    }

-- a turn ends
pub queue-passed : (drawn served : ℕ) (vs : List View) (id : ℕ) (v w : View)
    → IsQueue drawn served vs
    → IsView vs id v
    → HasTicket served v.stage
    → w.stage ≡ Idle
    → IsQueue drawn (served + 1) (set vs id w)
queue-passed drawn served vs id v w q at has idle =
    let sum = total-set tickets_of vs id v w at in
    let one = tickets-of_ticket served v.stage has in
    let none = ap tickets_at idle in
    let before = q.number in
    record {
      number = omega arith;
      range = λ j n u. each-set (λ j u. HasTicket n u.stage → (served + 1 ≤ n) × (n < drawn)) vs id w
          (λ k x ne there theirs. let r = q.range k n x there theirs in let low = r.0 in
          dite (ℕ_discrete n served)
          (λ e. absurd (ne (q.once k id served x v there at (subst (λ (i : ℕ). HasTicket i x.stage) e theirs) has)))
          (λ (differs : n ≢ served). (omega arith, r.1)))
          (λ mine. absurd (idle-ticket n w.stage idle mine)) j u;
      once = once-set vs id w q.once (λ j n u _ there theirs mine. idle-ticket n w.stage idle mine);
    }

-- a new view has no ticket
pub queue-more : (drawn served : ℕ) (vs : List View) (w : View)
    → IsQueue drawn served vs
    → w.stage ≡ Idle
    → IsQueue drawn served (vs ++ w ∷ [])
queue-more drawn served vs w q idle =
    let sum = total-snoc tickets_of vs w in
    let none = ap tickets_at idle in
    let before = q.number in
    record {
      number = omega arith;
      range = λ j n u e has. ⊎_elim (λ there. q.range j n u there has)
          (λ (is : w ≡ u). absurd (idle-ticket n u.stage (ap (λ (x : View). x.stage) (sym is) ∙ idle) has))
          (at_snoc vs w u j e);
      once = λ j k n u x ej ek hj hk. ⊎_elim
          (λ (there : IsView vs j u). ⊎_elim (λ (also : IsView vs k x). q.once j k n u x there also hj hk)
          (λ (is : w ≡ x). absurd (idle-ticket n x.stage (ap (λ (y : View). y.stage) (sym is) ∙ idle) hk))
          (at_snoc vs w x k ek))
          (λ (is : w ≡ u). absurd (idle-ticket n u.stage (ap (λ (y : View). y.stage) (sym is) ∙ idle) hj))
          (at_snoc vs w u j ej);
    }
