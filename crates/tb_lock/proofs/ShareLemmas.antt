-- The shares stay whole, and fewer tickets are out than a word can tell apart.
use Rattle.std.proofs.Common.{◌+◌, ◌≡◌, ◌≢◌, ◌⊎◌, ℕ, ◌-◌, ◌%◌, ◌^◌, ◌≤◌, List, [], ◌∷◌, ◌++◌, set, refl, ap, ◌∙◌, ⊎_elim, inl, inr, arith}
use Rattle.atomic_table.proofs.Lists.{set_else, one_turn}
use Rattle.tb_lock.specs.declared.view.View.{View}
use Rattle.tb_lock.specs.declared.view.Stage.TheVariants.{Idle}
use Rattle.tb_lock.specs.Views.{IsLive, spent, kept_half, given_half, joined, IsView, total, share_of, tickets_of, tickets_at, HasTicket}
use Rattle.tb_lock.specs.Rule.{IsQueue, AreShares}
use Rattle.tb_lock.proofs.ViewLemmas.{total-set, total-snoc, total-less, total-at, each-set, each-snoc, idle-ticket, tickets-at_most}

-- a view with a ticket is live
pub live-by_ticket : (vs : List View) (j n : ℕ) (v : View)
    → AreShares vs
    → IsView vs j v
    → HasTicket n v.stage
    → IsLive v
live-by_ticket vs j n v shares at has =
    ⊎_elim (λ live. live) (λ (is : v ≡ spent). absurd (idle-ticket n v.stage (ap (λ (x : View). x.stage) is) has))
    (shares.each j v at)

-- a view has no more tickets than shares
tickets-shares : (v : View) → IsLive v ⊎ (v ≡ spent) → tickets_of v ≤ share_of v
tickets-shares v (inl live) = let most = tickets-at_most v.stage in omega arith
tickets-shares v (inr is) = let none = ap tickets_of is in omega arith

-- no more tickets are out than there are shares
pub few-tickets : (vs : List View) → AreShares vs → total tickets_of vs ≤ 2 ^ 64 - 1
few-tickets vs shares = let whole = shares.whole in
    let less = total-less tickets_of share_of vs (λ j v at. tickets-shares v (shares.each j v at)) in omega arith

-- a word tells the tickets that are out apart
pub same-turn : (drawn served n : ℕ) (vs : List View)
    → IsQueue drawn served vs
    → AreShares vs
    → served ≤ n
    → n ≤ drawn
    → served % 2 ^ 64 ≡ n % 2 ^ 64
    → served ≡ n
same-turn drawn served n vs q shares low high is =
    let few = few-tickets vs shares in
    let number = q.number in
    one_turn served n (2 ^ 64) low (omega arith) is

-- a changed view with the same share leaves the shares
pub shares-same : (vs : List View) (id : ℕ) (v w : View)
    → AreShares vs
    → IsView vs id v
    → w.share ≡ v.share
    → IsLive v
    → AreShares (set vs id w)
shares-same vs id v w shares at same live =
    let sum = total-set share_of vs id v w at in
    let before = shares.whole in
    record {
      whole = omega arith;
      each = each-set (λ _ u. IsLive u ⊎ (u ≡ spent)) vs id w (λ j u _ there. shares.each j u there)
          (inl (omega arith));
    }

-- the shares of a split pass are those of its halves
pub shares-split : (vs : List View) (id : ℕ) (v : View) → AreShares vs → IsView vs id v → 2 ≤ v.share
    → AreShares (set vs id (kept_half v) ++ given_half v ∷ [])
shares-split vs id v shares at two =
    let sum = total-set share_of vs id v (kept_half v) at in
    let more = total-snoc share_of (set vs id (kept_half v)) (given_half v) in
    let before = shares.whole in
    record {
      whole = omega arith;
      each = each-snoc (λ u. IsLive u ⊎ (u ≡ spent)) (set vs id (kept_half v)) (given_half v)
          (each-set (λ _ u. IsLive u ⊎ (u ≡ spent)) vs id (kept_half v) (λ j u _ there. shares.each j u there)
          (inl (omega arith)))
          (inl (omega arith));
    }

-- the share of a joined pass is that of the two
pub shares-joined : (vs : List View) (id : ℕ) (v : View) (other : ℕ) (w : View)
    → AreShares vs
    → IsView vs id v
    → IsLive v
    → IsView (set vs id (joined v w)) other w
    → AreShares (set (set vs id (joined v w)) other spent)
shares-joined vs id v other w shares at live there =
    let sum = total-set share_of vs id v (joined v w) at in
    let more = total-set share_of (set vs id (joined v w)) other w spent there in
    let before = shares.whole in
    record {
      whole = omega arith;
      each = each-set (λ _ u. IsLive u ⊎ (u ≡ spent)) (set vs id (joined v w)) other spent
          (λ j u _. each-set (λ _ u. IsLive u ⊎ (u ≡ spent)) vs id (joined v w) (λ k x _ at'. shares.each k x at')
          (inl (omega arith)) j u)
          (inr refl);
    }

-- at most one ticket is out for each share that a view lacks, and one of its own
pub most-tickets : (vs : List View) (id : ℕ) (v : View)
    → AreShares vs
    → IsView vs id v
    → total tickets_of vs + v.share ≤ 2 ^ 64
most-tickets vs id v shares at =
    let sum = total-set share_of vs id v spent at in
    let tickets = total-set tickets_of vs id v spent at in
    let own = tickets-at_most v.stage in
    let before = shares.whole in
    let less = total-less tickets_of share_of (set vs id spent)
    (each-set (λ _ u. tickets_of u ≤ share_of u) vs id spent (λ j u _ there. tickets-shares u (shares.each j u there))
    (omega arith)) in
    omega arith

-- where one idle view has the whole share, nobody has a ticket
pub whole-share_idle : (vs : List View) (id : ℕ) (v : View)
    → AreShares vs
    → IsView vs id v
    → v.stage ≡ Idle
    → v.share ≡ 2 ^ 64 - 1
    → total tickets_of vs ≡ 0
whole-share_idle vs id v shares at idle whole =
    let sum = total-set share_of vs id v spent at in
    let tickets = total-set tickets_of vs id v spent at in
    let none = ap tickets_at idle in
    let before = shares.whole in
    let less = total-less tickets_of share_of (set vs id spent)
    (each-set (λ _ u. tickets_of u ≤ share_of u) vs id spent (λ j u _ there. tickets-shares u (shares.each j u there))
    (omega arith)) in
    omega arith

-- then the others are spent
pub whole-share_others : (vs : List View) (id j : ℕ) (v w : View)
    → AreShares vs
    → IsView vs id v
    → v.share ≡ 2 ^ 64 - 1
    → j ≢ id
    → IsView vs j w
    → w ≡ spent
whole-share_others vs id j v w shares at whole apart there =
    let sum = total-set share_of vs id v spent at in
    let before = shares.whole in
    let least = total-at share_of (set vs id spent) j w (set_else vs id j spent apart ∙ there) in
    ⊎_elim (λ (live : IsLive w). absurd (omega arith)) (λ is. is) (shares.each j w there)
