-- The steps that take nothing and give nothing keep the rule: to draw a ticket, to look at serving, to pass on.
use Rattle.std.proofs.Common.{◌≡◌, ℕ, ◌+◌, ◌%◌, ◌^◌, ◌≤◌, List, [], ◌∷◌, length, set, refl, sym, ap, ◌∙◌, subst, arith}
use Rattle.std.specs.Prelude.{slice_index, slice_set, Option, All}
use mathlib.Core.Option.{none}
use mathlib.Core.Logic.{dite}
use native.Mathlib.Decide.{ℕ_discrete}
use Rattle.atomic_table.specs.Table.{State, Me, step, keeps, stepped, Allows}
use Rattle.atomic_table.proofs.Lists.{set_again}
use Rattle.tb_lock.specs.declared.view.Call.{Call}
use Rattle.tb_lock.specs.declared.view.View.{View}
use Rattle.tb_lock.specs.declared.view.Stage.TheVariants.{Idle, Waiting, Come, Counted}
use Rattle.tb_lock.specs.Meanings.{Meanings}
use Rattle.tb_lock.specs.Calls.{IsBetween, IsReadBy, Stands}
use Rattle.tb_lock.specs.Views.{IsLive, at_stage, IsView, HasTicket, HasTurn, HasTaken}
use Rattle.tb_lock.specs.Rule.{IsQueue, AreShares, IsKept, words_of, Rule}
use Rattle.tb_lock.specs.Steps.{Draws, LooksAtServing, PassesOn}
use Rattle.tb_lock.proofs.ViewLemmas.{tickets-of_ticket, ticket-of_turn, idle-taken, waiting-taken, counted-taken, waiting-number}
use Rattle.tb_lock.proofs.QueueLemmas.{queue-same, queue-drawn, queue-passed}
use Rattle.tb_lock.proofs.ShareLemmas.{live-by_ticket, same-turn, shares-same}
use Rattle.tb_lock.proofs.KeptLemmas.{kept-same, kept-passed, home-in_turn}
use Rattle.tb_lock.proofs.EntryLemmas.{answered-set, entries-set}
use Rattle.tb_lock.proofs.OnceLemmas.{once-set}
use Rattle.tb_lock.proofs.SeenLemmas.{count-same, seen-same}
use Rattle.tb_lock.proofs.FaultLemmas.{faults-free}
use Rattle.tb_lock.proofs.ReadLemmas.{read-set}
use Rattle.tb_lock.proofs.SpanLemmas.{spans-set}

-- a word that counts up
next-word : (n : ℕ) → (n % 2 ^ 64 + 1) % 2 ^ 64 ≡ (n + 1) % 2 ^ 64
next-word n = omega arith

-- the rule after a step of one view, which keeps what it has seen and said, and has not taken the value
pub stepped-view : {T : Type 0} (m : Meanings T) (s : State (Option T) View) (r : Rule m s) (id : ℕ) (v w : View)
    → IsView s.views id v
    → IsLive v
    → IsLive w
    → w.seen ≡ v.seen
    → w.mine ≡ v.mine
    → w.spans ≡ v.spans
    → w.opening ≡ v.opening
    → w.opening_faults ≡ v.opening_faults
    → ((n : ℕ) → HasTaken n w.stage → ⊥)
    → (drawn served : ℕ) (ws : List ℕ)
    → ws ≡ words_of drawn served (length r.counted) r.faults
    → IsQueue drawn served (set s.views id w)
    → AreShares (set s.views id w)
    → IsKept m served r.fixed s.homes (set s.views id w)
    → Rule m record { words = ws; homes = s.homes; views = set s.views id w }
stepped-view m s r id v w at live live' seen mine had opening least free drawn served ws words queue shares kept =
    record {
      drawn = drawn;
      served = served;
      fixed = r.fixed;
      opening = r.opening;
      opening_faults = r.opening_faults;
      counted = r.counted;
      faults = r.faults;
      met = r.met;
      read = r.read;
      words = words;
      queue = queue;
      shares = shares;
      kept = kept;
      count = count-same m r.counted s.homes s.views id v w r.count at (λ n has. absurd (free n has));
      seen = seen-same r.opening r.counted s.views id v w r.seen at live live' seen opening;
      answered = answered-set m r.fixed r.counted s.views id w r.answered
          (subst (λ (l : List Call). All (Stands m r.fixed r.counted) l) (sym mine) (r.answered id v at));
      once = once-set m s.views id v w r.once at mine;
      made = entries-set m r.fixed r.opening r.counted s.homes s.views id v w r.made at live' mine
          (λ n has. absurd (free n has));
      failed = faults-free m r.opening_faults r.faults s.homes s.views id w r.failed free
          (λ _. least ∙ r.failed.same id v at live)
          (subst (λ (l : List Call). All (IsBetween r.opening_faults r.faults) l) (sym mine) (r.failed.calls id v at));
      readings = read-set m r.read s.homes s.views id w r.readings (λ n has. absurd (free n has))
          (subst (λ (l : List Call). All (IsReadBy r.read) l) (sym mine) (r.readings.calls id v at));
      spans = spans-set m r.met s.homes s.views id v w r.spans at (λ n has. absurd (free n has)) had;
    }

module _ {T : Type 0} (m : Meanings T) where
  -- the step that draws a ticket keeps the rule
  pub draws : (slots id : ℕ) (me : Me (Option T) View) → me.0.stage ≡ Idle → me.1 ≡ [] → IsLive me.0
      → Allows (Rule m) slots id me 0 (λ n. (n + 1) % 2 ^ 64) (Draws (step slots 0 1 0 none) me)
  draws slots id me idle bare live s r many at small =
      let w : View = at_stage (Waiting r.drawn) me.0 in (
        w,
        keeps,
        tt,
        stepped-view m s r id me.0 w at live live refl refl refl refl refl (λ n has. has) (r.drawn + 1) r.served _
            (ap (λ (ws : List ℕ). slice_set ws 0 ((slice_index ws 0 + 1) % 2 ^ 64)) r.words
            ∙ ap (λ (n : ℕ). n ∷ (r.served % 2 ^ 64) ∷ length r.counted ∷ r.faults ∷ []) (next-word r.drawn))
            (queue-drawn r.drawn r.served s.views id me.0 w r.queue at idle refl (λ n is. is))
            (shares-same s.views id me.0 w r.shares at refl live)
            (kept-same m r.served r.fixed s.homes s.views id me.0 w r.kept at refl live (λ n mine. absurd mine)
            (λ has. absurd (idle-taken r.served me.0.stage idle has)) (λ n has. absurd has)),
        (r.drawn, ap (λ (ws : List ℕ). slice_index ws 0) r.words, refl),
      )

  -- a look that changes nothing
  unmoved : (s : State (Option T) View) (id i : ℕ) (carried : List (ℕ × Option T)) (v : View)
      → IsView s.views id v
      → Rule m s
      → slice_set s.words i (slice_index s.words i) ≡ s.words
      → Rule m (stepped s i (slice_index s.words i) id carried v keeps)
  unmoved s id i carried v at r same =
      subst (λ (ws : List ℕ). Rule m record { words = ws; homes = s.homes; views = set s.views id v }) (sym same)
      (subst (λ (vs : List View). Rule m record { words = s.words; homes = s.homes; views = vs })
      (sym (set_again s.views id v at)) r)

  -- a word that is read stays
  read-same : (drawn served count faults : ℕ) (ws : List ℕ)
      → ws ≡ words_of drawn served count faults
      → slice_set ws 1 (slice_index ws 1) ≡ ws
  read-same drawn served count faults ws is = subst (λ (l : List ℕ). slice_set l 1 (slice_index l 1) ≡ l) (sym is) refl

  -- the turn of a ticket has come
  comes : (s : State (Option T) View) (r : Rule m s) (id n : ℕ) (v : View)
      → IsView s.views id v
      → v.stage ≡ Waiting n
      → r.served ≡ n
      → Rule m record {
        words = slice_set s.words 1 (slice_index s.words 1);
        homes = s.homes;
        views = set s.views id (at_stage (Come n) v);
      }
  comes s r id n v at waits now =
      let w : View = at_stage (Come n) v in
      let has : HasTicket n v.stage = subst (HasTicket n) (sym waits) refl in
      let live = live-by_ticket s.views id n v r.shares at has in
      stepped-view m s r id v w at live live refl refl refl refl refl (λ k taken. taken) r.drawn r.served _
      (read-same r.drawn r.served (length r.counted) r.faults s.words r.words ∙ r.words)
      (queue-same r.drawn r.served s.views id v w r.queue at (sym (tickets-of_ticket n v.stage has))
      (λ k mine. subst (λ (i : ℕ). HasTicket i v.stage) mine has))
      (shares-same s.views id v w r.shares at refl live)
      (kept-same m r.served r.fixed s.homes s.views id v w r.kept at refl live
      (λ k (mine : n ≡ k). sym mine ∙ sym now) (λ taken. absurd (waiting-taken r.served n v.stage waits taken))
      (λ k taken. absurd taken))

  -- the step that looks at the turn keeps the rule
  pub looks_at_serving : (slots id n : ℕ) (me : Me (Option T) View) → me.0.stage ≡ Waiting n
      → Allows (Rule m) slots id me 1 (λ k. k) (LooksAtServing (step slots 1 0 0 none) me)
  looks_at_serving slots id n me waits s r many at small =
      let found : slice_index s.words 1 ≡ r.served % 2 ^ 64 = ap (λ (ws : List ℕ). slice_index ws 1) r.words in
      let range = r.queue.range id n me.0 at (subst (HasTicket n) (sym waits) refl) in
      let high : n ≤ r.drawn = (let lt = range.1 in omega arith) in
      dite (ℕ_discrete (slice_index s.words 1) (n % 2 ^ 64))
      (λ hit. (
        at_stage (Come n) me.0,
        keeps,
        tt,
        comes s r id n me.0 at waits
            (same-turn r.drawn r.served n s.views r.queue r.shares range.0 high (sym found ∙ hit)),
        λ k same. let e : n ≡ k = waiting-number n k me.0.stage waits same in (
          (λ _. λ i. (at_stage (Come (e i)) me.0, me.1)),
          (λ miss. absurd (miss (hit ∙ ap (λ (i : ℕ). i % 2 ^ 64) e))),
        ),
      ))
      (λ miss. (
        me.0,
        keeps,
        tt,
        unmoved s id 1 me.1 me.0 at r (read-same r.drawn r.served (length r.counted) r.faults s.words r.words),
        λ k same. let e : n ≡ k = waiting-number n k me.0.stage waits same in
            ((λ hit. absurd (miss (hit ∙ ap (λ (i : ℕ). i % 2 ^ 64) (sym e)))), (λ _. refl)),
      ))

  -- the step that passes the turn on keeps the rule
  pub passes_on : (slots id n : ℕ) (me : Me (Option T) View) → me.0.stage ≡ Counted n
      → Allows (Rule m) slots id me 1 (λ k. (k + 1) % 2 ^ 64) (PassesOn (step slots 1 1 0 none) me)
  passes_on slots id n me counted s r many at small =
      let w : View = at_stage Idle me.0 in
      let turn : HasTurn n me.0.stage = subst (HasTurn n) (sym counted) refl in
      let now : n ≡ r.served = r.kept.turn id n me.0 at turn in
      let turn' : HasTurn r.served me.0.stage = subst (λ (i : ℕ). HasTurn i me.0.stage) now turn in
      let has = ticket-of_turn r.served me.0.stage turn' in
      let live = live-by_ticket s.views id r.served me.0 r.shares at has in
      let home = home-in_turn m r.served r.fixed s.homes r.drawn s.views id r.served me.0 r.kept r.queue at has refl
      (counted-taken r.served n me.0.stage counted) in (
        w,
        keeps,
        tt,
        stepped-view m s r id me.0 w at live live refl refl refl refl refl (λ k theirs. theirs) r.drawn (r.served + 1) _
            (ap (λ (ws : List ℕ). slice_set ws 1 ((slice_index ws 1 + 1) % 2 ^ 64)) r.words
            ∙ ap (λ (k : ℕ). (r.drawn % 2 ^ 64) ∷ k ∷ length r.counted ∷ r.faults ∷ []) (next-word r.served))
            (queue-passed r.drawn r.served s.views id me.0 w r.queue at has refl)
            (shares-same s.views id me.0 w r.shares at refl live)
            (kept-passed m r.served r.fixed s.homes r.drawn s.views id me.0 w home.0 r.kept r.queue at refl live turn'
            refl home.1),
        refl,
      )
