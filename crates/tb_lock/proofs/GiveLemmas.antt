-- The steps that give the value back keep the rule: to raise the faults, and to raise the count.
use Rattle.std.proofs.Common.{◌≡◌, ◌≢◌, ◌⊎◌, ℕ, ◌+◌, ◌%◌, ◌^◌, ◌<◌, List, [], ◌∷◌, ◌++◌, length, set, Some, refl, sym, ap, ◌∙◌, subst, ⊎_elim, inl, inr, arith}
use Rattle.std.specs.Prelude.{slice_index, slice_set, Option, All, Any, unwrap_or}
use Rattle.std.proofs.lemmas.List.Elements.{All-nil, All-append, All-cons, All-weaker}
use mathlib.Core.Option.{none, some}
use Rattle.atomic_table.specs.Table.{State, Me, step, keeps, gives, put_back, rest, Allows}
use Rattle.tb_lock.specs.declared.view.Call.{Call}
use Rattle.tb_lock.specs.declared.view.View.{View}
use Rattle.tb_lock.specs.declared.view.Stage.TheVariants.{Holding}
use Rattle.tb_lock.specs.Meanings.{History, IsPrefix, Meanings}
use Rattle.tb_lock.specs.Calls.{IsBetween, IsReadBy, Stands, Leaves, accepted_of, calls_on}
use Rattle.tb_lock.specs.Views.{raised, IsView, HasTicket, HasTurn, HasTaken}
use Rattle.tb_lock.specs.Rule.{Homes, Rule}
use Rattle.tb_lock.specs.Turns.{counted, HaveCounts, MayGive}
use Rattle.tb_lock.specs.Steps.{MayCount, RaisesFaults, RaisesCount}
use Rattle.tb_lock.proofs.ViewLemmas.{each-set, tickets-of_ticket, ticket-of_turn, turn-of_taken, holding-taken, holding-same, raised-same}
use Rattle.tb_lock.proofs.QueueLemmas.{queue-same}
use Rattle.tb_lock.proofs.ShareLemmas.{live-by_ticket, shares-same}
use Rattle.tb_lock.proofs.KeptLemmas.{kept-same, kept-back, turn-once}
use Rattle.tb_lock.proofs.EntryLemmas.{all-longer, answered-set, answered-longer, entries-set, entries-back}
use Rattle.tb_lock.proofs.OnceLemmas.{once-set, once-back}
use Rattle.tb_lock.proofs.SeenLemmas.{count-same, count-back, seen-same, seen-longer}
use Rattle.tb_lock.proofs.FaultLemmas.{faults-raised, faults-back}
use Rattle.tb_lock.proofs.ReadLemmas.{read-set, read-back}
use Rattle.tb_lock.proofs.SpanLemmas.{spans-set, spans-back}

-- a word that is added to, where the sum fits
sum-word : (word more sum : ℕ) → more + word ≡ sum → sum < 2 ^ 64 → (word + more) % 2 ^ 64 ≡ sum
sum-word word more sum is small = omega arith

-- the calls that are told have the counts and the readings that they are given
pub counts-told : (history : History) (before after readings : ℕ) (told : List (List ℕ × ℕ))
    → All (λ (c : Call). (c.faults_before ≡ before) × (c.faults_after ≡ after) × (c.readings ≡ readings))
    (calls_on history before after readings told)
counts-told history before after readings [] =
    All-nil (λ (c : Call). (c.faults_before ≡ before) × (c.faults_after ≡ after) × (c.readings ≡ readings))
counts-told history before after readings (t ∷ ts) =
    All-cons (λ (c : Call). (c.faults_before ≡ before) × (c.faults_after ≡ after) × (c.readings ≡ readings)) _
    (calls_on history before after readings ts) (refl, refl, refl) (counts-told history before after readings ts)

module _ {T : Type 0} (m : Meanings T) where
  -- the value goes back into the slot
  homes-back : (homes : Homes T) (carried : List (ℕ × Option T)) (x : T)
      → length homes ≡ 1
      → carried ≡ (0, Some x) ∷ []
      → put_back homes carried ≡ some (Some x) ∷ []
  homes-back [] carried x one is = absurd (omega arith)
  homes-back (h ∷ []) carried x one is = ap (put_back (h ∷ [])) is
  homes-back (h ∷ g ∷ hs) carried x one is = absurd (omega arith)

  -- the value that a pass carries
  value-in : T → List (ℕ × Option T) → T
  value-in d [] = d
  value-in d (p ∷ ps) = unwrap_or p.1 d

  -- a pass carries one value
  carried-value : (carried : List (ℕ × Option T)) (x y : T)
      → carried ≡ (0, Some x) ∷ []
      → carried ≡ (0, Some y) ∷ []
      → x ≡ y
  unfolding value-in
  carried-value carried x y is also = ap (value-in x) (sym is ∙ also)

  -- no other view has taken the value than the one whose turn it is
  others-free : (s : State (Option T) View) (r : Rule m s) (id n : ℕ) (v : View)
      → IsView s.views id v
      → HasTurn n v.stage
      → (j k : ℕ) (u : View)
      → j ≢ id
      → IsView s.views j u
      → HasTaken k u.stage
      → ⊥
  others-free s r id n v at turn j k u ne there has =
      let theirs = turn-of_taken k u.stage has in
      ne (turn-once m r.served r.fixed s.homes r.drawn s.views id j v u r.queue at
      (subst (λ (i : ℕ). HasTurn i v.stage) (r.kept.turn id n v at turn) turn) there
      (subst (λ (i : ℕ). HasTurn i u.stage) (r.kept.turn j k u there theirs) theirs))

  -- the faults are raised
  more-faults : (s : State (Option T) View) (r : Rule m s) (id n more : ℕ) (v : View)
      → IsView s.views id v
      → v.stage ≡ Holding n
      → v.faults + more < 2 ^ 64
      → Rule m record {
        words = slice_set s.words 3 ((slice_index s.words 3 + more) % 2 ^ 64);
        homes = s.homes;
        views = set s.views id (raised n more v);
      }
  more-faults s r id n more v at holds fits =
      let w : View = raised n more v in
      let took = holding-taken n v.stage holds in
      let turn = turn-of_taken n v.stage took in
      let has = ticket-of_turn n v.stage turn in
      let now : n ≡ r.served = r.kept.turn id n v at turn in
      let live = live-by_ticket s.views id n v r.shares at has in
      let away = r.kept.away id n v at took in
      let known = (r.failed.known id n v at took).word in record {
        drawn = r.drawn;
        served = r.served;
        fixed = r.fixed;
        opening = r.opening;
        opening_faults = r.opening_faults;
        counted = r.counted;
        faults = r.faults + more;
        met = r.met;
        read = r.read;
        words = ap (λ (ws : List ℕ). slice_set ws 3 ((slice_index ws 3 + more) % 2 ^ 64)) r.words
            ∙ ap (λ (k : ℕ). (r.drawn % 2 ^ 64) ∷ (r.served % 2 ^ 64) ∷ length r.counted ∷ k ∷ [])
            (sum-word r.faults more (r.faults + more) (omega arith) (omega arith));
        queue = queue-same r.drawn r.served s.views id v w r.queue at (sym (tickets-of_ticket n v.stage has))
            (λ k mine. subst (λ (i : ℕ). HasTicket i v.stage) mine has);
        shares = shares-same s.views id v w r.shares at refl live;
        kept = kept-same m r.served r.fixed s.homes s.views id v w r.kept at refl live
            (λ k (mine : n ≡ k). sym mine ∙ now) (λ _. now) (λ _ _. away);
        count = count-same m r.counted s.homes s.views id v w r.count at (λ _ _. r.count.taken id n v at took);
        seen = seen-same r.opening r.counted s.views id v w r.seen at live live refl refl;
        answered = answered-set m r.fixed r.counted s.views id w r.answered (r.answered id v at);
        once = once-set m s.views id v w r.once at refl;
        made = entries-set m r.fixed r.opening r.counted s.homes s.views id v w r.made at live refl
            (λ _ _. r.made.taken id n v at took);
        failed = faults-raised m r.opening_faults r.faults s.homes s.views id n more v w r.failed at live away holds
            (others-free s r id n v at turn) refl (ap (λ (k : ℕ). k + more) known) refl refl refl;
        readings = read-set m r.read s.homes s.views id w r.readings (λ _ _. r.readings.taken id n v at took)
            (r.readings.calls id v at);
        spans = spans-set m r.met s.homes s.views id v w r.spans at (λ _ _. r.spans.taken id n v at took) refl;
      }

  -- the step that raises the faults keeps the rule
  pub raises_faults : (slots id n more : ℕ) (me : Me (Option T) View)
      → me.0.stage ≡ Holding n
      → me.0.faults + more < 2 ^ 64
      → Allows (Rule m) slots id me 3 (λ k. (k + more) % 2 ^ 64) (RaisesFaults (step slots 3 more 0 none) me)
  raises_faults slots id n more me holds fits s r many at small = (
    raised n more me.0,
    keeps,
    tt,
    more-faults s r id n more me.0 at holds fits,
    λ k same i. (raised (holding-same n k me.0.stage holds same i) more me.0, me.1),
  )

  -- the count is raised: the calls are made, and the value is at home
  counts : (s : State (Option T) View) (r : Rule m s) (id : ℕ) (me : Me (Option T) View) (calls : List Call) (new : ℕ)
      → IsView s.views id me.0
      → (may : MayCount m calls new me)
      → Rule m record {
        words = slice_set s.words 2 ((slice_index s.words 2 + new) % 2 ^ 64);
        homes = some (Some may.value) ∷ [];
        views = set s.views id (counted m may.number me.0 calls may.value);
      }
  counts s r id me calls new at asked =
      let n : ℕ = asked.number in
      let x : T = asked.value in
      let may = asked.may in
      let w : View = counted m n me.0 calls x in
      let took : HasTaken n me.0.stage = subst (HasTaken n) (sym asked.stage) refl in
      let turn = turn-of_taken n me.0.stage took in
      let has = ticket-of_turn n me.0.stage turn in
      let now : n ≡ r.served = r.kept.turn id n me.0 at turn in
      let live = live-by_ticket s.views id n me.0 r.shares at has in
      let same = r.kept.same id me.0 at live in
      let seen = r.count.taken id n me.0 at took in
      let group : History = may.adds.group in
      let acc : History = accepted_of m me.0.fixed calls in
      let history : m.history x ≡ r.counted ++ (group ++ acc) =
      may.adds.grown ∙ ap (λ (l : History). l ++ (group ++ acc)) seen in
      let grows : IsPrefix r.counted (m.history x) = (group ++ acc, history) in
      let free : (j k : ℕ) (u : View) → IsView (set s.views id w) j u → HasTaken k u.stage → ⊥ =
      λ j k. each-set (λ _ u. HasTaken k u.stage → ⊥) s.views id w
      (λ i u ne there. others-free s r id n me.0 at turn i k u ne there) (λ none_left. none_left) j in
      let known = r.failed.known id n me.0 at took in
      let met = r.spans.taken id n me.0 at took in
      record {
        drawn = r.drawn;
        served = r.served;
        fixed = r.fixed;
        opening = r.opening;
        opening_faults = r.opening_faults;
        counted = m.history x;
        faults = r.faults;
        met = m.faults x;
        read = m.readings x;
        words = ap (λ (ws : List ℕ). slice_set ws 2 ((slice_index ws 2 + new) % 2 ^ 64)) r.words
            ∙ ap (λ (k : ℕ). (r.drawn % 2 ^ 64) ∷ (r.served % 2 ^ 64) ∷ k ∷ r.faults ∷ [])
            (sum-word (length r.counted) new (length (m.history x))
            (ap (λ (l : History). new + length l) (sym seen) ∙ asked.new) asked.fits);
        queue = queue-same r.drawn r.served s.views id me.0 w r.queue at (sym (tickets-of_ticket n me.0.stage has))
            (λ k mine. subst (λ (i : ℕ). HasTicket i me.0.stage) mine has);
        shares = shares-same s.views id me.0 w r.shares at refl live;
        kept = kept-back m r.served r.fixed s.homes s.views id me.0 w x r.kept at refl live
            (λ k (mine : n ≡ k). sym mine ∙ now) (may.fixed ∙ same) free;
        count = count-back m (set s.views id w) x free;
        seen = seen-longer r.opening r.counted (m.history x) s.views id me.0 w grows r.seen at live live refl refl;
        answered = answered-set m r.fixed (m.history x) s.views id w
            (answered-longer m r.fixed r.counted (m.history x) s.views grows r.answered)
            (All-append (Stands m r.fixed (m.history x)) me.0.mine calls
            (all-longer m r.fixed r.counted (m.history x) grows me.0.mine (r.answered id me.0 at))
            (subst (λ (l : List ℕ). All (Stands m l (m.history x)) calls) same may.stand));
        once = once-back m r.fixed r.counted s.views id me.0 w calls r.once r.answered at refl
            (subst (λ (l : History). All (λ c. IsPrefix l c.prefix) calls) seen may.begin) may.once;
        made = entries-back m r.fixed r.opening r.counted s.homes s.views id me.0 w x calls group r.made at live refl
            (r.made.taken id n me.0 at took) free may.adds.resolved
            (subst (λ (l : List ℕ). m.history x ≡ r.counted ++ (group ++ accepted_of m l calls)) same history)
            (subst (λ (l : List ℕ). (m.doubt x ≡ [])
            ⊎ ((m.doubt x ≡ me.0.doubt) ⊎ All (λ e. Any (Leaves m l e) calls) (m.doubt x))) same
            (⊎_elim (λ is. inl is)
            (λ (d : ((m.doubt x ≡ me.0.doubt) × (m.history x ≡ me.0.seen))
            ⊎ All (λ e. Any (Leaves m me.0.fixed e) calls) (m.doubt x)). ⊎_elim
            (λ (kept : (m.doubt x ≡ me.0.doubt) × (m.history x ≡ me.0.seen)). inr (inl kept.0)) (λ all. inr (inr all))
            d) may.doubts));
        failed = faults-back m r.opening_faults r.faults s.homes s.views id me.0 w x calls r.failed at live
            (sym asked.faults ∙ known.word) free refl refl
            (All-weaker (λ c. (c.faults_before ≡ me.0.faults_taken) × (c.faults_after ≡ m.faults x)
            × (c.readings ≡ m.readings x))
            (IsBetween r.opening_faults r.faults)
            (λ c count. let low = known.least in let before = count.0 in let after = count.1 in
            let rose = may.faults in let is = known.word in
            record { least = omega arith; rising = omega arith; most = omega arith }) calls asked.counts);
        readings = read-back m r.read s.homes s.views id me.0 w x calls r.readings at
            (let is = r.readings.taken id n me.0 at took in let rose = may.readings in omega arith) free refl
            (All-weaker (λ c. (c.faults_before ≡ me.0.faults_taken) × (c.faults_after ≡ m.faults x)
            × (c.readings ≡ m.readings x))
            (IsReadBy (m.readings x)) (λ c count. let is = count.2 in omega arith) calls asked.counts);
        spans = spans-back m r.met s.homes s.views id me.0 w x
            (record { before = me.0.faults_taken; after = m.faults x }) r.spans at met refl
            (let rose = may.faults in omega arith) free refl;
      }

  -- the step that raises the count keeps the rule
  pub raises_count : (slots id : ℕ) (me : Me (Option T) View) (calls : List Call) (new : ℕ)
      → MayCount m calls new me
      → Allows (Rule m) slots id me 2 (λ k. (k + new) % 2 ^ 64) (RaisesCount m calls (step slots 2 new 0 none) me)
  raises_count slots id me calls new may s r many at small =
      let n : ℕ = may.number in
      let x : T = may.value in
      let w : View = counted m n me.0 calls x in
      let away = r.kept.away id n me.0 at (subst (HasTaken n) (sym may.stage) refl) in (
        w,
        gives,
        tt,
        subst (λ (hs : Homes T). Rule m record {
          words = slice_set s.words 2 ((slice_index s.words 2 + new) % 2 ^ 64);
          homes = hs;
          views = set s.views id w;
        })
            (sym (homes-back s.homes me.1 x (ap (λ (hs : Homes T). length hs) away) may.carried))
            (counts s r id me calls new at may),
        λ k y stage carried i. (
          counted m (raised-same n k me.0.stage may.stage stage i) me.0 calls
              (carried-value me.1 x y may.carried carried i),
          rest (may.carried i),
        ),
      )

  -- to raise the faults changes nothing that a turn has to show
  pub may-raised : (n more : ℕ) (v : View) (calls : List Call) (x : T)
      → MayGive m v calls x
      → MayGive m (raised n more v) calls x
  may-raised n more v calls x may =
      record {
        stand = may.stand;
        begin = may.begin;
        once = may.once;
        timed = may.timed;
        fixed = may.fixed;
        faults = may.faults;
        readings = may.readings;
        adds = record { group = may.adds.group; resolved = may.adds.resolved; grown = may.adds.grown };
        doubts = may.doubts;
      }

  -- the value is put back and the faults are raised: the count may be raised
  pub ready : (v : View) (x : T) (n faults entries : ℕ) (calls : List Call) (before after : Me (Option T) View)
      → before ≡ (v, (0, Some x) ∷ [])
      → v.stage ≡ Holding n
      → ((k : ℕ) → before.0.stage ≡ Holding k → after ≡ (raised k faults before.0, before.1))
      → faults + v.faults ≡ m.faults x
      → MayGive m v calls x
      → HaveCounts m v x calls
      → entries + length v.seen ≡ length (m.history x)
      → length (m.history x) < 2 ^ 64
      → MayCount m calls entries after
  ready v x n faults entries calls before after back holds rose sum may counts' new fits =
      let now : after ≡ (raised n faults v, (0, Some x) ∷ []) =
      rose n (ap (λ (k : Me (Option T) View). k.0.stage) back ∙ holds)
      ∙ ap (λ (k : Me (Option T) View). (raised n faults k.0, k.1)) back in
      subst (MayCount m calls entries) (sym now) record {
        number = n;
        value = x;
        stage = refl;
        carried = refl;
        may = may-raised n faults v calls x may;
        counts = counts';
        faults = omega arith;
        new = new;
        fits = fits;
      }
