-- The look at the faults, with which the value is taken, keeps the rule.
use Rattle.std.proofs.Common.{◌≡◌, ℕ, List, [], ◌∷◌, length, set, Some, refl, sym, ap, ◌∙◌, subst, arith}
use Rattle.std.specs.Prelude.{slice_index, slice_set, Option, All}
use mathlib.Core.Option.{none}
use lib.ListN.{get_elem?}
use Rattle.atomic_table.specs.Table.{State, Me, step, takes, stepped, Allows}
use Rattle.tb_lock.specs.declared.view.View.{View}
use Rattle.tb_lock.specs.declared.view.Stage.TheVariants.{Come}
use Rattle.tb_lock.specs.Meanings.{History, IsPrefix, Meanings}
use Rattle.tb_lock.specs.Calls.{IsBetween, IsReadBy, Stands}
use Rattle.tb_lock.specs.Views.{IsLive, IsView, HasTicket, HasTurn}
use Rattle.tb_lock.specs.Rule.{Homes, IsHome, words_of, Rule}
use Rattle.tb_lock.specs.Turns.{taken}
use Rattle.tb_lock.specs.Steps.{Takes, LooksAtFaults}
use Rattle.tb_lock.proofs.ViewLemmas.{tickets-of_ticket, ticket-of_turn, come-taken, come-same}
use Rattle.tb_lock.proofs.PrefixLemmas.{prefix-trans}
use Rattle.tb_lock.proofs.QueueLemmas.{queue-same}
use Rattle.tb_lock.proofs.ShareLemmas.{live-by_ticket, shares-same}
use Rattle.tb_lock.proofs.KeptLemmas.{kept-taken, home-in_turn}
use Rattle.tb_lock.proofs.EntryLemmas.{answered-set, entries-away}
use Rattle.tb_lock.proofs.OnceLemmas.{view-once, once-set}
use Rattle.tb_lock.proofs.SeenLemmas.{count-away, seen-taken}
use Rattle.tb_lock.proofs.FaultLemmas.{faults-away}
use Rattle.tb_lock.proofs.ReadLemmas.{read-away}
use Rattle.tb_lock.proofs.SpanLemmas.{spans-away}

module _ {T : Type 0} (m : Meanings T) where
  -- a word that is read stays
  read-same : (drawn served count faults : ℕ) (ws : List ℕ)
      → ws ≡ words_of drawn served count faults
      → slice_set ws 3 (slice_index ws 3) ≡ ws
  read-same drawn served count faults ws is = subst (λ (l : List ℕ). slice_set l 3 (slice_index l 3) ≡ l) (sym is) refl

  -- the value is taken
  leaves : (s : State (Option T) View) (r : Rule m s) (id n : ℕ) (me : Me (Option T) View) (x : T)
      → IsView s.views id me.0
      → me.0.stage ≡ Come n
      → IsHome s.homes x
      → Rule m (stepped s 3 (slice_index s.words 3) id me.1 (taken m n me.0 x) (takes 0 (Some x)))
  leaves s r id n me x at come home =
      let w : View = taken m n me.0 x in
      let turn : HasTurn n me.0.stage = subst (HasTurn n) (sym come) refl in
      let has = ticket-of_turn n me.0.stage turn in
      let now : n ≡ r.served = r.kept.turn id n me.0 at turn in
      let live = live-by_ticket s.views id n me.0 r.shares at has in
      let seen = r.count.value x home in
      let failed = r.failed.value x home in
      let empty : slice_set s.homes 0 none ≡ none ∷ [] = ap (λ (hs : Homes T). slice_set hs 0 none) home in
      subst (λ (hs : Homes T). Rule m record
      { words = slice_set s.words 3 (slice_index s.words 3); homes = hs; views = set s.views id w }) (sym empty)
      record {
        drawn = r.drawn;
        served = r.served;
        fixed = r.fixed;
        opening = r.opening;
        opening_faults = r.opening_faults;
        counted = r.counted;
        faults = r.faults;
        met = r.met;
        read = r.read;
        words = read-same r.drawn r.served (length r.counted) r.faults s.words r.words ∙ r.words;
        queue = queue-same r.drawn r.served s.views id me.0 w r.queue at (sym (tickets-of_ticket n me.0.stage has))
            (λ k mine. subst (λ (i : ℕ). HasTicket i me.0.stage) mine has);
        shares = shares-same s.views id me.0 w r.shares at refl live;
        kept = kept-taken m r.served r.fixed s.homes s.views id me.0 w r.kept at refl live
            (λ k (mine : n ≡ k). sym mine ∙ now) now;
        count = count-away m r.counted s.homes s.views id me.0 w r.count at seen;
        seen = seen-taken r.opening r.counted s.views id me.0 w r.seen at live live seen refl;
        answered = answered-set m r.fixed r.counted s.views id w r.answered (r.answered id me.0 at);
        once = once-set m s.views id me.0 w r.once at refl;
        made = entries-away m r.fixed r.opening r.counted s.homes s.views id me.0 w r.made at live refl
            (r.made.value x home);
        failed = faults-away m r.opening_faults r.faults s.homes s.views id me.0 w r.failed at live failed failed refl
            refl;
        readings = read-away m r.read s.homes s.views id me.0 w r.readings at (r.readings.value x home) refl;
        spans = spans-away m r.met s.homes s.views id me.0 w r.spans at (r.spans.value x home) refl;
      }

  -- and the pass learns what the value stands for
  learns : (s : State (Option T) View) (r : Rule m s) (id n : ℕ) (me : Me (Option T) View) (x : T)
      → IsView s.views id me.0
      → IsLive me.0
      → IsHome s.homes x
      → Takes m n (slice_index s.words 3) me (taken m n me.0 x, (0, Some x) ∷ me.1)
  learns s r id n me x at live home =
      let same = r.kept.same id me.0 at live in
      let has = r.seen.each id me.0 at live in
      let seen = r.count.value x home in
      let failed = r.failed.value x home in
      let opened = r.failed.same id me.0 at live in
      let least = r.failed.least in record {
        value = x;
        is = refl;
        faults = ap (λ (ws : List ℕ). slice_index ws 3) r.words ∙ sym failed;
        fixed = r.kept.value x home ∙ sym same;
        begins = subst (λ (l : History). IsPrefix me.0.seen l) (sym seen) has.begins;
        has_opening = subst (λ (y : History × History). IsPrefix y.0 y.1) (λ i. (sym has.same i, sym seen i))
            (prefix-trans r.opening me.0.seen r.counted has.has_opening has.begins);
        stand = subst (λ (y : History × List ℕ). All (Stands m y.1 y.0) me.0.mine) (λ i. (sym seen i, sym same i))
            (r.answered id me.0 at);
        once = view-once m s.views id me.0 r.once at;
        counts = subst (λ (y : ℕ × ℕ). All (IsBetween y.0 y.1) me.0.mine) (λ i. (sym opened i, sym failed i))
            (r.failed.calls id me.0 at);
        read = subst (λ (n : ℕ). All (IsReadBy n) me.0.mine) (sym (r.readings.value x home))
            (r.readings.calls id me.0 at);
        apart = r.spans.within id me.0 at;
        least = omega arith;
      }

  -- the step that looks at the faults, and takes the slot, keeps the rule
  pub looks_at_faults : (slots id n : ℕ) (me : Me (Option T) View) → me.0.stage ≡ Come n
      → Allows (Rule m) slots id me 3 (λ k. k) (LooksAtFaults m (step slots 3 0 0 none) me)
  looks_at_faults slots id n me come s r many at small =
      let turn : HasTurn n me.0.stage = subst (HasTurn n) (sym come) refl in
      let has = ticket-of_turn n me.0.stage turn in
      let home = home-in_turn m r.served r.fixed s.homes r.drawn s.views id n me.0 r.kept r.queue at has
      (r.kept.turn id n me.0 at turn) (come-taken r.served n me.0.stage come) in
      let live = live-by_ticket s.views id n me.0 r.shares at has in (
        taken m n me.0 home.0,
        takes 0 (Some home.0),
        ap (λ (hs : Homes T). get_elem? hs 0) home.1,
        leaves s r id n me home.0 at come home.1,
        λ k same. subst (λ (i : ℕ). Takes m i (slice_index s.words 3) me
            (taken m n me.0 home.0, (0, Some home.0) ∷ me.1)) (come-same n k me.0.stage come same)
            (learns s r id n me home.0 at live home.1),
      )
