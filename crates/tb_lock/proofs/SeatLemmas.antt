-- To split and to join passes keeps the rule.
use Rattle.std.proofs.Common.{◌≡◌, ℕ, ◌≤◌, [], ◌∷◌, ◌++◌, set, refl, sym, ap, ◌∙◌, arith}
use Rattle.std.specs.Prelude.{All, Any}
use Rattle.std.proofs.lemmas.List.Elements.{All-nil, All-append}
use Rattle.atomic_table.specs.Table.{Splits, Joins}
use Rattle.atomic_table.proofs.Lists.{set_else}
use Rattle.tb_lock.specs.declared.view.View.{View}
use Rattle.tb_lock.specs.declared.view.Stage.TheVariants.{Idle}
use Rattle.tb_lock.specs.Meanings.{Meanings}
use Rattle.tb_lock.specs.Calls.{IsBetween, IsReadBy, Stands, Makes}
use Rattle.tb_lock.specs.Views.{IsLive, kept_half, given_half, joined, spent, IsView, tickets_at, HasTaken}
use Rattle.tb_lock.specs.Rule.{IsMade, Rule}
use Rattle.tb_lock.proofs.ViewLemmas.{each-set, each-snoc, idle-turn, idle-taken}
use Rattle.tb_lock.proofs.QueueLemmas.{queue-same, queue-more}
use Rattle.tb_lock.proofs.ShareLemmas.{shares-split, shares-joined}
use Rattle.tb_lock.proofs.KeptLemmas.{kept-same, kept-more, kept-spent, some-snoc}
use Rattle.tb_lock.proofs.EntryLemmas.{answered-set, answered-more, made-joined, entries-same, entries-set}
use Rattle.tb_lock.proofs.OnceLemmas.{once-set, once-more, once-joined}
use Rattle.tb_lock.proofs.SeenLemmas.{count-same, count-more, seen-same, seen-more, seen-joined}
use Rattle.tb_lock.proofs.FaultLemmas.{faults-free, faults-more}
use Rattle.tb_lock.proofs.ReadLemmas.{read-set, read-one-more}
use Rattle.tb_lock.proofs.SpanLemmas.{spans-set, spans-more, spans-joined}

module _ {T : Type 0} (m : Meanings T) where
  -- a pass between turns, with a share of at least 2, may be split
  pub splits : (id : ℕ) (v : View)
      → v.stage ≡ Idle
      → 2 ≤ v.share
      → Splits (Rule m) id v (kept_half v) (given_half v)
  splits id v idle two s r at =
      let live : IsLive v = omega arith in
      let left : View = kept_half v in
      let right : View = given_half v in
      let live_left : IsLive left = omega arith in
      record {
        drawn = r.drawn;
        served = r.served;
        fixed = r.fixed;
        opening = r.opening;
        opening_faults = r.opening_faults;
        counted = r.counted;
        faults = r.faults;
        met = r.met;
        read = r.read;
        words = r.words;
        queue = queue-more r.drawn r.served (set s.views id left) right
            (queue-same r.drawn r.served s.views id v left r.queue at refl (λ n mine. mine)) refl;
        shares = shares-split s.views id v r.shares at two;
        kept = kept-more m r.served r.fixed s.homes (set s.views id left) right
            (kept-same m r.served r.fixed s.homes s.views id v left r.kept at refl live
            (λ n mine. absurd (idle-turn n v.stage idle mine)) (λ has. has)
            (λ n has. absurd (idle-taken n v.stage idle has)))
            (r.kept.same id v at live) refl;
        count = count-more m r.counted s.homes (set s.views id left) right
            (count-same m r.counted s.homes s.views id v left r.count at (λ n has. r.count.taken id n v at has)) refl;
        seen = seen-more r.opening r.counted (set s.views id left) right
            (seen-same r.opening r.counted s.views id v left r.seen at live live_left refl refl)
            (let h = r.seen.each id v at live in
            record { begins = h.begins; has_opening = h.has_opening; same = h.same });
        answered = answered-more m r.fixed r.counted (set s.views id left) right
            (answered-set m r.fixed r.counted s.views id left r.answered (r.answered id v at)) refl;
        once = once-more m (set s.views id left) right (once-set m s.views id v left r.once at refl) refl;
        made = entries-same m r.fixed r.opening r.counted s.homes (set s.views id left)
            (set s.views id left ++ right ∷ [])
            (entries-set m r.fixed r.opening r.counted s.homes s.views id v left r.made at live_left refl
            (λ n has. r.made.taken id n v at has))
            (λ e. some-snoc (λ u. IsLive u × Any (Makes m r.fixed e) u.mine) (set s.views id left) right)
            (λ j n. each-snoc (λ u. HasTaken n u.stage → All (IsMade m r.fixed (set s.views id left)) u.doubt)
            (set s.views id left) right
            (λ k u there has. (entries-set m r.fixed r.opening r.counted s.homes s.views id v left r.made at live_left
            refl (λ i h. r.made.taken id i v at h)).taken k n u there has)
            (λ has. absurd has) j);
        failed = faults-more m r.opening_faults r.faults s.homes (set s.views id left) right
            (faults-free m r.opening_faults r.faults s.homes s.views id left r.failed
            (λ n has. idle-taken n v.stage idle has) (λ _. r.failed.same id v at live) (r.failed.calls id v at)) refl
            (r.failed.same id v at live) refl;
        readings = read-one-more m r.read s.homes (set s.views id left) right
            (read-set m r.read s.homes s.views id left r.readings (λ n has. absurd (idle-taken n v.stage idle has))
            (r.readings.calls id v at)) refl refl;
        spans = spans-more m r.met s.homes (set s.views id left) right
            (spans-set m r.met s.homes s.views id v left r.spans at
            (λ n has. absurd (idle-taken n v.stage idle has)) refl) refl refl;
      }

  -- two passes between turns may be joined
  pub joins : (id : ℕ) (v : View) (other : ℕ) (w : View) → v.stage ≡ Idle → w.stage ≡ Idle → IsLive v → IsLive w
      → Joins (Rule m) id v other w (joined v w) spent
  joins id v other w idle idle' live live' s r at apart there =
      let both : View = joined v w in
      let was : IsView s.views other w = sym (set_else s.views id other both apart) ∙ there in
      record {
        drawn = r.drawn;
        served = r.served;
        fixed = r.fixed;
        opening = r.opening;
        opening_faults = r.opening_faults;
        counted = r.counted;
        faults = r.faults;
        met = r.met;
        read = r.read;
        words = r.words;
        queue = queue-same r.drawn r.served (set s.views id both) other w spent
            (queue-same r.drawn r.served s.views id v both r.queue at refl (λ n mine. mine)) there
            (sym (ap tickets_at idle')) (λ n mine. absurd mine);
        shares = shares-joined s.views id v other w r.shares at live there;
        kept = kept-spent m r.served r.fixed s.homes (set s.views id both) other w
            (kept-same m r.served r.fixed s.homes s.views id v both r.kept at refl live
            (λ n mine. absurd (idle-turn n v.stage idle mine)) (λ has. has)
            (λ n has. absurd (idle-taken n v.stage idle has))) there (idle-taken r.served w.stage idle');
        count = count-same m r.counted s.homes (set s.views id both) other w spent
            (count-same m r.counted s.homes s.views id v both r.count at
            (λ n has. absurd (idle-taken n v.stage idle has))) there (λ n has. absurd has);
        seen = seen-joined r.opening r.counted s.views id v other w r.seen at was apart live live';
        answered = answered-set m r.fixed r.counted (set s.views id both) other spent
            (answered-set m r.fixed r.counted s.views id both r.answered
            (All-append (Stands m r.fixed r.counted) v.mine w.mine (r.answered id v at) (r.answered other w was)))
            (All-nil (Stands m r.fixed r.counted));
        once = once-joined m s.views id v other w r.once at there;
        made = entries-same m r.fixed r.opening r.counted s.homes s.views (set (set s.views id both) other spent) r.made
            (made-joined m r.fixed s.views id v other w at was apart live)
            (λ j n. each-set (λ _ u. HasTaken n u.stage → All (IsMade m r.fixed s.views) u.doubt)
            (set s.views id both) other spent
            (λ k u _. each-set (λ _ u. HasTaken n u.stage → All (IsMade m r.fixed s.views) u.doubt) s.views id both
            (λ i y _ at'. r.made.taken i n y at') (λ has. absurd (idle-taken n v.stage idle has)) k u)
            (λ has. absurd has) j);
        failed = faults-free m r.opening_faults r.faults s.homes (set s.views id both) other spent
            (faults-free m r.opening_faults r.faults s.homes s.views id both r.failed
            (λ n has. idle-taken n v.stage idle has) (λ _. r.failed.same id v at live)
            (All-append (IsBetween r.opening_faults r.faults) v.mine w.mine (r.failed.calls id v at)
            (r.failed.calls other w was)))
            (λ n has. has) (λ alive. absurd (omega arith)) (All-nil (IsBetween r.opening_faults r.faults));
        readings = read-set m r.read s.homes (set s.views id both) other spent
            (read-set m r.read s.homes s.views id both r.readings (λ n has. absurd (idle-taken n v.stage idle has))
            (All-append (IsReadBy r.read) v.mine w.mine (r.readings.calls id v at) (r.readings.calls other w was)))
            (λ n has. absurd has) (All-nil (IsReadBy r.read));
        spans = spans-joined m r.met s.homes s.views id v other w r.spans at was
            (λ same. apart (sym same)) idle;
      }
