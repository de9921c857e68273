-- Steps of a session, one after the other.
use Rattle.std.proofs.Common.{◌≡◌, ℕ, ◌+◌, ◌<◌, ◌≤◌, ◌⊎◌, List, [], ◌∷◌, ◌++◌, length, drop, true, false, refl, sym, ap, ◌∙◌, subst, inl, inr, ⊎_elim, arith, append_assoc, length-append}
use Rattle.std.specs.Prelude.{Bool, All, ◌||◌, ◌==◌}
use Rattle.std.proofs.lemmas.List.{append-nil}
use Rattle.std.proofs.lemmas.Bool.Decides.{nat_tests}
use Rattle.std.proofs.lemmas.List.Concat.{flat_map-append}
use Rattle.std.proofs.lemmas.List.Elements.{All-nil, All-cons, All-append, filter_map-append}
use Rattle.tb_link.specs.Counts.{Rose}
use Rattle.tb_link.proofs.CallerLemmas.{Rose-later}
use Rattle.tb_gates.specs.Links.{LinkState, Moved, Begins}
use Rattle.tb_gates.proofs.CallerLemmas.{moved-nothing, moved-then}
use Rattle.tb_wire.specs.declared.cutting.Cutting.TheVariants.{Whole}
use Rattle.tb_wire.specs.declared.cutting.HttpRequest.{HttpRequest}
use Rattle.tb_wire.specs.Front.{IsFront}
use Rattle.tb_wire.specs.Replies.{no_memory}
use Rattle.tb_lock.specs.declared.view.View.{View}
use Rattle.tb_session.specs.declared.answer.Answer.{Answer}
use Rattle.tb_session.specs.declared.end.End.{End}
use Rattle.tb_session.specs.declared.end.End.TheVariants as end
use Rattle.tb_session.specs.Codes.{Made}
use Rattle.tb_session.specs.Gains.{Gains}
use Rattle.tb_session.specs.Inbox.{AtEnd, ReadsNoneAhead}
use Rattle.tb_session.specs.Replies.{reply_text, IsTold, MayLack}
use Rattle.tb_session.specs.Session.{Exchange, IsExchange, AreCut, body_of, calls_in, reply_of, replies_of, LetsGoOn, closes_at, most_turns, EndsInTurn, EndsWith, IsEndOfInput, IsSession, ServesLink, Wrote}
use Rattle.tb_session.specs.Serving.{Tries, Fails, Answers, EndsIdle, Waits, GoesOn, ServesOn}
use Rattle.tb_session.proofs.CutLemmas.{cut-on}
use Rattle.tb_session.proofs.GainLemmas.{gains-nothing, gains-then}
use Rattle.tb_session.proofs.StepLemmas.{ahead-nothing, never-at_once, never-heard, never-then, turns-heard, turns-nothing, turns-then}

-- the replies to two lists of requests, one list's behind the other's
replies-then : (first later : List Exchange) → replies_of (first ++ later) ≡ replies_of first ++ replies_of later
replies-then first later = flat_map-append (λ (e : Exchange). reply_of e false) first later

-- and their calls
calls-then : (first later : List Exchange) → calls_in (first ++ later) ≡ calls_in first ++ calls_in later
calls-then first later = filter_map-append (λ (e : Exchange). e.call) first later

-- a link that goes on may have more requests
pub serves-few : (count : ℕ) (waiting : List ℕ) (v0 v1 : View) (a b : LinkState) (now : List ℕ)
    → ServesOn 0 count waiting v0 v1 a b now
    → count < most_turns
serves-few count waiting v0 v1 a b now on = omega (arith, on.progress.few, on.counted)

-- two steps of a link that goes on
pub serves-then : (turns count more so_far : ℕ) (waiting now left : List ℕ) (v0 v1 v2 : View) (a b c : LinkState)
    → so_far ≡ turns + count
    → ServesOn turns count waiting v0 v1 a b now
    → ServesOn so_far more now v1 v2 b c left
    → ServesOn turns (count + more) waiting v0 v2 a c left
serves-then turns count more so_far waiting now left v0 v1 v2 a b c at one two =
    let p = one.progress in
    let q = subst (λ (f : List ℕ). GoesOn f so_far now b c two.exchanges two.read left) one.gains.fixed two.progress in
    record {
      exchanges = one.exchanges ++ two.exchanges;
      read = one.read ++ two.read;
      counted = omega (arith, length-append one.exchanges two.exchanges, one.counted, two.counted);
      progress = record {
        cuts = cut-on one.exchanges two.exchanges waiting one.read now two.read left p.cuts q.cuts;
        are_exchanges = All-append (IsExchange v0.fixed) one.exchanges two.exchanges p.are_exchanges q.are_exchanges;
        goes_on = All-append LetsGoOn one.exchanges two.exchanges p.goes_on q.goes_on;
        few = omega (arith, length-append one.exchanges two.exchanges, one.counted, at, q.few);
        moved = subst (λ (l : List ℕ). Moved a c (one.read ++ two.read) l)
            (sym (replies-then one.exchanges two.exchanges))
            (moved-then a b c one.read _ two.read _ p.moved q.moved);
        turns_taken = turns-then one.exchanges two.exchanges waiting one.read now two.read left a b c p.turns_taken
            q.turns_taken;
      };
      gains = subst (λ (l : List Made). Gains v0 v2 l) (sym (calls-then one.exchanges two.exchanges))
          (gains-then v0 v1 v2 _ _ one.gains two.gains);
    }

-- a link that goes on, and then ends
pub serves-ends : (turns count so_far : ℕ) (waiting now : List ℕ) (v0 v1 v2 : View) (a b c : LinkState) (ended : End)
    → so_far ≡ turns + count
    → ServesOn turns count waiting v0 v1 a b now
    → ServesLink so_far now v1 v2 b c ended
    → ServesLink turns waiting v0 v2 a c ended
serves-ends turns count so_far waiting now v0 v1 v2 a b c ended at one two =
    let p = one.progress in
    let s = two.session in
    let q = subst (λ (f : List ℕ). IsSession f so_far now b c s) one.gains.fixed two.is_session in
    let served : so_far + length s.exchanges ≡ turns + length (one.exchanges ++ s.exchanges) =
    omega (arith, length-append one.exchanges s.exchanges, one.counted, at) in
    let all = append_assoc one.exchanges s.exchanges s.last in
    record {
      session = record {
        read = one.read ++ s.read;
        exchanges = one.exchanges ++ s.exchanges;
        last = s.last;
        rest = s.rest;
        due = s.due;
        tail = s.tail;
        ended = s.ended;
      };
      ended_is = two.ended_is;
      is_session = record {
        cuts = subst (λ (l : List Exchange). AreCut l (waiting ++ (one.read ++ s.read)) s.rest) (sym all)
            (cut-on one.exchanges (s.exchanges ++ s.last) waiting one.read now s.read s.rest p.cuts q.cuts);
        are_exchanges = subst (λ (l : List Exchange). All (IsExchange v0.fixed) l) (sym all)
            (All-append (IsExchange v0.fixed) one.exchanges (s.exchanges ++ s.last) p.are_exchanges q.are_exchanges);
        goes_on = All-append LetsGoOn one.exchanges s.exchanges p.goes_on q.goes_on;
        few = omega (arith, served, q.few);
        moved = subst (λ (l : List ℕ). Moved a c (one.read ++ s.read) l)
            (sym (append_assoc (replies_of one.exchanges) (replies_of s.exchanges) s.tail)
            ∙ ap (λ (l : List ℕ). l ++ s.tail) (sym (replies-then one.exchanges s.exchanges)))
            (moved-then a b c one.read _ s.read _ p.moved q.moved);
        begins = q.begins;
        whole = ⊎_elim (λ is. inl is)
            (λ rose. inr (Rose-later a.sink.faults b.sink.faults c.sink.faults p.moved.write_count rose)) q.whole;
        ends = subst (λ (n : ℕ). EndsWith n s.ended s.last s.rest s.due s.tail) served q.ends;
        read_fault = λ is.
            Rose-later a.source.faults b.source.faults c.source.faults p.moved.read_count (q.read_fault is);
        write_fault = λ is. Rose-later a.sink.faults b.sink.faults c.sink.faults p.moved.write_count (q.write_fault is);
        end_of_input = q.end_of_input;
        none_ahead = never-then one.exchanges s.exchanges s.ended waiting one.read now s.read s.tail a b c p.turns_taken
            q.none_ahead;
      };
      gains = subst (λ (l : List Made). Gains v0 v2 l)
          (sym (calls-then one.exchanges (s.exchanges ++ s.last)) ∙ ap calls_in (sym all))
          (gains-then v0 v1 v2 _ _ one.gains two.gains);
    }

-- nothing yet
pub serves-nothing : (turns : ℕ) (waiting : List ℕ) (v w : View) (a : LinkState) → turns < most_turns → Gains v w []
    → ServesOn turns 0 waiting v w a a waiting
serves-nothing turns waiting v w a few none = record {
  exchanges = [];
  read = [];
  counted = refl;
  progress = record {
    cuts = append-nil waiting;
    are_exchanges = All-nil (IsExchange v.fixed);
    goes_on = All-nil LetsGoOn;
    few = omega (arith, few);
    moved = moved-nothing a;
    turns_taken = turns-nothing a waiting;
  };
  gains = none;
}

-- requests that were served, and before them the bytes of the first were read
heard-on : (turns : ℕ) (fixed waiting now read left : List ℕ) (a m c : LinkState) (exchanges : List Exchange)
    (more : List ℕ)
    → 1 ≤ length exchanges
    → Moved a m read []
    → now ≡ waiting ++ read
    → ReadsNoneAhead a m waiting read
    → GoesOn fixed turns now m c exchanges more left
    → GoesOn fixed turns waiting a c exchanges (read ++ more) left
heard-on turns fixed waiting now read left a m c [] more some moved grown none on =
    absurd (let bad : ⊥ = omega (arith, some) in bad)
heard-on turns fixed waiting now read left a m c (e ∷ others) more some moved grown none on = record {
  cuts = subst (λ (l : List ℕ). AreCut (e ∷ others) l left)
      (ap (λ (l : List ℕ). l ++ more) grown ∙ append_assoc waiting read more) on.cuts;
  are_exchanges = on.are_exchanges;
  goes_on = on.goes_on;
  few = on.few;
  moved = moved-then a m c read [] more (replies_of (e ∷ others)) moved on.moved;
  turns_taken = turns-heard e others waiting now read more left a m c grown none on.turns_taken;
}

-- so the pass serves them
serves-heard : (turns count : ℕ) (waiting now left : List ℕ) (v w : View) (a m c : LinkState) (r : HttpRequest)
    → 1 ≤ count
    → Waits a m waiting now r
    → ServesOn turns count now v w m c left
    → ServesOn turns count waiting v w a c left
serves-heard turns count waiting now left v w a m c r some waits on = record {
  exchanges = on.exchanges;
  read = waits.read ++ on.read;
  counted = on.counted;
  progress = heard-on turns v.fixed waiting now waits.read left a m c on.exchanges on.read
      (omega (arith, some, on.counted)) waits.moved waits.grown waits.none_ahead on.progress;
  gains = on.gains;
}

-- a link that ended, and before that the bytes of a request were read
link-heard : (turns : ℕ) (waiting now : List ℕ) (v w : View) (a m c : LinkState) (r : HttpRequest) (ended : End)
    → Waits a m waiting now r
    → ServesLink turns now v w m c ended
    → ServesLink turns waiting v w a c ended
link-heard turns waiting now v w a m c r ended waits link =
    let s = link.session in
    let is = link.is_session in
    record {
      session = record {
        read = waits.read ++ s.read;
        exchanges = s.exchanges;
        last = s.last;
        rest = s.rest;
        due = s.due;
        tail = s.tail;
        ended = s.ended;
      };
      ended_is = link.ended_is;
      is_session = record {
        cuts = subst (λ (l : List ℕ). AreCut (s.exchanges ++ s.last) l s.rest)
            (ap (λ (l : List ℕ). l ++ s.read) waits.grown ∙ append_assoc waiting waits.read s.read) is.cuts;
        are_exchanges = is.are_exchanges;
        goes_on = is.goes_on;
        few = is.few;
        moved = moved-then a m c waits.read [] s.read (replies_of s.exchanges ++ s.tail) waits.moved is.moved;
        begins = is.begins;
        whole = ⊎_elim (λ all. inl all)
            (λ rose. inr (Rose-later a.sink.faults m.sink.faults c.sink.faults waits.moved.write_count rose)) is.whole;
        ends = is.ends;
        read_fault = λ q.
            Rose-later a.source.faults m.source.faults c.source.faults waits.moved.read_count (is.read_fault q);
        write_fault = λ q.
            Rose-later a.sink.faults m.sink.faults c.sink.faults waits.moved.write_count (is.write_fault q);
        end_of_input = is.end_of_input;
        none_ahead = never-heard s.exchanges s.ended waiting now waits.read s.read s.tail a m c waits.grown
            waits.none_ahead is.none_ahead;
      };
      gains = link.gains;
    }

-- a link that ended before another request was whole
pub serves-idle : (turns : ℕ) (waiting : List ℕ) (v : View) (a b : LinkState) (ended : End) → turns < most_turns
    → EndsIdle a b waiting ended → ServesLink turns waiting v v a b ended
serves-idle turns waiting v a b ended few idle = record {
  session = idle.session;
  ended_is = idle.ended_is;
  is_session = idle.is_session v.fixed turns few;
  gains = subst (λ (l : List Exchange). Gains v v (calls_in (l ++ idle.session.last))) (sym idle.none.0)
      (subst (λ (l : List Exchange). Gains v v (calls_in l)) (sym idle.none.1) (gains-nothing v));
}

-- neither of two tests that both fail
or-false : (x y : Bool) → x || y ≡ false → (x ≡ false) × (y ≡ false)
or-false true y is = absurd (let bad : ⊥ = cc in bad)
or-false false y is = (refl, is)

-- the second of two tests, where the first fails
or-true : (x y : Bool) → x || y ≡ true → x ≡ false → y ≡ true
or-true true y is fails = absurd (let bad : ⊥ = cc in bad)
or-true false y is fails = is

-- a list begins with itself
pub begins-self : (xs : List ℕ) → Begins xs xs
begins-self xs = ([], sym (append-nil xs))

-- an end that isn't one of the input's
pub never-end : (ended : End) → (ended ≡ end.EndOfInput → ⊥) → (ended ≡ end.CutShort → ⊥) → IsEndOfInput ended → ⊥
never-end ended no_end no_cut (inl is) = no_end is
never-end ended no_end no_cut (inr is) = no_cut is

-- the request that waits was answered
module _ (turns : ℕ) (waiting : List ℕ) (v0 v1 : View) (a b : LinkState) (r : HttpRequest) (said : Answer)
    (answers : Answers v0 v1 r waiting said) (front : IsFront waiting (Whole r)) (few : turns < most_turns) where
  abbrev exchange : Exchange
  exchange = answers.exchange

  is_left : drop answers.exchange.request.used waiting ≡ drop r.used waiting
  is_left = ap (λ (q : HttpRequest). drop q.used waiting) answers.request_is

  one_cut : AreCut (answers.exchange ∷ []) (waiting ++ []) (drop r.used waiting)
  one_cut =
      subst (λ (l : List ℕ). AreCut (answers.exchange ∷ []) l (drop r.used waiting)) (sym (append-nil waiting)) (
        subst (λ (q : HttpRequest). IsFront waiting (Whole q)) (sym answers.request_is) front,
        answers.body_is ∙ ap (λ (q : HttpRequest). body_of q waiting) (sym answers.request_is),
        is_left,
      )

  replied : (close : Bool) → reply_of answers.exchange close ≡ reply_text said r.target close
  replied close =
      ap (λ (x : Answer). reply_text x answers.exchange.request.target close) answers.said_is
      ∙ ap (λ (q : HttpRequest). reply_text said q.target close) answers.request_is

  told_one : IsTold said → IsTold answers.exchange.said
  told_one told = subst (λ (x : Answer). IsTold x) (sym answers.said_is) told

  closes_one : (close : Bool) → r.close ≡ close → answers.exchange.request.close ≡ close
  closes_one close is = ap (λ (q : HttpRequest). q.close) answers.request_is ∙ is

  -- the link goes on after it
  pub one-on : closes_at turns r ≡ false → Wrote a b (reply_text said r.target false) → IsTold said
      → ServesOn turns 1 waiting v0 v1 a b (drop r.used waiting)
  one-on stays wrote told =
      let neither = or-false r.close (turns + 1 == most_turns) stays in
      let more : (turns + 1 == most_turns) ≡ false = neither.1 in
      record {
        exchanges = answers.exchange ∷ [];
        read = [];
        counted = refl;
        progress = record {
          cuts = one_cut;
          are_exchanges = All-cons (IsExchange v0.fixed) answers.exchange [] answers.is_exchange
              (All-nil (IsExchange v0.fixed));
          goes_on = All-cons LetsGoOn answers.exchange [] (closes_one false neither.0, told_one told)
              (All-nil LetsGoOn);
          few = grind (arith, nat_tests);
          moved = subst (λ (l : List ℕ). Moved a b [] l) (sym (append-nil _ ∙ replied false)) wrote.moved;
          turns_taken = (
            [],
            [],
            b,
            refl,
            record {
              heard = a;
              none_ahead = ahead-nothing a waiting;
              wrote = subst (λ (l : List ℕ). Wrote a b l) (sym (replied false)) wrote;
            },
            (
              refl,
              sym (ap (λ (l : List ℕ). drop answers.exchange.request.used l) (append-nil waiting) ∙ is_left),
              refl,
            ),
          );
        };
        gains = answers.gains;
      }

  one_ended : (due tail : List ℕ) (ended : End)
      → Wrote a b tail
      → EndsInTurn ended waiting [] tail a b
      → Begins tail due
      → (tail ≡ due) ⊎ Rose a.sink.faults b.sink.faults
      → EndsWith turns ended (answers.exchange ∷ []) (drop r.used waiting) due tail
      → (ended ≡ end.ReadFault → ⊥)
      → (ended ≡ end.WriteFault → Rose a.sink.faults b.sink.faults)
      → (IsEndOfInput ended → ⊥)
      → ServesLink turns waiting v0 v1 a b ended
  one_ended due tail ended wrote in_turn begins whole ends never_read write never_ended =
      let same : turns ≡ turns + 0 = omega arith in
      record {
        session = record {
          read = [];
          exchanges = [];
          last = answers.exchange ∷ [];
          rest = drop r.used waiting;
          due = due;
          tail = tail;
          ended = ended;
        };
        ended_is = refl;
        is_session = record {
          cuts = one_cut;
          are_exchanges = All-cons (IsExchange v0.fixed) answers.exchange [] answers.is_exchange
              (All-nil (IsExchange v0.fixed));
          goes_on = All-nil LetsGoOn;
          few = omega (arith, few);
          moved = wrote.moved;
          begins = begins;
          whole = whole;
          ends = subst (λ (n : ℕ). EndsWith n ended (answers.exchange ∷ []) (drop r.used waiting) due tail) same ends;
          read_fault = λ is. absurd (never_read is);
          write_fault = write;
          end_of_input = λ is. absurd (never_ended is);
          none_ahead = never-at_once ended waiting [] tail a b in_turn;
        };
        gains = answers.gains;
      }

  -- it asked to close
  pub one-asked : r.close ≡ true → (close : Bool) → close ≡ closes_at turns r
      → Wrote a b (reply_text said r.target close) → IsTold said → ServesLink turns waiting v0 v1 a b end.Asked
  one-asked asks close is wrote told =
      let closed : close ≡ true = is ∙ ap (λ (c : Bool). c || (turns + 1 == most_turns)) asks in
      let due = reply_text said r.target true in
      let all = subst (λ (c : Bool). Wrote a b (reply_text said r.target c)) closed wrote in
      one_ended due due end.Asked all (a, ahead-nothing a waiting, all) (begins-self due) (inl refl)
      (answers.exchange, refl, closes_one true asks, told_one told, sym (replied true), refl)
      (λ e. cc) (λ e. absurd (let bad : ⊥ = cc in bad)) (λ e. never-end end.Asked (λ q. cc) (λ q. cc) e)

  -- it was the last that may be
  pub one-turns : r.close ≡ false → (close : Bool) → close ≡ closes_at turns r → close ≡ true
      → Wrote a b (reply_text said r.target close) → IsTold said → ServesLink turns waiting v0 v1 a b end.Turns
  one-turns unasked close is closed wrote told =
      let last : (turns + 1 == most_turns) ≡ true =
      or-true r.close (turns + 1 == most_turns) (sym is ∙ closed) unasked in
      let due = reply_text said r.target true in
      let all = subst (λ (c : Bool). Wrote a b (reply_text said r.target c)) closed wrote in
      one_ended due due end.Turns all (a, ahead-nothing a waiting, all) (begins-self due) (inl refl) (
        answers.exchange,
        refl,
        (closes_one false unasked, told_one told),
        grind (arith, nat_tests),
        sym (replied true),
        refl,
      )
      (λ e. cc) (λ e. absurd (let bad : ⊥ = cc in bad)) (λ e. never-end end.Turns (λ q. cc) (λ q. cc) e)

  -- its reply wasn't written
  pub one-unwritten : (close : Bool) → close ≡ closes_at turns r → Fails a b (reply_text said r.target close)
      → IsTold said → ServesLink turns waiting v0 v1 a b end.WriteFault
  one-unwritten close is fails told =
      one_ended (reply_text said r.target close) fails.tail end.WriteFault fails.wrote
      (a, ahead-nothing a waiting, fails.wrote) fails.begins (inr fails.rose)
      (inl (
        answers.exchange,
        [],
        refl,
        inl refl,
        told_one told,
        ap (λ (c : Bool). reply_text said r.target c)
            (is ∙ ap (λ (q : HttpRequest). closes_at turns q) (sym answers.request_is))
            ∙ sym (replied (closes_at turns answers.exchange.request)),
      ))
      (λ e. cc) (λ e. fails.rose) (λ e. never-end end.WriteFault (λ q. cc) (λ q. cc) e)

  -- there was no memory for it, or for its reply
  pub one-lacking : MayLack said → Tries a b no_memory → ServesLink turns waiting v0 v1 a b end.OutOfMemory
  one-lacking may tried =
      one_ended no_memory tried.tail end.OutOfMemory tried.wrote (a, ahead-nothing a waiting, tried.wrote) tried.begins
      tried.whole
      (refl, inr (answers.exchange, refl, subst (λ (x : Answer). MayLack x) (sym answers.said_is) may))
      (λ e. cc) (λ e. absurd (let bad : ⊥ = cc in bad)) (λ e. never-end end.OutOfMemory (λ q. cc) (λ q. cc) e)

-- the link that ends between two requests: these bytes were read, and then this part of what was due was written
module _ (a m b : LinkState) (waiting now read tail due : List ℕ) (ended : End) (moved : Moved a m read [])
    (grown : now ≡ waiting ++ read) (tried : Moved m b [] tail)
    (in_turn : EndsInTurn ended waiting read tail a b) where
  pub idle-ended : Begins tail due
      → (tail ≡ due) ⊎ Rose m.sink.faults b.sink.faults
      → ((turns : ℕ) → EndsWith turns ended [] now due tail)
      → (ended ≡ end.ReadFault → Rose a.source.faults b.source.faults)
      → (ended ≡ end.WriteFault → Rose m.sink.faults b.sink.faults)
      → (IsEndOfInput ended → AtEnd b)
      → EndsIdle a b waiting ended
  idle-ended begins whole ends read_fault write at_end = record {
    session = record {
      read = read;
      exchanges = [];
      last = [];
      rest = now;
      due = due;
      tail = tail;
      ended = ended;
    };
    ended_is = refl;
    none = (refl, refl);
    is_session = λ fixed turns few. record {
      cuts = sym grown;
      are_exchanges = All-nil (IsExchange fixed);
      goes_on = All-nil LetsGoOn;
      few = omega (arith, few);
      moved = subst (λ (l : List ℕ). Moved a b l tail) (append-nil read) (moved-then a m b read [] [] tail moved tried);
      begins = begins;
      whole = ⊎_elim (λ is. inl is)
          (λ rose. inr (Rose-later a.sink.faults m.sink.faults b.sink.faults moved.write_count rose)) whole;
      ends = ends (turns + 0);
      read_fault = read_fault;
      write_fault = λ is. Rose-later a.sink.faults m.sink.faults b.sink.faults moved.write_count (write is);
      end_of_input = at_end;
      none_ahead = never-at_once ended waiting read tail a b in_turn;
    };
  }

-- a round of the link: a request is read, and it and maybe more are served
module _ (count : ℕ) (waiting now after : List ℕ) (v0 v1 v2 : View) (a b m c : LinkState) (r : HttpRequest)
    (so_far : ServesOn 0 count waiting v0 v1 a b now) (waits : Waits b m now after r) where
  -- the link goes on
  pub round-on : (more : ℕ) (left : List ℕ) → 1 ≤ more → ServesOn count more after v1 v2 m c left
      → ServesOn 0 (count + more) waiting v0 v2 a c left
  round-on more left some on =
      serves-then 0 count more count waiting now left v0 v1 v2 a b c (omega arith) so_far
      (serves-heard count more now after left v1 v2 b m c r some waits on)

  -- it ends
  pub round-ended : (ended : End) → ServesLink count after v1 v2 m c ended → ServesLink 0 waiting v0 v2 a c ended
  round-ended ended link =
      serves-ends 0 count count waiting now v0 v1 v2 a b c ended (omega arith) so_far
      (link-heard count now after v1 v2 b m c r ended waits link)
