-- What each way of a call does to what a desk holds.
use Rattle.std.proofs.Common.{◌≡◌, ℕ, ◌+◌, ◌≤◌, ◌<◌, ◌⊎◌, inl, inr, min, Option, Some, None, List, [], ◌∷◌, ◌++◌, length, refl, sym, ◌∙◌, ap, subst, arith}
use Rattle.std.specs.Prelude.{◌↔◌, ◌&&◌, nat_le, true, Result, Ok, Err}
use Rattle.std.proofs.lemmas.Bool.{cases_lt}
use Rattle.std.proofs.lemmas.List.{append-nil}
use Rattle.tb_units.specs.declared.moment.Moment.{Moment}
use Rattle.tb_units.specs.Names.{is_name}
use Rattle.tb_link.specs.Counts.{last_count}
use Rattle.tb_terms.specs.declared.refusal.Refusal.{Refusal}
use Rattle.tb_terms.specs.declared.refusal.Refusal.TheVariants as refusal
use Rattle.tb_disk.specs.Disks.{DiskState}
use Rattle.tb_message.specs.declared.key.Key.{Key}
use Rattle.tb_message.specs.declared.message.Entry.{Entry}
use Rattle.tb_message.specs.declared.message.Message.{Message}
use Rattle.tb_message.specs.declared.query.Query.{Query}
use Rattle.tb_message.specs.declared.verdict.Verdict.{Verdict}
use Rattle.tb_message.specs.declared.verdict.Verdict.TheVariants as verdict
use Rattle.tb_message.specs.Spelling.{IsInRange, IsNumbered}
use Rattle.tb_history.specs.Answer.{verdict_for, refusal_for, query_refusal}
use Rattle.tb_history.specs.Legal.{IsLegal, running}
use Rattle.tb_history.specs.Readings.{IsReading}
use Rattle.tb_history.specs.declared.reading.Reading.{Reading}
use Rattle.tb_history.specs.Verdict.{verdict_on}
use Rattle.tb_core.specs.declared.refused.QueryRefused.{QueryRefused}
use Rattle.tb_core.specs.declared.refused.QueryRefused.TheVariants as core
use Rattle.tb_gates.specs.Clocks.{ClockState}
use Rattle.tb_lock.specs.Turns.{IsReadBetween}
use Rattle.tb_desk.specs.Turn.{Held, Asked, IsOneOf, IsTurn, Turns, added_by as added_as, added as added_on, group}
use Rattle.tb_desk.specs.Stands.{CrashesLeave}
use Rattle.tb_desk.specs.Desks.{CountsFault, held}
use Rattle.tb_session.specs.declared.answer.Answer.{Answer}
use Rattle.tb_session.specs.declared.answer.Answer.TheVariants as answer
use Rattle.tb_session.specs.declared.called.Ask.{Ask}
use Rattle.tb_session.specs.declared.called.Ask.TheVariants as ask
use Rattle.tb_session.specs.declared.called.Called.{Called}
use Rattle.tb_session.specs.declared.called.Outcome.{Outcome}
use Rattle.tb_session.specs.declared.called.Outcome.TheVariants as outcome
use Rattle.tb_session.specs.declared.room.Room.{Room}
use Rattle.tb_session.specs.Calls.{caller_on, refused, fault_for, Tells, TellsUnknown, TellsQuery, IsGiven, IsEntryless, Faulted, ComesOut, IsAnswerBy}
use Rattle.tb_session.specs.Codes.{HasRange}
use Rattle.tb_session.specs.Turned.{Calls, CanBeTold, Does, IsFaultOf, IsSure, message_call, outcome_by, query_call, added_by}
use Rattle.tb_session.proofs.CallerLemmas.{caller_on-append, repeat-is, accepted-is}
use Rattle.tb_session.proofs.UnknownLemmas.{caller-known, query-known, verdict-known}

-- a call that changes nothing is answered on the history that stands
pub does-nothing : (operator : List ℕ) (old new : Held) (low high : ℕ) (c : Called) (said : Answer)
    → new.history ≡ old.history
    → new.doubt ≡ old.doubt
    → high ≡ low
    → added_by c.outcome ≡ []
    → ComesOut operator old.history c c.outcome low high
    → IsGiven c.ask c.moment
    → IsAnswerBy operator old.history c c.outcome said
    → IsLegal old.history
    → HasRange c.outcome
    → IsSure operator old.history c said new.doubt
    → Does operator old new low high c said
does-nothing operator old new low high c said history doubt faults none out given answered legal in_range sure =
    record {
      at = old.history;
      legal = legal;
      settled = inl refl;
      grown = history ∙ (sym (append-nil old.history) ∙ ap (λ (l : List Entry). old.history ++ l) (sym none));
      doubt = inr (inl (doubt, history));
      sure = sure;
      comes_out = out;
      in_range = in_range;
      given = given;
      least = omega (arith, faults);
      answer = answered;
    }

-- a caller's message is told its verdict at the running moment
pub tells-verdict : (operator : List ℕ) (history : List Entry) (k : Key) (caller : List ℕ)
    (number : ℕ) (moment : Moment)
    (message : Message) (said : Verdict)
    → caller_on operator history k ≡ Some caller
    → said ≡ verdict_on history caller number (running history moment) message
    → Tells history (caller_on operator history k) (ask.Message number message) (Some moment) (answer.Verdict said)
tells-verdict operator history k caller number moment message said known is =
    ap answer.Verdict (is ∙ ap (λ (o : Option (List ℕ)). verdict_for history o number moment message) (sym known))

-- nobody's message is refused
pub does-unknown : (operator : List ℕ) (old : Held) (faults : ℕ) (k : Key) (number : ℕ)
    (moment : Moment) (message : Message)
    → IsLegal old.history
    → caller_on operator old.history k ≡ None
    → Does operator old old faults faults (message_call k number moment message outcome.Told)
    (refused refusal.UnknownKey)
does-unknown operator old faults k number moment message legal nobody =
    let tells : Tells old.history (caller_on operator old.history k) (ask.Message number message) (Some moment)
    (refused refusal.UnknownKey) =
    ap answer.Verdict (ap (λ (o : Option (List ℕ)). verdict_for old.history o number moment message) (sym nobody)) in
    does-nothing operator old old faults faults (message_call k number moment message outcome.Told)
    (refused refusal.UnknownKey) refl refl refl refl (refused refusal.UnknownKey, tells, tt)
    (moment, refl) tells legal tt
    (λ at caller given is known told. absurd (let none : None ≡ Some caller = sym nobody ∙ known in
    let bad : ⊥ = cc in bad))

-- a message for which there was no memory changes nothing
pub does-lack : (operator : List ℕ) (old new : Held) (low high : ℕ) (k : Key) (number : ℕ) (moment : Moment)
    (message : Message)
    → new.history ≡ old.history
    → new.doubt ≡ old.doubt
    → high ≡ low
    → IsLegal old.history
    → Does operator old new low high (message_call k number moment message outcome.Lacked) answer.OutOfMemory
does-lack operator old new low high k number moment message history doubt faults legal =
    does-nothing operator old new low high (message_call k number moment message outcome.Lacked)
    answer.OutOfMemory history doubt faults refl tt (moment, refl) refl legal tt
    (λ at caller given is known told. absurd (let bad : ⊥ = cc in bad))

-- what a caller asks of a desk
abbrev pub one_asked : List ℕ → ℕ → Moment → Message → Asked
one_asked caller number moment message =
    record { submitter = caller; moment = moment; messages = (number, message) ∷ [] }

-- a moment is in range
pub moment-in_range : (m : Moment) → (nat_le 946702800 m.seconds && nat_le m.seconds 4102444799) ≡ true
moment-in_range m = grind (arith, m.not_before, m.not_after)

-- the count of faults after one more
pub faulted : (low high : ℕ) → high ≡ min (low + 1) last_count → low ≤ last_count → Faulted low high
faulted low high is limited = (omega (arith, is, limited), between (cases_lt low last_count))
  where
    between : (low < last_count) ⊎ (last_count ≤ low) → IsReadBetween low high
    between (inl less) = inl (omega (arith, is, less))
    between (inr most) = inr (omega (arith, is, most))

module _ (operator : List ℕ) (k : Key) (caller : List ℕ) (number : ℕ) (moment : Moment) (message : Message) where
  -- the entry of the message at a moment
  abbrev entry_at : Moment → Entry
  entry_at at = record { submitter = caller; number = number; moment = at; message = message }

  -- the message can be entered, and so its entry is in range at each moment
  pub record CanEnter : Type 0 where
    pub named : is_name caller ≡ true
    pub numbered : IsNumbered number message

  entry_in_range : CanEnter → (at : Moment) → IsInRange (entry_at at)
  entry_in_range can at = record {
    head = (can.named, (can.numbered.number_fits, (moment-in_range at, tt)));
    body = can.numbered.message_fits;
  }

  -- how a message comes out and what it is told, by its verdict
  by_verdict : (old new : Held) (low high : ℕ) (at : List Entry) (said : Verdict)
      → CanEnter
      → IsLegal at
      → (at ≡ old.history) ⊎ (at ≡ old.history ++ old.doubt)
      → caller_on operator at k ≡ Some caller
      → said ≡ verdict_on at caller number (running at moment) message
      → new.history ≡ at ++ added_by (outcome_by caller number message said)
      → new.doubt ≡ []
      → high ≡ low
      → Does operator old new low high (message_call k number moment message (outcome_by caller number message said))
      (answer.Verdict said)
  by_verdict old new low high at (verdict.Accepted n m) can legal settled known is grown sure faults =
      let told = accepted-is at caller number n (running at moment) m message (sym is) in
      let number_is : number ≡ n = cc in
      let moment_is : running at moment ≡ m = cc in
      let accepted : verdict_on at caller number m message ≡ verdict.Accepted number m =
      ap (λ (t : Moment). verdict_on at caller number t message) (sym moment_is)
      ∙ (sym is ∙ ap (λ (x : ℕ). verdict.Accepted x m) (sym number_is)) in
      record {
        at = at;
        legal = legal;
        settled = settled;
        grown = grown;
        doubt = inl sure;
        sure = λ _ _ _ _ _ _. sure;
        comes_out = (record { asked = refl; caller = known }, (moment, refl, sym moment_is), accepted);
        in_range = entry_in_range can m;
        given = (moment, refl);
        least = omega (arith, faults);
        answer = tells-verdict operator at k caller number moment message (verdict.Accepted n m) known is;
      }
  by_verdict old new low high at (verdict.Repeat n m) can legal settled known is grown sure faults =
      let stands = repeat-is at caller number n (running at moment) m message (sym is) in
      record {
        at = at;
        legal = legal;
        settled = settled;
        grown = grown;
        doubt = inl sure;
        sure = λ _ _ _ _ _ _. sure;
        comes_out = (
          record { asked = refl; caller = known },
          stands.stands,
          (
            running at moment,
            (moment, refl, refl),
            sym is ∙ ap (λ (x : ℕ). verdict.Repeat x m) stands.number_is,
          ),
        );
        in_range = entry_in_range can m;
        given = (moment, refl);
        least = omega (arith, faults);
        answer = tells-verdict operator at k caller number moment message (verdict.Repeat n m) known is;
      }
  by_verdict old new low high at (verdict.Refused why) can legal settled known is grown sure faults =
      let tells = tells-verdict operator at k caller number moment message (verdict.Refused why) known is in
      record {
        at = at;
        legal = legal;
        settled = settled;
        grown = grown;
        doubt = inl sure;
        sure = λ _ _ _ _ _ _. sure;
        comes_out = (answer.Verdict (verdict.Refused why), tells, tt);
        in_range = tt;
        given = (moment, refl);
        least = omega (arith, faults);
        answer = tells;
      }

  -- the entries that a verdict adds, in the desk's words and in those of calls
  added-said : (at : List Entry) (said : Verdict) → said ≡ verdict_on at caller number (running at moment) message
      → added_as caller (running at moment) (number, message) said ≡ added_by (outcome_by caller number message said)
  added-said at (verdict.Accepted n m) is =
      let told = accepted-is at caller number n (running at moment) m message (sym is) in
      let moment_is : running at moment ≡ m = cc in
      ap (λ (t : Moment). entry_at t ∷ []) moment_is
  added-said at (verdict.Repeat n m) is = refl
  added-said at (verdict.Refused why) is = refl

  -- and so a group of this one message
  group-said : (at : List Entry) (said : Verdict) → said ≡ verdict_on at caller number (running at moment) message
      → group at (one_asked caller number moment message) ≡ added_by (outcome_by caller number message said)
  group-said at said is =
      append-nil (added_on at caller (running at moment) (number, message))
      ∙ (ap (λ (v : Verdict). added_as caller (running at moment) (number, message) v) (sym is) ∙ added-said at said is)

  -- a group of this one message that isn't empty is its entry at the running moment
  group-entry : (at : List Entry) → 1 ≤ length (group at (one_asked caller number moment message))
      → group at (one_asked caller number moment message) ≡ entry_at (running at moment) ∷ []
  group-entry at some = go (verdict_on at caller number (running at moment) message) refl
    where
      go : (said : Verdict) → said ≡ verdict_on at caller number (running at moment) message
          → group at (one_asked caller number moment message) ≡ entry_at (running at moment) ∷ []
      go (verdict.Accepted n m) is =
          let told = accepted-is at caller number n (running at moment) m message (sym is) in
          let moment_is : m ≡ running at moment = cc in
          group-said at (verdict.Accepted n m) is ∙ ap (λ (t : Moment). entry_at t ∷ []) moment_is
      go (verdict.Repeat n m) is =
          absurd (let bad : ⊥ = omega (arith, some, ap length (group-said at (verdict.Repeat n m) is)) in bad)
      go (verdict.Refused why) is =
          absurd (let bad : ⊥ = omega (arith, some, ap length (group-said at (verdict.Refused why) is)) in bad)

  -- whoever called still calls on the history on which the message is answered
  still_known : (old : Held) (at : List Entry) → caller_on operator old.history k ≡ Some caller
      → (at ≡ old.history) ⊎ (at ≡ old.history ++ old.doubt)
      → caller_on operator at k ≡ Some caller
  still_known old at known (inl is) = subst (λ (l : List Entry). caller_on operator l k ≡ Some caller) (sym is) known
  still_known old at known (inr is) =
      subst (λ (l : List Entry). caller_on operator l k ≡ Some caller) (sym is)
      (caller_on-append operator old.history old.doubt k caller known)

  -- a message that got its verdict
  pub does-verdict : (gate : ℕ) (disk : DiskState) (old new : Held) (low high : ℕ) (said : Verdict)
      → CanEnter
      → caller_on operator old.history k ≡ Some caller
      → Turns gate disk (one_asked caller number moment message) old new (Some (said ∷ []))
      → high ≡ low
      → Does operator old new low high (message_call k number moment message (outcome_by caller number message said))
      (answer.Verdict said)
  does-verdict gate disk old new low high said can known turns faults = go turns.turn
    where
      go : IsTurn gate disk (one_asked caller number moment message) old new (Some (said ∷ [])) turns.at
          → Does operator old new low high
          (message_call k number moment message (outcome_by caller number message said))
          (answer.Verdict said)
      go (inl stuck) = absurd (let failed = stuck.0.failed in let bad : ⊥ = cc in bad)
      go (inr (resolves, inl answered)) =
          let is : said ≡ verdict_on turns.at caller number (running turns.at moment) message =
          (let given = answered.given in cc) in
          by_verdict old new low high turns.at said can turns.legal resolves.0
          (still_known old turns.at known resolves.0) is
          (answered.grown ∙ ap (λ (l : List Entry). turns.at ++ l) (group-said turns.at said is)) answered.sure faults
      go (inr (resolves, inr doubted)) = absurd (let failed = doubted.failed in let bad : ⊥ = cc in bad)

  -- which doesn't say that the key is unknown
  pub verdict-knows : (gate : ℕ) (disk : DiskState) (old new : Held) (said : Verdict)
      → caller_on operator old.history k ≡ Some caller
      → Turns gate disk (one_asked caller number moment message) old new (Some (said ∷ []))
      → answer.Verdict said ≡ refused refusal.UnknownKey
      → ⊥
  verdict-knows gate disk old new said known turns is = go turns.turn
    where
      unknown : said ≡ verdict.Refused refusal.UnknownKey
      unknown = cc

      go : IsTurn gate disk (one_asked caller number moment message) old new (Some (said ∷ [])) turns.at → ⊥
      go (inl stuck) = let failed = stuck.0.failed in cc
      go (inr (resolves, inl answered)) =
          let is : said ≡ verdict_on turns.at caller number (running turns.at moment) message =
          (let given = answered.given in cc) in
          verdict-known turns.at caller number (running turns.at moment) message
          (caller-known operator turns.at k caller (still_known old turns.at known resolves.0)) (sym is ∙ unknown)
      go (inr (resolves, inr doubted)) = let failed = doubted.failed in cc

  -- a message that met a fault may come to stand
  pub does-doubted : (gate : ℕ) (disk : DiskState) (old new : Held) (low high : ℕ)
      → CanEnter
      → caller_on operator old.history k ≡ Some caller
      → Turns gate disk (one_asked caller number moment message) old new None
      → CountsFault None low high
      → low ≤ last_count
      → Does operator old new low high
      (message_call k number moment message (outcome.Doubted (entry_at (running new.history moment)))) answer.DiskFault
  does-doubted gate disk old new low high can known turns counts limited = go turns.turn
    where
      entry : Entry
      entry = entry_at (running new.history moment)

      out : (at : List Entry) → (at ≡ old.history) ⊎ (at ≡ old.history ++ old.doubt) → new.history ≡ at
          → ComesOut operator at (message_call k number moment message (outcome.Doubted entry))
          (outcome.Doubted entry) low
          high
      out at settled is = (
        record { asked = refl; caller = still_known old at known settled },
        (moment, refl, ap (λ (l : List Entry). running l moment) is),
        faulted low high counts limited,
      )

      go : IsTurn gate disk (one_asked caller number moment message) old new None turns.at
          → Does operator old new low high (message_call k number moment message (outcome.Doubted entry))
          answer.DiskFault
      go (inl stuck) =
          let history : new.history ≡ old.history = ap (λ (h : Held). h.history) stuck.0.same in
          let is : new.history ≡ turns.at = history ∙ sym stuck.1 in
          record {
            at = turns.at;
            legal = turns.legal;
            settled = inl stuck.1;
            grown = is ∙ sym (append-nil turns.at);
            doubt = inr (inl (ap (λ (h : Held). h.doubt) stuck.0.same, history));
            sure = λ at caller given is known told. absurd (let bad : ⊥ = cc in bad);
            comes_out = out turns.at (inl stuck.1) is;
            in_range = entry_in_range can (running new.history moment);
            given = (moment, refl);
            least = (faulted low high counts limited).0;
            answer = refl;
          }
      go (inr (resolves, inl answered)) = absurd (let given = answered.given in let bad : ⊥ = cc in bad)
      go (inr (resolves, inr doubted)) =
          record {
            at = turns.at;
            legal = turns.legal;
            settled = resolves.0;
            grown = doubted.same ∙ sym (append-nil turns.at);
            doubt = inr (inr (
              entry,
              refl,
              doubted.unsure
                  ∙ (group-entry turns.at doubted.some
                  ∙ ap (λ (l : List Entry). entry_at (running l moment) ∷ []) (sym doubted.same)),
            ));
            sure = λ at caller given is known told. absurd (let bad : ⊥ = cc in bad);
            comes_out = out turns.at resolves.0 doubted.same;
            in_range = entry_in_range can (running new.history moment);
            given = (moment, refl);
            least = (faulted low high counts limited).0;
            answer = refl;
          }

-- a caller isn't told that its key is unknown
pub tells-known : (asks : Option (List ℕ)) (caller : List ℕ) (said : Answer) → asks ≡ Some caller
    → (said ≡ refused refusal.UnknownKey → ⊥)
    → TellsUnknown asks said
tells-known asks caller said known never =
    (λ is. absurd (never is), λ none. absurd (let bad : ⊥ = cc in bad))

-- and nobody is told anything else
pub tells-unknown : (asks : Option (List ℕ)) (said : Answer) → asks ≡ None → said ≡ refused refusal.UnknownKey
    → TellsUnknown asks said
tells-unknown asks said nobody is = (λ _. nobody, λ _. is)

-- the refusal of a caller's query
pub query-knows : (operator : List ℕ) (history : List Entry) (k : Key) (caller : List ℕ) (query : Query) (why : Refusal)
    → caller_on operator history k ≡ Some caller
    → query_refusal history caller query ≡ Some why
    → refused why ≡ refused refusal.UnknownKey
    → ⊥
query-knows operator history k caller query why known is same =
    let unknown : why ≡ refusal.UnknownKey = cc in
    query-known history caller query (caller-known operator history k caller known) (is ∙ ap Some unknown)

-- what has no moment and is told what has no entry changes nothing
pub does-tell : (operator : List ℕ) (old : Held) (faults : ℕ) (c : Called) (said : Answer)
    → c.outcome ≡ outcome.Told
    → c.moment ≡ None
    → IsGiven c.ask c.moment
    → Tells old.history (caller_on operator old.history c.key) c.ask c.moment said
    → IsEntryless said
    → IsLegal old.history
    → Does operator old old faults faults c said
does-tell operator old faults c said told timeless given tells none legal = record {
  at = old.history;
  legal = legal;
  settled = inl refl;
  grown = sym (append-nil old.history) ∙ ap (λ (o : Outcome). old.history ++ added_by o) (sym told);
  doubt = inr (inl (refl, refl));
  sure = λ at caller said' is known told'. absurd (let some : None ≡ Some at = sym timeless ∙ is in
      let bad : ⊥ = cc in bad);
  comes_out = subst (λ (o : Outcome). ComesOut operator old.history c o faults faults) (sym told) (said, tells, none);
  in_range = subst (λ (o : Outcome). HasRange o) (sym told) tt;
  given = given;
  least = omega arith;
  answer = subst (λ (o : Outcome). IsAnswerBy operator old.history c o said) (sym told) tells;
}

-- a query for which there was no memory changes nothing
pub does-lack_query : (operator : List ℕ) (old : Held) (faults : ℕ) (k : Key) (query : Query)
    → IsLegal old.history
    → Does operator old old faults faults (query_call k query outcome.Lacked) answer.OutOfMemory
does-lack_query operator old faults k query legal =
    does-nothing operator old old faults faults (query_call k query outcome.Lacked) answer.OutOfMemory
    refl refl refl refl tt refl refl legal tt (λ at caller given is known told. absurd (let bad : ⊥ = cc in bad))

-- what is held by two desks with one history and one group in doubt is the same
pub held-same : (old mid : Held) → mid.history ≡ old.history → mid.doubt ≡ old.doubt → mid ≡ old
held-same old mid history doubt = λ i. record { history = history i; doubt = doubt i }

-- a call does what it does from the desk that made room for it
pub does-from : (operator : List ℕ) (old mid new : Held) (low more high : ℕ) (c : Called) (said : Answer)
    → mid.history ≡ old.history
    → mid.doubt ≡ old.doubt
    → more ≡ low
    → Does operator mid new more high c said
    → Does operator old new low high c said
does-from operator old mid new low more high c said history doubt faults does =
    subst (λ (n : ℕ). Does operator old new n high c said) faults
    (subst (λ (h : Held). Does operator h new more high c said) (held-same old mid history doubt) does)

-- nobody's query is refused
pub does-unknown_query : (operator : List ℕ) (old : Held) (faults : ℕ) (k : Key) (query : Query)
    → IsLegal old.history
    → caller_on operator old.history k ≡ None
    → Does operator old old faults faults (query_call k query outcome.Told) (refused refusal.UnknownKey)
does-unknown_query operator old faults k query legal nobody =
    does-tell operator old faults (query_call k query outcome.Told) (refused refusal.UnknownKey) refl refl refl
    (ap (λ (o : Option (List ℕ)). refusal_for old.history o query) nobody) tt legal

-- a caller's query is refused by the history
pub does-refused_query : (operator : List ℕ) (old : Held) (faults : ℕ) (k : Key) (caller : List ℕ) (query : Query)
    (why : Refusal)
    → IsLegal old.history
    → caller_on operator old.history k ≡ Some caller
    → query_refusal old.history caller query ≡ Some why
    → Does operator old old faults faults (query_call k query outcome.Told) (refused why)
does-refused_query operator old faults k caller query why legal known is =
    does-tell operator old faults (query_call k query outcome.Told) (refused why) refl refl refl
    (ap (λ (o : Option (List ℕ)). refusal_for old.history o query) known ∙ is) tt legal

-- a reading is given where the query isn't refused
pub not-refused : (result : Result Reading QueryRefused) (reading : Reading) (why : Option Refusal)
    → result ≡ Ok reading
    → ((r : Refusal) → (result ≡ Err (core.Refused r)) ↔ (why ≡ Some r))
    → why ≡ None
not-refused result reading None is refusals = refl
not-refused result reading (Some r) is refusals =
    absurd (let failed : result ≡ Err (core.Refused r) = (refusals r).1 refl in
    let bad : Ok reading ≡ Err (core.Refused r) = sym is ∙ failed in let wrong : ⊥ = cc in wrong)

-- a caller's query is told its reading
pub does-read : (operator : List ℕ) (old : Held) (faults : ℕ) (k : Key) (caller : List ℕ) (query : Query)
    (reading : Reading)
    → IsLegal old.history
    → caller_on operator old.history k ≡ Some caller
    → query_refusal old.history caller query ≡ None
    → IsReading old.history caller query reading
    → Does operator old old faults faults (query_call k query outcome.Told) (answer.Reading reading)
does-read operator old faults k caller query reading legal known none is =
    does-tell operator old faults (query_call k query outcome.Told) (answer.Reading reading) refl refl refl
    (subst (λ (o : Option (List ℕ)). TellsQuery old.history o query (answer.Reading reading)) (sym known)
    (none, is)) tt legal

-- what couldn't be read has no entry
fault-entryless : (o : Option (List ℕ)) (why : Refusal) → IsEntryless (fault_for o why)
fault-entryless None why = tt
fault-entryless (Some caller) why = tt

-- and can be told
fault-told : (o : Option (List ℕ)) (why : Refusal) → CanBeTold (fault_for o why)
fault-told None why = tt
fault-told (Some caller) why = tt

-- what couldn't be read, as it is called
abbrev pub fault_call : Key → Ask → Called
fault_call k asked = record { key = k; ask = asked; moment = None; outcome = outcome.Told }

-- what couldn't be read is told by its fault
pub does-fault : (operator : List ℕ) (old : Held) (faults : ℕ) (k : Key) (asked : Ask) (why : Refusal)
    → IsLegal old.history
    → IsFaultOf asked why
    → Does operator old old faults faults (fault_call k asked) (fault_for (caller_on operator old.history k) why)
does-fault operator old faults k ask.BadJson why legal is =
    does-tell operator old faults (fault_call k ask.BadJson)
    (fault_for (caller_on operator old.history k) why) refl refl refl
    (ap (λ (r : Refusal). fault_for (caller_on operator old.history k) r) is)
    (fault-entryless (caller_on operator old.history k) why) legal
does-fault operator old faults k (ask.BadShape member) why legal is =
    does-tell operator old faults (fault_call k (ask.BadShape member))
    (fault_for (caller_on operator old.history k) why)
    refl refl refl (ap (λ (r : Refusal). fault_for (caller_on operator old.history k) r) is)
    (fault-entryless (caller_on operator old.history k) why) legal
does-fault operator old faults k (ask.Message number message) why legal is = absurd is
does-fault operator old faults k (ask.Query query) why legal is = absurd is

-- and so is a call of the room
pub calls-fault : {D C : Type 0} (disk : D → DiskState) (clock : C → ClockState) (room : Room D C)
    (k : Key) (asked : Ask)
    (why : Refusal)
    → IsLegal room.desk.host.history
    → IsFaultOf asked why
    → CrashesLeave (IsOneOf (held room.desk) (held room.desk)) (disk room.desk.disk) (disk room.desk.disk)
    → Calls disk clock room room (fault_call k asked) (fault_for (caller_on room.operator room.desk.host.history k) why)
calls-fault disk clock room k asked why legal is still = record {
  does = does-fault room.operator (held room.desk) room.desk.faults k asked why legal is;
  reads = refl;
  same = record { operator = refl; opened = refl; recovered = refl };
  printable = fault-told (caller_on room.operator room.desk.host.history k) why;
  crash = still;
}
