-- The calls of a group, each answered on what the calls before it left.
use Rattle.std.proofs.Common.{◌≡◌, ℕ, ◌+◌, ◌-◌, ◌≤◌, ◌<◌, ◌⊎◌, inl, inr, max, set, suc, Option, Some, None, List, [], ◌∷◌, ◌++◌, length, map, replicate, refl, sym, ◌∙◌, ap, subst, arith, append_assoc}
use Rattle.std.specs.Prelude.{All, true}
use Rattle.std.proofs.lemmas.List.{append-nil, length-map, length-replicate, map_push, replicate_more, set_at}
use Rattle.std.proofs.lemmas.List.Elements.{All-nil, All-cons, All-head, All-tail}
use Rattle.tb_units.specs.declared.moment.Moment.{Moment}
use Rattle.tb_units.specs.Moments.{moment_of, moment_of-seconds}
use Rattle.tb_units.specs.Names.{is_name}
use Rattle.tb_link.specs.Counts.{last_count}
use Rattle.tb_terms.specs.declared.refusal.Refusal.TheVariants as refusal
use Rattle.tb_disk.specs.Disks.{DiskState}
use Rattle.tb_message.specs.declared.key.Key.{Key}
use Rattle.tb_message.specs.declared.message.Entry.{Entry}
use Rattle.tb_message.specs.declared.message.Message.{Message}
use Rattle.tb_message.specs.declared.verdict.Verdict.{Verdict}
use Rattle.tb_message.specs.declared.verdict.Verdict.TheVariants as verdict
use Rattle.tb_message.specs.Spelling.{IsInRange, IsNumbered}
use Rattle.tb_history.specs.Answer.{verdict_for}
use Rattle.tb_history.specs.Legal.{IsLegal, Longer, last_of, running}
use Rattle.tb_history.specs.Verdict.{verdict_on}
use Rattle.tb_history.proofs.HistoryLemmas.{last_of-push, running-seconds}
use Rattle.tb_desk.specs.Turn.{Held, Asked, Replies, IsTurn, Turns, AreNumbered, added_by as added_as, added as added_on, verdicts_on, group_on}
use Rattle.tb_desk.specs.declared.reply.GroupReply.TheVariants as reply
use Rattle.tb_desk.specs.Desks.{CountsFault, Tells as DeskTells}
use Rattle.tb_session.specs.declared.answer.Answer.{Answer}
use Rattle.tb_session.specs.declared.answer.Answer.TheVariants as answer
use Rattle.tb_session.specs.declared.answer.GroupAnswer.TheVariants as told
use Rattle.tb_session.specs.declared.called.Ask.TheVariants as ask
use Rattle.tb_session.specs.declared.groups.Grouped.{Grouped}
use Rattle.tb_session.specs.declared.groups.Grouped.TheVariants as grouped
use Rattle.tb_session.specs.Calls.{caller_on, refused, Faulted, Tells, TellsUnknown}
use Rattle.tb_session.specs.Groups.{Replied, said_in, added_in, IsReplied, AreReplied, in_doubt, LeaveDoubt, DoTogether, AreCallsOf, TellsGroup, TellUnknown, replied_in, replied_by}
use Rattle.tb_session.specs.Turned.{IsSure, added_by, outcome_by}
use Rattle.tb_session.proofs.CallerLemmas.{caller_on-append, repeat-is, accepted-is}
use Rattle.tb_session.proofs.DoesLemmas.{held-same, tells-verdict, moment-in_range, tells-known, tells-unknown, faulted}
use Rattle.tb_session.proofs.UnknownLemmas.{caller-known, verdict-known}

-- the calls are of the messages, however they came out
pub are-calls : (k : Key) (moment : Moment) (came : Grouped) (messages : List (ℕ × Message))
    (places : List (Option Verdict))
    → AreCallsOf k moment messages (replied_by k moment came messages places)
are-calls k moment came [] places = tt
are-calls k moment came (asked ∷ messages) [] = (refl, refl, refl, are-calls k moment came messages [])
are-calls k moment came (asked ∷ messages) (place ∷ places) =
    (refl, refl, refl, are-calls k moment came messages places)

-- the entries that a verdict adds, in the desk's words and in those of calls
added-told : (history : List Entry) (caller : List ℕ) (ran : Moment) (asked : ℕ × Message) (said : Verdict)
    → verdict_on history caller asked.0 ran asked.1 ≡ said
    → added_as caller ran asked said ≡ added_by (outcome_by caller asked.0 asked.1 said)
added-told history caller ran asked (verdict.Accepted n m) is =
    let whole = accepted-is history caller asked.0 n ran m asked.1 is in
    let moment_is : ran ≡ m = cc in
    ap (λ (t : Moment). record { submitter = caller; number = asked.0; moment = t; message = asked.1 } ∷ []) moment_is
added-told history caller ran asked (verdict.Repeat n m) is = refl
added-told history caller ran asked (verdict.Refused why) is = refl

module _ (operator : List ℕ) (k : Key) (caller : List ℕ) (moment ran : Moment) where
  -- a history on which a bid of the group may be answered: the caller is known there, and this is the running moment
  pub record MayAnswer (history : List Entry) : Type 0 where
    pub legal : IsLegal history
    pub known : caller_on operator history k ≡ Some caller
    pub runs : ran.seconds ≡ max moment.seconds (last_of history)

  -- a history that is told its legality, its caller and its running moment is such a one
  pub may-answer : (history : List Entry) → IsLegal history → caller_on operator history k ≡ Some caller
      → ran ≡ running history moment
      → MayAnswer history
  may-answer history legal known is = record {
    legal = legal;
    known = known;
    runs = ap (λ (t : Moment). t.seconds) is ∙ running-seconds history moment;
  }

  -- the running moment is that of the history
  runs-at : (history : List Entry) → MayAnswer history → ran ≡ running history moment
  runs-at history may = sym (moment_of-seconds ran) ∙ ap moment_of may.runs

  -- a history to which nothing is added is still such a one
  may-same : (history : List Entry) → MayAnswer history → MayAnswer (history ++ [])
  may-same history may = subst (λ (l : List Entry). MayAnswer l) (sym (append-nil history)) may

  -- the entry of a numbered message of a named caller is in range
  entry-range : (number : ℕ) (message : Message) → is_name caller ≡ true → IsNumbered number message → (at : Moment)
      → IsInRange (record { submitter = caller; number = number; moment = at; message = message })
  entry-range number message named numbered at = record {
    head = (named, (numbered.number_fits, (moment-in_range at, tt)));
    body = numbered.message_fits;
  }

  -- so is the history behind a bid that was answered on it
  may-next : (history : List Entry) (asked : ℕ × Message) (said : Verdict)
      → is_name caller ≡ true
      → IsNumbered asked.0 asked.1
      → MayAnswer history
      → verdict_on history caller asked.0 ran asked.1 ≡ said
      → MayAnswer (history ++ added_as caller ran asked said)
  may-next history asked (verdict.Accepted n m) named numbered may is =
      let entry : Entry = record { submitter = caller; number = asked.0; moment = ran; message = asked.1 } in
      let whole = accepted-is history caller asked.0 n ran m asked.1 is in
      record {
        legal = Longer history entry may.legal record {
          in_range = entry-range asked.0 asked.1 named numbered ran;
          in_time = omega (arith, may.runs);
          accepted = is ∙ sym whole;
        };
        known = caller_on-append operator history (entry ∷ []) k caller may.known;
        runs = omega (arith, may.runs, last_of-push 946702800 history entry);
      }
  may-next history asked (verdict.Repeat n m) named numbered may is = may-same history may
  may-next history asked (verdict.Refused why) named numbered may is = may-same history may

  -- a bid that was told its verdict
  one-told : (history : List Entry) (low high : ℕ) (asked : ℕ × Message) (said : Verdict)
      → is_name caller ≡ true
      → IsNumbered asked.0 asked.1
      → MayAnswer history
      → verdict_on history caller asked.0 ran asked.1 ≡ said
      → IsReplied operator history low high (replied_in k moment (grouped.Told caller) asked (Some said))
  one-told history low high asked (verdict.Accepted n m) named numbered may is =
      let whole = accepted-is history caller asked.0 n ran m asked.1 is in
      let number_is : asked.0 ≡ n = cc in
      let moment_is : ran ≡ m = cc in
      let accepted : verdict_on history caller asked.0 m asked.1 ≡ verdict.Accepted asked.0 m =
      ap (λ (t : Moment). verdict_on history caller asked.0 t asked.1) (sym moment_is)
      ∙ (is ∙ ap (λ (x : ℕ). verdict.Accepted x m) (sym number_is)) in
      record {
        legal = may.legal;
        comes_out = (
          record { asked = refl; caller = may.known },
          (moment, refl, sym moment_is ∙ runs-at history may),
          accepted,
        );
        in_range = entry-range asked.0 asked.1 named numbered m;
        given = (moment, refl);
        answer = tells-verdict operator history k caller asked.0 moment asked.1 (verdict.Accepted n m) may.known
            (sym is ∙ ap (λ (t : Moment). verdict_on history caller asked.0 t asked.1) (runs-at history may));
      }
  one-told history low high asked (verdict.Repeat n m) named numbered may is =
      let stands = repeat-is history caller asked.0 n ran m asked.1 is in
      let at : verdict_on history caller asked.0 (running history moment) asked.1 ≡ verdict.Repeat n m =
      ap (λ (t : Moment). verdict_on history caller asked.0 t asked.1) (sym (runs-at history may)) ∙ is in
      record {
        legal = may.legal;
        comes_out = (
          record { asked = refl; caller = may.known },
          stands.stands,
          (
            running history moment,
            (moment, refl, refl),
            at ∙ ap (λ (x : ℕ). verdict.Repeat x m) stands.number_is,
          ),
        );
        in_range = entry-range asked.0 asked.1 named numbered m;
        given = (moment, refl);
        answer = tells-verdict operator history k caller asked.0 moment asked.1 (verdict.Repeat n m) may.known (sym at);
      }
  one-told history low high asked (verdict.Refused why) named numbered may is =
      let at : verdict_on history caller asked.0 (running history moment) asked.1 ≡ verdict.Refused why =
      ap (λ (t : Moment). verdict_on history caller asked.0 t asked.1) (sym (runs-at history may)) ∙ is in
      let tells =
      tells-verdict operator history k caller asked.0 moment asked.1 (verdict.Refused why) may.known (sym at) in
      record {
        legal = may.legal;
        comes_out = (answer.Verdict (verdict.Refused why), tells, tt);
        in_range = tt;
        given = (moment, refl);
        answer = tells;
      }

  -- bids that were told their verdicts, one after the other
  pub all-told : (messages : List (ℕ × Message)) (history : List Entry) (low high : ℕ) (rest : List (Option Verdict))
      → is_name caller ≡ true
      → AreNumbered messages
      → MayAnswer history
      → AreReplied operator history low high
      (replied_by k moment (grouped.Told caller) messages (map Some (verdicts_on history caller ran messages) ++ rest))
  all-told [] history low high rest named numbered may = tt
  all-told (asked ∷ messages) history low high rest named numbered may =
      let Numbered : ℕ × Message → Type 0 = λ (one : ℕ × Message). IsNumbered one.0 one.1 in
      let said : Verdict = verdict_on history caller asked.0 ran asked.1 in
      let fits = All-head Numbered asked messages numbered in (
        one-told history low high asked said named fits may refl,
        subst (λ (l : List Entry). AreReplied operator (history ++ l) low high
            (replied_by k moment (grouped.Told caller) messages
            (map Some (verdicts_on (history ++ added_on history caller ran asked) caller ran messages) ++ rest)))
            (added-told history caller ran asked said refl)
            (all-told messages (history ++ added_on history caller ran asked) low high rest named
            (All-tail Numbered asked messages numbered) (may-next history asked said named fits may refl)),
      )

  -- the history grows by their group
  pub told-grown : (messages : List (ℕ × Message)) (history : List Entry) (rest : List (Option Verdict))
      → group_on history caller ran messages
      ≡ added_in (replied_by k moment (grouped.Told caller) messages
      (map Some (verdicts_on history caller ran messages) ++ rest))
  told-grown [] history rest = refl
  told-grown (asked ∷ messages) history rest =
      let said : Verdict = verdict_on history caller asked.0 ran asked.1 in
      let here : List Entry = added_on history caller ran asked in
      let later = told-grown messages (history ++ here) rest in
      ap (λ (l : List Entry). here ++ l) later
      ∙ ap (λ (l : List Entry). l ++ added_in (replied_by k moment (grouped.Told caller) messages
      (map Some (verdicts_on (history ++ here) caller ran messages) ++ rest)))
      (added-told history caller ran asked said refl)

  -- what they are answered
  pub told-said : (messages : List (ℕ × Message)) (given : List Verdict) (rest : List (Option Verdict))
      → length given ≡ length messages
      → said_in (replied_by k moment (grouped.Told caller) messages (map Some given ++ rest)) ≡ map answer.Verdict given
  told-said [] [] rest same = refl
  told-said [] (said ∷ given) rest same = absurd (let bad : ⊥ = omega (arith, same) in bad)
  told-said (asked ∷ messages) [] rest same = absurd (let bad : ⊥ = omega (arith, same) in bad)
  told-said (asked ∷ messages) (said ∷ given) rest same =
      ap (λ (l : List Answer). answer.Verdict said ∷ l) (told-said messages given rest (omega (arith, same)))

  -- there is a verdict for each
  pub told-length : (messages : List (ℕ × Message)) (history : List Entry)
      → length (verdicts_on history caller ran messages) ≡ length messages
  told-length [] history = refl
  told-length (asked ∷ messages) history =
      omega (arith, told-length messages (history ++ added_on history caller ran asked))

  -- none of which says that the key is unknown
  pub told-known : (messages : List (ℕ × Message)) (history : List Entry) (rest : List (Option Verdict))
      (asks : Option (List ℕ))
      → asks ≡ Some caller
      → is_name caller ≡ true
      → AreNumbered messages
      → MayAnswer history
      → TellUnknown asks (replied_by k moment (grouped.Told caller) messages
      (map Some (verdicts_on history caller ran messages) ++ rest))
  told-known [] history rest asks is named numbered may = All-nil _
  told-known (asked ∷ messages) history rest asks is named numbered may =
      let Numbered : ℕ × Message → Type 0 = λ (one : ℕ × Message). IsNumbered one.0 one.1 in
      let said : Verdict = verdict_on history caller asked.0 ran asked.1 in
      All-cons (λ (r : Replied). TellsUnknown asks r.said)
      (replied_in k moment (grouped.Told caller) asked (Some said)) _
      (tells-known asks caller (answer.Verdict said) is
      (λ same. verdict-known history caller asked.0 ran asked.1 (caller-known operator history k caller may.known)
      (let unknown : said ≡ verdict.Refused refusal.UnknownKey = cc in unknown)))
      (told-known messages (history ++ added_on history caller ran asked) rest asks is named
      (All-tail Numbered asked messages numbered)
      (may-next history asked said named (All-head Numbered asked messages numbered) may refl))

  -- ---- bids that met a fault

  -- a group that met a fault, as this caller's at this moment
  abbrev doubted : Grouped
  doubted = grouped.Doubted caller ran

  -- each of its bids is answered a disk fault, and may have left its entry
  one-doubted : (history : List Entry) (low high : ℕ) (asked : ℕ × Message) (place : Option Verdict)
      → is_name caller ≡ true
      → IsNumbered asked.0 asked.1
      → MayAnswer history
      → Faulted low high
      → IsReplied operator history low high (replied_in k moment doubted asked place)
  one-doubted history low high asked place named numbered may faults = record {
    legal = may.legal;
    comes_out = (record { asked = refl; caller = may.known }, (moment, refl, runs-at history may), faults);
    in_range = entry-range asked.0 asked.1 named numbered ran;
    given = (moment, refl);
    answer = refl;
  }

  -- each is recorded on the history that stands
  pub all-doubted : (messages : List (ℕ × Message)) (places : List (Option Verdict)) (history : List Entry)
      (low high : ℕ)
      → is_name caller ≡ true
      → AreNumbered messages
      → MayAnswer history
      → Faulted low high
      → AreReplied operator history low high (replied_by k moment doubted messages places)
  all-doubted [] places history low high named numbered may faults = tt
  all-doubted (asked ∷ messages) [] history low high named numbered may faults =
      let Numbered : ℕ × Message → Type 0 = λ (one : ℕ × Message). IsNumbered one.0 one.1 in (
        one-doubted history low high asked None named (All-head Numbered asked messages numbered) may faults,
        all-doubted messages [] (history ++ []) low high named (All-tail Numbered asked messages numbered)
            (may-same history may) faults,
      )
  all-doubted (asked ∷ messages) (place ∷ places) history low high named numbered may faults =
      let Numbered : ℕ × Message → Type 0 = λ (one : ℕ × Message). IsNumbered one.0 one.1 in (
        one-doubted history low high asked place named (All-head Numbered asked messages numbered) may faults,
        all-doubted messages places (history ++ []) low high named (All-tail Numbered asked messages numbered)
            (may-same history may) faults,
      )

  -- none adds an entry
  pub doubted-grown : (messages : List (ℕ × Message)) (places : List (Option Verdict))
      → added_in (replied_by k moment doubted messages places) ≡ []
  doubted-grown [] places = refl
  doubted-grown (asked ∷ messages) [] = doubted-grown messages []
  doubted-grown (asked ∷ messages) (place ∷ places) = doubted-grown messages places

  -- each is answered a disk fault
  pub doubted-said : (messages : List (ℕ × Message)) (places : List (Option Verdict))
      → All (λ a. a ≡ answer.DiskFault) (said_in (replied_by k moment doubted messages places))
  doubted-said [] places = All-nil _
  doubted-said (asked ∷ messages) [] =
      All-cons (λ (a : Answer). a ≡ answer.DiskFault) answer.DiskFault _ refl (doubted-said messages [])
  doubted-said (asked ∷ messages) (place ∷ places) =
      All-cons (λ (a : Answer). a ≡ answer.DiskFault) answer.DiskFault _ refl (doubted-said messages places)

  -- what they would add is the group of the desk
  pub doubted-group : (messages : List (ℕ × Message)) (places : List (Option Verdict)) (history : List Entry)
      → in_doubt history (replied_by k moment doubted messages places) ≡ group_on history caller ran messages
  doubted-group [] places history = refl
  doubted-group (asked ∷ messages) [] history =
      ap (λ (l : List Entry). added_on history caller ran asked ++ l)
      (doubted-group messages [] (history ++ added_on history caller ran asked))
  doubted-group (asked ∷ messages) (place ∷ places) history =
      ap (λ (l : List Entry). added_on history caller ran asked ++ l)
      (doubted-group messages places (history ++ added_on history caller ran asked))

  -- and none is told that the key is unknown
  pub doubted-known : (messages : List (ℕ × Message)) (places : List (Option Verdict)) (asks : Option (List ℕ))
      → asks ≡ Some caller
      → TellUnknown asks (replied_by k moment doubted messages places)
  doubted-known messages places asks is =
      all-known messages places
    where
      all-known : (messages : List (ℕ × Message)) (places : List (Option Verdict))
          → TellUnknown asks (replied_by k moment doubted messages places)
      all-known [] places = All-nil _
      all-known (asked ∷ messages) [] =
          All-cons (λ (r : Replied). TellsUnknown asks r.said) (replied_in k moment doubted asked None) _
          (tells-known asks caller answer.DiskFault is (λ same. cc)) (all-known messages [])
      all-known (asked ∷ messages) (place ∷ places) =
          All-cons (λ (r : Replied). TellsUnknown asks r.said) (replied_in k moment doubted asked place) _
          (tells-known asks caller answer.DiskFault is (λ same. cc)) (all-known messages places)

-- where nothing is in doubt each call is sure
all-sure : (operator : List ℕ) (at doubt : List Entry)
    → doubt ≡ []
    → (replied : List Replied)
    → All (λ r. IsSure operator at r.called r.said doubt) replied
all-sure operator at doubt none [] = All-nil _
all-sure operator at doubt none (r ∷ replied) =
    All-cons (λ (x : Replied). IsSure operator at x.called x.said doubt) r replied (λ _ _ _ _ _ _. none)
    (all-sure operator at doubt none replied)

-- so is one that isn't told a verdict
never-told : (operator : List ℕ) (at doubt : List Entry) (other : Answer)
    → ((given : Verdict) → other ≡ answer.Verdict given → ⊥)
    → (replied : List Replied)
    → All (λ a. a ≡ other) (said_in replied)
    → All (λ r. IsSure operator at r.called r.said doubt) replied
never-told operator at doubt other never [] all = All-nil _
never-told operator at doubt other never (r ∷ replied) all =
    All-cons (λ (x : Replied). IsSure operator at x.called x.said doubt) r replied
    (λ moment caller given is known told.
    absurd (never given (sym (All-head (λ (a : Answer). a ≡ other) r.said (said_in replied) all) ∙ told)))
    (never-told operator at doubt other never replied
    (All-tail (λ (a : Answer). a ≡ other) r.said (said_in replied) all))

-- ---- bids of nobody, and bids for which there was no memory

-- the verdict on the message of nobody
abbrev unknown_said : Verdict
unknown_said = verdict.Refused refusal.UnknownKey

-- one place more tells it
pub places-more : (said : Verdict) (places : List (Option Verdict)) (count : ℕ)
    → count < 64
    → places ≡ map Some (replicate count said) ++ replicate (64 - count) None
    → set places count (Some said) ≡ map Some (replicate (count + 1) said) ++ replicate (64 - (count + 1)) None
places-more said places count few is =
    let front : List (Option Verdict) = map Some (replicate count said) in
    let rest : List (Option Verdict) = replicate (64 - (count + 1)) None in
    let room : 64 - count ≡ suc (64 - (count + 1)) = omega (arith, few) in
    let long : length front ≡ count =
    omega (arith, length-map (replicate count said) Some, length-replicate count said) in
    ap (λ (l : List (Option Verdict)). set l count (Some said)) (is ∙ ap (λ (n : ℕ). front ++ replicate n None) room)
    ∙ (set_at front None rest (Some said) count long
    ∙ (sym (append_assoc front (Some said ∷ []) rest)
    ∙ ap (λ (l : List (Option Verdict)). l ++ rest)
    (sym (map_push Some (replicate count said) said)
    ∙ ap (λ (l : List Verdict). map Some l) (replicate_more count said))))

module _ (operator : List ℕ) (k : Key) (moment : Moment) where
  -- a bid with a key of nobody is told that the key is unknown
  one-unknown : (history : List Entry) (faults : ℕ) (asked : ℕ × Message) (place : Option Verdict)
      → IsLegal history
      → caller_on operator history k ≡ None
      → IsReplied operator history faults faults (replied_in k moment grouped.Unknown asked place)
  one-unknown history faults asked place legal nobody =
      let tells : Tells history (caller_on operator history k) (ask.Message asked.0 asked.1) (Some moment)
      (refused refusal.UnknownKey) =
      ap answer.Verdict
      (ap (λ (o : Option (List ℕ)). verdict_for history o asked.0 moment asked.1) (sym nobody)) in
      record {
        legal = legal;
        comes_out = (refused refusal.UnknownKey, tells, tt);
        in_range = tt;
        given = (moment, refl);
        answer = tells;
      }

  -- so is each bid of a group
  all-unknown : (messages : List (ℕ × Message)) (places : List (Option Verdict)) (history : List Entry) (faults : ℕ)
      → IsLegal history
      → caller_on operator history k ≡ None
      → AreReplied operator history faults faults (replied_by k moment grouped.Unknown messages places)
  all-unknown [] places history faults legal nobody = tt
  all-unknown (asked ∷ messages) [] history faults legal nobody = (
    one-unknown history faults asked None legal nobody,
    subst (λ (l : List Entry). AreReplied operator l faults faults (replied_by k moment grouped.Unknown messages []))
        (sym (append-nil history)) (all-unknown messages [] history faults legal nobody),
  )
  all-unknown (asked ∷ messages) (place ∷ places) history faults legal nobody = (
    one-unknown history faults asked place legal nobody,
    subst (λ (l : List Entry). AreReplied operator l faults faults
        (replied_by k moment grouped.Unknown messages places))
        (sym (append-nil history)) (all-unknown messages places history faults legal nobody),
  )

  -- they add nothing
  unknown-grown : (messages : List (ℕ × Message)) (places : List (Option Verdict))
      → added_in (replied_by k moment grouped.Unknown messages places) ≡ []
  unknown-grown [] places = refl
  unknown-grown (asked ∷ messages) [] = unknown-grown messages []
  unknown-grown (asked ∷ messages) (place ∷ places) = unknown-grown messages places

  -- each is answered that verdict
  unknown-said : (messages : List (ℕ × Message)) (places : List (Option Verdict))
      → said_in (replied_by k moment grouped.Unknown messages places)
      ≡ map answer.Verdict (replicate (length messages) unknown_said)
  unknown-said [] places = refl
  unknown-said (asked ∷ messages) [] =
      ap (λ (l : List Answer). answer.Verdict unknown_said ∷ l) (unknown-said messages [])
  unknown-said (asked ∷ messages) (place ∷ places) =
      ap (λ (l : List Answer). answer.Verdict unknown_said ∷ l) (unknown-said messages places)

  -- each place tells so, and the others nothing
  pub unknown-tells : (messages : List (ℕ × Message)) (places : List (Option Verdict))
      → places ≡ map Some (replicate (length messages) unknown_said) ++ replicate (64 - length messages) None
      → TellsGroup told.Verdicts places (said_in (replied_by k moment grouped.Unknown messages places))
  unknown-tells messages places is = (
    replicate (length messages) unknown_said,
    unknown-said messages places,
    is ∙ ap (λ (n : ℕ). map Some (replicate (length messages) unknown_said) ++ replicate (64 - n) None)
        (sym (length-replicate (length messages) unknown_said)),
  )

  -- the key of calls that are told so is unknown
  pub unknown-unknown : (messages : List (ℕ × Message)) (places : List (Option Verdict)) (asks : Option (List ℕ))
      → asks ≡ None
      → TellUnknown asks (replied_by k moment grouped.Unknown messages places)
  unknown-unknown messages places asks is =
      all messages places
    where
      all : (messages : List (ℕ × Message)) (places : List (Option Verdict))
          → TellUnknown asks (replied_by k moment grouped.Unknown messages places)
      all [] places = All-nil _
      all (asked ∷ messages) [] =
          All-cons (λ (r : Replied). TellsUnknown asks r.said) (replied_in k moment grouped.Unknown asked None) _
          (tells-unknown asks (refused refusal.UnknownKey) is refl) (all messages [])
      all (asked ∷ messages) (place ∷ places) =
          All-cons (λ (r : Replied). TellsUnknown asks r.said) (replied_in k moment grouped.Unknown asked place) _
          (tells-unknown asks (refused refusal.UnknownKey) is refl) (all messages places)

  -- whose key has no caller on this history
  unknown-sure : (messages : List (ℕ × Message)) (places : List (Option Verdict)) (history doubt : List Entry)
      → caller_on operator history k ≡ None
      → All (λ r. IsSure operator history r.called r.said doubt) (replied_by k moment grouped.Unknown messages places)
  unknown-sure messages places history doubt nobody = all messages places
    where
      Sure : Replied → Type 0
      Sure r = IsSure operator history r.called r.said doubt

      never : (asked : ℕ × Message) (place : Option Verdict) → Sure (replied_in k moment grouped.Unknown asked place)
      never asked place at caller given is known told =
          absurd (let none : None ≡ Some caller = sym nobody ∙ known in let bad : ⊥ = cc in bad)

      all : (messages : List (ℕ × Message)) (places : List (Option Verdict))
          → All Sure (replied_by k moment grouped.Unknown messages places)
      all [] places = All-nil _
      all (asked ∷ messages) [] =
          All-cons Sure (replied_in k moment grouped.Unknown asked None) _ (never asked None)
          (all messages [])
      all (asked ∷ messages) (place ∷ places) =
          All-cons Sure (replied_in k moment grouped.Unknown asked place) _
          (never asked place) (all messages places)

  -- nobody's bids are refused, and nothing changes
  pub together-unknown : (messages : List (ℕ × Message)) (places : List (Option Verdict)) (old : Held) (faults : ℕ)
      → IsLegal old.history
      → caller_on operator old.history k ≡ None
      → DoTogether operator old old faults faults (replied_by k moment grouped.Unknown messages places)
  together-unknown messages places old faults legal nobody = record {
    at = old.history;
    settled = inl refl;
    grown = sym (append-nil old.history)
        ∙ ap (λ (l : List Entry). old.history ++ l) (sym (unknown-grown messages places));
    doubt = inr (inl (refl, refl));
    sure = unknown-sure messages places old.history old.doubt nobody;
    answered = all-unknown messages places old.history faults legal nobody;
    least = omega arith;
  }

  -- bids for which there was no memory are each answered so, on an unchanged history
  all-lacked : (messages : List (ℕ × Message)) (places : List (Option Verdict)) (history : List Entry) (low high : ℕ)
      → IsLegal history
      → AreReplied operator history low high (replied_by k moment grouped.Lacked messages places)
  all-lacked [] places history low high legal = tt
  all-lacked (asked ∷ messages) [] history low high legal = (
    record { legal = legal; comes_out = tt; in_range = tt; given = (moment, refl); answer = refl },
    all-lacked messages [] (history ++ []) low high (subst IsLegal (sym (append-nil history)) legal),
  )
  all-lacked (asked ∷ messages) (place ∷ places) history low high legal = (
    record { legal = legal; comes_out = tt; in_range = tt; given = (moment, refl); answer = refl },
    all-lacked messages places (history ++ []) low high (subst IsLegal (sym (append-nil history)) legal),
  )

  -- they add nothing
  lacked-grown : (messages : List (ℕ × Message)) (places : List (Option Verdict))
      → added_in (replied_by k moment grouped.Lacked messages places) ≡ []
  lacked-grown [] places = refl
  lacked-grown (asked ∷ messages) [] = lacked-grown messages []
  lacked-grown (asked ∷ messages) (place ∷ places) = lacked-grown messages places

  -- each is answered want of memory
  pub lacked-said : (messages : List (ℕ × Message)) (places : List (Option Verdict))
      → All (λ a. a ≡ answer.OutOfMemory) (said_in (replied_by k moment grouped.Lacked messages places))
  lacked-said [] places = All-nil _
  lacked-said (asked ∷ messages) [] =
      All-cons (λ (a : Answer). a ≡ answer.OutOfMemory) answer.OutOfMemory _ refl (lacked-said messages [])
  lacked-said (asked ∷ messages) (place ∷ places) =
      All-cons (λ (a : Answer). a ≡ answer.OutOfMemory) answer.OutOfMemory _ refl (lacked-said messages places)

  -- and none is told that the key is unknown
  pub lacked-known : (messages : List (ℕ × Message)) (places : List (Option Verdict)) (asks : Option (List ℕ))
      (caller : List ℕ)
      → asks ≡ Some caller
      → TellUnknown asks (replied_by k moment grouped.Lacked messages places)
  lacked-known messages places asks caller is =
      all messages places
    where
      all : (messages : List (ℕ × Message)) (places : List (Option Verdict))
          → TellUnknown asks (replied_by k moment grouped.Lacked messages places)
      all [] places = All-nil _
      all (asked ∷ messages) [] =
          All-cons (λ (r : Replied). TellsUnknown asks r.said) (replied_in k moment grouped.Lacked asked None) _
          (tells-known asks caller answer.OutOfMemory is (λ same. cc)) (all messages [])
      all (asked ∷ messages) (place ∷ places) =
          All-cons (λ (r : Replied). TellsUnknown asks r.said) (replied_in k moment grouped.Lacked asked place) _
          (tells-known asks caller answer.OutOfMemory is (λ same. cc)) (all messages places)

  -- where there was no memory nothing changes
  pub together-lacked : (messages : List (ℕ × Message)) (places : List (Option Verdict)) (old new : Held) (low high : ℕ)
      → new.history ≡ old.history
      → new.doubt ≡ old.doubt
      → high ≡ low
      → IsLegal old.history
      → DoTogether operator old new low high (replied_by k moment grouped.Lacked messages places)
  together-lacked messages places old new low high history doubt faults legal = record {
    at = old.history;
    settled = inl refl;
    grown = history ∙ (sym (append-nil old.history)
        ∙ ap (λ (l : List Entry). old.history ++ l) (sym (lacked-grown messages places)));
    doubt = inr (inl (doubt, history));
    sure = never-told operator old.history new.doubt answer.OutOfMemory (λ given is. let bad : ⊥ = cc in bad)
        (replied_by k moment grouped.Lacked messages places) (lacked-said messages places);
    answered = all-lacked messages places old.history low high legal;
    least = omega (arith, faults);
  }

-- ---- what a turn of the desk does

module _ (operator : List ℕ) (k : Key) (caller : List ℕ) (moment : Moment) (messages : List (ℕ × Message)) (gate : ℕ)
    (disk : DiskState) (old new : Held) (low high : ℕ) where
  -- what a caller asks of a desk
  abbrev pub all_asked : Asked
  all_asked = record { submitter = caller; moment = moment; messages = messages }

  -- the caller may be known on the history on which the group is answered
  at_known : (at : List Entry) → caller_on operator old.history k ≡ Some caller
      → (at ≡ old.history) ⊎ (at ≡ old.history ++ old.doubt)
      → caller_on operator at k ≡ Some caller
  at_known at known (inl is) = subst (λ (l : List Entry). caller_on operator l k ≡ Some caller) (sym is) known
  at_known at known (inr is) =
      subst (λ (l : List Entry). caller_on operator l k ≡ Some caller) (sym is)
      (caller_on-append operator old.history old.doubt k caller known)

  -- what is said of a group that was told its verdicts
  pub record ToldTogether (places : List (Option Verdict)) : Type 0 where
    pub does : DoTogether operator old new low high (replied_by k moment (grouped.Told caller) messages places)
    pub tells : TellsGroup told.Verdicts places (said_in (replied_by k moment (grouped.Told caller) messages places))
    pub known : TellUnknown (Some caller) (replied_by k moment (grouped.Told caller) messages places)

  -- it is so, where the desk gave verdicts
  pub together-told : (places : List (Option Verdict)) (given : List Verdict)
      → is_name caller ≡ true
      → AreNumbered messages
      → caller_on operator old.history k ≡ Some caller
      → places ≡ map Some given ++ replicate (64 - length given) None
      → Turns gate disk all_asked old new (Some given)
      → high ≡ low
      → ToldTogether places
  together-told places given named numbered known are turns faults = go turns.turn
    where
      ran : Moment
      ran = running turns.at moment

      rest : List (Option Verdict)
      rest = replicate (64 - length given) None

      go : IsTurn gate disk all_asked old new (Some given) turns.at → ToldTogether places
      go (inl stuck) = absurd (let failed = stuck.0.failed in let bad : ⊥ = cc in bad)
      go (inr (resolves, inl answered)) =
          let may : MayAnswer operator k caller moment ran turns.at =
          may-answer operator k caller moment ran turns.at turns.legal (at_known turns.at known resolves.0) refl in
          let is : given ≡ verdicts_on turns.at caller ran messages = (let all = answered.given in cc) in
          let same : map Some (verdicts_on turns.at caller ran messages) ++ rest ≡ places =
          ap (λ (l : List Verdict). map Some l ++ rest) (sym is) ∙ sym are in
          let long : length given ≡ length messages =
          ap length is ∙ told-length operator k caller moment ran messages turns.at in
          record {
            does = record {
              at = turns.at;
              settled = resolves.0;
              grown = answered.grown ∙ ap (λ (l : List Entry). turns.at ++ l)
                  (told-grown operator k caller moment ran messages turns.at rest
                  ∙ ap (λ (l : List (Option Verdict)). added_in (replied_by k moment (grouped.Told caller) messages l))
                  same);
              doubt = inl answered.sure;
              sure = all-sure operator turns.at new.doubt answered.sure
                  (replied_by k moment (grouped.Told caller) messages places);
              answered = subst (λ (l : List (Option Verdict)). AreReplied operator turns.at low high
                  (replied_by k moment (grouped.Told caller) messages l)) same
                  (all-told operator k caller moment ran messages turns.at low high rest named numbered may);
              least = omega (arith, faults);
            };
            tells = (
              given,
              ap (λ (l : List (Option Verdict)). said_in (replied_by k moment (grouped.Told caller) messages l)) are
                  ∙ told-said operator k caller moment ran messages given rest long,
              are,
            );
            known = subst (λ (l : List (Option Verdict)). TellUnknown (Some caller)
                (replied_by k moment (grouped.Told caller) messages l)) same
                (told-known operator k caller moment ran messages turns.at rest (Some caller) refl named numbered may);
          }
      go (inr (resolves, inr doubted)) = absurd (let failed = doubted.failed in let bad : ⊥ = cc in bad)

  -- a group that met a fault may come to stand
  pub together-doubted : (places : List (Option Verdict)) (ran : Moment)
      → is_name caller ≡ true
      → AreNumbered messages
      → caller_on operator old.history k ≡ Some caller
      → Turns gate disk all_asked old new None
      → CountsFault None low high
      → low ≤ last_count
      → ran ≡ running new.history moment
      → DoTogether operator old new low high (replied_by k moment (grouped.Doubted caller ran) messages places)
  together-doubted places ran named numbered known turns counts limited runs = go turns.turn
    where
      faults : Faulted low high
      faults = faulted low high counts limited

      done : (at : List Entry) → (at ≡ old.history) ⊎ (at ≡ old.history ++ old.doubt) → new.history ≡ at → IsLegal at
          → LeaveDoubt old new at (replied_by k moment (grouped.Doubted caller ran) messages places)
          → DoTogether operator old new low high (replied_by k moment (grouped.Doubted caller ran) messages places)
      done at settled is legal doubt = record {
        at = at;
        settled = settled;
        grown = is ∙ (sym (append-nil at)
            ∙ ap (λ (l : List Entry). at ++ l) (sym (doubted-grown operator k caller moment ran messages places)));
        doubt = doubt;
        sure = never-told operator at new.doubt answer.DiskFault (λ given is. let bad : ⊥ = cc in bad)
            (replied_by k moment (grouped.Doubted caller ran) messages places)
            (doubted-said operator k caller moment ran messages places);
        answered = all-doubted operator k caller moment ran messages places at low high named numbered
            (may-answer operator k caller moment ran at legal (at_known at known settled)
            (runs ∙ ap (λ (l : List Entry). running l moment) is)) faults;
        least = faults.0;
      }

      go : IsTurn gate disk all_asked old new None turns.at
          → DoTogether operator old new low high (replied_by k moment (grouped.Doubted caller ran) messages places)
      go (inl stuck) =
          let history : new.history ≡ old.history = ap (λ (h : Held). h.history) stuck.0.same in
          done turns.at (inl stuck.1) (history ∙ sym stuck.1) turns.legal
          (inr (inl (ap (λ (h : Held). h.doubt) stuck.0.same, history)))
      go (inr (resolves, inl answered)) = absurd (let given = answered.given in let bad : ⊥ = cc in bad)
      go (inr (resolves, inr left)) =
          let is : ran ≡ running turns.at moment = runs ∙ ap (λ (l : List Entry). running l moment) left.same in
          done turns.at resolves.0 left.same turns.legal
          (inr (inr (left.unsure ∙ (ap (λ (t : Moment). group_on turns.at caller t messages) (sym is)
          ∙ sym (doubted-group operator k caller moment ran messages places turns.at)))))

  -- what the desk answered with verdicts is such a group
  pub group-told : (places : List (Option Verdict)) (replies : Replies)
      → is_name caller ≡ true
      → AreNumbered messages
      → caller_on operator old.history k ≡ Some caller
      → DeskTells reply.Verdicts places replies
      → Turns gate disk all_asked old new replies
      → high ≡ low
      → ToldTogether places
  group-told places None named numbered known tells turns faults = absurd tells
  group-told places (Some given) named numbered known tells turns faults =
      together-told places given named numbered known tells turns faults

  -- what the desk answered with a disk fault
  pub group-doubted : (places : List (Option Verdict)) (replies : Replies) (ran : Moment)
      → is_name caller ≡ true
      → AreNumbered messages
      → caller_on operator old.history k ≡ Some caller
      → DeskTells reply.DiskFault places replies
      → Turns gate disk all_asked old new replies
      → CountsFault None low high
      → low ≤ last_count
      → ran ≡ running new.history moment
      → DoTogether operator old new low high (replied_by k moment (grouped.Doubted caller ran) messages places)
  group-doubted places None ran named numbered known tells turns counts limited runs =
      together-doubted places ran named numbered known turns counts limited runs
  group-doubted places (Some given) ran named numbered known tells turns counts limited runs = absurd tells

-- the places tell nothing, where the desk met a fault
pub nothing-told : (places : List (Option Verdict)) (replies : Replies) → DeskTells reply.DiskFault places replies
    → places ≡ replicate 64 None
nothing-told places None tells = tells
nothing-told places (Some given) tells = absurd tells

-- calls do what they do from the desk that made room for them
pub together-from : (operator : List ℕ) (old mid new : Held) (low more high : ℕ) (replied : List Replied)
    → mid.history ≡ old.history
    → mid.doubt ≡ old.doubt
    → more ≡ low
    → DoTogether operator mid new more high replied
    → DoTogether operator old new low high replied
together-from operator old mid new low more high replied history doubt faults does =
    subst (λ (n : ℕ). DoTogether operator old new n high replied) faults
    (subst (λ (h : Held). DoTogether operator h new more high replied) (held-same old mid history doubt) does)
