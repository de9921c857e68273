-- Verdicts on messages one after another, and the entries that they add.
use Rattle.std.proofs.Common.{◌≡◌, inl, inr, ℕ, ◌+◌, ◌<◌, ◌≤◌, Bool, true, false, not, cond, nat_le, ◌&&◌, ◌-◌, Option, Some, None, List, [], ◌∷◌, ◌++◌, length, length-append, map, length-take, take, get_or, set, suc, replicate, refl, sym, ◌∙◌, ap, subst, arith, append_assoc}
use Rattle.std.specs.List.{All, filter}
use Rattle.std.proofs.lemmas.Bool.{cases_Bool, cases_lt}
use Rattle.std.proofs.lemmas.List.{append-nil, take_more, set_at, map_push, length-map}
use Rattle.std.proofs.lemmas.List.Elements.{All-append, All-head, All-tail, All-push, filter-append}
use Rattle.tb_units.specs.declared.moment.Moment.{Moment}
use Rattle.tb_units.specs.Names.{is_name}
use Rattle.tb_terms.specs.Rows.{Row, first_of}
use Rattle.tb_message.specs.declared.message.Entry.{Entry}
use Rattle.tb_message.specs.declared.message.Message.{Message}
use Rattle.tb_message.specs.declared.verdict.Verdict.{Verdict}
use Rattle.tb_message.specs.declared.verdict.Verdict.TheVariants as verdict
use Rattle.tb_message.specs.Spelling.{IsInRange, IsNumbered}
use Rattle.tb_terms.specs.declared.refusal.Refusal.{Refusal}
use Rattle.tb_terms.specs.declared.refusal.Refusal.TheVariants as refusal
use Rattle.tb_history.specs.Roster.{registrations, is_caller, kept, sent_by}
use Rattle.tb_history.specs.Tables.{rows_of}
use Rattle.tb_history.specs.Same.{same_message}
use Rattle.tb_history.specs.Verdict.{refused, is_permitted, number_rows, verdict_on}
use Rattle.tb_history.specs.Legal.{IsLegal, Longer, Follows, last_of}
use Rattle.tb_core.specs.House.{IsBid, EndsWithBid}
use Rattle.tb_history.proofs.HistoryLemmas.{IsLegal-front, last_of-push}
use Rattle.tb_history.specs.OwnPart.{own_part, is_own, depends_on_others}
use Rattle.tb_history.proofs.SameLemmas.{is_same-refl}
use Rattle.tb_history.proofs.SealedLemmas.{IsLegal-sealed}
use Rattle.tb_desk.specs.Turn.{added_by, added, verdicts_on, group_on, AreNumbered, DependOnNoOthers}

-- where a row's cause doesn't hold, the rows behind it decide
row-accepted : (b : Bool) (first rest : Verdict) (n : ℕ) (m : Moment)
    → cond b first rest ≡ verdict.Accepted n m
    → (first ≡ verdict.Accepted n m → ⊥)
    → rest ≡ verdict.Accepted n m
row-accepted true first rest n m accepted wrong = absurd (wrong accepted)
row-accepted false first rest n m accepted wrong = accepted

-- a refusal isn't the answer to an accepted message
no_refusal : (r : Refusal) (n : ℕ) (m : Moment) → verdict.Refused r ≡ verdict.Accepted n m → ⊥
no_refusal r n m same = cc

-- no message stands under its number
number-accepted : (found : Option Entry) (message : Message) (rest : List (Verdict × Bool)) (last : Verdict) (n : ℕ)
    (m : Moment)
    → first_of (number_rows found message ++ rest) last ≡ verdict.Accepted n m
    → first_of rest last ≡ verdict.Accepted n m
number-accepted None message rest last n m accepted = accepted
number-accepted (Some entry) message rest last n m accepted =
    elim (cases_Bool (same_message entry.message message)) [
      | inl is ↦ let wrong : verdict.Repeat entry.number entry.moment ≡ verdict.Accepted n m = rw is at accepted in cc
      | inr isnt ↦ let wrong : verdict.Refused refusal.NumberReused ≡ verdict.Accepted n m = rw isnt at accepted in cc
    ]

-- no cause of its rows holds
rows-accepted : (rows : List Row) (last : Verdict) (n : ℕ) (m : Moment)
    → first_of (map refused rows) last ≡ verdict.Accepted n m
    → last ≡ verdict.Accepted n m
rows-accepted [] last n m accepted = accepted
rows-accepted (row ∷ rows) last n m accepted =
    rows-accepted rows last n m
    (row-accepted row.1 (verdict.Refused row.0) (first_of (map refused rows) last) n m accepted (no_refusal row.0 n m))

-- an accepted message is accepted under its number, at its moment
pub accepted-is : (history : List Entry) (submitter : List ℕ) (number : ℕ) (moment : Moment) (message : Message)
    (n : ℕ) (m : Moment)
    → verdict_on history submitter number moment message ≡ verdict.Accepted n m
    → verdict.Accepted number moment ≡ verdict.Accepted n m
accepted-is history submitter number moment message n m accepted =
    let last : Verdict = verdict.Accepted number moment in
    let caller = row-accepted (not (is_caller (registrations history) submitter)) (verdict.Refused refusal.UnknownKey)
    _ n m
    accepted (no_refusal refusal.UnknownKey n m) in
    let permitted = row-accepted (not (is_permitted submitter message)) (verdict.Refused refusal.NotPermitted) _ n m
    caller
    (no_refusal refusal.NotPermitted n m) in
    let unused = number-accepted (kept history submitter number) message _ last n m permitted in
    let quota = row-accepted (nat_le 1048576 (sent_by history submitter)) (verdict.Refused refusal.MessageQuota) _ n m
    unused
    (no_refusal refusal.MessageQuota n m) in
    rows-accepted (rows_of history submitter moment message) last n m quota

-- the entry of an accepted message can follow
pub accepted-follows : (history : List Entry) (submitter : List ℕ) (number : ℕ) (moment : Moment) (message : Message)
    (n : ℕ) (m : Moment)
    → is_name submitter ≡ true
    → IsNumbered number message
    → last_of history ≤ moment.seconds
    → verdict_on history submitter number moment message ≡ verdict.Accepted n m
    → Follows history (record { submitter = submitter; number = number; moment = moment; message = message })
accepted-follows history submitter number moment message n m named numbered in_time accepted = record {
  in_range = record {
    head = (named, (numbered.number_fits, (in_range-moment moment, tt)));
    body = numbered.message_fits;
  };
  in_time = in_time;
  accepted = accepted ∙ sym (accepted-is history submitter number moment message n m accepted);
}
  where
    in_range-moment : (moment : Moment) → (nat_le 946702800 moment.seconds && nat_le moment.seconds 4102444799) ≡ true
    in_range-moment moment = grind (arith, moment.not_before, moment.not_after)

-- an entry that is accepted can follow
pub entry-follows : (history : List Entry) (entry : Entry) (n : ℕ) (m : Moment)
    → IsInRange entry
    → last_of history ≤ entry.moment.seconds
    → verdict_on history entry.submitter entry.number entry.moment entry.message ≡ verdict.Accepted n m
    → Follows history entry
entry-follows history entry n m in_range in_time accepted = record {
  in_range = in_range;
  in_time = in_time;
  accepted = accepted
      ∙ sym (accepted-is history entry.submitter entry.number entry.moment entry.message n m accepted);
}

-- what a message adds once it is accepted
pub added-accepted : (history : List Entry) (submitter : List ℕ) (number : ℕ) (moment : Moment) (message : Message)
    (n : ℕ) (m : Moment)
    → verdict_on history submitter number moment message ≡ verdict.Accepted n m
    → added history submitter moment (number, message)
    ≡ record { submitter = submitter; number = number; moment = moment; message = message } ∷ []
added-accepted history submitter number moment message n m accepted =
    ap (λ (v : Verdict). added_by submitter moment (number, message) v) accepted

-- the verdicts with one message more
pub verdicts_on-push : (history : List Entry) (submitter : List ℕ) (moment : Moment) (messages : List (ℕ × Message))
    (asked : ℕ × Message)
    → verdicts_on history submitter moment (messages ++ asked ∷ [])
    ≡ verdicts_on history submitter moment messages
    ++ verdict_on (history ++ group_on history submitter moment messages) submitter asked.0 moment asked.1 ∷ []
verdicts_on-push history submitter moment [] asked =
    ap (λ (entries : List Entry). verdict_on entries submitter asked.0 moment asked.1 ∷ []) (sym (append-nil history))
verdicts_on-push history submitter moment (first ∷ others) asked =
    let here : List Entry = added history submitter moment first in
    let rest : List Entry = group_on (history ++ here) submitter moment others in
    let v : Verdict = verdict_on history submitter first.0 moment first.1 in
    ap (λ (vs : List Verdict). v ∷ vs) (verdicts_on-push (history ++ here) submitter moment others asked
    ∙ ap (λ (entries : List Entry). verdicts_on (history ++ here) submitter moment others
    ++ verdict_on entries submitter asked.0 moment asked.1 ∷ []) (append_assoc history here rest))

-- the group with one message more
pub group_on-push : (history : List Entry) (submitter : List ℕ) (moment : Moment) (messages : List (ℕ × Message))
    (asked : ℕ × Message)
    → group_on history submitter moment (messages ++ asked ∷ [])
    ≡ group_on history submitter moment messages
    ++ added (history ++ group_on history submitter moment messages) submitter moment asked
group_on-push history submitter moment [] asked =
    append-nil (added history submitter moment asked)
    ∙ ap (λ (entries : List Entry). added entries submitter moment asked) (sym (append-nil history))
group_on-push history submitter moment (first ∷ others) asked =
    let here : List Entry = added history submitter moment first in
    let rest : List Entry = group_on (history ++ here) submitter moment others in
    ap (λ (entries : List Entry). here ++ entries) (group_on-push (history ++ here) submitter moment others asked)
    ∙ (sym (append_assoc here rest (added ((history ++ here) ++ rest) submitter moment asked))
    ∙ ap (λ (entries : List Entry). (here ++ rest) ++ added entries submitter moment asked)
    (append_assoc history here rest))

-- the entry that a message adds has its moment and its message
pub added-all : (P : Entry → Type 0) (history : List Entry) (submitter : List ℕ) (moment : Moment) (asked : ℕ × Message)
    → P (record { submitter = submitter; number = asked.0; moment = moment; message = asked.1 })
    → All P (added history submitter moment asked)
added-all P history submitter moment asked holds = go (verdict_on history submitter asked.0 moment asked.1)
  where
    go : (v : Verdict) → All P (added_by submitter moment asked v)
    go (verdict.Accepted number at) = All-push P [] (record {
      submitter = submitter;
      number = asked.0;
      moment =
          moment;
      message = asked.1;
    })
        (λ place d within. absurd (omega (arith, within))) holds
    go (verdict.Repeat number at) = λ place d within. absurd (omega (arith, within))
    go (verdict.Refused refusal) = λ place d within. absurd (omega (arith, within))

-- and so has each entry of a group
pub group_on-all : (P : Entry → Type 0) (Q : ℕ × Message → Type 0) (history : List Entry) (submitter : List ℕ)
    (moment : Moment)
    (messages : List (ℕ × Message))
    → ((asked : ℕ × Message) → Q asked → P (record {
      submitter = submitter;
      number = asked.0;
      moment = moment;
      message =
          asked.1;
    }))
    → All Q messages
    → All P (group_on history submitter moment messages)
group_on-all P Q history submitter moment [] each all = λ place d within. absurd (omega (arith, within))
group_on-all P Q history submitter moment (asked ∷ others) each all =
    let here : List Entry = added history submitter moment asked in
    All-append P here (group_on (history ++ here) submitter moment others)
    (added-all P history submitter moment asked (each asked (All-head Q asked others all)))
    (group_on-all P Q (history ++ here) submitter moment others each (All-tail Q asked others all))

-- the last of so many entries of a group of bids that was applied can be taken back
pub ends-with : (earlier group : List Entry) (left : ℕ) (before moment chosen : Moment)
    → left < length group
    → All (λ (entry : Entry). IsBid entry.message) group
    → All (λ (entry : Entry). entry.moment ≡ moment) group
    → before.seconds ≡ last_of earlier
    → (left ≡ 0 → chosen ≡ before)
    → (0 < left → chosen ≡ moment)
    → EndsWithBid (earlier ++ take (left + 1) group) chosen
ends-with earlier [] left before moment chosen within bids moments is_last first later = absurd (omega (arith, within))
ends-with earlier (first_of_all ∷ rest) left before moment chosen within bids moments is_last first later =
    let group : List Entry = first_of_all ∷ rest in
    let entry : Entry = get_or group left first_of_all in
    record {
      earlier = earlier ++ take left group;
      last = entry;
      is = ap (λ (entries : List Entry). earlier ++ entries) (take_more group left first_of_all within)
          ∙ sym (append_assoc earlier (take left group) (entry ∷ []));
      bid = bids left first_of_all within;
      moment = elim (cases_lt 0 left) [
        | inl some ↦ ap (λ (m : Moment). m.seconds) (later some) ∙ sym (behind some)
        | inr none ↦ ap (λ (m : Moment). m.seconds) (first (omega (arith, none)))
            ∙ (is_last ∙ ap last_of (sym (append-nil earlier)
            ∙ ap (λ (n : ℕ). earlier ++ take n group) (zero_is none)))
      ];
    }
  where
    zero_is : {n : ℕ} → n ≤ 0 → 0 ≡ n
    zero_is none = omega (arith, none)

    behind : 0 < left → last_of (earlier ++ take left (first_of_all ∷ rest)) ≡ moment.seconds
    behind some =
        let group : List Entry = first_of_all ∷ rest in
        let entry : Entry = get_or group (left - 1) first_of_all in
        let one_less : left ≡ left - 1 + 1 = omega (arith, some) in
        ap (λ (n : ℕ). last_of (earlier ++ take n group)) one_less
        ∙ (ap (λ (entries : List Entry). last_of (earlier ++ entries))
        (take_more group (left - 1) first_of_all (omega (arith, within, some)))
        ∙ (ap last_of (sym (append_assoc earlier (take (left - 1) group) (entry ∷ [])))
        ∙ (last_of-push 946702800 (earlier ++ take (left - 1) group) entry
        ∙ ap (λ (m : Moment). m.seconds) (moments (left - 1) first_of_all (omega (arith, within, some))))))

-- an accepted entry keeps the running moment, and the history legal
pub added-legal : (history : List Entry) (submitter : List ℕ) (moment : Moment) (asked : ℕ × Message) → IsLegal history
    → is_name submitter ≡ true
    → IsNumbered asked.0 asked.1
    → last_of history ≤ moment.seconds
    → IsLegal (history ++ added history submitter moment asked)
    × (last_of (history ++ added history submitter moment asked) ≤ moment.seconds)
added-legal history submitter moment asked legal named numbered in_time =
    go (verdict_on history submitter asked.0 moment asked.1) refl
  where
    go : (v : Verdict) → verdict_on history submitter asked.0 moment asked.1 ≡ v
        → IsLegal (history ++ added_by submitter moment asked v)
        × (last_of (history ++ added_by submitter moment asked v) ≤ moment.seconds)
    go (verdict.Accepted number at) is =
        let entry : Entry = record { submitter = submitter; number = asked.0; moment = moment; message = asked.1 } in (
          Longer history entry legal
              (accepted-follows history submitter asked.0 moment asked.1 number at named numbered in_time is),
          omega (arith, last_of-push 946702800 history entry),
        )
    go (verdict.Repeat number at) is = (
      subst IsLegal (sym (append-nil history)) legal,
      subst (λ (entries : List Entry). last_of entries ≤ moment.seconds) (sym (append-nil history)) in_time,
    )
    go (verdict.Refused refusal) is = (
      subst IsLegal (sym (append-nil history)) legal,
      subst (λ (entries : List Entry). last_of entries ≤ moment.seconds) (sym (append-nil history)) in_time,
    )

-- and so does a whole group
pub group_on-legal : (history : List Entry) (submitter : List ℕ) (moment : Moment) (messages : List (ℕ × Message))
    → IsLegal history
    → is_name submitter ≡ true
    → AreNumbered messages
    → last_of history ≤ moment.seconds
    → IsLegal (history ++ group_on history submitter moment messages)
group_on-legal history submitter moment [] legal named numbered in_time = subst IsLegal (sym (append-nil history)) legal
group_on-legal history submitter moment (asked ∷ others) legal named numbered in_time =
    let Numbered : ℕ × Message → Type 0 = λ (one : ℕ × Message). IsNumbered one.0 one.1 in
    let here : List Entry = added history submitter moment asked in
    let first = added-legal history submitter moment asked legal named (All-head Numbered asked others numbered)
    in_time in
    subst IsLegal (append_assoc history here (group_on (history ++ here) submitter moment others))
    (group_on-legal (history ++ here) submitter moment others first.0 named (All-tail Numbered asked others numbered)
    first.1)

-- what a submitter's message adds is its own
own_part-added : (history : List Entry) (submitter : List ℕ) (moment : Moment) (asked : ℕ × Message) (v : Verdict)
    → own_part submitter (history ++ added_by submitter moment asked v)
    ≡ own_part submitter history ++ added_by submitter moment asked v
own_part-added history submitter moment asked v =
    filter-append (is_own submitter) history (added_by submitter moment asked v)
    ∙ ap (λ (entries : List Entry). own_part submitter history ++ entries) (go v)
  where
    go : (v : Verdict) → filter (is_own submitter) (added_by submitter moment asked v) ≡ added_by submitter moment asked
        v
    go (verdict.Accepted number at) = rw (is_same-refl submitter) refl
    go (verdict.Repeat number at) = refl
    go (verdict.Refused refusal) = refl

-- the verdicts on a list of messages are sealed
pub sealed-all : (history : List Entry) (submitter : List ℕ) (moment : Moment) (messages : List (ℕ × Message))
    → IsLegal (history ++ group_on history submitter moment messages)
    → DependOnNoOthers messages
    → verdicts_on history submitter moment messages ≡ verdicts_on (own_part submitter history) submitter moment messages
sealed-all history submitter moment [] legal still = refl
sealed-all history submitter moment (asked ∷ others) legal still =
    let Still : ℕ × Message → Type 0 = λ (one : ℕ × Message). depends_on_others one.1 ≡ false in
    let own : List Entry = own_part submitter history in
    let v : Verdict = verdict_on history submitter asked.0 moment asked.1 in
    let here : List Entry = added_by submitter moment asked v in
    let rest : List Entry = group_on (history ++ here) submitter moment others in
    let so_far : IsLegal ((history ++ here) ++ rest) = subst IsLegal (sym (append_assoc history here rest)) legal in
    let first : v ≡ verdict_on own submitter asked.0 moment asked.1 =
    IsLegal-sealed submitter history (IsLegal-front (here ++ rest) history legal) asked.0 moment asked.1
    (All-head Still asked others still) in
    let behind = sealed-all (history ++ here) submitter moment others so_far (All-tail Still asked others still) in
    ap (λ (vs : List Verdict). v ∷ vs) (behind
    ∙ ap (λ (entries : List Entry). verdicts_on entries submitter moment others)
    (own_part-added history submitter moment asked v))
    ∙ ap (λ (w : Verdict). w ∷ verdicts_on (own ++ added_by submitter moment asked w) submitter moment others) first

-- a message adds at most one entry
pub added-length : (history : List Entry) (submitter : List ℕ) (moment : Moment) (asked : ℕ × Message)
    → length (added history submitter moment asked) ≤ 1
added-length history submitter moment asked = go (verdict_on history submitter asked.0 moment asked.1)
  where
    go : (v : Verdict) → length (added_by submitter moment asked v) ≤ 1
    go (verdict.Accepted number at) = omega arith
    go (verdict.Repeat number at) = omega arith
    go (verdict.Refused refusal) = omega arith

-- and so a group has no more entries than there are messages
pub group_on-length : (history : List Entry) (submitter : List ℕ) (moment : Moment) (messages : List (ℕ × Message))
    → length (group_on history submitter moment messages) ≤ length messages
group_on-length history submitter moment [] = omega arith
group_on-length history submitter moment (asked ∷ others) =
    let here : List Entry = added history submitter moment asked in
    let rest : List Entry = group_on (history ++ here) submitter moment others in
    omega (
      arith,
      length-append here rest,
      added-length history submitter moment asked,
      group_on-length (history ++ here) submitter moment others,
    )

-- there is a verdict on each message
pub verdicts_on-length : (history : List Entry) (submitter : List ℕ) (moment : Moment) (messages : List (ℕ × Message))
    → length (verdicts_on history submitter moment messages) ≡ length messages
verdicts_on-length history submitter moment [] = refl
verdicts_on-length history submitter moment (asked ∷ others) =
    omega (arith, verdicts_on-length (history ++ added history submitter moment asked) submitter moment others)

-- what is known with one message more
pub record HasJudged (old history group : List Entry) (submitter : List ℕ) (moment : Moment)
    (messages : List (ℕ × Message)) (places : List (Option Verdict)) (count : ℕ) : Type 0 where
  pub is_group : group ≡ group_on old submitter moment (take count messages)
  pub is_history : history ≡ old ++ group
  pub are_verdicts : places ≡ map Some (verdicts_on old submitter moment (take count messages)) ++ replicate
      (64 - count) None

-- one message more is judged
pub judged-more : (old history after group grown : List Entry) (submitter : List ℕ) (moment : Moment)
    (messages : List (ℕ × Message)) (places : List (Option Verdict)) (count : ℕ) (asked : ℕ × Message) (v : Verdict)
    → count < length messages
    → length messages ≤ 64
    → asked ≡ get_or messages count asked
    → HasJudged old history group submitter moment messages places count
    → v ≡ verdict_on history submitter asked.0 moment asked.1
    → grown ≡ group ++ added history submitter moment asked
    → after ≡ history ++ added history submitter moment asked
    → HasJudged old after grown submitter moment messages (set places count (Some v)) (count + 1)
judged-more old history after group grown submitter moment messages places count asked v within few at so_far is grows
    lengthens =
    let front : List (ℕ × Message) = take count messages in
    let next : take (count + 1) messages ≡ front ++ asked ∷ [] =
    take_more messages count asked within ∙ ap (λ (one : ℕ × Message). front ++ one ∷ []) (sym at) in
    let so_is : history ≡ old ++ group_on old submitter moment front =
    so_far.is_history ∙ ap (λ (entries : List Entry). old ++ entries) so_far.is_group in
    let vs : List Verdict = verdicts_on old submitter moment front in
    let rest : List (Option Verdict) = replicate (64 - (count + 1)) None in
    let room : 64 - count ≡ suc (64 - (count + 1)) = omega (arith, within, few) in
    let long : length (map Some vs) ≡ count =
    omega (
      arith,
      length-map vs Some,
      verdicts_on-length old submitter moment front,
      length-take count messages,
      within,
    ) in
    record {
      is_group = grows
          ∙ (ap (λ (entries : List Entry). entries ++ added history submitter moment asked) so_far.is_group
          ∙ (ap (λ (entries : List Entry). group_on old submitter moment front ++ added entries submitter moment asked)
          so_is
          ∙ (sym (group_on-push old submitter moment front asked)
          ∙ ap (λ (ms : List (ℕ × Message)). group_on old submitter moment ms) (sym next))));
      is_history = lengthens
          ∙ (ap (λ (entries : List Entry). entries ++ added history submitter moment asked) so_far.is_history
          ∙ (append_assoc old group (added history submitter moment asked)
          ∙ ap (λ (entries : List Entry). old ++ entries) (sym grows)));
      are_verdicts = ap (λ (list : List (Option Verdict)). set list count (Some v))
          (so_far.are_verdicts ∙ ap (λ (n : ℕ). map Some vs ++ replicate n None) room)
          ∙ (set_at (map Some vs) None rest (Some v) count long
          ∙ (ap (λ (w : Verdict). map Some vs ++ Some w ∷ rest)
          (is ∙ ap (λ (entries : List Entry). verdict_on entries submitter asked.0 moment asked.1) so_is)
          ∙ (sym (append_assoc (map Some vs) (Some (verdict_on (old ++ group_on old submitter moment front) submitter
          asked.0 moment asked.1) ∷ []) rest)
          ∙ ap (λ (list : List (Option Verdict)). list ++ rest)
          (sym (map_push Some vs (verdict_on (old ++ group_on old submitter moment front) submitter asked.0 moment
          asked.1))
          ∙ ap (λ (ws : List Verdict). map Some ws) (sym (verdicts_on-push old submitter moment front asked)
          ∙ ap (λ (ms : List (ℕ × Message)). verdicts_on old submitter moment ms) (sym next))))));
    }

-- the last of so many entries
pub last-taken : (group : List Entry) (left : ℕ) → left < length group
    → (entry : Entry) × (take (left + 1) group ≡ take left group ++ entry ∷ [])
last-taken [] left within = absurd (omega (arith, within))
last-taken (first ∷ rest) left within =
    (get_or (first ∷ rest) left first, take_more (first ∷ rest) left first within)
