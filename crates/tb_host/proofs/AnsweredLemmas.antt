-- The history on which a turn is answered, and the entries of what is acknowledged.
use Rattle.std.proofs.Common.{◌≡◌, ℕ, List, [], ◌∷◌, ◌++◌, get_or, Some, None, ◌⊎◌, inl, inr, refl, sym, subst, subst₂, ap, ◌∙◌, arith, append_assoc, append-nil}
use Rattle.std.specs.Prelude.{Contains, codes}
use Rattle.std.specs.Fmt.{decimal}
use Rattle.std.proofs.lemmas.List.{append_cancel_left, append_cancel_right}
use Rattle.std.proofs.lemmas.List.Elements.{Contains-append_left, Contains-push}
use Rattle.tb_units.specs.Bytes.{blank, line_feed}
use Rattle.tb_units.specs.declared.moment.Moment.{Moment}
use Rattle.tb_message.specs.declared.message.Entry.{Entry}
use Rattle.tb_message.specs.declared.verdict.Verdict.{Verdict}
use Rattle.tb_message.specs.declared.verdict.Verdict.TheVariants as verdict
use Rattle.tb_message.specs.Verdicts.{verdict_text}
use Rattle.tb_history.specs.Legal.{IsLegal}
use Rattle.tb_history.specs.Verdict.{verdict_on}
use Rattle.tb_history.proofs.HistoryLemmas.{IsLegal-front}
use Rattle.tb_desk.specs.Turn.{Asked, Held, Replies, added, added_by, group, group_on, verdicts, verdicts_on}
use Rattle.tb_session.proofs.CallerLemmas.{accepted-is, repeat-is}
use Rattle.tb_host.specs.Headline.{Begins}
use Rattle.tb_commands.specs.ImportRun.{SentRow}
use Rattle.tb_host.specs.ScriptHeadline.{HasAccepted, IsBetween, IsRowAccepted, accepted_line}
use Rattle.tb_commands.specs.Standings.{Standing, held_at}
use Rattle.tb_commands.specs.Turns.{GoesOneWay, MakesTurn, told}
use Rattle.tb_commands.proofs.ScriptLineLemmas.{moment-one}

-- ---- histories that begin one another

-- one history begins another that begins a third
pub Begins-both : (one mid whole : List Entry) → Begins one mid → Begins mid whole → Begins one whole
Begins-both one mid whole first second = (
  first.0 ++ second.0,
  second.1
      ∙ (ap (λ (h : List Entry). h ++ second.0) first.1
      ∙ append_assoc one first.0 second.0),
)

-- the beginning of a legal history is legal
pub IsLegal-begins : (history whole : List Entry) → Begins history whole → IsLegal whole → IsLegal history
IsLegal-begins history whole begins legal = IsLegal-front begins.0 history (subst IsLegal begins.1 legal)

-- it has what its beginning has
pub Contains-begins : (history whole : List Entry) (e : Entry)
    → Begins history whole
    → Contains history e
    → Contains whole e
Contains-begins history whole e begins has =
    subst (λ (h : List Entry). Contains h e) (sym begins.1) (Contains-append_left history begins.0 e has)

-- a history between two others, the last of which is legal
pub IsBetween-here : (first last history : List Entry)
    → Begins first history
    → Begins history last
    → IsLegal last
    → IsBetween first last history
IsBetween-here first last history has_first begins legal = record {
  legal = IsLegal-begins history last begins legal;
  has_first = has_first;
  begins = begins;
}

-- ---- turns

-- A turn was answered on this history: the verdicts are those there, and what they add was added; or the disk failed.
pub record AnsweredOn (asked : Asked) (old new : Standing) (replies : Replies) : Type 0 where
  pub history : List Entry
  pub settled : (history ≡ old.history) ⊎ (history ≡ old.history ++ old.doubt)
  pub begins : Begins history new.history
  pub way : (replies ≡ None)
      ⊎ ((replies ≡ Some (verdicts history asked)) × (new.history ≡ history ++ group history asked))

-- each turn was
pub answered-on : (asked : Asked) (old new : Standing) (replies : Replies)
    → MakesTurn asked old new replies
    → AnsweredOn asked old new replies
answered-on asked old new replies turn = go turn.way
  where
    go : GoesOneWay turn.at asked (held_at old) (held_at new) replies → AnsweredOn asked old new replies
    go (inl stuck) = record {
      history = old.history;
      settled = inl refl;
      begins = ([], ap (λ (h : Held). h.history) stuck.same ∙ sym (append-nil old.history));
      way = inl stuck.failed;
    }
    go (inr (inl answered)) = record {
      history = turn.at;
      settled = turn.resolved;
      begins = (group turn.at asked, answered.grown);
      way = inr (answered.given, answered.grown);
    }
    go (inr (inr doubted)) = record {
      history = turn.at;
      settled = turn.resolved;
      begins = ([], doubted.same ∙ sym (append-nil turn.at));
      way = inl doubted.failed;
    }

-- ---- what is acknowledged stands in the history

-- the lines of two acceptances under one number tell their moments
accepted-moment : (number : ℕ) (one other : Moment)
    → told (verdict.Accepted number one) ≡ told (verdict.Accepted number other)
    → one ≡ other
accepted-moment number one other is =
    let text : Moment → List ℕ = λ (moment : Moment). verdict_text (verdict.Accepted number moment) in
    let behind : Moment → List ℕ = λ (moment : Moment). blank ∷ (decimal moment.seconds ++ []) in
    let texts : text one ≡ text other = append_cancel_right (text one) (text other) (line_feed ∷ []) is in
    let words : decimal number ++ behind one ≡ decimal number ++ behind other =
    append_cancel_left (codes "accepted" ++ blank ∷ []) (decimal number ++ behind one)
    (decimal number ++ behind other) texts in
    let seconds : decimal one.seconds ++ [] ≡ decimal other.seconds ++ [] =
    append_cancel_left (decimal number ++ blank ∷ []) (decimal one.seconds ++ []) (decimal other.seconds ++ [])
    (append_assoc (decimal number) (blank ∷ []) (decimal one.seconds ++ [])
    ∙ (words
    ∙ sym (append_assoc (decimal number) (blank ∷ []) (decimal other.seconds ++ [])))) in
    moment-one one other (append_cancel_right (decimal one.seconds) (decimal other.seconds) [] seconds)

-- an entry that is told as accepted stands behind the verdict
accepted-stands : (history : List Entry) (e : Entry) (moment : Moment) (said : Verdict)
    → verdict_on history e.submitter e.number moment e.message ≡ said
    → told said ≡ accepted_line e
    → Contains (history ++ added_by e.submitter moment (e.number, e.message) said) e
accepted-stands history e moment (verdict.Accepted number at) is line =
    let whole = accepted-is history e.submitter e.number number moment at e.message is in
    let same : moment ≡ e.moment = accepted-moment e.number moment e.moment (ap told whole ∙ line) in
    let with_moment : Moment → Entry =
    λ (at : Moment). record { submitter = e.submitter; number = e.number; moment = at; message = e.message } in
    subst (λ (at : Moment). Contains (history ++ with_moment at ∷ []) e) (sym same) (Contains-push history e)
accepted-stands history e moment (verdict.Repeat number at) is line =
    let stands = repeat-is history e.submitter e.number number moment at e.message is in
    let same : at ≡ e.moment =
    accepted-moment e.number at e.moment
    (ap (λ (n : ℕ). told (verdict.Accepted n at)) (sym stands.number_is) ∙ line) in
    let with_moment : Moment → Entry =
    λ (at : Moment). record { submitter = e.submitter; number = e.number; moment = at; message = e.message } in
    Contains-append_left history [] e
    (subst (λ (at : Moment). Contains history (with_moment at)) same stands.stands)
accepted-stands history e moment (verdict.Refused why) is line =
    let letters : 114 ≡ 97 = ap (λ (text : List ℕ). get_or text 0 0) line in
    absurd (omega (arith, letters))

-- so does that of a row
row-stands : (history : List Entry) (e : Entry) (submitter : List ℕ) (moment : Moment) (row : SentRow)
    → submitter ≡ e.submitter
    → IsRowAccepted e row (verdict_on history submitter row.0 moment row.1)
    → Contains (history ++ added history submitter moment row) e
row-stands history e submitter moment row same accepted =
    let Stands : List ℕ → SentRow → Type 0 =
    λ (s : List ℕ) (r : SentRow). told (verdict_on history s r.0 moment r.1) ≡ accepted_line e
    → Contains (history ++ added history s moment r) e in
    let is : row ≡ (e.number, e.message) = λ i. (accepted.number i, accepted.message i) in
    let own : Stands e.submitter (e.number, e.message) =
    accepted-stands history e moment (verdict_on history e.submitter e.number moment e.message) refl in
    subst₂ Stands (sym same) (sym is) own accepted.accepted

-- and of one of many rows
pub rows-stand : (history : List Entry) (e : Entry) (submitter : List ℕ) (moment : Moment) (rows : List SentRow)
    → submitter ≡ e.submitter
    → HasAccepted e rows (verdicts_on history submitter moment rows)
    → Contains (history ++ group_on history submitter moment rows) e
rows-stand history e submitter moment [] same has = absurd has
rows-stand history e submitter moment (row ∷ rows) same (inl accepted) =
    let one : List Entry = added history submitter moment row in
    let others : List Entry = group_on (history ++ one) submitter moment rows in
    subst (λ (h : List Entry). Contains h e) (append_assoc history one others)
    (Contains-append_left (history ++ one) others e (row-stands history e submitter moment row same accepted))
rows-stand history e submitter moment (row ∷ rows) same (inr later) =
    let one : List Entry = added history submitter moment row in
    let others : List Entry = group_on (history ++ one) submitter moment rows in
    subst (λ (h : List Entry). Contains h e) (append_assoc history one others)
    (rows-stand (history ++ one) e submitter moment rows same later)
