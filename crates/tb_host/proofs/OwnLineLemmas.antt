-- What lines add to the history, and what they leave in doubt, is theirs.
use Rattle.std.proofs.Common.{◌≡◌, ℕ, List, [], ◌∷◌, ◌++◌, Option, Some, None, ◌⊎◌, inl, inr, refl, sym, subst, ap, ◌∙◌, arith, append_assoc, append-nil}
use Rattle.std.specs.Prelude.{All, Any, Contains, Result, Ok, Err}
use Rattle.std.proofs.lemmas.List.{append_cancel_left}
use Rattle.std.proofs.lemmas.List.Elements.{All-append, All-cons, All-nil, Contains-append_right}
use Rattle.tb_units.specs.declared.moment.Moment.{Moment}
use Rattle.tb_terms.specs.declared.refusal.Refusal.{Refusal}
use Rattle.tb_message.specs.declared.message.Entry.{Entry}
use Rattle.tb_message.specs.declared.message.Message.{Message}
use Rattle.tb_message.specs.declared.query.Request.{Request}
use Rattle.tb_message.specs.declared.query.Request.TheVariants as request
use Rattle.tb_message.specs.declared.verdict.Verdict.{Verdict}
use Rattle.tb_message.specs.declared.verdict.Verdict.TheVariants as verdict
use Rattle.tb_history.specs.Answer.{caller_of}
use Rattle.tb_history.specs.Legal.{running}
use Rattle.tb_history.specs.Roster.{registrations}
use Rattle.tb_history.specs.Verdict.{verdict_on}
use Rattle.tb_desk.specs.Desks.{replies_of}
use Rattle.tb_desk.specs.Turn.{Asked, Held, Replies, added_by, group}
use Rattle.tb_session.specs.Calls.{caller_on}
use Rattle.tb_session.proofs.CallerLemmas.{caller_on-append}
use Rattle.tb_host.specs.Headline.{Begins}
use Rattle.tb_commands.specs.Replies.{Asks, IsAnswered, IsReply, asked_by}
use Rattle.tb_host.specs.ScriptHeadline.{IsOfLine}
use Rattle.tb_commands.specs.ScriptRun.{IsActedOn, IsRun}
use Rattle.tb_commands.specs.Standings.{Standing, held_at}
use Rattle.tb_commands.specs.Turns.{GoesOneWay, MakesTurn}
use Rattle.tb_host.proofs.AnsweredLemmas.{Begins-both}
use Rattle.tb_commands.proofs.GrownLemmas.{run-goes}

-- the entry of a caller's message, at a moment
abbrev pub entry_of : List ℕ → ℕ → Message → Moment → Entry
entry_of caller number message moment =
    record { submitter = caller; number = number; moment = moment; message = message }

module _ (P : Entry → Type 0) where
  -- what is new in the history has the property, and so has what is in doubt
  pub record AddsOwn (old new : Standing) : Type 0 where
    pub more : List Entry
    pub grown : new.history ≡ old.history ++ more
    pub own : All P more
    pub doubted : All P new.doubt

  -- where nothing has changed
  pub same-own : (old new : Standing) → new ≡ old → All P old.doubt → AddsOwn old new
  same-own old new same doubt = record {
    more = [];
    grown = ap (λ (s : Standing). s.history) same ∙ sym (append-nil old.history);
    own = All-nil P;
    doubted = subst (λ (s : Standing). All P s.doubt) (sym same) doubt;
  }

  -- one after another
  pub both-own : (old mid new : Standing) → AddsOwn old mid → AddsOwn mid new → AddsOwn old new
  both-own old mid new one other = record {
    more = one.more ++ other.more;
    grown = other.grown
        ∙ (ap (λ (h : List Entry). h ++ other.more) one.grown
        ∙ append_assoc old.history one.more other.more);
    own = All-append P one.more other.more one.own other.own;
    doubted = other.doubted;
  }

  -- a verdict adds the entry of its message, or none
  pub added-own : (caller : List ℕ) (ran : Moment) (asked : ℕ × Message) (v : Verdict)
      → P (entry_of caller asked.0 asked.1 ran)
      → All P (added_by caller ran asked v)
  added-own caller ran asked (verdict.Accepted n m) own =
      All-cons P (entry_of caller asked.0 asked.1 ran) [] own (All-nil P)
  added-own caller ran asked (verdict.Repeat n m) own = All-nil P
  added-own caller ran asked (verdict.Refused why) own = All-nil P

  -- so does the group of a message
  group-own : (at : List Entry) (caller : List ℕ) (moment : Moment) (number : ℕ) (message : Message)
      → ((ran : Moment) → P (entry_of caller number message ran))
      → All P (group at (asked_by caller moment number message))
  group-own at caller moment number message own =
      let ran : Moment = running at moment in
      let said : Verdict = verdict_on at caller number ran message in
      All-append P (added_by caller ran (number, message) said) []
      (added-own caller ran (number, message) said (own ran)) (All-nil P)

  -- what is resolved was in doubt
  resolved-own : (old at doubt : List Entry)
      → (at ≡ old) ⊎ (at ≡ old ++ doubt)
      → All P doubt
      → (more : List Entry) × (at ≡ old ++ more) × All P more
  resolved-own old at doubt (inl same) all = ([], same ∙ sym (append-nil old), All-nil P)
  resolved-own old at doubt (inr with) all = (doubt, with, all)

  -- a turn adds what was in doubt and its group, or leaves that in doubt
  pub turn-own : (asked : Asked) (old new : Standing) (replies : Replies)
      → ((at : List Entry) → All P (group at asked))
      → All P old.doubt
      → MakesTurn asked old new replies
      → AddsOwn old new
  turn-own asked old new replies own doubt turn = go turn.way
    where
      settled : (more : List Entry) × (turn.at ≡ old.history ++ more) × All P more
      settled = resolved-own old.history turn.at old.doubt turn.resolved doubt

      go : GoesOneWay turn.at asked (held_at old) (held_at new) replies → AddsOwn old new
      go (inl stuck) = record {
        more = [];
        grown = ap (λ (h : Held). h.history) stuck.same ∙ sym (append-nil old.history);
        own = All-nil P;
        doubted = subst (λ (d : List Entry). All P d) (sym (ap (λ (h : Held). h.doubt) stuck.same)) doubt;
      }
      go (inr (inl answered)) = record {
        more = settled.0 ++ group turn.at asked;
        grown = answered.grown
            ∙ (ap (λ (h : List Entry). h ++ group turn.at asked) settled.1
            ∙ append_assoc old.history settled.0 (group turn.at asked));
        own = All-append P settled.0 (group turn.at asked) settled.2 (own turn.at);
        doubted = subst (λ (d : List Entry). All P d) (sym answered.sure) (All-nil P);
      }
      go (inr (inr doubted)) = record {
        more = settled.0;
        grown = doubted.same ∙ settled.1;
        own = settled.2;
        doubted = subst (λ (d : List Entry). All P d) (sym doubted.unsure) (own turn.at);
      }

  -- a reply adds an entry of the message that is asked
  reply-own : (old new : Standing) (caller : List ℕ) (moment : Moment) (asked : Result Request Refusal)
      (reply : List ℕ)
      → ((number : ℕ) (message : Message) (ran : Moment)
      → asked ≡ Ok (request.Message number message)
      → P (entry_of caller number message ran))
      → All P old.doubt
      → IsReply old caller moment asked reply new
      → AddsOwn old new
  reply-own old new caller moment (Ok (request.Message number message)) reply own doubt is =
      turn-own (asked_by caller moment number message) old new (replies_of is.0)
      (λ at. group-own at caller moment number message (λ ran. own number message ran refl)) doubt is.1
  reply-own old new caller moment (Ok (request.Query query)) reply own doubt is = same-own old new is.1 doubt
  reply-own old new caller moment (Err why) reply own doubt is = same-own old new is.1 doubt

  -- and so does what a text is answered
  answer-own : (old new : Standing) (caller : Option (List ℕ)) (moment : Moment) (json reply : List ℕ)
      → ((who : List ℕ) (number : ℕ) (message : Message) (ran : Moment)
      → caller ≡ Some who
      → Asks json (Ok (request.Message number message))
      → P (entry_of who number message ran))
      → All P old.doubt
      → IsAnswered old caller moment json reply new
      → AddsOwn old new
  answer-own old new None moment json reply own doubt is = same-own old new is.1 doubt
  answer-own old new (Some caller) moment json reply own doubt is =
      reply-own old new caller moment is.0 reply
      (λ number message ran same. own caller number message ran refl
      (subst (λ (asked : Result Request Refusal). Asks json asked) same is.1)) doubt is.2

  -- and a line
  line-own : (operator : List ℕ) (whole : List Entry) (old new : Standing) (line reply : List ℕ)
      → Begins old.history whole
      → ((e : Entry) → IsOfLine operator whole e line → P e)
      → All P old.doubt
      → IsActedOn operator old line reply new
      → AddsOwn old new
  line-own operator whole old new line reply begins own doubt acted =
      answer-own old new (caller_of (registrations old.history) operator acted.key) acted.moment acted.json reply
      of-line doubt acted.answered
    where
      of-line : (who : List ℕ) (number : ℕ) (message : Message) (ran : Moment)
          → caller_of (registrations old.history) operator acted.key ≡ Some who
          → Asks acted.json (Ok (request.Message number message))
          → P (entry_of who number message ran)
      of-line who number message ran known asks =
          let later : caller_on operator (old.history ++ begins.0) acted.key ≡ Some who =
          caller_on-append operator old.history begins.0 acted.key who known in
          own (entry_of who number message ran) record {
            moment = acted.moment;
            key = acted.key;
            json = acted.json;
            spells = acted.spells;
            known = subst (λ (h : List Entry). caller_on operator h acted.key ≡ Some who) (sym begins.1) later;
            asks = asks;
          }

  -- so do lines
  run-own : (operator : List ℕ) (whole : List Entry) (old last : Standing) (lines : List (List ℕ)) (replies : List ℕ)
      → IsRun operator old lines replies last
      → Begins last.history whole
      → ((line : List ℕ) → Contains lines line → (e : Entry) → IsOfLine operator whole e line → P e)
      → All P old.doubt
      → AddsOwn old last
  run-own operator whole old last [] replies run begins own doubt = same-own old last run.1 doubt
  run-own operator whole old last (line ∷ lines) replies run begins own doubt =
      let here : Begins old.history whole =
      Begins-both old.history last.history whole (run-goes operator old last (line ∷ lines) replies run).grown begins in
      let first = line-own operator whole old run.1 line run.0 here (own line (0, omega arith, refl)) doubt run.3 in
      let others = run-own operator whole run.1 last lines run.2 run.4 begins
      (λ other has. own other (Contains-append_right (line ∷ []) lines other has)) first.doubted in
      both-own old run.1 last first others

-- Past the first history there are only entries of the lines, and so is what is in doubt.
pub lines-own : (operator : List ℕ) (first last : Standing) (lines : List (List ℕ)) (replies : List ℕ)
    (more : List Entry)
    → IsRun operator first lines replies last
    → first.doubt ≡ []
    → last.history ≡ first.history ++ more
    → All (λ e. Any (IsOfLine operator last.history e) lines) (more ++ last.doubt)
lines-own operator first last lines replies more run sure grown =
    let Own : Entry → Type 0 = λ (e : Entry). Any (IsOfLine operator last.history e) lines in
    let adds = run-own Own operator last.history first last lines replies run
    ([], sym (append-nil last.history)) (λ line has e of. (has.0, line, has.1, has.2, of))
    (subst (λ (d : List Entry). All Own d) (sym sure) (All-nil Own)) in
    let same : adds.more ≡ more =
    append_cancel_left first.history adds.more more (sym adds.grown ∙ grown) in
    All-append Own more last.doubt (subst (λ (m : List Entry). All Own m) same adds.own) adds.doubted
