-- The headline of a script's lines follows from their run, where the disk keeps the last history.
use Rattle.std.proofs.Common.{◌≡◌, ℕ, List, [], ◌∷◌, ◌++◌, map, get_or, Option, Some, None, ◌⊎◌, inl, inr, refl, sym, subst, ap, ◌∙◌, arith, append-nil}
use Rattle.std.specs.Prelude.{All, Result, Ok, Err, Contains}
use Rattle.std.specs.List.{flat_map}
use Rattle.std.proofs.lemmas.List.Elements.{All-cons, All-nil}
use Rattle.tb_units.specs.declared.moment.Moment.{Moment}
use Rattle.tb_disk.specs.Disks.{DiskState}
use Rattle.tb_terms.specs.declared.refusal.Refusal.{Refusal}
use Rattle.tb_terms.specs.declared.refusal.Refusal.TheVariants as refusal
use Rattle.tb_message.specs.declared.message.Entry.{Entry}
use Rattle.tb_message.specs.declared.message.Message.{Message}
use Rattle.tb_message.specs.declared.query.Request.{Request}
use Rattle.tb_message.specs.declared.query.Request.TheVariants as request
use Rattle.tb_history.specs.Answer.{caller_of}
use Rattle.tb_history.specs.Legal.{IsLegal, running}
use Rattle.tb_history.specs.Roster.{registrations}
use Rattle.tb_history.specs.Verdict.{verdict_on}
use Rattle.tb_desk.specs.Desks.{replies_of}
use Rattle.tb_desk.specs.Turn.{group, verdicts}
use Rattle.tb_desk.specs.declared.reply.Reply.{Reply}
use Rattle.tb_desk.specs.declared.reply.Reply.TheVariants as turned
use Rattle.tb_commands.specs.DiskRun.{Stays}
use Rattle.tb_host.specs.Headline.{AddsUp, Begins, DiskKeeps}
use Rattle.tb_commands.specs.Replies.{Asks, IsAnswered, IsReply, IsSaid, IsTold, asked_by, refused}
use Rattle.tb_host.specs.ScriptHeadline.{Along, IsAcknowledged, IsOfLine, IsRepliedAt, IsRepliedIn, IsRowAccepted, IsSealedReply, IsToldByTheRule, Replied, RunHeadline, Says, accepted_line, of_lines}
use Rattle.tb_commands.specs.ScriptRun.{IsActedOn, IsRun}
use Rattle.tb_commands.specs.Standings.{Standing}
use Rattle.tb_commands.specs.Turns.{told, turn_text, unavailable}
use Rattle.tb_host.proofs.AnsweredLemmas.{Begins-both, Contains-begins, IsBetween-here, IsLegal-begins, answered-on, rows-stand}
use Rattle.tb_commands.proofs.DoubtedLemmas.{doubted-lines}
use Rattle.tb_commands.proofs.GrownLemmas.{line-goes, run-goes}
use Rattle.tb_host.proofs.ChainLemmas.{OneHistory-here, each-map}
use Rattle.tb_host.proofs.HeadlineLemmas.{AddsUp-legal, bids-in-time, by-the-rule, kept-told}
use Rattle.tb_commands.proofs.OneRunLemmas.{asks-one}
use Rattle.tb_host.proofs.OwnLineLemmas.{lines-own}
use Rattle.tb_host.proofs.SealedLemmas.{IsSaid-own}
use Rattle.tb_commands.proofs.TurnLemmas.{at-grown}

-- ---- the history on which a line is answered

-- what a caller asked is replied to by the history: a message by its verdict, and what it adds was added; or by the
-- disk's fault
abbrev pub IsReplyOn : List Entry → List Entry → List ℕ → Moment → Result Request Refusal → List ℕ → Type 0
IsReplyOn history after caller moment (Ok (request.Message number message)) reply =
    (reply ≡ unavailable)
    ⊎ (IsSaid history caller moment (Ok (request.Message number message)) reply
    × (after ≡ history ++ group history (asked_by caller moment number message)))
IsReplyOn history after caller moment (Ok (request.Query query)) reply =
    IsSaid history caller moment (Ok (request.Query query)) reply
IsReplyOn history after caller moment (Err why) reply = IsSaid history caller moment (Err why) reply

-- what a text is replied to so
abbrev pub IsAnswerOn : List Entry → List Entry → Option (List ℕ) → Moment → List ℕ → List ℕ → Type 0
IsAnswerOn history after None moment json reply = reply ≡ refused refusal.UnknownKey
IsAnswerOn history after (Some caller) moment json reply =
    (asked : Result Request Refusal) × Asks json asked × IsReplyOn history after caller moment asked reply

-- such a history, of those on which a reply may stand
pub record HasAnswer (old new : Standing) (Holds : List Entry → Type 0) : Type 0 where
  pub history : List Entry
  pub settled : (history ≡ old.history) ⊎ (history ≡ old.history ++ old.doubt)
  pub begins : Begins history new.history
  pub holds : Holds history

-- where nothing has changed it is the one before
same-answer : (old new : Standing) (Holds : List Entry → Type 0)
    → new ≡ old
    → Holds old.history
    → HasAnswer old new Holds
same-answer old new Holds same holds = record {
  history = old.history;
  settled = inl refl;
  begins = ([], ap (λ (s : Standing). s.history) same ∙ sym (append-nil old.history));
  holds = holds;
}

-- a message is replied to by what its turn was answered
message-on : (history after : List Entry) (caller : List ℕ) (moment : Moment) (number : ℕ) (message : Message)
    (answer : Reply) (reply : List ℕ)
    → reply ≡ turn_text answer
    → (replies_of answer ≡ None)
    ⊎ ((replies_of answer ≡ Some (verdicts history (asked_by caller moment number message)))
    × (after ≡ history ++ group history (asked_by caller moment number message)))
    → IsReplyOn history after caller moment (Ok (request.Message number message)) reply
message-on history after caller moment number message (turned.Verdict said) reply is (inl none) = absurd (cc)
message-on history after caller moment number message (turned.Verdict said) reply is (inr both) =
    let given = both.0 in
    let same : said ≡ verdict_on history caller number (running history moment) message = cc in
    inr (is ∙ ap told same, both.1)
message-on history after caller moment number message turned.DiskFault reply is way = inl is

-- so is what a caller asks
reply-on : (old new : Standing) (caller : List ℕ) (moment : Moment) (asked : Result Request Refusal) (reply : List ℕ)
    → IsReply old caller moment asked reply new
    → HasAnswer old new (λ history. IsReplyOn history new.history caller moment asked reply)
reply-on old new caller moment (Ok (request.Message number message)) reply is =
    let on = answered-on (asked_by caller moment number message) old new (replies_of is.0) is.1 in
    record {
      history = on.history;
      settled = on.settled;
      begins = on.begins;
      holds = message-on on.history new.history caller moment number message is.0 reply is.2 on.way;
    }
reply-on old new caller moment (Ok (request.Query query)) reply is =
    same-answer old new (λ history. IsReplyOn history new.history caller moment (Ok (request.Query query)) reply) is.1
    is.0
reply-on old new caller moment (Err why) reply is =
    same-answer old new (λ history. IsReplyOn history new.history caller moment (Err why) reply) is.1 is.0

-- and a text
answer-on : (old new : Standing) (caller : Option (List ℕ)) (moment : Moment) (json reply : List ℕ)
    → IsAnswered old caller moment json reply new
    → HasAnswer old new (λ history. IsAnswerOn history new.history caller moment json reply)
answer-on old new None moment json reply is =
    same-answer old new (λ history. IsAnswerOn history new.history None moment json reply) is.1 is.0
answer-on old new (Some caller) moment json reply is =
    let on = reply-on old new caller moment is.0 reply is.2 in
    record { history = on.history; settled = on.settled; begins = on.begins; holds = (is.0, is.1, on.holds) }

-- ---- the five parts

-- the parts of the headline, of one line
pub record LineHeadline (disk : DiskState) (first last : List Entry) (line : Replied) : Type 0 where
  pub one_history : IsRepliedIn first last line
  pub keeps : (e : Entry) → IsAcknowledged line e → DiskKeeps disk e
  pub by_the_rule : IsToldByTheRule last line
  pub sealed : IsSealedReply line
  pub holdings : AddsUp line.history

-- the reply is what the history says, or tells the disk's fault
reply-said : (history after : List Entry) (caller : List ℕ) (moment : Moment) (asked : Result Request Refusal)
    (reply : List ℕ)
    → IsReplyOn history after caller moment asked reply
    → (reply ≡ unavailable) ⊎ IsSaid history caller moment asked reply
reply-said history after caller moment (Ok (request.Message number message)) reply (inl fault) = inl fault
reply-said history after caller moment (Ok (request.Message number message)) reply (inr both) = inr both.0
reply-said history after caller moment (Ok (request.Query query)) reply said = inr said
reply-said history after caller moment (Err why) reply said = inr said

answer-said : (history after : List Entry) (caller : Option (List ℕ)) (moment : Moment) (json reply : List ℕ)
    → IsAnswerOn history after caller moment json reply
    → (reply ≡ unavailable) ⊎ Says history caller moment json reply
answer-said history after None moment json reply on = inr on
answer-said history after (Some caller) moment json reply on =
    elim (reply-said history after caller moment on.0 reply on.2) [
      | inl fault ↦ inl fault
      | inr said ↦ inr (on.0, on.1, said)
    ]

-- the line of an acceptance doesn't tell the disk's fault
not-accepted : (e : Entry) (reply : List ℕ) → reply ≡ unavailable → reply ≡ accepted_line e → ⊥
not-accepted e reply fault accepted =
    let letters : 117 ≡ 97 = ap (λ (text : List ℕ). get_or text 0 0) (sym fault ∙ accepted) in
    omega (arith, letters)

-- A line was replied to on its history, which begins with the first and led to this one; with that the last history
-- begins, which the disk keeps.
pub record IsKept (disk : DiskState) (first last : Standing) (after : List Entry) (line : Replied) : Type 0 where
  pub on : IsAnswerOn line.history after line.caller line.moment line.json line.reply
  pub has_first : Begins first.history line.history
  pub begins : Begins line.history after
  pub later : Begins after last.history
  pub stays : Stays last disk

module _ (disk : DiskState) (first last : Standing) (after : List Entry) (line : Replied)
    (kept : IsKept disk first last after line)
  where
    -- the last history begins with the one of the reply
    whole : Begins line.history last.history
    whole = Begins-both line.history after last.history kept.begins kept.later

    -- which is legal
    legal : IsLegal line.history
    legal = IsLegal-begins line.history last.history whole kept.stays.legal

    -- what a known caller asked, its text asks alone
    asked-on : (caller : List ℕ) (asked : Result Request Refusal)
        → line.caller ≡ Some caller
        → Asks line.json asked
        → IsReplyOn line.history after caller line.moment asked line.reply
    asked-on caller asked known asks =
        let on : IsAnswerOn line.history after (Some caller) line.moment line.json line.reply =
        subst (λ (who : Option (List ℕ)). IsAnswerOn line.history after who line.moment line.json line.reply) known
        kept.on in
        subst (λ (what : Result Request Refusal). IsReplyOn line.history after caller line.moment what line.reply)
        (asks-one line.json on.0 asked on.1 asks) on.2

    -- the entry of an acknowledged line stands in the last history
    acknowledged : (e : Entry) → IsAcknowledged line e → Contains last.history e
    acknowledged e is =
        elim (asked-on e.submitter (Ok (request.Message e.number e.message)) is.caller is.asked) [
          | inl fault ↦ absurd (not-accepted e line.reply fault is.accepted)
          | inr both ↦
              let row : IsRowAccepted e (e.number, e.message) (verdict_on line.history e.submitter e.number
              (running line.history line.moment) e.message) =
              record { number = refl; message = refl; accepted = sym both.0 ∙ is.accepted } in
              let stands = rows-stand line.history e e.submitter (running line.history line.moment)
              ((e.number, e.message) ∷ []) refl (inl row) in
              Contains-begins after last.history e kept.later
              (subst (λ (h : List Entry). Contains h e) (sym both.1) stands)
        ]

    -- all replies belong to one history
    one-history : IsRepliedIn first.history last.history line
    one-history = record {
      between = IsBetween-here first.history last.history line.history kept.has_first whole kept.stays.legal;
      said = answer-said line.history after line.caller line.moment line.json line.reply kept.on;
      has = acknowledged;
    }

    -- what is read of what is published is by the rule
    told-by-the-rule : IsToldByTheRule last.history line
    told-by-the-rule caller asked auction known asks whose passed =
        let on = asked-on caller (Ok (request.Query asked)) known asks in
        let read : IsTold line.history caller asked None line.reply =
        subst (λ (why : Option Refusal). IsTold line.history caller asked why line.reply) passed on in
        let ruled = by-the-rule last.history whole.0 line.history caller auction asked read.0 kept.stays.legal whole.1
        whose passed read.1 in
        (read.0, read.2, ruled)

    -- what is sealed is replied to by the caller's own part
    sealed-reply : IsSealedReply line
    sealed-reply caller asked other known asks sealed given agree =
        let on = asked-on caller asked known asks in
        elim (reply-said line.history after caller line.moment asked line.reply on) [
          | inl fault ↦ absurd (given fault)
          | inr said ↦ IsSaid-own line.history caller line.moment other asked line.reply said legal sealed agree
        ]

    -- the headline of the line
    line-headline : LineHeadline disk first.history last.history line
    line-headline = record {
      one_history = one-history;
      keeps = λ e is. kept-told disk.past disk last e refl kept.stays (acknowledged e is);
      by_the_rule = told-by-the-rule;
      sealed = sealed-reply;
      holdings = AddsUp-legal line.history legal;
    }

-- ---- line by line

-- Lines were replied to one after another, from where the script stood: the headline holds of each.
pub record AreReplied (operator : List ℕ) (disk : DiskState) (first last stood : Standing) (lines : List (List ℕ))
    (replies : List ℕ) : Type 0
  where
    pub asked : List Replied
    pub lines_are : lines ≡ map (λ (one : Replied). one.line) asked
    pub replies_are : replies ≡ flat_map (λ (one : Replied). one.reply) asked
    pub chain : Along (IsRepliedAt operator) stood asked last
    pub each : All (LineHeadline disk first.history last.history) asked

module _ (operator : List ℕ) (disk : DiskState) (first last : Standing) (stays : Stays last disk) where
  -- the headline holds of a line of a run, and of those behind it
  one-more : (stood next : Standing) (line reply : List ℕ) (lines : List (List ℕ)) (later : List ℕ)
      → Begins first.history stood.history
      → Begins next.history last.history
      → IsActedOn operator stood line reply next
      → AreReplied operator disk first last next lines later
      → AreReplied operator disk first last stood (line ∷ lines) (reply ++ later)
  one-more stood next line reply lines later so_far ahead acted others =
      let on = answer-on stood next (caller_of (registrations stood.history) operator acted.key) acted.moment acted.json
      reply acted.answered in
      let one : Replied = record {
        line = line;
        caller = caller_of (registrations stood.history) operator acted.key;
        moment = acted.moment;
        json = acted.json;
        history = on.history;
        reply = reply;
      } in
      let here = at-grown stood.history on.history stood.doubt on.settled in
      let kept : IsKept disk first last next.history one = record {
        on = on.holds;
        has_first = Begins-both first.history stood.history on.history so_far here;
        begins = on.begins;
        later = ahead;
        stays = stays;
      } in
      record {
        asked = one ∷ others.asked;
        lines_are = ap (λ (list : List (List ℕ)). line ∷ list) others.lines_are;
        replies_are = ap (λ (text : List ℕ). reply ++ text) others.replies_are;
        chain = (
          next,
          record { acted = acted; caller = refl; moment = refl; json = refl; settled = on.settled },
          others.chain,
        );
        each = All-cons (LineHeadline disk first.history last.history) one others.asked
            (line-headline disk first last next.history one kept) others.each;
      }

  -- so it does of each line of a run
  are-replied : (stood : Standing) (lines : List (List ℕ)) (replies : List ℕ)
      → Begins first.history stood.history
      → IsRun operator stood lines replies last
      → AreReplied operator disk first last stood lines replies
  are-replied stood [] replies so_far run = record {
    asked = [];
    lines_are = refl;
    replies_are = run.0;
    chain = run.1;
    each = All-nil (LineHeadline disk first.history last.history);
  }
  are-replied stood (line ∷ lines) replies so_far run =
      let one = (line-goes operator stood run.1 line run.0 run.3).grown in
      subst (λ (text : List ℕ). AreReplied operator disk first last stood (line ∷ lines) text) (sym run.5)
      (one-more stood run.1 line run.0 lines run.2 so_far (run-goes operator run.1 last lines run.2 run.4).grown run.3
      (are-replied run.1 lines run.2 (Begins-both first.history stood.history run.1.history so_far one) run.4))

-- The headline of a run.
pub RunHeadline-here : (operator : List ℕ) (disk : DiskState) (first last : Standing) (lines : List (List ℕ))
    (replies : List ℕ) (more : List Entry)
    → IsRun operator first lines replies last
    → first.doubt ≡ []
    → first.doubted ≡ []
    → last.history ≡ first.history ++ more
    → Stays last disk
    → RunHeadline operator disk first last more lines replies
RunHeadline-here operator disk first last lines replies more run sure none grown stays = record {
  asked = are.asked;
  lines_are = are.lines_are;
  replies_are = are.replies_are;
  chain = are.chain;
  headline = record {
    one_history = OneHistory-here (of_lines operator) disk first last more are.asked stays
        (λ k d within. (are.each k d within).one_history)
        (each-map (λ (one : Replied). one.line) (IsOfLine operator last.history) are.asked lines (more ++ last.doubt)
        are.lines_are (lines-own operator first last lines replies more run sure grown)) (λ e some. some);
    keeps = λ k d within. (are.each k d within).keeps;
    by_the_rule = λ k d within. (are.each k d within).by_the_rule;
    in_time = bids-in-time last.history stays.legal;
    sealed = λ k d within. (are.each k d within).sealed;
    holdings = AddsUp-legal last.history stays.legal;
    holdings_on = λ k d within history on. subst AddsUp (sym on) (are.each k d within).holdings;
  };
  doubted = doubted-lines operator first last lines replies run sure none;
}
  where
    are : AreReplied operator disk first last first lines replies
    are = are-replied operator disk first last stays first lines replies ([], sym (append-nil first.history)) run
