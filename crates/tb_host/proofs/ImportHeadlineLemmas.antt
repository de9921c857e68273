-- The headline of a table's rows follows from their import, where the disk keeps the last history.
use Rattle.std.proofs.Common.{◌≡◌, ℕ, List, [], ◌∷◌, ◌++◌, map, get_or, false, Option, Some, None, ◌⊎◌, inl, inr, refl, sym, subst, subst₂, ap, ◌∙◌, append-nil}
use Rattle.std.specs.Prelude.{All, Any, Contains, IfSome}
use Rattle.std.specs.List.{flat_map}
use Rattle.std.proofs.lemmas.List.Elements.{All-cons, All-nil}
use Rattle.tb_units.specs.declared.moment.Moment.{Moment}
use Rattle.tb_disk.specs.Disks.{DiskState}
use Rattle.tb_gates.specs.Clocks.{ClockState}
use Rattle.tb_message.specs.declared.message.Entry.{Entry}
use Rattle.tb_message.specs.declared.message.Message.{Message}
use Rattle.tb_message.specs.declared.message.Message.TheVariants as message
use Rattle.tb_message.specs.declared.verdict.Verdict.{Verdict}
use Rattle.tb_core.specs.House.{IsBid}
use Rattle.tb_history.specs.Legal.{IsLegal, running}
use Rattle.tb_history.specs.OwnPart.{depends_on_others, own_part}
use Rattle.tb_desk.specs.Turn.{AreBids, Asked, DependOnNoOthers, group, verdicts, verdicts_on}
use Rattle.tb_desk.proofs.JudgeLemmas.{sealed-all}
use Rattle.tb_commands.specs.DiskRun.{Stays}
use Rattle.tb_host.specs.Headline.{AddsUp, Begins, DiskKeeps}
use Rattle.tb_commands.specs.ImportRun.{AreSent, IsImport, SentRow}
use Rattle.tb_host.specs.ScriptHeadline.{Along, AreRepliedIn, AreSealedReplies, AreSentAt, HasAccepted, ImportHeadline, IsOfRow, IsRowAcknowledged, IsTurnAt, Sending, SentRun, SentTurn, TurnsAt, of_runs}
use Rattle.tb_commands.specs.Standings.{Standing}
use Rattle.tb_commands.specs.declared.sender.Sender.{Sender}
use Rattle.tb_host.proofs.AnsweredLemmas.{Begins-both, Contains-begins, IsBetween-here, IsLegal-begins, answered-on, rows-stand}
use Rattle.tb_host.proofs.ChainLemmas.{OneHistory-here, each-map}
use Rattle.tb_host.proofs.HeadlineLemmas.{AddsUp-legal, bids-in-time, kept-told}
use Rattle.tb_history.specs.Answer.{caller_of}
use Rattle.tb_history.specs.Roster.{registrations}
use Rattle.tb_commands.proofs.DoubtedLemmas.{doubted-runs}
use Rattle.tb_commands.proofs.ImportLemmas.{import-grown, sent-grown}
use Rattle.tb_host.proofs.OwnRowLemmas.{rows-own}
use Rattle.tb_commands.proofs.TurnLemmas.{at-grown}

-- a bid doesn't depend on others
bid-still : (m : Message) → IsBid m → depends_on_others m ≡ false
bid-still (message.Bid auction bidder rate amount) bid = refl
bid-still other bid = absurd bid

-- so bids move none
bids-still : (rows : List SentRow) → AreBids rows → DependOnNoOthers rows
bids-still rows bids = λ k d within. bid-still (get_or rows k d).1 (bids k d within)

-- the parts of the headline, of one run of rows that made a turn
pub record RowsHeadline (disk : DiskState) (first last : List Entry) (turn : SentTurn) : Type 0 where
  pub one_history : AreRepliedIn first last turn
  pub keeps : (e : Entry) → IsRowAcknowledged turn e → DiskKeeps disk e
  pub sealed : AreSealedReplies turn
  pub holdings : AddsUp turn.history

-- A run of rows was answered on its history, which begins with the first and led to this one; with that the last
-- history begins, which the disk keeps.
pub record IsRunKept (disk : DiskState) (first last : Standing) (after : List Entry) (turn : SentTurn) : Type 0 where
  pub way : (turn.replies ≡ None)
      ⊎ ((turn.replies ≡ Some (verdicts turn.history turn.asked))
      × (after ≡ turn.history ++ group turn.history turn.asked))
  pub has_first : Begins first.history turn.history
  pub begins : Begins turn.history after
  pub later : Begins after last.history
  pub stays : Stays last disk

module _ (disk : DiskState) (first last : Standing) (after : List Entry) (turn : SentTurn)
    (kept : IsRunKept disk first last after turn)
  where
    -- the last history begins with the one of the replies
    whole : Begins turn.history last.history
    whole = Begins-both turn.history after last.history kept.begins kept.later

    -- the entry of an acknowledged row stands in the last history
    acknowledged : (e : Entry) → IsRowAcknowledged turn e → Contains last.history e
    acknowledged e is =
        elim kept.way [
          | inl none ↦ absurd (let wrong : None ≡ Some is.said = sym none ∙ is.given in cc)
          | inr both ↦
              let given : Some is.said ≡ Some (verdicts turn.history turn.asked) = sym is.given ∙ both.0 in
              let same : is.said ≡ verdicts turn.history turn.asked = cc in
              let stands = rows-stand turn.history e turn.asked.submitter (running turn.history turn.asked.moment)
              turn.asked.messages is.submitter
              (subst (λ (said : List Verdict). HasAccepted e turn.asked.messages said) same is.row) in
              Contains-begins after last.history e kept.later
              (subst (λ (h : List Entry). Contains h e) (sym both.1) stands)
        ]

    -- all verdicts belong to one history
    one-history : AreRepliedIn first.history last.history turn
    one-history = record {
      between = IsBetween-here first.history last.history turn.history kept.has_first whole kept.stays.legal;
      said = elim kept.way [
        | inl none ↦ inl none
        | inr both ↦ inr both.0
      ];
      has = acknowledged;
    }

    -- the verdicts on bids are those on the sender's own part
    sealed-replies : AreSealedReplies turn
    sealed-replies other bids given agree =
        elim kept.way [
          | inl none ↦ absurd (given none)
          | inr both ↦
              let legal : IsLegal (turn.history ++ group turn.history turn.asked) =
              subst IsLegal both.1 (IsLegal-begins after last.history kept.later kept.stays.legal) in
              let asked = turn.asked in
              let own : List Entry = own_part asked.submitter turn.history in
              let same = sealed-all turn.history asked.submitter (running turn.history asked.moment) asked.messages
              legal (bids-still asked.messages bids) in
              both.0
              ∙ ap Some (same ∙ ap (λ (m : Moment). verdicts_on own asked.submitter m asked.messages) agree)
        ]

    -- the headline of the run
    rows-headline : RowsHeadline disk first.history last.history turn
    rows-headline = record {
      one_history = one-history;
      keeps = λ e is. kept-told disk.past disk last e refl kept.stays (acknowledged e is);
      sealed = sealed-replies;
      holdings = AddsUp-legal turn.history (IsLegal-begins turn.history last.history whole kept.stays.legal);
    }

-- ---- run by run

-- a run of rows as it was sent, of whose turn the headline holds, where it made one
pub record IsRunSent (sender : Sender) (disk : DiskState) (first last : Standing) (old new : Sending)
    (rows : List SentRow) (lines : List ℕ) : Type 0
  where
    pub run : SentRun
    pub rows_are : run.rows ≡ rows
    pub lines_are : run.lines ≡ lines
    pub turned : TurnsAt (caller_of (registrations old.stands.history) sender.operator sender.key) old new run
    pub holds : IfSome run.turn (RowsHeadline disk first.history last.history)

module _ (sender : Sender) (disk : DiskState) (first last : Standing) (stays : Stays last disk) where
  -- each is, where those before it led
  run-sent : (old new : Sending) (rows : List SentRow) (lines : List ℕ) (who : Option (List ℕ))
      → who ≡ caller_of (registrations old.stands.history) sender.operator sender.key
      → Begins first.history old.stands.history
      → Begins new.stands.history last.history
      → AreSent who old.clock new.clock rows old.stands lines new.stands
      → IsRunSent sender disk first last old new rows lines
  run-sent old new rows lines None nobody so_far later sent =
      let run : SentRun = record { rows = rows; lines = lines; turn = None } in
      record {
        run = run;
        rows_are = refl;
        lines_are = refl;
        turned = subst (λ (who : Option (List ℕ)). TurnsAt who old new run) nobody refl;
        holds = tt;
      }
  run-sent old new rows lines (Some caller) known so_far later sent =
      let asked : Asked = record { submitter = caller; moment = sent.0; messages = rows } in
      let on = answered-on asked old.stands new.stands sent.2 sent.3 in
      let turn : SentTurn = record { asked = asked; history = on.history; replies = sent.2 } in
      let run : SentRun = record { rows = rows; lines = lines; turn = Some turn } in
      let kept : IsRunKept disk first last new.stands.history turn = record {
        way = on.way;
        has_first = Begins-both first.history old.stands.history on.history so_far
            (at-grown old.stands.history on.history old.stands.doubt on.settled);
        begins = on.begins;
        later = later;
        stays = stays;
      } in
      let at : IsTurnAt caller old new run turn = record {
        submitter = refl;
        read = sent.1;
        messages = refl;
        written = sent.4;
        settled = on.settled;
      } in
      record {
        run = run;
        rows_are = refl;
        lines_are = refl;
        turned = subst (λ (who : Option (List ℕ)). TurnsAt who old new run) known (turn, refl, at);
        holds = rows-headline disk first last new.stands.history turn kept;
      }

-- Runs of rows were sent one after another, from where the import stood: the headline holds of each.
pub record AreRunsSent (sender : Sender) (disk : DiskState) (first last : Standing) (old new : Sending)
    (runs : List (List SentRow)) (text : List ℕ) : Type 0
  where
    pub asked : List SentRun
    pub runs_are : runs ≡ map (λ (one : SentRun). one.rows) asked
    pub text_is : text ≡ flat_map (λ (one : SentRun). one.lines) asked
    pub chain : Along (AreSentAt sender) old asked new
    pub each : All (λ (one : SentRun). IfSome one.turn (RowsHeadline disk first.history last.history)) asked

module _ (sender : Sender) (disk : DiskState) (first last : Standing) (stays : Stays last disk) where
  -- one more in front of them
  one-more : (old next new : Sending) (rows : List SentRow) (lines : List ℕ) (runs : List (List SentRow))
      (later : List ℕ)
      → AreSent (caller_of (registrations old.stands.history) sender.operator sender.key) old.clock next.clock rows
      old.stands lines next.stands
      → IsRunSent sender disk first last old next rows lines
      → AreRunsSent sender disk first last next new runs later
      → AreRunsSent sender disk first last old new (rows ∷ runs) (lines ++ later)
  one-more old next new rows lines runs later sent here others =
      let key = caller_of (registrations old.stands.history) sender.operator sender.key in
      let sent_so : AreSent key old.clock next.clock here.run.rows old.stands here.run.lines next.stands =
      subst₂ (λ (r : List SentRow) (l : List ℕ). AreSent key old.clock next.clock r old.stands l next.stands)
      (sym here.rows_are) (sym here.lines_are) sent in
      record {
        asked = here.run ∷ others.asked;
        runs_are = λ i. (sym here.rows_are i) ∷ others.runs_are i;
        text_is = λ i. (sym here.lines_are i) ++ others.text_is i;
        chain = (next, record { sent = sent_so; turned = here.turned }, others.chain);
        each = All-cons (λ (one : SentRun). IfSome one.turn (RowsHeadline disk first.history last.history)) here.run
            others.asked here.holds others.each;
      }

  -- so it does of each run of an import
  are-sent : (clock clock' : ClockState) (stood : Standing) (runs : List (List SentRow)) (text : List ℕ)
      → Begins first.history stood.history
      → IsImport sender clock clock' stood runs text last
      → AreRunsSent sender disk first last (record { clock = clock; stands = stood })
      (record { clock = clock'; stands = last }) runs text
  are-sent clock clock' stood [] text so_far sent = record {
    asked = [];
    runs_are = refl;
    text_is = sent.0;
    chain = λ i. record { clock = sent.2 i; stands = sent.1 i };
    each = All-nil (λ (one : SentRun). IfSome one.turn (RowsHeadline disk first.history last.history));
  }
  are-sent clock clock' stood (rows ∷ runs) text so_far sent =
      let key = caller_of (registrations stood.history) sender.operator sender.key in
      let one = sent-grown sender key clock sent.0 rows stood sent.2 sent.1 sent.4 in
      let old : Sending = record { clock = clock; stands = stood } in
      let next : Sending = record { clock = sent.0; stands = sent.2 } in
      let new : Sending = record { clock = clock'; stands = last } in
      let later = import-grown sender sent.0 clock' runs sent.2 last sent.3 sent.5 in
      subst (λ (all : List ℕ). AreRunsSent sender disk first last old new (rows ∷ runs) all) (sym sent.6)
      (one-more old next new rows sent.1 runs sent.3 sent.4
      (run-sent sender disk first last stays old next rows sent.1 key refl so_far later sent.4)
      (are-sent sent.0 clock' sent.2 runs sent.3 (Begins-both first.history stood.history sent.2.history so_far one)
      sent.5))

-- ---- the whole

-- what holds of a run's turn, where it made one, is so of this turn
turned-on : (P : SentTurn → Type 0) (run : SentRun) (turn : SentTurn)
    → run.turn ≡ Some turn
    → IfSome run.turn P
    → P turn
turned-on P run turn made holds = subst (λ (t : Option SentTurn). IfSome t P) made holds

-- and what follows from it is so where it made one
turned-so : (P Q : SentTurn → Type 0) (made : Option SentTurn)
    → ((turn : SentTurn) → P turn → Q turn)
    → IfSome made P
    → IfSome made Q
turned-so P Q None go holds = tt
turned-so P Q (Some turn) go holds = go turn holds

-- The headline of an import.
pub ImportHeadline-here : (sender : Sender) (disk : DiskState) (clock clock' : ClockState) (first last : Standing)
    (runs : List (List SentRow)) (text : List ℕ) (more : List Entry)
    → IsImport sender clock clock' first runs text last
    → first.doubt ≡ []
    → first.doubted ≡ []
    → last.history ≡ first.history ++ more
    → Stays last disk
    → ImportHeadline sender disk clock clock' first last more runs text
ImportHeadline-here sender disk clock clock' first last runs text more sent sure none grown stays = record {
  asked = are.asked;
  runs_are = are.runs_are;
  text_is = are.text_is;
  chain = are.chain;
  headline = record {
    one_history = OneHistory-here (of_runs sender) disk first last more are.asked stays
        (λ k d within. turned-so (RowsHeadline disk first.history last.history)
        (AreRepliedIn first.history last.history) (get_or are.asked k d).turn (λ turn holds. holds.one_history)
        (are.each k d within))
        (each-map (λ (one : SentRun). one.rows) (λ e rows. Any (IsOfRow sender last.history e) rows) are.asked runs
        (more ++ last.doubt) are.runs_are (rows-own sender clock clock' first last runs text more sent sure grown))
        (λ e some. some);
    keeps = λ k d within e told.
        (turned-on (RowsHeadline disk first.history last.history) (get_or are.asked k d) told.0 told.1
        (are.each k d within)).keeps e told.2;
    by_the_rule = λ k d within. tt;
    in_time = bids-in-time last.history stays.legal;
    sealed = λ k d within.
        turned-so (RowsHeadline disk first.history last.history) AreSealedReplies (get_or are.asked k d).turn
        (λ turn holds. holds.sealed) (are.each k d within);
    holdings = AddsUp-legal last.history stays.legal;
    holdings_on = λ k d within history told.
        subst AddsUp (sym told.2)
        (turned-on (RowsHeadline disk first.history last.history) (get_or are.asked k d) told.0 told.1
        (are.each k d within)).holdings;
  };
  doubted = doubted-runs sender clock clock' runs first last text sent sure none;
}
  where
    are : AreRunsSent sender disk first last (record { clock = clock; stands = first })
        (record { clock = clock'; stands = last }) runs text
    are = are-sent sender disk first last stays clock clock' first runs text ([], sym (append-nil first.history)) sent
