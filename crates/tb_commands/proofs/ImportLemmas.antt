-- Rows that are sent run by run.
use Rattle.std.proofs.Common.{◌≡◌, ◌≢◌, ℕ, ◌+◌, ◌<◌, ◌≤◌, List, [], ◌∷◌, ◌++◌, length, take, drop, Option, Some, None, inl, inr, sym, subst, ap, ◌∙◌, refl, arith, append_assoc, append-nil, length-drop}
use Rattle.std.specs.Prelude.{min}
use Rattle.std.proofs.lemmas.List.{drop-drop, drop_min, length-take}
use Rattle.std.proofs.lemmas.List.Elements.{All-drop, All-take}
use Rattle.tb_link.specs.Counts.{NeverFalls, Rose}
use Rattle.tb_link.specs.Sinks.{SinkState, Takes, after_taken}
use Rattle.tb_disk.specs.Disks.{DiskState}
use Rattle.tb_units.specs.declared.moment.Moment.{Moment}
use Rattle.tb_gates.specs.Clocks.{ClockState, ReadsClock}
use Rattle.tb_terms.specs.declared.refusal.Refusal.TheVariants as refusal
use Rattle.tb_message.specs.declared.verdict.Verdict.{Verdict}
use Rattle.tb_history.specs.Answer.{caller_of}
use Rattle.tb_history.specs.Legal.{running}
use Rattle.tb_history.specs.Roster.{registrations}
use Rattle.tb_desk.specs.Desks.{Tells, doubted_by, told_by}
use Rattle.tb_core.specs.House.{IsBid}
use Rattle.tb_message.specs.Spelling.{IsNumbered}
use Rattle.tb_desk.specs.Turn.{AreBids, AreNumbered, Asked, Replies, Turns, verdicts}
use Rattle.tb_desk.specs.declared.reply.GroupReply.{GroupReply}
use Rattle.tb_desk.specs.declared.reply.GroupReply.TheVariants as group
use Rattle.tb_desk.proofs.JudgeLemmas.{verdicts_on-length}
use Rattle.tb_commands.specs.DiskRun.{HasGrown}
use Rattle.tb_commands.specs.ImportRun.{AreSent, BeginWithRuns, HasSentRuns, IsImport, SentRow, group_text, longest_run, same_lines}
use Rattle.tb_commands.specs.ImportSteps.{AreAsMany, GroupEnds, RowsEnd, SendsRuns}
use Rattle.tb_commands.specs.Standings.{Standing, held_at}
use Rattle.tb_commands.specs.Replies.{refused}
use Rattle.tb_commands.specs.Turns.{MakesTurn}
use Rattle.tb_commands.specs.declared.command_endings.TextEnding.{TextEnding}
use Rattle.tb_commands.specs.declared.command_endings.TextEnding.TheVariants as ending
use Rattle.tb_commands.specs.declared.sender.Sender.{Sender}
use Rattle.tb_commands.proofs.GrownLemmas.{HasGrown-both, HasGrown-same}
use Rattle.tb_commands.proofs.TurnLemmas.{HasGrown-turn, MakesTurn-of}
use Rattle.tb_commands.proofs.ScriptLemmas.{after_taken-more, after_taken-nothing}
use Rattle.tb_commands.proofs.WriteLemmas.{Fails-second, Takes-both}

-- runs behind runs
pub BeginWithRuns-append : (runs more : List (List SentRow)) (rows mid rest : List SentRow)
    → BeginWithRuns runs rows mid
    → BeginWithRuns more mid rest
    → BeginWithRuns (runs ++ more) rows rest
BeginWithRuns-append [] more rows mid rest first second =
    subst (λ (r : List SentRow). BeginWithRuns more r rest) first second
BeginWithRuns-append (run ∷ runs) more rows mid rest first second =
    (first.0, first.1, BeginWithRuns-append runs more (drop longest_run rows) mid rest first.2 second)

module _ (sender : Sender) where
  -- what they are answered stands behind what was answered before, and their readings of the clock behind those before
  pub IsImport-append : (clock read clock' : ClockState) (first mid last : Standing) (runs more : List (List SentRow))
      (text text' : List ℕ)
      → IsImport sender clock read first runs text mid
      → IsImport sender read clock' mid more text' last
      → IsImport sender clock clock' first (runs ++ more) (text ++ text') last
  IsImport-append clock read clock' first mid last [] more text text' one other =
      subst (λ (t : List ℕ). IsImport sender clock clock' first more (t ++ text') last) (sym one.0)
      (subst (λ (s : Standing). IsImport sender clock clock' s more text' last) one.1
      (subst (λ (c : ClockState). IsImport sender c clock' mid more text' last) one.2 other))
  IsImport-append clock read clock' first mid last (run ∷ runs) more text text' one other = (
    one.0,
    one.1,
    one.2,
    one.3 ++ text',
    one.4,
    IsImport-append one.0 read clock' one.2 mid last runs more one.3 text' one.5 other,
    ap (λ (t : List ℕ). t ++ text') one.6 ∙ append_assoc one.1 one.3 text',
  )

  -- rows that are sent keep the history
  pub sent-grown : (caller : Option (List ℕ)) (clock clock' : ClockState) (run : List SentRow) (old new : Standing)
      (text : List ℕ)
      → AreSent caller clock clock' run old text new
      → HasGrown old new
  sent-grown None clock clock' run old new text sent = HasGrown-same old new sent.1
  sent-grown (Some caller) clock clock' run old new text sent =
      HasGrown-turn (record { submitter = caller; moment = sent.0; messages = run }) old new sent.2 sent.3

  pub import-grown : (clock clock' : ClockState) (runs : List (List SentRow)) (first last : Standing) (text : List ℕ)
      → IsImport sender clock clock' first runs text last
      → HasGrown first last
  import-grown clock clock' [] first last text sent = HasGrown-same first last sent.1
  import-grown clock clock' (run ∷ runs) first last text sent =
      HasGrown-both first sent.2 last
      (sent-grown (caller_of (registrations first.history) sender.operator sender.key) clock sent.0 run first sent.2
      sent.1 sent.4)
      (import-grown sent.0 clock' runs sent.2 last sent.3 sent.5)

  -- no run was sent so far
  pub HasSentRuns-start : (clock : ClockState) (rows : List SentRow) (first : Standing)
      → HasSentRuns sender clock clock rows first first [] rows
  HasSentRuns-start clock rows first = record { runs = []; begin = refl; sent = (refl, refl, refl) }

  -- one more was sent
  pub HasSentRuns-more : (clock read clock' : ClockState) (rows rest run : List SentRow) (first mid last : Standing)
      (text text' : List ℕ)
      → HasSentRuns sender clock read rows first mid text rest
      → 1 ≤ length rest
      → run ≡ take longest_run rest
      → IsImport sender read clock' mid (run ∷ []) text' last
      → HasSentRuns sender clock clock' rows first last (text ++ text') (drop longest_run rest)
  HasSentRuns-more clock read clock' rows rest run first mid last text text' so_far some is more = record {
    runs = so_far.runs ++ run ∷ [];
    begin = BeginWithRuns-append so_far.runs (run ∷ []) rows rest (drop longest_run rest) so_far.begin (some, is, refl);
    sent = IsImport-append clock read clock' first mid last so_far.runs (run ∷ []) text text' so_far.sent more;
  }

-- what the desk says of a group that it was given
pub record AnswersGroup (gate : ℕ) (disk : DiskState) (asked : Asked) (old new : Standing) (answer : GroupReply)
    (places : List (Option Verdict)) (replies : Replies) : Type 0
  where
    pub tells : Tells answer places replies
    pub turns : Turns gate disk asked (held_at old) (held_at new) replies
    pub count : NeverFalls old.faults new.faults
    pub fault : answer ≡ group.DiskFault → Rose old.faults new.faults
    pub no_fault : answer ≢ group.DiskFault → new.faults ≡ old.faults
    pub doubted : new.doubted ≡ old.doubted ++ doubted_by (told_by answer) (held_at new)

-- so it made a turn
pub MakesTurn-group : (gate : ℕ) (disk : DiskState) (asked : Asked) (old new : Standing) (answer : GroupReply)
    (places : List (Option Verdict)) (replies : Replies)
    → AnswersGroup gate disk asked old new answer places replies
    → MakesTurn asked old new replies
MakesTurn-group gate disk asked old new group.Verdicts places (Some given) says =
    MakesTurn-of gate disk asked old new (Some given) says.turns says.count (λ is. absurd (cc))
    (λ some. says.no_fault (λ is. absurd (cc))) says.doubted
MakesTurn-group gate disk asked old new group.Verdicts places None says = absurd says.tells
MakesTurn-group gate disk asked old new group.DiskFault places (Some given) says = absurd says.tells
MakesTurn-group gate disk asked old new group.DiskFault places None says =
    MakesTurn-of gate disk asked old new None says.turns says.count (λ is. says.fault refl)
    (λ some. absurd (some refl)) says.doubted

-- it has as many verdicts as messages
pub AreAsMany-turn : (asked : Asked) (old new : Standing) (replies : Replies)
    → MakesTurn asked old new replies
    → AreAsMany asked.messages replies
AreAsMany-turn asked old new None turn = tt
AreAsMany-turn asked old new (Some given) turn = elim turn.way [
  | inl stuck ↦ absurd (let none : Some given ≡ None = stuck.failed in cc)
  | inr (inl answered) ↦ (
      let same : Some given ≡ Some (verdicts turn.at asked) = answered.given in
      let is : given ≡ verdicts turn.at asked = cc in
      ap length is ∙ verdicts_on-length turn.at asked.submitter (running turn.at asked.moment) asked.messages)
  | inr (inr doubted) ↦ absurd (let none : Some given ≡ None = doubted.failed in cc)
]

-- a run that was sent is an import of one run
pub IsImport-one : (sender : Sender) (clock clock' : ClockState) (run : List SentRow) (old new : Standing)
    (lines : List ℕ)
    → AreSent (caller_of (registrations old.history) sender.operator sender.key) clock clock' run old lines new
    → IsImport sender clock clock' old (run ∷ []) lines new
IsImport-one sender clock clock' run old new lines sent =
    (clock', lines, new, [], sent, (refl, refl, refl), sym (append-nil lines))

-- where the key is nobody's each row is refused
pub AreSent-nobody : (caller : Option (List ℕ)) (clock : ClockState) (run : List SentRow) (stands : Standing)
    (text : List ℕ)
    → caller ≡ None
    → text ≡ same_lines (refused refusal.UnknownKey) run
    → AreSent caller clock clock run stands text stands
AreSent-nobody None clock run stands text is lines = (lines, refl, refl)
AreSent-nobody (Some name) clock run stands text is lines = absurd (cc)

-- and a caller's rows made a turn, at the moment that was read
pub AreSent-caller : (caller : Option (List ℕ)) (name : List ℕ) (clock clock' : ClockState) (moment : Moment)
    (run : List SentRow) (old new : Standing) (text : List ℕ) (replies : Replies)
    → caller ≡ Some name
    → ReadsClock clock clock' moment.seconds
    → MakesTurn (record { submitter = name; moment = moment; messages = run }) old new replies
    → text ≡ group_text run replies
    → AreSent caller clock clock' run old text new
AreSent-caller caller name clock clock' moment run old new text replies is reads turn lines =
    subst (λ (who : Option (List ℕ)). AreSent who clock clock' run old text new) (sym is)
    (moment, reads, replies, turn, lines)

-- before the end of the rows one is left
pub some-left : (rows : List SentRow) (place : ℕ) → place < length rows → 1 ≤ length (drop place rows)
some-left rows place within = omega (arith, length-drop place rows)

-- a run is taken, and behind it are the rows that are left
pub behind-run : (rows run : List SentRow) (place : ℕ)
    → run ≡ take longest_run (drop place rows)
    → drop longest_run (drop place rows) ≡ drop (place + length run) rows
behind-run rows run place is =
    let rest = drop place rows in
    let size : length run ≡ min longest_run (length rest) =
    ap length is ∙ length-take longest_run rest in
    sym (drop_min longest_run rest)
    ∙ (ap (λ (n : ℕ). drop n rest) (sym size) ∙ drop-drop (length run) place rows)

-- which has no more rows than there are, and one at least
pub run-size : (rows run : List SentRow) (place : ℕ)
    → place < length rows
    → run ≡ take longest_run (drop place rows)
    → (1 ≤ length run) × (length run ≤ longest_run) × (place + length run ≤ length rows)
run-size rows run place within is =
    let size : length run ≡ min longest_run (length (drop place rows)) =
    ap length is ∙ length-take longest_run (drop place rows) in
    let left = length-drop place rows in
    (omega (arith, within, size, left), omega (arith, size), omega (arith, within, size, left))

-- and whose rows can be sent as all of them
pub run-sendable : (rows run : List SentRow) (place : ℕ)
    → run ≡ take longest_run (drop place rows)
    → AreBids rows × AreNumbered rows
    → AreBids run × AreNumbered run
run-sendable rows run place is sendable =
    let IsSent : SentRow → Type 0 = λ asked. IsBid asked.1 in
    let Numbered : SentRow → Type 0 = λ asked. IsNumbered asked.0 asked.1 in (
      subst AreBids (sym is)
          (All-take IsSent longest_run (drop place rows) (All-drop IsSent place rows sendable.0)),
      subst AreNumbered (sym is)
          (All-take Numbered longest_run (drop place rows) (All-drop Numbered place rows sendable.1)),
    )

-- Rows of which the first were sent, and their text was taken.
module _ (sender : Sender) (clock : ClockState) (rows : List SentRow) (first : Standing) (out : SinkState) where
  -- none so far
  pub SendsRuns-start : SendsRuns sender clock clock rows first first rows (Takes out out)
  SendsRuns-start = (
    [],
    HasSentRuns-start sender clock rows first,
    record { taken = after_taken-nothing out.taken; no_fault = refl },
  )

  module _ (read clock' : ClockState) (mid last : Standing) (rest run : List SentRow) (now new : SinkState)
      (so_far : SendsRuns sender clock read rows first mid rest (Takes out now))
      (some : 1 ≤ length rest)
      (is : run ≡ take longest_run rest) where
    -- one run more
    pub SendsRuns-next : (result : Option TextEnding)
        → ((ended : TextEnding) → result ≡ Some ended → ⊥)
        → GroupEnds sender read clock' run result now new mid last
        → SendsRuns sender clock clock' rows first last (drop longest_run rest) (Takes out new)
    SendsRuns-next None on ends = (
      so_far.0 ++ ends.0,
      HasSentRuns-more sender clock read clock' rows rest run first mid last so_far.0 ends.0 so_far.1 some is ends.1,
      Takes-both out now new so_far.0 ends.0 so_far.2 ends.2,
    )
    SendsRuns-next (Some ended) on ends = absurd (on ended refl)

    -- or the output failed
    RowsEnd-write : GroupEnds sender read clock' run (Some ending.WriteFault) now new mid last
        → RowsEnd sender clock clock' rows ending.WriteFault out new first last
    RowsEnd-write ends =
        let fails = Fails-second out now new so_far.0 ends.0 so_far.2 ends.2 in (
          fails.rose,
          record {
            rest = rest;
            text = so_far.0;
            read = read;
            before = mid;
            runs = so_far.1;
            some = some;
            part = ends.2.prefix.0;
            lost = ends.2.prefix.1;
            last_run = subst (λ (t : List ℕ). IsImport sender read clock' mid (take longest_run rest ∷ []) t last)
                ends.2.prefix.2
                (subst (λ (r : List SentRow). IsImport sender read clock' mid (r ∷ []) ends.0 last) is ends.1);
            taken = ends.2.prefix.3
                ∙ (ap (λ (t : Option (List ℕ)). after_taken t ends.2.prefix.0) so_far.2.taken
                ∙ after_taken-more out.taken so_far.0 ends.2.prefix.0);
          },
        )

    -- or memory ran out
    RowsEnd-memory : GroupEnds sender read clock' run (Some ending.OutOfMemory) now new mid last
        → RowsEnd sender clock clock' rows ending.OutOfMemory out new first last
    RowsEnd-memory ends = (
      rest,
      (
        so_far.0,
        subst (λ (c : ClockState). HasSentRuns sender clock c rows first last so_far.0 rest) (sym ends.2)
            (subst (λ (s : Standing). HasSentRuns sender clock read rows first s so_far.0 rest) (sym ends.0) so_far.1),
        subst (λ (o : SinkState). Takes out o so_far.0) (sym ends.1) so_far.2,
      ),
    )

    -- so the import ends in one of these ways
    pub RowsEnd-here : (ended : TextEnding)
        → GroupEnds sender read clock' run (Some ended) now new mid last
        → RowsEnd sender clock clock' rows ended out new first last
    RowsEnd-here ending.Done ends = absurd ends
    RowsEnd-here (ending.BadInput number) ends = ends
    RowsEnd-here ending.ReadFault ends = ends
    RowsEnd-here ending.WriteFault ends = RowsEnd-write ends
    RowsEnd-here ending.OutOfMemory ends = RowsEnd-memory ends

  -- all were sent
  pub RowsEnd-done : (clock' : ClockState) (last : Standing) (rest : List SentRow) (now : SinkState)
      → SendsRuns sender clock clock' rows first last rest (Takes out now)
      → rest ≡ []
      → RowsEnd sender clock clock' rows ending.Done out now first last
  RowsEnd-done clock' last rest now so_far none =
      subst (λ (r : List SentRow). SendsRuns sender clock clock' rows first last r (Takes out now)) none so_far
