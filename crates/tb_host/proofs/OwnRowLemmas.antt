-- What rows add to the history, and what they leave in doubt, is theirs.
use Rattle.std.proofs.Common.{◌≡◌, ℕ, List, [], ◌∷◌, ◌++◌, Option, Some, None, refl, sym, subst, ◌∙◌, arith, append-nil}
use Rattle.std.specs.Prelude.{All, Any, Contains}
use Rattle.std.proofs.lemmas.List.{append_cancel_left}
use Rattle.std.proofs.lemmas.List.Elements.{All-append, All-nil, Contains-append_right}
use Rattle.tb_units.specs.declared.moment.Moment.{Moment}
use Rattle.tb_gates.specs.Clocks.{ClockState}
use Rattle.tb_message.specs.declared.message.Entry.{Entry}
use Rattle.tb_history.specs.Answer.{caller_of}
use Rattle.tb_history.specs.Legal.{running}
use Rattle.tb_history.specs.Roster.{registrations}
use Rattle.tb_history.specs.Verdict.{verdict_on}
use Rattle.tb_desk.specs.Turn.{Asked, added, group_on}
use Rattle.tb_session.specs.Calls.{caller_on}
use Rattle.tb_session.proofs.CallerLemmas.{caller_on-append}
use Rattle.tb_host.specs.Headline.{Begins}
use Rattle.tb_commands.specs.ImportRun.{AreSent, IsImport, SentRow}
use Rattle.tb_host.specs.ScriptHeadline.{IsOfRow}
use Rattle.tb_commands.specs.Standings.{Standing}
use Rattle.tb_commands.specs.declared.sender.Sender.{Sender}
use Rattle.tb_host.proofs.AnsweredLemmas.{Begins-both}
use Rattle.tb_commands.proofs.ImportLemmas.{import-grown}
use Rattle.tb_host.proofs.OwnLineLemmas.{AddsOwn, added-own, both-own, entry_of, same-own, turn-own}

module _ (P : Entry → Type 0) where
  -- the group of rows has their entries alone
  group-own : (history : List Entry) (caller : List ℕ) (ran : Moment) (rows : List SentRow)
      → ((row : SentRow) → Contains rows row → P (entry_of caller row.0 row.1 ran))
      → All P (group_on history caller ran rows)
  group-own history caller ran [] own = All-nil P
  group-own history caller ran (row ∷ rows) own =
      let one : List Entry = added history caller ran row in
      All-append P one (group_on (history ++ one) caller ran rows)
      (added-own P caller ran row (verdict_on history caller row.0 ran row.1) (own row (0, omega arith, refl)))
      (group-own (history ++ one) caller ran rows
      (λ other has. own other (Contains-append_right (row ∷ []) rows other has)))

  -- a run of rows adds their entries
  sent-own : (sender : Sender) (whole : List Entry) (caller : Option (List ℕ)) (clock clock' : ClockState)
      (old new : Standing) (run : List SentRow) (lines : List ℕ)
      → caller_of (registrations old.history) sender.operator sender.key ≡ caller
      → Begins old.history whole
      → ((row : SentRow) → Contains run row → (e : Entry) → IsOfRow sender whole e row → P e)
      → All P old.doubt
      → AreSent caller clock clock' run old lines new
      → AddsOwn P old new
  sent-own sender whole None clock clock' old new run lines is begins own doubt sent =
      same-own P old new sent.1 doubt
  sent-own sender whole (Some caller) clock clock' old new run lines is begins own doubt sent =
      turn-own P asked old new sent.2 (λ at. group-own at caller (running at sent.0) run (of-row (running at sent.0)))
      doubt sent.3
    where
      asked : Asked
      asked = record { submitter = caller; moment = sent.0; messages = run }

      known : caller_on sender.operator whole sender.key ≡ Some caller
      known = subst (λ (h : List Entry). caller_on sender.operator h sender.key ≡ Some caller) (sym begins.1)
          (caller_on-append sender.operator old.history begins.0 sender.key caller is)

      of-row : (ran : Moment) (row : SentRow) → Contains run row → P (entry_of caller row.0 row.1 ran)
      of-row ran row has =
          own row has (entry_of caller row.0 row.1 ran) record { known = known; number = refl; message = refl }

  -- so do runs
  runs-own : (sender : Sender) (whole : List Entry) (clock clock' : ClockState) (old last : Standing)
      (runs : List (List SentRow)) (text : List ℕ)
      → IsImport sender clock clock' old runs text last
      → Begins last.history whole
      → ((run : List SentRow) → Contains runs run → (row : SentRow) → Contains run row → (e : Entry)
      → IsOfRow sender whole e row
      → P e)
      → All P old.doubt
      → AddsOwn P old last
  runs-own sender whole clock clock' old last [] text sent begins own doubt = same-own P old last sent.1 doubt
  runs-own sender whole clock clock' old last (run ∷ runs) text sent begins own doubt =
      let here : Begins old.history whole =
      Begins-both old.history last.history whole (import-grown sender clock clock' (run ∷ runs) old last text sent)
      begins in
      let first = sent-own sender whole (caller_of (registrations old.history) sender.operator sender.key) clock sent.0
      old sent.2 run sent.1 refl here (own run (0, omega arith, refl)) doubt sent.4 in
      let others = runs-own sender whole sent.0 clock' sent.2 last runs sent.3 sent.5 begins
      (λ other has. own other (Contains-append_right (run ∷ []) runs other has)) first.doubted in
      both-own P old sent.2 last first others

-- Past the first history there are only entries of the rows, and so is what is in doubt.
pub rows-own : (sender : Sender) (clock clock' : ClockState) (first last : Standing) (runs : List (List SentRow))
    (text : List ℕ) (more : List Entry)
    → IsImport sender clock clock' first runs text last
    → first.doubt ≡ []
    → last.history ≡ first.history ++ more
    → All (λ e. Any (Any (IsOfRow sender last.history e)) runs) (more ++ last.doubt)
rows-own sender clock clock' first last runs text more sent sure grown =
    let Own : Entry → Type 0 = λ (e : Entry). Any (Any (IsOfRow sender last.history e)) runs in
    let adds = runs-own Own sender last.history clock clock' first last runs text sent
    ([], sym (append-nil last.history))
    (λ run has row has_row e of. (has.0, run, has.1, has.2, (has_row.0, row, has_row.1, has_row.2, of)))
    (subst (λ (d : List Entry). All Own d) (sym sure) (All-nil Own)) in
    let same : adds.more ≡ more =
    append_cancel_left first.history adds.more more (sym adds.grown ∙ grown) in
    All-append Own more last.doubt (subst (λ (m : List Entry). All Own m) same adds.own) adds.doubted
