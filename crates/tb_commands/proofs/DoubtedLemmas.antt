-- Each group that was in doubt is what a line, a run of rows, or a parcel would have added.
use Rattle.std.proofs.Common.{◌≡◌, ℕ, ◌≤◌, List, [], ◌∷◌, ◌++◌, length, take, Option, Some, None, inl, inr, sym, subst, ap, ◌∙◌, refl, arith, append-nil}
use Rattle.std.specs.Prelude.{Contains, Result, Ok, Err}
use Rattle.std.specs.List.{All}
use Rattle.std.proofs.lemmas.List.{take_all, take_at}
use Rattle.std.proofs.lemmas.List.Elements.{All-append, All-cons, All-nil, Contains-append_left, Contains-append_right, Contains-push}
use Rattle.tb_units.specs.declared.moment.Moment.{Moment}
use Rattle.tb_gates.specs.Clocks.{ClockState}
use Rattle.tb_terms.specs.declared.refusal.Refusal.{Refusal}
use Rattle.tb_message.specs.declared.key.Key.{Key}
use Rattle.tb_message.specs.declared.message.Entry.{Entry}
use Rattle.tb_message.specs.declared.query.Request.{Request}
use Rattle.tb_message.specs.declared.query.Request.TheVariants as request
use Rattle.tb_message.specs.declared.verdict.Verdict.{Verdict}
use Rattle.tb_history.specs.Answer.{caller_of}
use Rattle.tb_history.specs.Legal.{Follows}
use Rattle.tb_history.specs.Roster.{registrations}
use Rattle.tb_parcel.specs.declared.parcel.Parcel.{Parcel}
use Rattle.tb_replica.specs.Crashes.{IsInDoubt, WaitsFor}
use Rattle.tb_replica.specs.Following.{Following}
use Rattle.tb_replica.specs.declared.taken.TakeFault.TheVariants as fault
use Rattle.tb_replica.proofs.KeptLemmas.{kept_came}
use Rattle.tb_desk.specs.Desks.{PlacedGroup, replies_of}
use Rattle.tb_desk.specs.Turn.{Asked, Held, Replies, IsDoubted, group}
use Rattle.tb_commands.specs.DiskRun.{HasGrown}
use Rattle.tb_commands.specs.Doubted.{IsAddedBy, IsKnownAs, IsOfLines, IsOfParcel, IsOfParcels, IsOfRuns}
use Rattle.tb_commands.specs.FollowTakeRun.{BreaksBehind}
use Rattle.tb_commands.specs.ImportRun.{AreSent, IsImport, SentRow}
use Rattle.tb_commands.specs.Replies.{Asks, IsAnswered, IsReply, asked_by}
use Rattle.tb_commands.specs.ScriptLines.{SpellsAsk}
use Rattle.tb_commands.specs.ScriptRun.{IsRun}
use Rattle.tb_commands.specs.Standings.{Standing, held_at, in_doubt}
use Rattle.tb_commands.specs.Turns.{GoesOneWay, MakesTurn}
use Rattle.tb_commands.specs.declared.sender.Sender.{Sender}
use Rattle.tb_commands.proofs.GrownLemmas.{HasGrown-both, line-goes, run-goes}
use Rattle.tb_commands.proofs.ImportLemmas.{import-grown, sent-grown}

-- the groups that were in doubt are so, and the one that is
record AllAre (Holds : PlacedGroup → Type 0) (stands : Standing) : Type 0 where
  pub were : All Holds stands.doubted
  pub is : 1 ≤ length stands.doubt → Holds (in_doubt stands)

-- nothing has changed
AllAre-same : (Holds : PlacedGroup → Type 0) (old new : Standing) → new ≡ old → AllAre Holds old → AllAre Holds new
AllAre-same Holds old new same are = subst (AllAre Holds) (sym same) are

-- the group that a turn leaves in doubt is the one before, or what its messages would have added
is-now : (Holds : PlacedGroup → Type 0) (asked : Asked) (old new : Standing) (at : List Entry)
    → AllAre Holds old
    → (IsDoubted at asked (held_at new) None → Holds (in_doubt new))
    → GoesOneWay at asked (held_at old) (held_at new) None
    → Holds (in_doubt new)
is-now Holds asked old new at are adds (inl stuck) =
    subst (λ (held : Held). Holds (record { before = length held.history; group = held.doubt })) (sym stuck.same)
    (are.is stuck.unsure)
is-now Holds asked old new at are adds (inr (inl answered)) = let wrong = answered.given in absurd (cc)
is-now Holds asked old new at are adds (inr (inr doubted)) = adds doubted

-- where verdicts were given nothing is in doubt
sure-now : (asked : Asked) (old new : Held) (at : List Entry) (given : List Verdict)
    → GoesOneWay at asked old new (Some given)
    → new.doubt ≡ []
sure-now asked old new at given (inl stuck) = let wrong = stuck.failed in absurd (cc)
sure-now asked old new at given (inr (inl answered)) = answered.sure
sure-now asked old new at given (inr (inr doubted)) = let wrong = doubted.failed in absurd (cc)

-- so it is after a turn
AllAre-turn : (Holds : PlacedGroup → Type 0) (asked : Asked) (old new : Standing) (replies : Replies)
    (turn : MakesTurn asked old new replies)
    → AllAre Holds old
    → (IsDoubted turn.at asked (held_at new) replies → Holds (in_doubt new))
    → AllAre Holds new
AllAre-turn Holds asked old new (Some given) turn are adds = record {
  were = subst (All Holds) (sym (turn.doubted ∙ append-nil old.doubted)) are.were;
  is = λ some. absurd
      (omega (arith, some, ap length (sure-now asked (held_at old) (held_at new) turn.at given turn.way)));
}
AllAre-turn Holds asked old new None turn are adds = record {
  were = subst (All Holds) (sym turn.doubted)
      (All-append Holds old.doubted (in_doubt new ∷ []) are.were
      (All-cons Holds (in_doubt new) [] now (All-nil Holds)));
  is = λ some. now;
}
  where
    now : Holds (in_doubt new)
    now = is-now Holds asked old new turn.at are adds turn.way

-- a beginning of the last history, as long as an earlier one, is that one
take-grown : (early last : Standing) → HasGrown early last → take (length early.history) last.history ≡ early.history
take-grown early last grown =
    ap (λ (entries : List Entry). take (length early.history) entries) grown.1
    ∙ take_at early.history grown.0 (length early.history) refl

-- what a turn left in doubt its messages would have added there
IsAddedBy-turn : (asked : Asked) (at : List Entry) (new last : Standing) (replies : Replies)
    → HasGrown new last
    → IsDoubted at asked (held_at new) replies
    → IsAddedBy asked last.history (in_doubt new)
IsAddedBy-turn asked at new last replies grown doubted =
    doubted.unsure
    ∙ ap (λ (entries : List Entry). group entries asked) (sym (take-grown new last grown ∙ doubted.same))

-- whose a key was, a beginning of the last history tells
IsKnownAs-early : (operator : List ℕ) (early last : Standing) (key : Key) (caller : List ℕ)
    → HasGrown early last
    → caller_of (registrations early.history) operator key ≡ Some caller
    → IsKnownAs operator last.history key caller
IsKnownAs-early operator early last key caller grown is = record {
  known = length early.history;
  told = ap (λ (entries : List Entry). caller_of (registrations entries) operator key) (take-grown early last grown)
      ∙ is;
}

-- ---- a script

module _ (operator : List ℕ) (all : List (List ℕ)) (last : Standing) where
  -- what is to hold of each group
  abbrev IsTheirs : PlacedGroup → Type 0
  IsTheirs = IsOfLines operator all last.history

  -- by a reply to what a line asks
  reply-doubted : (line : List ℕ) (key : Key) (json : List ℕ) (old new : Standing) (caller : List ℕ) (moment : Moment)
      (asked : Result Request Refusal) (reply : List ℕ)
      → Contains all line
      → SpellsAsk line moment key json
      → IsKnownAs operator last.history key caller
      → HasGrown new last
      → Asks json asked
      → IsReply old caller moment asked reply new
      → AllAre IsTheirs old
      → AllAre IsTheirs new
  reply-doubted line key json old new caller moment (Ok (request.Message number message)) reply among spells known
      grown asks is are =
      AllAre-turn IsTheirs (asked_by caller moment number message) old new (replies_of is.0) is.1 are
      (λ doubted. (
        line,
        among,
        record {
          moment = moment;
          key = key;
          json = json;
          number = number;
          message = message;
          caller = caller;
          spells = spells;
          asks = asks;
          caller_is = known;
          added = IsAddedBy-turn (asked_by caller moment number message) is.1.at new last (replies_of is.0) grown
              doubted;
        },
      ))
  reply-doubted line key json old new caller moment (Ok (request.Query query)) reply among spells known grown asks is
      are =
      AllAre-same IsTheirs old new is.1 are
  reply-doubted line key json old new caller moment (Err why) reply among spells known grown asks is are =
      AllAre-same IsTheirs old new is.1 are

  -- by what a text is answered
  answer-doubted : (line : List ℕ) (key : Key) (json : List ℕ) (old new : Standing) (caller : Option (List ℕ))
      (moment : Moment) (reply : List ℕ)
      → caller_of (registrations old.history) operator key ≡ caller
      → Contains all line
      → SpellsAsk line moment key json
      → HasGrown old last
      → HasGrown new last
      → IsAnswered old caller moment json reply new
      → AllAre IsTheirs old
      → AllAre IsTheirs new
  answer-doubted line key json old new None moment reply is among spells early grown answered are =
      AllAre-same IsTheirs old new answered.1 are
  answer-doubted line key json old new (Some caller) moment reply is among spells early grown answered are =
      reply-doubted line key json old new caller moment answered.0 reply among spells
      (IsKnownAs-early operator old last key caller early is) grown answered.1 answered.2 are

  -- line by line
  run-doubted : (first : Standing) (lines : List (List ℕ)) (replies : List ℕ)
      → ((line : List ℕ) → Contains lines line → Contains all line)
      → IsRun operator first lines replies last
      → AllAre IsTheirs first
      → AllAre IsTheirs last
  run-doubted first [] replies among run are = AllAre-same IsTheirs first last run.1 are
  run-doubted first (line ∷ lines) replies among run are =
      let acted = run.3 in
      let later = (run-goes operator run.1 last lines run.2 run.4).grown in
      let early = HasGrown-both first run.1 last (line-goes operator first run.1 line run.0 acted).grown later in
      run-doubted run.1 lines run.2
      (λ one within. among one (Contains-append_right (line ∷ []) lines one within)) run.4
      (answer-doubted line acted.key acted.json first run.1 (caller_of (registrations first.history) operator acted.key)
      acted.moment run.0 refl (among line (Contains-append_left (line ∷ []) lines line (Contains-push [] line)))
      acted.spells early later acted.answered are)

-- where nothing was in doubt
AllAre-first : (Holds : PlacedGroup → Type 0) (first : Standing)
    → first.doubt ≡ []
    → first.doubted ≡ []
    → AllAre Holds first
AllAre-first Holds first sure none = record {
  were = subst (All Holds) (sym none) (All-nil Holds);
  is = λ some. absurd (omega (arith, some, ap length sure));
}

-- each group is that of one of the lines
pub doubted-lines : (operator : List ℕ) (first last : Standing) (lines : List (List ℕ)) (replies : List ℕ)
    → IsRun operator first lines replies last
    → first.doubt ≡ []
    → first.doubted ≡ []
    → All (IsOfLines operator lines last.history) last.doubted
doubted-lines operator first last lines replies run sure none =
    (run-doubted operator lines last first lines replies (λ line within. within) run
    (AllAre-first (IsOfLines operator lines last.history) first sure none)).were

-- ---- a table

module _ (sender : Sender) (all : List (List SentRow)) (last : Standing) where
  -- what is to hold of each group
  abbrev IsOfThem : PlacedGroup → Type 0
  IsOfThem = IsOfRuns sender all last.history

  -- by rows that are sent together
  rows-doubted : (caller : Option (List ℕ)) (clock clock' : ClockState) (rows : List SentRow) (old new : Standing)
      (text : List ℕ)
      → caller_of (registrations old.history) sender.operator sender.key ≡ caller
      → Contains all rows
      → HasGrown old last
      → HasGrown new last
      → AreSent caller clock clock' rows old text new
      → AllAre IsOfThem old
      → AllAre IsOfThem new
  rows-doubted None clock clock' rows old new text is among early grown sent are =
      AllAre-same IsOfThem old new sent.1 are
  rows-doubted (Some caller) clock clock' rows old new text is among early grown sent are =
      let asked : Asked = record { submitter = caller; moment = sent.0; messages = rows } in
      AllAre-turn IsOfThem asked old new sent.2 sent.3 are
      (λ doubted. (
        rows,
        among,
        record {
          moment = sent.0;
          caller = caller;
          caller_is = IsKnownAs-early sender.operator old last sender.key caller early is;
          added = IsAddedBy-turn asked sent.3.at new last sent.2 grown doubted;
        },
      ))

  -- run by run
  runs-doubted : (clock clock' : ClockState) (runs : List (List SentRow)) (first : Standing) (text : List ℕ)
      → ((rows : List SentRow) → Contains runs rows → Contains all rows)
      → IsImport sender clock clock' first runs text last
      → AllAre IsOfThem first
      → AllAre IsOfThem last
  runs-doubted clock clock' [] first text among sent are = AllAre-same IsOfThem first last sent.1 are
  runs-doubted clock clock' (run ∷ runs) first text among sent are =
      let caller = caller_of (registrations first.history) sender.operator sender.key in
      let later = import-grown sender sent.0 clock' runs sent.2 last sent.3 sent.5 in
      let early = HasGrown-both first sent.2 last
      (sent-grown sender caller clock sent.0 run first sent.2 sent.1 sent.4) later in
      runs-doubted sent.0 clock' runs sent.2 sent.3
      (λ rows within. among rows (Contains-append_right (run ∷ []) runs rows within)) sent.5
      (rows-doubted caller clock sent.0 run first sent.2 sent.1 refl
      (among run (Contains-append_left (run ∷ []) runs run (Contains-push [] run))) early later sent.4 are)

-- each group is that of one of the runs
pub doubted-runs : (sender : Sender) (clock clock' : ClockState) (runs : List (List SentRow)) (first last : Standing)
    (text : List ℕ)
    → IsImport sender clock clock' first runs text last
    → first.doubt ≡ []
    → first.doubted ≡ []
    → All (IsOfRuns sender runs last.history) last.doubted
doubted-runs sender clock clock' runs first last text sent sure none =
    (runs-doubted sender runs last clock clock' runs first text (λ rows within. within) sent
    (AllAre-first (IsOfRuns sender runs last.history) first sure none)).were

-- ---- parcels

-- the group in doubt is the parcel's that waited for its place
of-parcel : (last : Standing) (parcel : Parcel) (entry : Entry)
    → last.doubt ≡ entry ∷ []
    → Follows last.history entry
    → length last.history ≡ parcel.place
    → entry ≡ parcel.entry
    → IsOfParcel last.history (in_doubt last) parcel
of-parcel last parcel entry alone follows place is = record {
  place = place;
  alone = alone ∙ ap (λ (e : Entry). e ∷ []) is;
  follows = subst (λ (entries : List Entry). Follows entries parcel.entry)
      (sym (take_all (length last.history) last.history (omega arith)))
      (subst (Follows last.history) is follows);
}

-- each group is that of one of the parcels: of the last, or of one that was kept
pub doubted-parcels : (parcels : List Parcel) (parcel : Parcel) (first last : Standing)
    → BreaksBehind fault.DiskFault parcels parcel first last
    → first.doubted ≡ []
    → All (IsOfParcels (parcels ++ parcel ∷ []) last.history) last.doubted
doubted-parcels parcels parcel first last breaks none =
    subst (All (IsOfParcels all last.history)) (sym only)
    (All-cons (IsOfParcels all last.history) (in_doubt last) [] (whose doubt.waited)
    (All-nil (IsOfParcels all last.history)))
  where
    all : List Parcel
    all = parcels ++ parcel ∷ []

    now : Following
    now = breaks.0

    doubt : IsInDoubt (WaitsFor parcel now) (held_at last)
    doubt = breaks.5.0

    only : last.doubted ≡ in_doubt last ∷ []
    only = breaks.5.1 ∙ ap (λ (groups : List PlacedGroup). groups ++ in_doubt last ∷ []) none

    whose : WaitsFor parcel now (length last.history) doubt.entry → IsOfParcels all last.history (in_doubt last)
    whose (inl own) = (
      parcel,
      Contains-push parcels parcel,
      of-parcel last parcel doubt.entry doubt.alone doubt.follows own.0 own.1,
    )
    whose (inr kept) = (
      record { place = length last.history; entry = doubt.entry },
      Contains-append_left parcels (parcel ∷ []) (record { place = length last.history; entry = doubt.entry })
          (kept_came parcels breaks.2.opened now (length last.history) doubt.entry breaks.2.fresh breaks.2.taken kept.0
          kept.1),
      of-parcel last (record { place = length last.history; entry = doubt.entry }) doubt.entry doubt.alone
          doubt.follows refl refl,
    )
