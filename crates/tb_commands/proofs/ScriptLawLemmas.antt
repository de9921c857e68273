-- Lines begin with one script, or leave the grammar of scripts at one line.
use Rattle.std.proofs.Common.{◌≡◌, ℕ, ◌+◌, ◌<◌, ◌≤◌, List, [], ◌∷◌, ◌++◌, length, sym, subst, ◌∙◌, refl, arith, inl, inr}
use Rattle.std.specs.Prelude.{Some, codes}
use Rattle.std.specs.List.{AllByRecursion, position_or_len}
use Rattle.std.specs.Fmt.{decimal}
use Rattle.std.specs.Str.Lines.{lines}
use Rattle.tb_link.specs.Sources.{SourceState}
use Rattle.tb_link.specs.Sinks.{SinkState}
use Rattle.tb_units.specs.Bytes.{blank}
use Rattle.tb_words.specs.declared.command.Command.TheVariants as command
use Rattle.tb_commands.specs.Completeness.{AnswersScript, Completes}
use Rattle.tb_commands.specs.Endings.{ending_of, of_disk, of_text}
use Rattle.tb_text_book.specs.Fields.{is_blank}
use Rattle.tb_text_book.specs.Grammars.{LeavesGrammar}
use Rattle.tb_lines.specs.LineEnds.{most_lines}
use Rattle.tb_commands.specs.RunEnds.{Devices, RunEnds, ScriptEnds}
use Rattle.tb_commands.specs.ScriptLines.{IsAsk, IsEnd}
use Rattle.tb_commands.specs.Scripts.{BeginsWithScript, HasScript, LeavesScript, MayStand}
use Rattle.tb_commands.specs.Standings.{Standing}
use Rattle.tb_lines.specs.Told.{WhereTold}
use Rattle.tb_commands.specs.declared.command_endings.DiskEnding.{DiskEnding}
use Rattle.tb_commands.specs.declared.command_endings.DiskEnding.TheVariants as disk_ending
use Rattle.tb_commands.specs.declared.command_endings.TextEnding.{TextEnding}
use Rattle.tb_commands.specs.declared.command_endings.TextEnding.TheVariants as ending
use Rattle.tb_commands.proofs.ExactLemmas.{Opens-desk, Opens-none}
use Rattle.tb_commands.proofs.ScriptLineLemmas.{NoBlank-moment, has_blank}

-- a line that asks isn't the end
pub ask-not_end : (text : List ℕ) → IsAsk text → ¬ (IsEnd text)
ask-not_end text ask end =
    let spells = ask.3 in
    let space = has_blank (decimal ask.0.seconds) (spells.word ++ blank ∷ ask.2) (NoBlank-moment ask.0) in
    let same : decimal ask.0.seconds ++ blank ∷ (spells.word ++ blank ∷ ask.2) ≡ codes "end" = sym spells.written
    ∙ end in
    let none : position_or_len is_blank (codes "end") < length (codes "end") =
    subst (λ (t : List ℕ). position_or_len is_blank t < length t) same space in
    absurd (omega (arith, none))

-- the line that comes next may stand there
may_stand : (count : ℕ) (line : List ℕ) (rest next : List (List ℕ))
    → line ∷ rest ≡ next
    → MayStand line
    → count < most_lines
    → ¬ (LeavesGrammar MayStand count next)
may_stand count line rest [] is stands few bad = absurd (cc)
may_stand count line rest (text ∷ texts) is stands few (inl many) = absurd (omega arith)
may_stand count line rest (text ∷ texts) is stands few (inr other) = let same : line ≡ text = (cc) in
    other (subst MayStand same stands)

-- lines that ask up to an end, and lines that ask up to one that leaves the grammar, aren't of one text
clash : (count : ℕ) (asking : List (List ℕ)) (last : List ℕ) (rest asking' rest' : List (List ℕ))
    → AllByRecursion IsAsk asking
    → IsEnd last
    → AllByRecursion IsAsk asking'
    → asking ++ last ∷ rest ≡ asking' ++ rest'
    → LeavesGrammar MayStand (count + length asking') rest'
    → count + length asking < most_lines
    → ⊥
clash count [] last rest [] rest' ask end ask' is bad few =
    may_stand (count + 0) last rest rest' is (inr end) few bad
clash count [] last rest (line' ∷ asking') rest' ask end ask' is bad few =
    let same : last ≡ line' = (cc) in
    ask-not_end line' ask'.0 (subst IsEnd same end)
clash count (line ∷ asking) last rest [] rest' ask end ask' is bad few =
    may_stand (count + 0) line (asking ++ last ∷ rest) rest' is (inl ask.0) (omega (arith, few)) bad
clash count (line ∷ asking) last rest (line' ∷ asking') rest' ask end ask' is bad few =
    let behind : asking ++ last ∷ rest ≡ asking' ++ rest' = (cc) in
    let next : count + length (line' ∷ asking') ≡ count + 1 + length asking' = omega arith in
    clash (count + 1) asking last rest asking' rest' ask.1 end ask'.1 behind
    (subst (λ (n : ℕ). LeavesGrammar MayStand n rest') next bad) (omega (arith, few))

-- lines that begin with a script don't leave its grammar
pub HasScript-stays : (texts : List (List ℕ)) (number : ℕ) → HasScript texts → ¬ (LeavesScript number texts)
HasScript-stays texts number has leaves =
    let begins = has.1 in
    let stops = leaves.1 in
    clash 0 has.0 begins.last begins.rest leaves.0 stops.rest begins.ask begins.end stops.ask
    (sym begins.lines_are ∙ stops.lines_are)
    (subst (λ (n : ℕ). LeavesGrammar MayStand n stops.rest) (omega arith) stops.bad) (omega (arith, begins.few))

-- a script is answered on a desk, and an input that leaves the grammar of scripts is refused
script-answers : (operator : List ℕ) (own : TextEnding) (input input' : SourceState) (out out' : SinkState)
    (first last : Standing) (text : List ℕ)
    → ScriptEnds operator own input input' out out' first last
    → input.left ≡ Some text
    → AnswersScript (of_text own) (HasScript (lines text)) ((number : ℕ) × LeavesScript number (lines text))
script-answers operator ending.Done input input' out out' first last text ends told =
    let finished = ends.0.told text told in
    record {
      answered = λ script. inr (inl refl);
      refused = λ leaves. absurd (HasScript-stays (lines text) leaves.0 (finished.acted, finished.script) leaves.1);
    }
script-answers operator (ending.BadInput number) input input' out out' first last text ends told =
    let stopped = ends.0.told text told in
    record {
      answered = λ script. absurd (HasScript-stays (lines text) number script (stopped.acted, stopped.stops));
      refused = λ leaves. inr (inr (number, refl));
    }
script-answers operator ending.ReadFault input input' out out' first last text ends told =
    record { answered = λ script. inl (inl refl); refused = λ leaves. inl (inl refl) }
script-answers operator ending.WriteFault input input' out out' first last text ends told =
    record { answered = λ script. inr (inr (inl refl)); refused = λ leaves. inr (inl refl) }
script-answers operator ending.OutOfMemory input input' out out' first last text ends told =
    record { answered = λ script. inl (inr refl); refused = λ leaves. inl (inr refl) }

-- so is `run`
pub run-completes : (operator : List ℕ) (own : DiskEnding TextEnding) (input input' : SourceState) (old new : Devices)
    → RunEnds operator own input input' old new
    → Completes (command.Run operator) input old.disk (of_disk of_text own)
run-completes operator (disk_ending.Opened own) input input' old new ends =
    Opens-desk old.disk ends.0 (of_text own)
    (WhereTold input.left (λ text. AnswersScript (of_text own) (HasScript (lines text))
    ((number : ℕ) × LeavesScript number (lines text))))
    ends.2.opened
    (λ text told. script-answers operator own input input' old.out new.out ends.0 ends.1 text ends.3 told)
run-completes operator (disk_ending.Unopened why) input input' old new none =
    Opens-none why old.disk new.disk
    (WhereTold input.left (λ text. AnswersScript (ending_of why) (HasScript (lines text))
    ((number : ℕ) × LeavesScript number (lines text))))
    none.unopened

-- lines that ask up to an end are those of one text
asking-one : (asking : List (List ℕ)) (last : List ℕ) (rest asking' : List (List ℕ)) (last' : List ℕ)
    (rest' : List (List ℕ))
    → AllByRecursion IsAsk asking
    → IsEnd last
    → AllByRecursion IsAsk asking'
    → IsEnd last'
    → asking ++ last ∷ rest ≡ asking' ++ last' ∷ rest'
    → asking ≡ asking'
asking-one [] last rest [] last' rest' ask end ask' end' is = refl
asking-one [] last rest (line' ∷ asking') last' rest' ask end ask' end' is =
    let same : last ≡ line' = (cc) in
    absurd (ask-not_end line' ask'.0 (subst IsEnd same end))
asking-one (line ∷ asking) last rest [] last' rest' ask end ask' end' is =
    let same : last' ≡ line = (cc) in
    absurd (ask-not_end line ask.0 (subst IsEnd same end'))
asking-one (line ∷ asking) last rest (line' ∷ asking') last' rest' ask end ask' end' is =
    let first : line ≡ line' = (cc) in
    let behind : asking ++ last ∷ rest ≡ asking' ++ last' ∷ rest' = (cc) in
    let others = asking-one asking last rest asking' last' rest' ask.1 end ask'.1 end' behind in
    cc

-- lines begin with one script
pub script-one : (texts asking asking' : List (List ℕ))
    → BeginsWithScript texts asking
    → BeginsWithScript texts asking'
    → asking ≡ asking'
script-one texts asking asking' one other =
    asking-one asking one.last one.rest asking' other.last other.rest one.ask one.end other.ask other.end
    (sym one.lines_are ∙ other.lines_are)

-- lines that ask, up to one that leaves the grammar, are as many
fronts_one : (count : ℕ) (asking rest asking' rest' : List (List ℕ))
    → AllByRecursion IsAsk asking
    → AllByRecursion IsAsk asking'
    → asking ++ rest ≡ asking' ++ rest'
    → LeavesGrammar MayStand (count + length asking) rest
    → LeavesGrammar MayStand (count + length asking') rest'
    → count + length asking ≤ most_lines
    → count + length asking' ≤ most_lines
    → length asking ≡ length asking'
fronts_one count [] rest [] rest' ask ask' is bad bad' few few' = refl
fronts_one count [] rest (line' ∷ asking') rest' ask ask' is bad bad' few few' =
    absurd (may_stand (count + 0) line' (asking' ++ rest') rest (sym is) (inl ask'.0) (omega (arith, few')) bad)
fronts_one count (line ∷ asking) rest [] rest' ask ask' is bad bad' few few' =
    absurd (may_stand (count + 0) line (asking ++ rest) rest' is (inl ask.0) (omega (arith, few)) bad')
fronts_one count (line ∷ asking) rest (line' ∷ asking') rest' ask ask' is bad bad' few few' =
    let behind : asking ++ rest ≡ asking' ++ rest' = (cc) in
    let next : count + length (line ∷ asking) ≡ count + 1 + length asking = omega arith in
    let next' : count + length (line' ∷ asking') ≡ count + 1 + length asking' = omega arith in
    let others = fronts_one (count + 1) asking rest asking' rest' ask.1 ask'.1 behind
    (subst (λ (n : ℕ). LeavesGrammar MayStand n rest) next bad)
    (subst (λ (n : ℕ). LeavesGrammar MayStand n rest') next' bad')
    (omega (arith, few)) (omega (arith, few')) in
    omega (arith, others)

-- the grammar is left at one line
pub leaves-one : (texts : List (List ℕ)) (one other : ℕ)
    → LeavesScript one texts
    → LeavesScript other texts
    → one ≡ other
leaves-one texts one other is is' =
    let a = is.1 in
    let b = is'.1 in
    let size = fronts_one 0 is.0 a.rest is'.0 b.rest a.ask b.ask (sym a.lines_are ∙ b.lines_are)
    (subst (λ (n : ℕ). LeavesGrammar MayStand n a.rest) (omega arith) a.bad)
    (subst (λ (n : ℕ). LeavesGrammar MayStand n b.rest) (omega arith) b.bad)
    (omega (arith, a.few)) (omega (arith, b.few)) in
    omega (arith, size, a.number_is, b.number_is)
