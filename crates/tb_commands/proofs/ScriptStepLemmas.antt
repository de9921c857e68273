-- The next line of a script.
use Rattle.std.proofs.Common.{◌≡◌, ℕ, ◌<◌, List, ◌∷◌, ◌-◌, length, take, drop, sym, subst, ap, ◌∙◌, arith, inl, inr}
use Rattle.std.specs.Prelude.{Bool, Option, Some, None}
use Rattle.std.specs.Str.Lines.{lines}
use Rattle.std.proofs.lemmas.List.{length-drop, take_all}
use Rattle.tb_link.specs.Sinks.{SinkState, Takes, FailsToTake}
use Rattle.tb_history.specs.Answer.{caller_of}
use Rattle.tb_history.specs.Roster.{registrations}
use Rattle.tb_lines.specs.LineEnds.{longest_line}
use Rattle.tb_lines.specs.Lines.{Finds, FindsWhereTold, ahead}
use Rattle.tb_lines.specs.Reads.{ReadsNoMore}
use Rattle.tb_commands.specs.Replies.{IsAnswered}
use Rattle.tb_commands.specs.ScriptLines.{SpellsFrom}
use Rattle.tb_commands.specs.ScriptSteps.{Acts, ActsInVain, IsNext, LineEnds, NextEnds, NoneStands, RunState}
use Rattle.tb_commands.specs.Scripts.{MayStand}
use Rattle.tb_commands.specs.Standings.{Standing}
use Rattle.tb_lines.specs.Told.{WhereTold}
use Rattle.tb_commands.specs.declared.command_endings.TextEnding.{TextEnding}
use Rattle.tb_commands.specs.declared.command_endings.TextEnding.TheVariants as ending
use Rattle.tb_commands.specs.declared.script_line.Ask.{Ask}
use Rattle.tb_lines.specs.declared.line_end.NextLine.TheVariants as next
use Rattle.tb_text_book.proofs.ReadLemmas.{same_rest}

-- a line that was found is the next one
pub IsNext-found : (before after : ℕ) (ended : Bool) (line : List ℕ) (behind : Option (List ℕ)) (text : List ℕ)
    → Finds next.Line text line behind
    → ReadsNoMore before after ended behind text
    → IsNext before after ended line behind text
IsNext-found before after ended line behind text found reads = record {
  reads = reads;
  lines_are = found.1.2
      ∙ ap (λ (r : List ℕ). line ∷ lines r) (same_rest behind found.1.0 reads.rest found.1.1 reads.behind_is);
}

-- a first line that may not stand in a script
none_stands : (texts : List (List ℕ)) (first : List ℕ) (rest : List (List ℕ))
    → texts ≡ first ∷ rest
    → ¬ (MayStand first)
    → NoneStands texts
none_stands texts first rest are none = subst NoneStands (sym are) none

-- a line that was found, and may not stand in a script
pub NoneStands-unread : (text line : List ℕ) (behind : Option (List ℕ))
    → Finds next.Line text line behind
    → ¬ (MayStand line)
    → NoneStands (lines text)
NoneStands-unread text line behind found none = none_stands (lines text) line (lines found.1.0) found.1.2 none

-- no line was found
pub NoneStands-end : (text line : List ℕ) (behind : Option (List ℕ)) → Finds next.End text line behind
    → NoneStands (lines text)
NoneStands-end text line behind found = subst (λ (t : List ℕ). NoneStands (lines t)) (sym found) tt

-- a line that is too long may not stand in a script
long_stands : (line : List ℕ) → longest_line < length line → ¬ (MayStand line)
long_stands line long stands = elim stands [
  | inl ask ↦ (let short = ask.3.short in absurd (omega arith))
  | inr end ↦ absurd (omega (arith, ap length end))
]

-- the next line is too long
pub NoneStands-long : (text line : List ℕ) (behind : Option (List ℕ))
    → Finds next.TooLong text line behind
    → NoneStands (lines text)
NoneStands-long text line behind found =
    none_stands (lines text) found.0 found.1 found.2 (long_stands found.0 found.3)

-- so much of a line as is left from a place on is all that is left
pub rest_whole : (line : List ℕ) (at : ℕ) → take (length line - at) (drop at line) ≡ drop at line
rest_whole line at = take_all (length line - at) (drop at line) (omega (arith, length-drop at line))

-- what is asked was answered, and the output has taken the reply
pub Acts-here : (operator line : List ℕ) (ask : Ask) (old new : Standing) (reply : List ℕ) (out out' : SinkState)
    → SpellsFrom line ask
    → IsAnswered old (caller_of (registrations old.history) operator ask.key) ask.moment
    (drop ask.json_at line) reply new
    → Takes out out' reply
    → Acts operator line old new out out'
Acts-here operator line ask old new reply out out' spells answered takes = record {
  reply = reply;
  acted = record {
    moment = ask.moment;
    key = ask.key;
    json = drop ask.json_at line;
    spells = spells.spells;
    answered = answered;
  };
  takes = takes;
}

-- the same where the output has failed to take it
pub ActsInVain-here : (operator line : List ℕ) (ask : Ask) (old new : Standing) (reply : List ℕ) (out out' : SinkState)
    → SpellsFrom line ask
    → IsAnswered old (caller_of (registrations old.history) operator ask.key) ask.moment
    (drop ask.json_at line) reply new
    → FailsToTake out out' reply
    → ActsInVain operator line old new out out'
ActsInVain-here operator line ask old new reply out out' spells answered fails = record {
  reply = reply;
  acted = record {
    moment = ask.moment;
    key = ask.key;
    json = drop ask.json_at line;
    spells = spells.spells;
    answered = answered;
  };
  fails = fails;
}

-- the next line was found, and acted on
pub NextEnds-line : (operator : List ℕ) (number : ℕ) (result : Option TextEnding) (line : List ℕ) (old new : RunState)
    → FindsWhereTold (ahead old.reader old.source) next.Line line (ahead new.reader new.source)
    → WhereTold (ahead old.reader old.source)
    (ReadsNoMore old.source.reads new.source.reads new.reader.pieces.ended (ahead new.reader new.source))
    → new.source.faults ≡ old.source.faults
    → LineEnds operator number line result old.stands new.stands old.out new.out
    → NextEnds operator number result old new
NextEnds-line operator number None line old new found reads no_fault ends = record {
  line = line;
  next =
      λ text told. IsNext-found old.source.reads new.source.reads new.reader.pieces.ended line (ahead new.reader new.source)
      text (found text told) (reads text told);
  no_fault = no_fault;
  holds = ends;
}
NextEnds-line operator number (Some ending.Done) line old new found reads no_fault ends = (
  record {
    line = line;
    next =
        λ text told. IsNext-found old.source.reads new.source.reads new.reader.pieces.ended line (ahead new.reader new.source)
        text (found text told) (reads text told);
    no_fault = no_fault;
    holds = ends.0;
  },
  ends.1,
)
NextEnds-line operator number (Some (ending.BadInput at)) line old new found reads no_fault ends = (
  ends.0,
  no_fault,
  λ text told. NoneStands-unread text line (ahead new.reader new.source) (found text told) ends.1,
  ends.2,
)
NextEnds-line operator number (Some ending.ReadFault) line old new found reads no_fault ends = absurd ends
NextEnds-line operator number (Some ending.WriteFault) line old new found reads no_fault ends = record {
  line = line;
  next =
      λ text told. IsNext-found old.source.reads new.source.reads new.reader.pieces.ended line (ahead new.reader new.source)
      text (found text told) (reads text told);
  no_fault = no_fault;
  holds = ends;
}
NextEnds-line operator number (Some ending.OutOfMemory) line old new found reads no_fault ends = (no_fault, ends)
