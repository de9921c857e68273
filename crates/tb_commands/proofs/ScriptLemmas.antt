-- Acting on a script, from line to line.
use Rattle.std.proofs.Common.{◌≡◌, ℕ, ◌+◌, ◌<◌, ◌≤◌, List, [], ◌∷◌, ◌++◌, length, sym, subst, ap, ◌∙◌, refl, arith, append_assoc, append-nil, Bool, false, inl, inr}
use Rattle.std.specs.Prelude.{Option, Some, None, position}
use Rattle.std.specs.List.{AllByRecursion}
use Rattle.std.specs.Str.Lines.{lines}
use Rattle.std.proofs.lemmas.List.{length-append}
use Rattle.tb_link.specs.Counts.{Rose}
use Rattle.tb_link.specs.Sources.{SourceState, before_left}
use Rattle.tb_link.specs.Sinks.{SinkState, after_taken}
use Rattle.tb_commands.specs.DiskRun.{HasGrown}
use Rattle.tb_text_book.specs.Grammars.{LeavesGrammar}
use Rattle.tb_lines.specs.LineEnds.{is_line_feed, most_lines}
use Rattle.tb_lines.specs.Lines.{StaysAtEnd, ahead, unread}
use Rattle.tb_lines.specs.Pieces.{still_left}
use Rattle.tb_lines.specs.Reads.{ReadsLines, ReadsNoMore}
use Rattle.tb_commands.specs.RunEnds.{ActedOn, BrokenOff, CutOff, Finished, LeftOff, ReadsNext, ScriptEnds, Stopped}
use Rattle.tb_commands.specs.ScriptLines.{IsAsk, IsEnd}
use Rattle.tb_commands.specs.ScriptRun.{IsActedOn, IsRun}
use Rattle.tb_commands.specs.ScriptSteps.{Acts, ActsInVain, IsNext, NextEnds, NoneStands, RunState, Stay, TakesLine}
use Rattle.tb_commands.specs.Scripts.{MayStand}
use Rattle.tb_commands.specs.Standings.{Standing}
use Rattle.tb_lines.specs.Told.{WhereTold}
use Rattle.tb_commands.specs.declared.command_endings.TextEnding.{TextEnding}
use Rattle.tb_commands.specs.declared.command_endings.TextEnding.TheVariants as ending
use Rattle.tb_commands.proofs.GrownLemmas.{run-goes}
use Rattle.tb_text_book.proofs.ReadLemmas.{ahead-start, same_rest}
use Rattle.tb_lines.proofs.ReadsLemmas.{ReadsLines-more, ReadsLines-whole, ReadsNoMore-start, ReadsNoMore-then}

-- one line more was acted on
pub IsRun-more : (operator : List ℕ) (first : Standing) (lines : List (List ℕ)) (replies : List ℕ) (now : Standing)
    (line reply : List ℕ) (new : Standing)
    → IsRun operator first lines replies now
    → IsActedOn operator now line reply new
    → IsRun operator first (lines ++ line ∷ []) (replies ++ reply) new
IsRun-more operator first [] replies now line reply new run acted = (
  reply,
  new,
  [],
  subst (λ (s : Standing). IsActedOn operator s line reply new) run.1 acted,
  (refl, refl),
  ap (λ (r : List ℕ). r ++ reply) run.0 ∙ sym (append-nil reply),
)
IsRun-more operator first (before ∷ lines) replies now line reply new run acted = (
  run.0,
  run.1,
  run.2 ++ reply,
  run.3,
  IsRun-more operator run.1 lines run.2 now line reply new run.4 acted,
  ap (λ (r : List ℕ). r ++ reply) run.5 ∙ append_assoc run.0 run.2 reply,
)

-- the lines that were acted on ask
pub IsRun-asks : (operator : List ℕ) (first : Standing) (lines : List (List ℕ)) (replies : List ℕ) (last : Standing)
    → IsRun operator first lines replies last
    → AllByRecursion IsAsk lines
IsRun-asks operator first [] replies last run = tt
IsRun-asks operator first (line ∷ lines) replies last run = (
  (run.3.moment, run.3.key, run.3.json, run.3.spells),
  IsRun-asks operator run.1 lines run.2 last run.4,
)

-- of a text these lines were acted on, and so much of it follows
pub record IsReached (before after : ℕ) (ended : Bool) (acted : List (List ℕ)) (behind : Option (List ℕ))
    (text : List ℕ) : Type 0
  where
    pub reads : ReadsNoMore before after ended behind text
    pub lines_are : lines text ≡ acted ++ lines reads.rest

-- what the loop over the lines keeps
pub record SoFar (operator : List ℕ) (count : ℕ) (source : SourceState) (out : SinkState) (first : Standing)
    (now : RunState) : Type 0 where
  pub acted : List (List ℕ)
  pub replies : List ℕ
  pub run : IsRun operator first acted replies now.stands
  pub size : length acted ≡ count
  pub taken : now.out.taken ≡ after_taken out.taken replies
  pub out_faults : now.out.faults ≡ out.faults
  pub faults : now.source.faults ≡ source.faults
  pub reached : WhereTold source.left
      (IsReached source.reads now.source.reads now.reader.pieces.ended acted (ahead now.reader now.source))

-- nothing behind what was taken is nothing more
pub after_taken-nothing : (taken : Option (List ℕ)) → taken ≡ after_taken taken []
after_taken-nothing None = refl
after_taken-nothing (Some bytes) = ap Some (sym (append-nil bytes))

-- two pieces that were taken, one behind the other
pub after_taken-more : (taken : Option (List ℕ)) (one other : List ℕ)
    → after_taken (after_taken taken one) other ≡ after_taken taken (one ++ other)
after_taken-more None one other = refl
after_taken-more (Some bytes) one other = ap Some (append_assoc bytes one other)

-- before the first line
pub SoFar-start : (operator : List ℕ) (now : RunState)
    → unread now.reader ≡ []
    → now.reader.pieces.ended ≡ false
    → SoFar operator 0 now.source now.out now.stands now
SoFar-start operator now none going = record {
  acted = [];
  replies = [];
  run = (refl, refl);
  size = refl;
  taken = after_taken-nothing now.out.taken;
  out_faults = refl;
  faults = refl;
  reached = λ text told. started text told;
}
  where
    started : (text : List ℕ)
        → now.source.left ≡ Some text
        → IsReached now.source.reads now.source.reads now.reader.pieces.ended [] (ahead now.reader now.source) text
    started text told =
        let is = ahead-start now.reader now.source text none going told in
        let start : ReadsNoMore now.source.reads now.source.reads now.reader.pieces.ended (ahead now.reader now.source) text =
        ReadsNoMore-start now.source.reads now.reader.pieces.ended (ahead now.reader now.source) text is in
        record {
          reads = start;
          lines_are = ap lines (same_rest (ahead now.reader now.source) text start.rest is start.behind_is);
        }

-- a line was taken from the text that follows
module _ (acted : List (List ℕ)) (line text : List ℕ) (before : ℕ) (now new : RunState)
    (so_far : IsReached before now.source.reads now.reader.pieces.ended acted (ahead now.reader now.source) text)
    (next : WhereTold (ahead now.reader now.source)
    (IsNext now.source.reads new.source.reads new.reader.pieces.ended line (ahead new.reader new.source)))
    (once : StaysAtEnd now.reader new.reader now.source new.source) where
  -- nothing behind it was read
  pub line-reads : ReadsNoMore before new.source.reads new.reader.pieces.ended (ahead new.reader new.source) text
  line-reads =
      ReadsNoMore-then before now.source.reads new.source.reads now.reader.pieces.ended (ahead now.reader now.source) text
      so_far.reads (λ ended. (once ended).1) new.reader.pieces.ended (ahead new.reader new.source)
      (λ t told. (next t told).reads) (λ ended. (once ended).0)

  -- it stands behind the lines that were acted on
  pub line-behind : lines text ≡ acted ++ line ∷ lines line-reads.rest
  line-behind =
      let found = next so_far.reads.rest so_far.reads.behind_is in
      let same : found.reads.rest ≡ line-reads.rest =
      same_rest (ahead new.reader new.source) found.reads.rest line-reads.rest found.reads.behind_is
      line-reads.behind_is in
      so_far.lines_are
      ∙ (ap (λ (ls : List (List ℕ)). acted ++ ls) found.lines_are
      ∙ ap (λ (r : List ℕ). acted ++ line ∷ lines r) same)

  -- one line more was acted on
  pub IsReached-more : IsReached before new.source.reads new.reader.pieces.ended (acted ++ line ∷ [])
      (ahead new.reader new.source) text
  IsReached-more = record {
    reads = line-reads;
    lines_are = line-behind ∙ sym (append_assoc acted (line ∷ []) (lines line-reads.rest));
  }

-- from what the loop has kept, line by line
module _ (operator : List ℕ) (count : ℕ) (source : SourceState) (out : SinkState) (first : Standing)
    (now : RunState) (so_far : SoFar operator count source out first now) where
  -- the history so far begins with the first one
  so_far-grown : HasGrown first now.stands
  so_far-grown = (run-goes operator first now.stands so_far.acted so_far.replies so_far.run).grown

  -- the output has taken the replies so far
  acted_on : (last : Standing) (out' : SinkState)
      → Stay now.stands last now.out out'
      → ActedOn operator first last out out' so_far.acted
  acted_on last out' stay = record {
    replies = so_far.replies;
    run = subst (λ (s : Standing). IsRun operator first so_far.acted so_far.replies s) (sym stay.0) so_far.run;
    taken = ap (λ (s : SinkState). s.taken) stay.1 ∙ so_far.taken;
  }

  -- the count of the output stays where the output does
  out-same : (out' : SinkState) → out' ≡ now.out → out'.faults ≡ out.faults
  out-same out' same = ap (λ (s : SinkState). s.faults) same ∙ so_far.out_faults

  -- the script is left by what comes next
  stopped : (number : ℕ) (source' : SourceState) (last : Standing) (out' : SinkState) (text : List ℕ)
      (reached : IsReached source.reads now.source.reads now.reader.pieces.ended so_far.acted (ahead now.reader now.source)
      text)
      → ReadsNext so_far.acted source source' text
      → Stay now.stands last now.out out'
      → count + 1 ≡ number
      → count ≤ most_lines
      → LeavesGrammar MayStand (length so_far.acted) (lines reached.reads.rest)
      → Stopped number operator source source' out out' first last text
  stopped number source' last out' text reached reads stay number_is few bad = record {
    acted = so_far.acted;
    stops = record {
      rest = lines reached.reads.rest;
      lines_are = reached.lines_are;
      ask = IsRun-asks operator first so_far.acted so_far.replies now.stands so_far.run;
      few = omega (arith, so_far.size);
      bad = bad;
      number_is = omega (arith, so_far.size);
    };
    reads = reads;
    replies = acted_on last out' stay;
  }

  -- there have been as many lines as there may be
  pub Stopped-full : (number : ℕ)
      → count ≡ most_lines
      → count + 1 ≡ number
      → ScriptEnds operator (ending.BadInput number) source now.source out now.out first now.stands
  Stopped-full number full number_is = (
    record {
      no_fault = so_far.faults;
      told = λ text told. let reached = so_far.reached text told in
          stopped number now.source now.stands now.out text reached
          (ReadsLines-whole source.reads now.source.reads now.reader.pieces.ended (ahead now.reader now.source) text
          so_far.acted
          (length so_far.acted + 1) reached.reads reached.lines_are (omega arith)) (refl, refl) number_is (omega arith)
          (too_many (length so_far.acted) (lines reached.reads.rest) (omega (arith, so_far.size)));
    },
    so_far.out_faults,
  )
    where
      too_many : (n : ℕ) (texts : List (List ℕ)) → most_lines ≤ n → LeavesGrammar MayStand n texts
      too_many n [] many = tt
      too_many n (t ∷ texts) many = inl many

  -- the next line was looked for, and nothing behind it was read
  module _ (new : RunState)
      (alone : WhereTold (ahead now.reader now.source) (ReadsLines 1 now.source.reads new.source.reads))
      (once : StaysAtEnd now.reader new.reader now.source new.source) where
    -- so the lines so far were answered before more was read than that
    reads-next : WhereTold source.left (ReadsNext so_far.acted source new.source)
    reads-next text told =
        let reached = so_far.reached text told in
        ReadsLines-more source.reads now.source.reads new.source.reads now.reader.pieces.ended (ahead now.reader now.source)
        text reached.reads (λ ended. (once ended).1) so_far.acted 1 reached.lines_are alone

    -- the history has grown where it stays
    grown_as : new.stands ≡ now.stands → HasGrown first new.stands
    grown_as same = (so_far-grown.0, ap (λ (s : Standing). s.history) same ∙ so_far-grown.1)

    -- and with one line more
    grown_by : (line reply : List ℕ) → IsActedOn operator now.stands line reply new.stands → HasGrown first new.stands
    grown_by line reply acted =
        (run-goes operator first new.stands (so_far.acted ++ line ∷ []) (so_far.replies ++ reply)
        (IsRun-more operator first so_far.acted so_far.replies now.stands line reply new.stands so_far.run acted)).grown

    -- one line more
    pub SoFar-more : TakesLine now new (λ line. Acts operator line now.stands new.stands now.out new.out)
        → SoFar operator (count + 1) source out first new
    SoFar-more takes =
        let acts = takes.holds in record {
          acted = so_far.acted ++ takes.line ∷ [];
          replies = so_far.replies ++ acts.reply;
          run = IsRun-more operator first so_far.acted so_far.replies now.stands takes.line acts.reply new.stands
              so_far.run
              acts.acted;
          size = omega (arith, length-append so_far.acted (takes.line ∷ []), so_far.size);
          taken = acts.takes.taken
              ∙ (ap (λ (t : Option (List ℕ)). after_taken t acts.reply) so_far.taken
              ∙ after_taken-more out.taken so_far.replies acts.reply);
          out_faults = acts.takes.no_fault ∙ so_far.out_faults;
          faults = takes.no_fault ∙ so_far.faults;
          reached = λ text told. IsReached-more so_far.acted takes.line text source.reads now new
              (so_far.reached text told) takes.next once;
        }

    -- the next line ends the script
    pub Finished-here : TakesLine now new IsEnd
        → Stay now.stands new.stands now.out new.out
        → count < most_lines
        → WhereTold source.left (Finished operator source new.source out new.out first new.stands)
    Finished-here takes stay few text told =
        let reached = so_far.reached text told in record {
          acted = so_far.acted;
          script = record {
            last = takes.line;
            rest = lines (line-reads so_far.acted takes.line text source.reads now new reached takes.next once).rest;
            lines_are = line-behind so_far.acted takes.line text source.reads now new reached takes.next once;
            ask = IsRun-asks operator first so_far.acted so_far.replies now.stands so_far.run;
            end = takes.holds;
            few = omega (arith, so_far.size);
          };
          reads = reads-next text told;
          replies = acted_on new.stands new.out stay;
        }

    -- the next line may not stand in a script
    pub Stopped-here : (number : ℕ)
        → WhereTold (ahead now.reader now.source) (λ text. NoneStands (lines text))
        → Stay now.stands new.stands now.out new.out
        → count + 1 ≡ number
        → count ≤ most_lines
        → WhereTold source.left (Stopped number operator source new.source out new.out first new.stands)
    Stopped-here number none stay number_is few text told =
        let reached = so_far.reached text told in
        stopped number new.source new.stands new.out text reached (reads-next text told) stay number_is few
        (none_stands (length so_far.acted) (lines reached.reads.rest) (none reached.reads.rest reached.reads.behind_is))
      where
        none_stands : (n : ℕ) (texts : List (List ℕ)) → NoneStands texts → LeavesGrammar MayStand n texts
        none_stands n [] none = tt
        none_stands n (t ∷ texts) none = inr none

    -- a read has failed
    pub CutOff-here : ahead new.reader new.source ≡ ahead now.reader now.source
        → new.reader.pieces.ended ≡ false
        → position is_line_feed (unread new.reader) ≡ None
        → Stay now.stands new.stands now.out new.out
        → WhereTold source.left (CutOff operator source new.source out new.out first new.stands)
    CutOff-here still going none stay text told =
        let reached = so_far.reached text told in
        let parts = told_parts (unread new.reader) new.source.left reached.reads.rest
        (subst (λ (ended : Bool). before_left (unread new.reader) (still_left ended new.source.left)
        ≡ Some reached.reads.rest) going (still ∙ reached.reads.behind_is)) in
        record {
          acted = so_far.acted;
          front = reached.reads.taken;
          begun = unread new.reader;
          rest = parts.0;
          left_is = parts.1;
          text_is = reached.reads.text_is ∙ ap (λ (r : List ℕ). reached.reads.taken ++ r) parts.2;
          lines_are = reached.lines_are ∙ ap (λ (r : List ℕ). so_far.acted ++ lines r) parts.2;
          begun_only = none;
          reads = reads-next text told;
          replies = acted_on new.stands new.out stay;
        }
      where
        told_parts : (front : List ℕ) (left : Option (List ℕ)) (t : List ℕ)
            → before_left front left ≡ Some t
            → (rest : List ℕ) × (left ≡ Some rest) × (t ≡ front ++ rest)
        told_parts front None t is = absurd (cc)
        told_parts front (Some rest) t is = (rest, refl, (cc))

    -- memory has run out
    pub LeftOff-here : Stay now.stands new.stands now.out new.out
        → WhereTold source.left (LeftOff operator source new.source out new.out first new.stands)
    LeftOff-here stay text told =
        let reached = so_far.reached text told in record {
          acted = so_far.acted;
          rest = lines reached.reads.rest;
          lines_are = reached.lines_are;
          reads = reads-next text told;
          replies = acted_on new.stands new.out stay;
        }

    -- the output has failed to take a reply
    pub BrokenOff-here : TakesLine now new (λ line. ActsInVain operator line now.stands new.stands now.out new.out)
        → WhereTold source.left (BrokenOff operator source new.source out new.out first new.stands)
    BrokenOff-here takes text told =
        let reached = so_far.reached text told in
        let vain = takes.holds in
        let prefix = vain.fails.prefix in
        record {
          acted = so_far.acted;
          line = takes.line;
          rest = lines (line-reads so_far.acted takes.line text source.reads now new reached takes.next once).rest;
          lines_are = line-behind so_far.acted takes.line text source.reads now new reached takes.next once;
          reads = reads-next text told;
          replies = so_far.replies;
          before = now.stands;
          run = so_far.run;
          part = prefix.0;
          lost = prefix.1;
          acted_last =
              subst (λ (r : List ℕ). IsActedOn operator now.stands takes.line r new.stands) prefix.2 vain.acted;
          taken = prefix.3
              ∙ (ap (λ (t : Option (List ℕ)). after_taken t prefix.0) so_far.taken
              ∙ after_taken-more out.taken so_far.replies prefix.0);
        }

    -- the next line ends the run
    pub ScriptEnds-here : (ended : TextEnding)
        → count < most_lines
        → NextEnds operator (count + 1) (Some ended) now new
        → ScriptEnds operator ended source new.source out new.out first new.stands
    ScriptEnds-here ending.Done few ends = (
      record { no_fault = ends.0.no_fault ∙ so_far.faults; told = Finished-here ends.0 ends.1 few },
      out-same new.out ends.1.1,
    )
    ScriptEnds-here (ending.BadInput number) few ends = (
      record {
        no_fault = ends.1 ∙ so_far.faults;
        told = Stopped-here number ends.2 ends.3 (sym ends.0) (omega arith);
      },
      out-same new.out ends.3.1,
    )
    ScriptEnds-here ending.ReadFault few ends = (
      subst (λ (n : ℕ). Rose n new.source.faults) so_far.faults ends.0,
      CutOff-here ends.1 ends.2 ends.3 ends.4,
    )
    ScriptEnds-here ending.WriteFault few ends = (
      subst (λ (n : ℕ). Rose n new.out.faults) so_far.out_faults ends.holds.fails.rose,
      record { no_fault = ends.no_fault ∙ so_far.faults; told = BrokenOff-here ends },
    )
    ScriptEnds-here ending.OutOfMemory few ends = (
      record { no_fault = ends.0 ∙ so_far.faults; told = LeftOff-here ends.1 },
      out-same new.out ends.1.1,
    )

    -- the history begins with the first one, whatever the next line did
    pub HasGrown-end : (result : Option TextEnding)
        → NextEnds operator (count + 1) result now new
        → HasGrown first new.stands
    HasGrown-end None ends = grown_by ends.line ends.holds.reply ends.holds.acted
    HasGrown-end (Some ending.Done) ends = grown_as ends.1.0
    HasGrown-end (Some (ending.BadInput number)) ends = grown_as ends.3.0
    HasGrown-end (Some ending.ReadFault) ends = grown_as ends.4.0
    HasGrown-end (Some ending.WriteFault) ends = grown_by ends.line ends.holds.reply ends.holds.acted
    HasGrown-end (Some ending.OutOfMemory) ends = grown_as ends.1.0

    -- the script goes on
    pub SoFar-next : (result : Option TextEnding)
        → ((ended : TextEnding) → result ≡ Some ended → ⊥)
        → NextEnds operator (count + 1) result now new
        → SoFar operator (count + 1) source out first new
    SoFar-next None on ends = SoFar-more ends
    SoFar-next (Some ended) on ends = absurd (on ended refl)
