use Rattle.std.proofs.Common.{◌∙◌, sym, ap, arith, length, ◌<◌, ◌≡◌, [], refl, subst, Bool}
use Rattle.std.specs.Prelude.{position, None, Some, Ok}
use Rattle.tb_link.specs.Sources.{before_left}
use Rattle.tb_lines.specs.LineEnds.{is_line_feed}
use Rattle.tb_lines.specs.Lines.{Finds, GaveLast, current, unread}
use Rattle.tb_lines.specs.Pieces.{still_left, waiting}
use Rattle.tb_lines.specs.Reads.{ReadsNoMore}
use Rattle.tb_lines.specs.declared.line_end.NextLine.{NextLine}
use Rattle.tb_lines.specs.declared.line_end.NextLine.TheVariants as next
use Rattle.tb_lines.proofs.ReaderLemmas.{Finds-line, Finds-long, Finds-last, told-end}
use Rattle.tb_lines.proofs.ReadsLemmas.{ReadsForLine, ReadsForLine-more, ReadsForLine-start, ReadsLines-line, ReadsLines-open, ReadsNoMore-last, ReadsNoMore-line, last-line_rest, waited}
use Rattle.tb_lines.proofs.input.LineReader.next_line.Goals as goal

pub loop-end-init : goal.loop-end-init
loop-end-init g c = (
  refl,
  ReadsForLine-start (g.I.Source.source c.args.input.now) (unread c.args.self.now),
  λ ended. (ended, refl),
  λ end found. (refl, refl),
)

pub loop-end-preserved : goal.loop-end-preserved
loop-end-preserved g c =
    let source = g.I.Source.source in
    let fill = c.in_ok-fill.ensures in
    let more = fill.more (ap Ok c.if-not-branch.false) in
    let none : position is_line_feed (unread c.loop-end.self) ≡ None =
    ap (position is_line_feed) (sym c.unread.ensures) ∙ sym c.line_end.ensures ∙ c.in_default.is in (
      fill.same ∙ c.loop-end.invariant.0,
      ReadsForLine-more (source c.args.input.now) (source c.loop-end.input) (source c.fill.new.input)
          (unread c.loop-end.self) (waiting c.fill.new.self) c.loop-end.invariant.1 none record {
            piece = fill.kept.0;
            more_is = fill.kept.1;
            longer = more;
            no_fault = fill.no_fault;
            one_read = fill.one_read;
          },
      λ ended.
          let still = c.loop-end.invariant.2 ended in
          let once = fill.once still.0 in
          (once.0, once.1 ∙ still.1),
      λ end found. absurd
          (waited (unread c.args.self.now) (unread c.loop-end.self) end found (c.loop-end.invariant.3 end found).0 none),
    )

pub returns-in-Some-clause-reads : goal.returns-in-Some-clause-reads
returns-in-Some-clause-reads g c = λ line text is.
    let source = g.I.Source.source in
    let found : position is_line_feed (unread c.loop-end.self) ≡ Some c.in-Some.end =
    ap (position is_line_feed) (sym c.unread.ensures) ∙ sym c.line_end.ensures ∙ c.in-Some.is in
    subst (λ (ended : Bool). ReadsNoMore (source c.args.input.now).reads (source c.loop-end.input).reads
    c.give.new.self.pieces.ended (before_left (unread c.give.new.self) (still_left ended (source c.loop-end.input).left)) text)
    (sym c.give.ensures.ended)
    (ReadsNoMore-line (source c.args.input.now) (source c.loop-end.input) (unread c.loop-end.self)
    (unread c.give.new.self) c.in-Some.end c.give.new.self.pieces.ended
    (still_left c.loop-end.self.pieces.ended (source c.loop-end.input).left) text c.loop-end.invariant.1 found
    c.give.ensures.rest (c.loop-end.invariant.0 ∙ is))

pub returns-in-Some-clause-alone : goal.returns-in-Some-clause-alone
returns-in-Some-clause-alone g c = λ text is.
    let source = g.I.Source.source in
    let found : position is_line_feed (unread c.loop-end.self) ≡ Some c.in-Some.end =
    ap (position is_line_feed) (sym c.unread.ensures) ∙ sym c.line_end.ensures ∙ c.in-Some.is in
    ReadsLines-line (source c.args.input.now) (source c.loop-end.input) (unread c.loop-end.self) c.in-Some.end
    (still_left c.loop-end.self.pieces.ended (source c.loop-end.input).left) text c.loop-end.invariant.1 found
    (c.loop-end.invariant.0 ∙ is)

pub returns-in-Some-clause-once : goal.returns-in-Some-clause-once
returns-in-Some-clause-once g c = λ ended.
    let still = c.loop-end.invariant.2 ended in
    (c.give.ensures.ended ∙ still.0, still.1)

pub returns-then-unread-clause-alone : goal.returns-then-unread-clause-alone
returns-then-unread-clause-alone g c = λ text is.
    let source = g.I.Source.source in
    let none : position is_line_feed (unread c.loop-end.self) ≡ None =
    ap (position is_line_feed) (sym c.unread.ensures) ∙ sym c.line_end.ensures ∙ c.in_default.is in
    ReadsLines-open (source c.args.input.now) (source c.loop-end.input) (source c.loop-end.input)
    (unread c.loop-end.self) (still_left c.loop-end.self.pieces.ended (source c.loop-end.input).left) text
    c.loop-end.invariant.1 none (omega arith) (c.loop-end.invariant.0 ∙ is)

pub returns-then-unread-clause-once : goal.returns-then-unread-clause-once
returns-then-unread-clause-once g c = c.loop-end.invariant.2

pub returns-in_err-fill-clause-alone : goal.returns-in_err-fill-clause-alone
returns-in_err-fill-clause-alone g c = λ text is.
    let source = g.I.Source.source in
    let none : position is_line_feed (unread c.loop-end.self) ≡ None =
    ap (position is_line_feed) (sym c.unread.ensures) ∙ sym c.line_end.ensures ∙ c.in_default.is in
    ReadsLines-open (source c.args.input.now) (source c.loop-end.input) (source c.fill.new.input)
    (unread c.loop-end.self) (still_left c.loop-end.self.pieces.ended (source c.loop-end.input).left) text
    c.loop-end.invariant.1 none c.fill.ensures.one_read (c.loop-end.invariant.0 ∙ is)

pub returns-in_err-fill-clause-once : goal.returns-in_err-fill-clause-once
returns-in_err-fill-clause-once g c = λ ended.
    let still = c.loop-end.invariant.2 ended in
    let once = c.fill.ensures.once still.0 in
    (once.0, once.1 ∙ still.1)

pub returns-then-not-branch-clause-reads : goal.returns-then-not-branch-clause-reads
returns-then-not-branch-clause-reads g c = λ line text is.
    let source = g.I.Source.source in
    let fill = c.in_ok-fill.ensures in
    let end = fill.end (ap Ok c.if-not-branch.true) in
    let told = c.loop-end.invariant.0 ∙ is in
    let none : position is_line_feed (unread c.loop-end.self) ≡ None =
    ap (position is_line_feed) (sym c.unread.ensures) ∙ sym c.line_end.ensures ∙ c.in_default.is in
    let found : c.give_last.result ≡ next.Line = (cc) in
    let gave : GaveLast next.Line (waiting c.fill.new.self) c.give_last.new.self =
    subst (λ (f : NextLine). GaveLast f (waiting c.fill.new.self) c.give_last.new.self) found c.give_last.ensures.gave in
    let whole = told-end (unread c.loop-end.self)
    (still_left c.loop-end.self.pieces.ended (source c.loop-end.input).left) text told end.2 in
    subst (λ (ended : Bool). ReadsNoMore (source c.args.input.now).reads (source c.fill.new.input).reads
    c.give_last.new.self.pieces.ended
    (before_left (unread c.give_last.new.self) (still_left ended (source c.fill.new.input).left)) text)
    (sym c.give_last.ensures.ended)
    (ReadsNoMore-last (source c.args.input.now) (source c.loop-end.input) (source c.fill.new.input)
    (waiting c.fill.new.self) (unread c.give_last.new.self) c.give_last.new.self.pieces.ended
    (still_left c.fill.new.self.ended (source c.fill.new.input).left) text
    (subst (ReadsForLine (source c.args.input.now) (source c.loop-end.input)) (sym end.0) c.loop-end.invariant.1)
    (ap (position is_line_feed) end.0 ∙ none) fill.one_read (c.give_last.ensures.ended ∙ end.1)
    (last-line_rest (waiting c.fill.new.self) c.give_last.new.self gave) (whole ∙ sym end.0) (fill.same ∙ told))

pub returns-then-not-branch-clause-alone : goal.returns-then-not-branch-clause-alone
returns-then-not-branch-clause-alone g c = λ text is.
    let source = g.I.Source.source in
    let none : position is_line_feed (unread c.loop-end.self) ≡ None =
    ap (position is_line_feed) (sym c.unread.ensures) ∙ sym c.line_end.ensures ∙ c.in_default.is in
    ReadsLines-open (source c.args.input.now) (source c.loop-end.input) (source c.fill.new.input)
    (unread c.loop-end.self) (still_left c.loop-end.self.pieces.ended (source c.loop-end.input).left) text
    c.loop-end.invariant.1 none c.fill.ensures.one_read (c.loop-end.invariant.0 ∙ is)

pub returns-then-not-branch-clause-once : goal.returns-then-not-branch-clause-once
returns-then-not-branch-clause-once g c = λ ended.
    let still = c.loop-end.invariant.2 ended in
    let once = c.fill.ensures.once still.0 in
    (c.give_last.ensures.ended ∙ once.0, once.1 ∙ still.1)

pub returns-in-Some-clause-finds : goal.returns-in-Some-clause-finds
returns-in-Some-clause-finds g c = λ text is.
    let source = g.I.Source.source in
    subst (λ (ended : Bool). Finds c.give.result text (current c.give.new.self)
    (before_left (unread c.give.new.self) (still_left ended (source c.loop-end.input).left))) (sym c.give.ensures.ended)
    (Finds-line (unread c.loop-end.self) c.give.new.self (still_left c.loop-end.self.pieces.ended (source c.loop-end.input).left)
    c.give.result text c.give.ensures.line c.give.ensures.fits (c.loop-end.invariant.0 ∙ is))

pub returns-then-unread-clause-finds : goal.returns-then-unread-clause-finds
returns-then-unread-clause-finds g c = λ text is.
    let none : position is_line_feed (unread c.loop-end.self) ≡ None =
    ap (position is_line_feed) (sym c.unread.ensures) ∙ sym c.line_end.ensures ∙ c.in_default.is in
    let long : 8193 < length (unread c.loop-end.self) =
    omega (arith, ap length c.unread-in-loop-end.ensures, c.if-unread.true) in
    Finds-long (unread c.loop-end.self) (still_left c.loop-end.self.pieces.ended (g.I.Source.source c.loop-end.input).left) text [] None
    none long (c.loop-end.invariant.0 ∙ is)

pub returns-then-not-branch-clause-finds : goal.returns-then-not-branch-clause-finds
returns-then-not-branch-clause-finds g c = λ text is.
    let source = g.I.Source.source in
    let told = c.loop-end.invariant.0 ∙ is in
    let end = c.in_ok-fill.ensures.end (ap Ok c.if-not-branch.true) in
    subst (λ (ended : Bool). Finds c.give_last.result text (current c.give_last.new.self)
    (before_left (unread c.give_last.new.self) (still_left ended (source c.fill.new.input).left)))
    (sym c.give_last.ensures.ended)
    (Finds-last (waiting c.fill.new.self) c.give_last.new.self (still_left c.fill.new.self.ended (source c.fill.new.input).left)
    c.give_last.result text c.give_last.ensures.gave (c.fill.ensures.same ∙ told)
    (told-end (unread c.loop-end.self) (still_left c.loop-end.self.pieces.ended (source c.loop-end.input).left) text told
    end.2 ∙ sym end.0))

pub returns-in-Some-clause-waits : goal.returns-in-Some-clause-waits
returns-in-Some-clause-waits g c = λ end found. (c.loop-end.invariant.3 end found).1

pub returns-then-unread-clause-waits : goal.returns-then-unread-clause-waits
returns-then-unread-clause-waits g c = λ end found. (c.loop-end.invariant.3 end found).1

pub returns-in_err-fill-clause-waits : goal.returns-in_err-fill-clause-waits
returns-in_err-fill-clause-waits g c = λ end found.
    let none : position is_line_feed (unread c.loop-end.self) ≡ None =
    ap (position is_line_feed) (sym c.unread.ensures) ∙ sym c.line_end.ensures ∙ c.in_default.is in
    absurd (waited (unread c.args.self.now) (unread c.loop-end.self) end found (c.loop-end.invariant.3 end found).0 none)

pub returns-then-not-branch-clause-waits : goal.returns-then-not-branch-clause-waits
returns-then-not-branch-clause-waits g c = λ end found.
    let none : position is_line_feed (unread c.loop-end.self) ≡ None =
    ap (position is_line_feed) (sym c.unread.ensures) ∙ sym c.line_end.ensures ∙ c.in_default.is in
    absurd (waited (unread c.args.self.now) (unread c.loop-end.self) end found (c.loop-end.invariant.3 end found).0 none)
