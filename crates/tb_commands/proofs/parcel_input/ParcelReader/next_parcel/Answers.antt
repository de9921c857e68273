use Rattle.std.proofs.Common.{◌≡◌, ◌+◌, List, [], ℕ, ap, subst, sym, refl, ◌∙◌, drop}
use Rattle.std.specs.Prelude.{Bool, Ok, Err, Some, None, IfSome, Option}
use Rattle.std.proofs.lemmas.Result.{err_from_is_err_and}
use Rattle.tb_link.specs.Sources.{before_left}
use Rattle.tb_parcel.specs.Parcels.{BeginsWith, IsFront}
use Rattle.tb_parcel.specs.declared.parcel.ParcelFront.TheVariants as front_of
use Rattle.tb_lines.specs.Pieces.{held, still_left, waiting}
use Rattle.tb_commands.specs.ParcelInput.{FindsParcel, ungiven}
use Rattle.tb_commands.proofs.ParcelInputLemmas.{
  ReadsFront-open,
  ReadsFront-told,
  ReadsSoFar-more,
  ReadsSoFar-start,
  ReadsSoFar-whole,
  finds-bad,
  finds-end,
  finds-failed,
  finds-whole,
}
use Rattle.tb_commands.proofs.parcel_input.ParcelReader.next_parcel.Goals as goal

pub front-init : goal.front-init
front-init g c = (
  refl,
  refl,
  ReadsSoFar-start (g.I.Source.source c.args.input.now).reads (ungiven c.args.self.now),
  refl,
)

pub front-preserved : goal.front-preserved
front-preserved g c =
    let source = g.I.Source.source in
    let fill = c.in_ok-fill-in-More.ensures in
    let is = ap Ok c.if-not-branch.false in
    let short = subst (λ (bytes : List ℕ). IsFront bytes front_of.More) c.ungiven.ensures c.in-More.ensures in (
      fill.same ∙ c.front.invariant.0,
      fill.no_fault ∙ c.front.invariant.1,
      ReadsSoFar-more (source c.args.input.now).reads (source c.front.input).reads (source c.fill.new.input).reads
          (ungiven c.front.self) (waiting c.fill.new.self) fill.kept.0 c.front.invariant.2 short.1 fill.kept.1
          (fill.more is) fill.one_read,
      fill.ended is ∙ c.front.invariant.3,
    )

pub returns-in-Whole-clause-finds : goal.returns-in-Whole-clause-finds
returns-in-Whole-clause-finds g c = λ text told.
    let left = still_left c.front.self.pieces.ended (g.I.Source.source c.front.input).left in
    let give = c.give.ensures in
    let same : waiting c.give.new.self ≡ drop (c.front.self.pieces.at + c.in-Whole.size) (held c.front.self.pieces) =
    ap (λ (at : ℕ). drop at (held c.give.new.self)) give.at
    ∙ ap (drop (c.front.self.pieces.at + c.in-Whole.size)) give.held in
    subst (λ (behind : Option (List ℕ)). FindsParcel (Ok (Some c.in-Whole.parcel)) text behind
    (waiting c.give.new.self))
    (ap (λ (bytes : List ℕ). before_left bytes left) (sym same)
    ∙ ap (λ (ended : Bool). before_left (waiting c.give.new.self)
    (still_left ended (g.I.Source.source c.front.input).left)) (sym give.ended))
    (finds-whole (held c.front.self.pieces) c.front.self.pieces.at c.in-Whole.size left text
    (waiting c.give.new.self) c.in-Whole.parcel (c.front.invariant.0 ∙ told)
    (subst (λ (bytes : List ℕ). BeginsWith bytes c.in-Whole.parcel c.in-Whole.size) c.ungiven.ensures
    c.in-Whole.ensures))

pub returns-in-Whole-clause-reads : goal.returns-in-Whole-clause-reads
returns-in-Whole-clause-reads g c =
    ReadsSoFar-whole (g.I.Source.source c.args.input.now).reads (g.I.Source.source c.front.input).reads
    (ungiven c.front.self) c.in-Whole.parcel c.in-Whole.size c.front.invariant.2
    (subst (λ (bytes : List ℕ). BeginsWith bytes c.in-Whole.parcel c.in-Whole.size) c.ungiven.ensures
    c.in-Whole.ensures)

pub returns-in-Whole-clause-alone : goal.returns-in-Whole-clause-alone
returns-in-Whole-clause-alone g c = λ text told.
    ReadsFront-told (g.I.Source.source c.args.input.now).reads (g.I.Source.source c.front.input).reads
    (ungiven c.front.self) (still_left c.front.self.pieces.ended (g.I.Source.source c.front.input).left) text
    c.front.invariant.2 (c.front.invariant.0 ∙ told)

pub returns-in-Whole-clause-going : goal.returns-in-Whole-clause-going
returns-in-Whole-clause-going g c = c.give.ensures.ended ∙ c.front.invariant.3

pub returns-in-Bad-clause-finds : goal.returns-in-Bad-clause-finds
returns-in-Bad-clause-finds g c = λ text told.
    finds-bad (ungiven c.front.self) (still_left c.front.self.pieces.ended (g.I.Source.source c.front.input).left) text
    None [] (c.front.invariant.0 ∙ told)
    (subst (λ (bytes : List ℕ). IsFront bytes front_of.Bad) c.ungiven.ensures c.in-Bad.ensures)

pub returns-in-Bad-clause-alone : goal.returns-in-Bad-clause-alone
returns-in-Bad-clause-alone g c = λ text told.
    ReadsFront-told (g.I.Source.source c.args.input.now).reads (g.I.Source.source c.front.input).reads
    (ungiven c.front.self) (still_left c.front.self.pieces.ended (g.I.Source.source c.front.input).left) text
    c.front.invariant.2 (c.front.invariant.0 ∙ told)

pub returns-in_err-fill-in-More-clause-finds : goal.returns-in_err-fill-in-More-clause-finds
returns-in_err-fill-in-More-clause-finds g c = λ text told.
    let failed = err_from_is_err_and c.from_residual.result c.from_residual.ensures.1 in
    let kept = c.in_err-fill-in-More.ensures in
    finds-failed c.in_err-fill-in-More.field-0.0 c.from_residual.result (ungiven c.front.self)
    (waiting c.fill.new.self) text (still_left c.front.self.pieces.ended (g.I.Source.source c.front.input).left)
    (before_left (waiting c.fill.new.self)
    (still_left c.fill.new.self.ended (g.I.Source.source c.fill.new.input).left))
    (failed.1 ∙ ap Err failed.2) (c.front.invariant.0 ∙ told)
    (subst (λ (bytes : List ℕ). IsFront bytes front_of.More) c.ungiven.ensures c.in-More.ensures)
    kept.failed.0 (kept.same ∙ c.front.invariant.0 ∙ told)

pub returns-in_err-fill-in-More-clause-alone : goal.returns-in_err-fill-in-More-clause-alone
returns-in_err-fill-in-More-clause-alone g c = λ text told.
    let source = g.I.Source.source in
    let short = subst (λ (bytes : List ℕ). IsFront bytes front_of.More) c.ungiven.ensures c.in-More.ensures in
    ReadsFront-open (source c.args.input.now).reads (source c.front.input).reads (source c.fill.new.input).reads
    (ungiven c.front.self) (still_left c.front.self.pieces.ended (source c.front.input).left) text
    c.front.invariant.2 short.1 c.fill.ensures.one_read (c.front.invariant.0 ∙ told)

pub returns-then-not-branch-clause-finds : goal.returns-then-not-branch-clause-finds
returns-then-not-branch-clause-finds g c = λ text told.
    let source = g.I.Source.source in
    let fill = c.in_ok-fill-in-More.ensures in
    let end = fill.end (ap Ok c.if-not-branch.true) in
    let left = still_left c.front.self.pieces.ended (source c.front.input).left in
    finds-end c.end.result (waiting c.fill.new.self) text left
    (before_left (waiting c.fill.new.self) (still_left c.fill.new.self.ended (source c.fill.new.input).left))
    (waiting c.fill.new.self) c.end.ensures.whole c.end.ensures.cut
    (ap (λ (bytes : List ℕ). before_left bytes left) end.0 ∙ c.front.invariant.0 ∙ told) end.2
    (subst (λ (bytes : List ℕ). IsFront bytes front_of.More) (c.ungiven.ensures ∙ sym end.0) c.in-More.ensures)
    (fill.same ∙ c.front.invariant.0 ∙ told)

pub returns-then-not-branch-clause-alone : goal.returns-then-not-branch-clause-alone
returns-then-not-branch-clause-alone g c = λ text told.
    let source = g.I.Source.source in
    let short = subst (λ (bytes : List ℕ). IsFront bytes front_of.More) c.ungiven.ensures c.in-More.ensures in
    ReadsFront-open (source c.args.input.now).reads (source c.front.input).reads (source c.fill.new.input).reads
    (ungiven c.front.self) (still_left c.front.self.pieces.ended (source c.front.input).left) text
    c.front.invariant.2 short.1 c.fill.ensures.one_read (c.front.invariant.0 ∙ told)

pub returns-then-not-branch-clause-end : goal.returns-then-not-branch-clause-end
returns-then-not-branch-clause-end g c = λ none going.
    let source = g.I.Source.source in
    let fill = c.in_ok-fill-in-More.ensures in
    let is = ap Ok c.if-not-branch.true in
    let end = subst (λ (ended : Bool). IfSome (still_left ended (source c.front.input).left)
    (λ (left : List ℕ). left ≡ [])) (c.front.invariant.3 ∙ going) (fill.end is).2 in
    subst (λ (left : Option (List ℕ)). IfSome left (λ (rest : List ℕ). rest ≡ [])) (sym (fill.left is)) end
