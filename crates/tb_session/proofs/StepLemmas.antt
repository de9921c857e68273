-- A link that is never read ahead, step by step.
use Rattle.std.proofs.Common.{◌≡◌, ℕ, ◌+◌, ◌≤◌, List, [], ◌∷◌, ◌++◌, length, drop, refl, sym, ap, ◌∙◌, subst, inl, inr, arith, append_assoc, length-append}
use Rattle.std.proofs.lemmas.List.{append-nil}
use Rattle.std.proofs.Math.Nat.{min-le_left}
use Rattle.tb_link.specs.Counts.{counted, last_count}
use Rattle.tb_gates.specs.Links.{LinkState}
use Rattle.tb_wire.specs.declared.cutting.Cutting.TheVariants.{More}
use Rattle.tb_wire.specs.Front.{IsFront}
use Rattle.tb_session.specs.declared.end.End.{End}
use Rattle.tb_session.specs.declared.end.End.TheVariants as end
use Rattle.tb_session.specs.Inbox.{NeedsReads, ReadsNoneAhead, ReadsOnce}
use Rattle.tb_session.specs.Session.{EndsInTurn, Exchange, NeverReadsAhead, TakeTurns}

-- where the link is as it was nothing was read
pub ahead-nothing : (a : LinkState) (waiting : List ℕ) → ReadsNoneAhead a a waiting []
ahead-nothing a waiting = inl (refl, refl)

-- a count rises by one at most
counted-most : (old new : ℕ) → new ≡ counted old → new ≤ old + 1
counted-most old new is = omega (arith, is, min-le_left (old + 1) last_count)

-- one read was needed where what had come was no whole request
pub ahead-once : (a b : LinkState) (waiting piece : List ℕ) (count : ℕ)
    → IsFront waiting More
    → ReadsOnce a.source b.source
    → count ≡ length piece
    → 1 ≤ count
    → ReadsNoneAhead a b waiting piece
ahead-once a b waiting piece count more once long some = inr record {
  before = [];
  last = piece;
  read_is = refl;
  some = omega (arith, long, some);
  needed = subst (λ (l : List ℕ). IsFront l More) (sym (append-nil waiting)) more;
  reads = omega (arith, counted-most a.source.reads b.source.reads once.one_read);
  no_fault = once.no_fault;
}

-- needed reads, and then more of them
needs-then : (a b c : LinkState) (waiting first later : List ℕ)
    → NeedsReads a.source b.source waiting first
    → NeedsReads b.source c.source (waiting ++ first) later
    → NeedsReads a.source c.source waiting (first ++ later)
needs-then a b c waiting first later one two = record {
  before = first ++ two.before;
  last = two.last;
  read_is = ap (λ (l : List ℕ). first ++ l) two.read_is ∙ sym (append_assoc first two.before two.last);
  some = two.some;
  needed = subst (λ (l : List ℕ). IsFront l More) (append_assoc waiting first two.before) two.needed;
  reads = omega (
    arith,
    one.reads,
    two.reads,
    one.some,
    ap (λ (l : List ℕ). length l) one.read_is,
    length-append one.before one.last,
    length-append first two.before,
  );
  no_fault = two.no_fault ∙ one.no_fault;
}

-- nothing was read ahead at first, nor then
pub ahead-then : (a b c : LinkState) (waiting now first later : List ℕ)
    → now ≡ waiting ++ first
    → ReadsNoneAhead a b waiting first
    → ReadsNoneAhead b c now later
    → ReadsNoneAhead a c waiting (first ++ later)
ahead-then a b c waiting now first later is (inl none) two =
    let same : now ≡ waiting = is ∙ ap (λ (l : List ℕ). waiting ++ l) none.0 ∙ append-nil waiting in
    subst (λ (l : List ℕ). ReadsNoneAhead a c waiting (l ++ later)) (sym none.0)
    (subst (λ (l : List ℕ). ReadsNoneAhead a c l later) same
    (subst (λ (x : LinkState). ReadsNoneAhead x c now later) none.1 two))
ahead-then a b c waiting now first later is (inr one) (inl none) =
    subst (λ (l : List ℕ). ReadsNoneAhead a c waiting l)
    (sym (ap (λ (l : List ℕ). first ++ l) none.0 ∙ append-nil first))
    (subst (λ (x : LinkState). ReadsNoneAhead a x waiting first) (sym none.1) (inr one))
ahead-then a b c waiting now first later is (inr one) (inr two) =
    inr (needs-then a b c waiting first later one
    (subst (λ (l : List ℕ). NeedsReads b.source c.source l later) is two))

-- no request took its turn yet
pub turns-nothing : (a : LinkState) (waiting : List ℕ) → TakeTurns [] waiting [] waiting a a
turns-nothing a waiting = (refl, refl, refl)

-- requests took their turns, and then others
pub turns-then : (first later : List Exchange) (waiting read now more left : List ℕ) (a b c : LinkState)
    → TakeTurns first waiting read now a b
    → TakeTurns later now more left b c
    → TakeTurns (first ++ later) waiting (read ++ more) left a c
turns-then [] later waiting read now more left a b c one two =
    subst (λ (l : List ℕ). TakeTurns later waiting (l ++ more) left a c) (sym one.0)
    (subst (λ (l : List ℕ). TakeTurns later l more left a c) one.1
    (subst (λ (x : LinkState). TakeTurns later now more left x c) one.2 two))
turns-then (e ∷ first) later waiting read now more left a b c one two = (
  one.0,
  one.1 ++ more,
  one.2,
  ap (λ (l : List ℕ). l ++ more) one.3 ∙ append_assoc one.0 one.1 more,
  one.4,
  turns-then first later (drop e.request.used (waiting ++ one.0)) one.1 now more left one.2 b c one.5 two,
)

-- what was read before is read for the first of them
pub turns-heard : (e : Exchange) (others : List Exchange) (waiting now read more left : List ℕ) (a m c : LinkState)
    → now ≡ waiting ++ read
    → ReadsNoneAhead a m waiting read
    → TakeTurns (e ∷ others) now more left m c
    → TakeTurns (e ∷ others) waiting (read ++ more) left a c
turns-heard e others waiting now read more left a m c is heard turns =
    let one = turns.4 in
    let all : now ++ turns.0 ≡ waiting ++ (read ++ turns.0) =
    ap (λ (l : List ℕ). l ++ turns.0) is ∙ append_assoc waiting read turns.0 in (
      read ++ turns.0,
      turns.1,
      turns.2,
      ap (λ (l : List ℕ). read ++ l) turns.3 ∙ sym (append_assoc read turns.0 turns.1),
      record {
        heard = one.heard;
        none_ahead = ahead-then a m one.heard waiting now read turns.0 is heard one.none_ahead;
        wrote = one.wrote;
      },
      subst (λ (l : List ℕ). TakeTurns others (drop e.request.used l) turns.1 left turns.2 c) all turns.5,
    )

-- and before the end it is read towards that
pub ends-heard : (ended : End) (waiting now read more tail : List ℕ) (a m c : LinkState)
    → now ≡ waiting ++ read
    → ReadsNoneAhead a m waiting read
    → EndsInTurn ended now more tail m c
    → EndsInTurn ended waiting (read ++ more) tail a c
ends-heard end.EndOfInput waiting now read more tail a m c is heard ends =
    (ends.0, ahead-then a m ends.0 waiting now read more is heard ends.1, ends.2)
ends-heard end.CutShort waiting now read more tail a m c is heard ends =
    (ends.0, ahead-then a m ends.0 waiting now read more is heard ends.1, ends.2)
ends-heard end.ReadFault waiting now read more tail a m c is heard ends =
    (ends.0, ahead-then a m ends.0 waiting now read more is heard ends.1, ends.2)
ends-heard end.Asked waiting now read more tail a m c is heard ends =
    (ends.0, ahead-then a m ends.0 waiting now read more is heard ends.1, ends.2)
ends-heard end.Turns waiting now read more tail a m c is heard ends =
    (ends.0, ahead-then a m ends.0 waiting now read more is heard ends.1, ends.2)
ends-heard (end.BadRequest code) waiting now read more tail a m c is heard ends =
    (ends.0, ahead-then a m ends.0 waiting now read more is heard ends.1, ends.2)
ends-heard end.WriteFault waiting now read more tail a m c is heard ends =
    (ends.0, ahead-then a m ends.0 waiting now read more is heard ends.1, ends.2)
ends-heard end.OutOfMemory waiting now read more tail a m c is heard ends =
    (ends.0, ahead-then a m ends.0 waiting now read more is heard ends.1, ends.2)

-- a link that ends before another request is replied to
pub never-at_once : (ended : End) (waiting read tail : List ℕ) (a b : LinkState)
    → EndsInTurn ended waiting read tail a b
    → NeverReadsAhead [] ended waiting read tail a b
never-at_once ended waiting read tail a b ends = record {
  early = [];
  late = read;
  read_is = refl;
  left = waiting;
  told = a;
  turns = turns-nothing a waiting;
  ends = ends;
}

-- a link is not read ahead while requests take their turns, nor from there on
pub never-then : (first later : List Exchange) (ended : End) (waiting read now more tail : List ℕ) (a b c : LinkState)
    → TakeTurns first waiting read now a b
    → NeverReadsAhead later ended now more tail b c
    → NeverReadsAhead (first ++ later) ended waiting (read ++ more) tail a c
never-then first later ended waiting read now more tail a b c one two = record {
  early = read ++ two.early;
  late = two.late;
  read_is = ap (λ (l : List ℕ). read ++ l) two.read_is ∙ sym (append_assoc read two.early two.late);
  left = two.left;
  told = two.told;
  turns = turns-then first later waiting read now two.early two.left a b two.told one two.turns;
  ends = two.ends;
}

-- nor before, where nothing was read ahead
pub never-heard : (exchanges : List Exchange) (ended : End) (waiting now read more tail : List ℕ) (a m c : LinkState)
    → now ≡ waiting ++ read
    → ReadsNoneAhead a m waiting read
    → NeverReadsAhead exchanges ended now more tail m c
    → NeverReadsAhead exchanges ended waiting (read ++ more) tail a c
never-heard [] ended waiting now read more tail a m c is heard never =
    let ends : EndsInTurn ended now never.late tail m c =
    subst (λ (l : List ℕ). EndsInTurn ended l never.late tail m c) never.turns.1
    (subst (λ (x : LinkState). EndsInTurn ended never.left never.late tail x c) never.turns.2 never.ends) in
    let late : more ≡ never.late = never.read_is ∙ ap (λ (l : List ℕ). l ++ never.late) never.turns.0 in
    never-at_once ended waiting (read ++ more) tail a c
    (ends-heard ended waiting now read more tail a m c is heard
    (subst (λ (l : List ℕ). EndsInTurn ended now l tail m c) (sym late) ends))
never-heard (e ∷ others) ended waiting now read more tail a m c is heard never = record {
  early = read ++ never.early;
  late = never.late;
  read_is = ap (λ (l : List ℕ). read ++ l) never.read_is ∙ sym (append_assoc read never.early never.late);
  left = never.left;
  told = never.told;
  turns = turns-heard e others waiting now read never.early never.left a m never.told is heard never.turns;
  ends = never.ends;
}
