-- What is kept of a book, from entry to entry.
use Rattle.std.proofs.Common.{◌≡◌, ◌≢◌, ℕ, ℤ, pos, ◌+◌, ◌<◌, ◌≤◌, ◌==◌, Bool, true, false, ◌&&◌, ◌||◌, cond, List, [], ◌∷◌, ◌++◌, length, get_or, set, sym, subst, ap, ◌∙◌, refl, arith, inl, inr}
use Rattle.std.specs.Prelude.{All, Some}
use Rattle.std.proofs.lemmas.Bool.{cases_eq, eq-eqb, ne_eqb}
use Rattle.std.proofs.lemmas.List.{length-append, get_or-set_same, get_or-set_other}
use Rattle.std.proofs.lemmas.List.Elements.{All-push}
use Rattle.std.proofs.lemmas.List.Folds.{list_any-append}
use Rattle.std.proofs.lemmas.List.Sums.{fold-append, sum_by_push, sum_by-le-sum_by}
use Rattle.tb_units.specs.declared.rate.Rate.{Rate}
use Rattle.tb_units.proofs.SumLemmas.{cond-le}
use Rattle.tb_units.specs.declared.lines.RateLine.{RateLine}
use Rattle.tb_award.specs.Recognition.{bid_in}
use Rattle.tb_text_book.specs.Books.{Book, Numbered, has_entry, is_competitive, is_noncompetitive, with_entry}
use Rattle.tb_text_book.specs.Bids.{at_rate, bid_at, competitive_at, noncompetitive_amount, noncompetitive_in, noncompetitive_of, position_of, reported}
use Rattle.tb_text_book.specs.SoundLines.{IsSoundLine}
use Rattle.tb_text_book.specs.Tallies.{AreLinesOf, IsWayOf}
use Rattle.tb_text_book.specs.declared.book_line.Entry.{Entry}
use Rattle.tb_text_book.specs.declared.book_line.Entry.TheVariants as entry
use Rattle.tb_text_book.specs.declared.book_line.Bid.{Bid}
use Rattle.tb_text_book.specs.declared.book_line.Report.{Report}
use Rattle.tb_text_book.specs.declared.way.Way.{Way}

-- an entry with its bidder's number
abbrev pub numbered : ℕ → Entry → Numbered
numbered bidder added = record { bidder = bidder; entry = added }

-- the sums with one entry more
part : ℕ → (Entry → ℕ) → Numbered → ℕ
part bidder amount n = cond (n.bidder == bidder) (amount n.entry) 0

-- what a bidder bids at a rate, with one entry more
pub bid_at-more : (entries : List Numbered) (b : ℕ) (added : Entry) (bidder steps : ℕ)
    → bid_at (entries ++ numbered b added ∷ []) bidder steps ≡ bid_at entries bidder steps + cond (b == bidder)
    (competitive_at steps added) 0
bid_at-more entries b added bidder steps =
    sum_by_push (λ n. cond (n.bidder == bidder) (competitive_at steps n.entry) 0) entries (numbered b added)

-- what it bids noncompetitively
pub noncompetitive_of-more : (entries : List Numbered) (b : ℕ) (added : Entry) (bidder : ℕ)
    → noncompetitive_of (entries ++ numbered b added ∷ []) bidder ≡ noncompetitive_of entries bidder + cond
    (b == bidder)
    (noncompetitive_amount added) 0
noncompetitive_of-more entries b added bidder =
    sum_by_push (λ n. cond (n.bidder == bidder) (noncompetitive_amount n.entry) 0) entries (numbered b added)

-- what all bid noncompetitively
pub noncompetitive_in-more : (entries : List Numbered) (b : ℕ) (added : Entry)
    → noncompetitive_in (entries ++ numbered b added ∷ []) ≡ noncompetitive_in entries + noncompetitive_amount added
noncompetitive_in-more entries b added = sum_by_push (λ n. noncompetitive_amount n.entry) entries (numbered b added)

-- and its position
position_of-more : (entries : List Numbered) (b : ℕ) (added : Entry) (bidder : ℕ)
    → position_of (entries ++ numbered b added ∷ []) bidder ≡ cond (b == bidder)
    (reported (position_of entries bidder) added)
    (position_of entries bidder)
position_of-more entries b added bidder =
    fold-append (λ before n. cond (n.bidder == bidder) (reported before n.entry) before) (pos 0) entries
    (numbered b added ∷ [])

-- a test or nothing is the test
or_false : (x : Bool) → (x || false) ≡ x
or_false true = refl
or_false false = refl

-- whether one of a bidder's entries passes, with one entry more
has_entry-more : (passes : Entry → Bool) (entries : List Numbered) (b : ℕ) (added : Entry) (bidder : ℕ)
    → has_entry passes bidder (entries ++ numbered b added ∷ [])
    ≡ (has_entry passes bidder entries || ((b == bidder) && passes added))
has_entry-more passes entries b added bidder =
    list_any-append (λ n. (n.bidder == bidder) && passes n.entry) entries (numbered b added ∷ [])
    ∙ ap (λ x. has_entry passes bidder entries || x) (or_false ((b == bidder) && passes added))

-- a choice of one value
same_choice : {X : Type 0} (b : Bool) (x : X) → cond b x x ≡ x
same_choice true x = refl
same_choice false x = refl

-- the bidders of all entries stay known
pub known-more : (n : ℕ) (entries : List Numbered) (b : ℕ) (added : Entry)
    → All (λ x. x.bidder < n) entries
    → b < n
    → All (λ x. x.bidder < n) (entries ++ numbered b added ∷ [])
known-more n entries b added known below =
    All-push (λ (x : Numbered). x.bidder < n) entries (numbered b added) known below

-- and they are below any greater number
pub known-wider : (n m : ℕ) (entries : List Numbered)
    → n ≤ m
    → All (λ x. x.bidder < n) entries
    → All (λ x. x.bidder < m) entries
known-wider n m entries le known = λ k d below. omega (arith, known k d below, le)

-- positions: a report sets the bidder's, and a bid leaves all
pub positions-report : (positions : List ℤ) (entries : List Numbered) (b : ℕ) (r : Report) (n : ℕ)
    → b < length positions
    → ((bidder : ℕ) → bidder < n → get_or positions bidder (pos 0) ≡ position_of entries bidder)
    → (bidder : ℕ)
    → bidder < n
    → get_or (set positions b r.position) bidder (pos 0) ≡ position_of (entries ++ numbered b (entry.Report r) ∷ [])
    bidder
positions-report positions entries b r n within are bidder below = elim (cases_eq b bidder) [
  | inl same ↦ ap (λ k. get_or (set positions b r.position) k (pos 0)) (sym same)
      ∙ get_or-set_same positions b r.position (pos 0) within
      ∙ sym (position_of-more entries b (entry.Report r) bidder
      ∙ ap (λ x. cond x r.position (position_of entries bidder)) (eq-eqb b bidder same))
  | inr other ↦ get_or-set_other positions b bidder r.position (pos 0) (λ same. other (sym same)) ∙ are bidder below
      ∙ sym (position_of-more entries b (entry.Report r) bidder
      ∙ ap (λ x. cond x r.position (position_of entries bidder)) (ne_eqb b bidder other))
]

-- a bid leaves all positions
pub positions-bid : (positions : List ℤ) (entries : List Numbered) (b : ℕ) (bid : Bid) (n : ℕ)
    → ((bidder : ℕ) → bidder < n → get_or positions bidder (pos 0) ≡ position_of entries bidder)
    → (bidder : ℕ)
    → bidder < n
    → get_or positions bidder (pos 0) ≡ position_of (entries ++ numbered b (entry.Bid bid) ∷ []) bidder
positions-bid positions entries b bid n are bidder below =
    are bidder below ∙ sym
    (position_of-more entries b (entry.Bid bid) bidder ∙ same_choice (b == bidder) (position_of entries bidder))

-- ways: an entry of another bidder, or a report, leaves a bidder's
way-other : (entries : List Numbered) (b : ℕ) (added : Entry) (bidder : ℕ) (w : Way)
    → b ≢ bidder
    → IsWayOf entries bidder w
    → IsWayOf (entries ++ numbered b added ∷ []) bidder w
way-other entries b added bidder w other is =
    let differs : (b == bidder) ≡ false = ne_eqb b bidder other in
    record {
      competitive = has_entry-more is_competitive entries b added bidder
          ∙ ap (λ x. has_entry is_competitive bidder entries || (x && is_competitive added)) differs
          ∙ or_false (has_entry is_competitive bidder entries) ∙ is.competitive;
      noncompetitive = has_entry-more is_noncompetitive entries b added bidder
          ∙ ap (λ x. has_entry is_noncompetitive bidder entries || (x && is_noncompetitive added)) differs
          ∙ or_false (has_entry is_noncompetitive bidder entries) ∙ is.noncompetitive;
    }

-- a test and nothing is nothing
and_false : (x : Bool) → (x && false) ≡ false
and_false true = refl
and_false false = refl

-- a report leaves a bidder's way
pub way-report : (entries : List Numbered) (b : ℕ) (r : Report) (bidder : ℕ) (w : Way)
    → IsWayOf entries bidder w
    → IsWayOf (entries ++ numbered b (entry.Report r) ∷ []) bidder w
way-report entries b r bidder w is = record {
  competitive = has_entry-more is_competitive entries b (entry.Report r) bidder
      ∙ ap (λ x. has_entry is_competitive bidder entries || x) (and_false (b == bidder))
      ∙ or_false (has_entry is_competitive bidder entries) ∙ is.competitive;
  noncompetitive = has_entry-more is_noncompetitive entries b (entry.Report r) bidder
      ∙ ap (λ x. has_entry is_noncompetitive bidder entries || x) (and_false (b == bidder))
      ∙ or_false (has_entry is_noncompetitive bidder entries) ∙ is.noncompetitive;
}

-- one bidder's way is set, and those of the others stay
pub ways-set : (ways : List Way) (entries : List Numbered) (b : ℕ) (added : Entry) (w : Way) (n : ℕ)
    → b < length ways
    → ((bidder : ℕ) (d : Way) → bidder < n → IsWayOf entries bidder (get_or ways bidder d))
    → IsWayOf (entries ++ numbered b added ∷ []) b w
    → (bidder : ℕ) (d : Way)
    → bidder < n
    → IsWayOf (entries ++ numbered b added ∷ []) bidder (get_or (set ways b w) bidder d)
ways-set ways entries b added w n within are is bidder d below = elim (cases_eq b bidder) [
  | inl same ↦ subst (λ (k : ℕ). IsWayOf (entries ++ numbered b added ∷ []) k (get_or (set ways b w) k d)) same
      (subst (IsWayOf (entries ++ numbered b added ∷ []) b) (sym (get_or-set_same ways b w d within)) is)
  | inr other ↦ subst (IsWayOf (entries ++ numbered b added ∷ []) bidder)
      (sym (get_or-set_other ways b bidder w d (λ same. other (sym same))))
      (way-other entries b added bidder (get_or ways bidder d) other (are bidder d below))
]

-- the sums are what each of so many bidders bids noncompetitively
abbrev pub AreSums : List ℕ → List Numbered → ℕ → Type 0
AreSums sums entries n = (bidder d : ℕ) → bidder < n → get_or sums bidder d ≡ noncompetitive_of entries bidder

-- an entry of another bidder leaves a sum
sum-other : (entries : List Numbered) (b : ℕ) (added : Entry) (bidder : ℕ)
    → b ≢ bidder
    → noncompetitive_of (entries ++ numbered b added ∷ []) bidder ≡ noncompetitive_of entries bidder
sum-other entries b added bidder other =
    noncompetitive_of-more entries b added bidder
    ∙ ap (λ x. noncompetitive_of entries bidder + cond x (noncompetitive_amount added) 0) (ne_eqb b bidder other)
    ∙ omega arith

-- an entry that bids nothing noncompetitively leaves all sums
pub sums-same : (sums : List ℕ) (entries : List Numbered) (b : ℕ) (added : Entry) (n : ℕ)
    → noncompetitive_amount added ≡ 0
    → AreSums sums entries n
    → AreSums sums (entries ++ numbered b added ∷ []) n
sums-same sums entries b added n nothing are bidder d below =
    are bidder d below
    ∙ sym (noncompetitive_of-more entries b added bidder
    ∙ ap (λ x. noncompetitive_of entries bidder + cond (b == bidder) x 0) nothing
    ∙ ap (λ x. noncompetitive_of entries bidder + x) (same_choice (b == bidder) 0) ∙ omega arith)

-- one bidder's sum is set, and those of the others stay
pub sums-set : (sums : List ℕ) (entries : List Numbered) (b : ℕ) (added : Entry) (sum n : ℕ)
    → b < length sums
    → AreSums sums entries n
    → sum ≡ noncompetitive_of entries b + noncompetitive_amount added
    → AreSums (set sums b sum) (entries ++ numbered b added ∷ []) n
sums-set sums entries b added sum n within are is bidder d below = elim (cases_eq b bidder) [
  | inl same ↦ ap (λ k. get_or (set sums b sum) k d) (sym same) ∙ get_or-set_same sums b sum d within ∙ is
      ∙ ap (λ k. noncompetitive_of entries k + noncompetitive_amount added) same
      ∙ sym (noncompetitive_of-more entries b added bidder
      ∙ ap (λ x. noncompetitive_of entries bidder + cond x (noncompetitive_amount added) 0) (eq-eqb b bidder same))
  | inr other ↦ get_or-set_other sums b bidder sum d (λ same. other (sym same)) ∙ are bidder d below
      ∙ sym (sum-other entries b added bidder other)
]

-- lines: an entry without a rate leaves them, and a competitive bid is one more
pub lines-same : (days : ℕ) (book : Book) (b : ℕ) (added : Entry) (lines : List RateLine)
    → ((steps : ℕ) → competitive_at steps added ≡ 0)
    → AreLinesOf days book lines
    → AreLinesOf days (with_entry book b added) lines
lines-same days book b added lines nothing are = record {
  bids = λ bidder steps. are.bids bidder steps
      ∙ sym (bid_at-more book.entries b added bidder steps
      ∙ ap (λ x. bid_at book.entries bidder steps + cond (b == bidder) x 0) (nothing steps)
      ∙ ap (λ x. bid_at book.entries bidder steps + x) (same_choice (b == bidder) 0) ∙ omega arith);
  known = are.known;
  sound = are.sound;
  few = omega (arith, are.few, length-append book.entries (numbered b added ∷ []));
}

-- what the lines hold of a bidder at a rate, with one line more
bid_in-more : (lines : List RateLine) (line : RateLine) (bidder steps : ℕ)
    → bid_in (lines ++ line ∷ []) bidder steps ≡ bid_in lines bidder steps + cond
    ((line.bidder == bidder) && (line.rate.steps == steps)) line.amount.value 0
bid_in-more lines line bidder steps =
    sum_by_push (λ (l : RateLine). cond ((l.bidder == bidder) && (l.rate.steps == steps)) l.amount.value 0) lines line

-- a number under two tests
both_tests : (x y : Bool) (n : ℕ) → cond (x && y) n 0 ≡ cond x (cond y n 0) 0
both_tests true y n = refl
both_tests false y n = refl

-- one competitive bid more is one line more
pub lines-more : (days : ℕ) (book : Book) (b : ℕ) (bid : Bid) (rate : Rate) (lines : List RateLine)
    → bid.rate ≡ Some rate
    → b < length book.names
    → IsSoundLine days (record { rate = rate; bidder = b; amount = bid.amount })
    → AreLinesOf days book lines
    → AreLinesOf days (with_entry book b (entry.Bid bid))
    (lines ++ record { rate = rate; bidder = b; amount = bid.amount } ∷ [])
lines-more days book b bid rate lines is known sound are =
    let line : RateLine = record { rate = rate; bidder = b; amount = bid.amount } in
    record {
      bids = λ bidder steps. bid_in-more lines (record { rate = rate; bidder = b; amount = bid.amount }) bidder steps
          ∙ ap (λ x. bid_in lines bidder steps + x) (both_tests (b == bidder) (rate.steps == steps) bid.amount.value)
          ∙ ap (λ x. x + cond (b == bidder) (cond (rate.steps == steps) bid.amount.value 0) 0) (are.bids bidder steps)
          ∙ sym (bid_at-more book.entries b (entry.Bid bid) bidder steps
          ∙ ap (λ r. bid_at book.entries bidder steps + cond (b == bidder) (at_rate steps r bid.amount.value) 0)
          is);
      known = All-push (λ (l : RateLine). l.bidder < length book.names) lines line are.known known;
      sound = All-push (IsSoundLine days) lines line are.sound sound;
      few = omega (
        arith,
        are.few,
        length-append book.entries (numbered b (entry.Bid bid) ∷ []),
        length-append lines
            (line ∷ []),
      );
    }

-- what one bidder bids is part of what all bid
pub noncompetitive_of-le : (entries : List Numbered) (bidder : ℕ)
    → noncompetitive_of entries bidder ≤ noncompetitive_in entries
noncompetitive_of-le entries bidder =
    sum_by-le-sum_by (λ (added : Numbered). cond (added.bidder == bidder) (noncompetitive_amount added.entry) 0)
    (λ (added : Numbered). noncompetitive_amount added.entry) entries
    (λ added. cond-le (added.bidder == bidder) (noncompetitive_amount added.entry))

-- one entry more
pub length-more : (entries : List Numbered) (b : ℕ) (added : Entry)
    → length (entries ++ numbered b added ∷ []) ≡ length entries + 1
length-more entries b added = length-append entries (numbered b added ∷ [])
