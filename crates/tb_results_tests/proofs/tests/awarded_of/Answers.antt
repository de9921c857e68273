-- A book of sound lines is of some bidding.
use Rattle.std.proofs.Common.{◌≡◌, ℕ, true, ap, length, sym, subst, List, Result, ◌%◌, ◌≤◌, arith}
use Rattle.tb_units.specs.declared.lines.RateLine.{RateLine}
use Rattle.tb_units.specs.declared.memory.OutOfMemory.{OutOfMemory}
use Rattle.tb_book.proofs.CallerLemmas.{open_lines-open}
use Rattle.std.specs.Prelude.{⊤, All, OnOk, pos, replicate}
use Rattle.tb_terms.specs.declared.terms.Terms.{Terms}
use Rattle.tb_book.specs.declared.book_line.BookLine.{BookLine}
use Rattle.tb_results.specs.Biddings.{IsBookOf, is_sound_line}
use Rattle.tb_results.proofs.SampleLemmas.{IsBookOf-sample, distinct-numbered, length-numbered, numbered, sample_of}
use Rattle.tb_results_tests.proofs.tests.awarded_of.Goals as goal

-- the book of five bidders
sample : (terms : Terms) (lines : List BookLine)
    → terms.days.count ≡ 91
    → terms.announcement.offering.value % 100 ≡ 0
    → 100 ≤ terms.announcement.competitive_floor.value
    → All (λ line. is_sound_line 5 91 line ≡ true) lines
    → IsBookOf (sample_of terms lines (numbered 0 5)) terms lines (replicate 5 (pos 0))
sample terms lines days offering floor sound =
    IsBookOf-sample terms lines (numbered 0 5) (distinct-numbered 5) offering floor
    (subst (λ (n : ℕ). All (λ line. is_sound_line 5 n line ≡ true) lines) (sym days) sound)

pub cut_book-outcome-requires-clause-bidding : goal.cut_book-outcome-requires-clause-bidding
cut_book-outcome-requires-clause-bidding g c = (
  sample_of c.args.terms.now c.args.book.now.lines (numbered 0 5),
  sample c.args.terms.now c.args.book.now.lines c.requires.days c.requires.offering c.requires.floor c.requires.sound,
)

pub award_all-requires-clause-bidding : goal.award_all-requires-clause-bidding
award_all-requires-clause-bidding g c =
    let bidding = sample_of c.args.terms.now c.args.book.now.lines (numbered 0 5) in
    let is =
    sample c.args.terms.now c.args.book.now.lines c.requires.days c.requires.offering
    c.requires.floor c.requires.sound in
    (bidding, c.cut_book-outcome.ensures.cut bidding is, sym (length-numbered 0 5))

pub cut_book-outcome-requires-clause-line_room : goal.cut_book-outcome-requires-clause-line_room
cut_book-outcome-requires-clause-line_room g c =
    omega (
      arith,
      c.lines.ensures.count,
      ap (λ (lines : List RateLine). length lines) (open_lines-open c.args.book.now c.requires.opened),
      subst (λ (r : Result ⊤ OutOfMemory). OnOk r (c.lines.result ≤ c.reserve.new.self.line_room)) c.expect.ensures
          c.reserve.ensures.line_room,
    )
