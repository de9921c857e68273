-- Each line is in order or waits, and there is a place for each that waits.
use Rattle.std.proofs.Common.{◌≡◌, ◌+◌, ◌++◌, AllPairs, length, vec_len}
use Rattle.std.specs.Prelude.{IsPermutation}
use Rattle.tb_book.specs.Books.{IsEarlier}
use Rattle.tb_book.proofs.waiting.settle.Given as goal

abbrev pub invariant-loop-line : goal.invariant-loop-line
invariant-loop-line l = record {
  elements : IsPermutation (l.fn.sorted.elements ++ l.fn.waiting.items) (l.sorted.elements ++ l.waiting.items);
  order : AllPairs IsEarlier l.sorted.elements;
  spare : l.sorted.spare + length l.fn.waiting.items ≡ l.fn.sorted.spare + length l.waiting.items;
}

abbrev pub decreases-loop-line : goal.decreases-loop-line
decreases-loop-line l = vec_len l.waiting
