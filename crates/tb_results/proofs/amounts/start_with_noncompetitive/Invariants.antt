-- the numbers so far have their noncompetitive par
use Rattle.std.proofs.Common.{◌≡◌, ℕ, ◌<◌, length, get_or, vec_capacity}
use Rattle.tb_book.specs.Books.{noncompetitive_of}
use Rattle.tb_results.proofs.amounts.start_with_noncompetitive.Given as goal

abbrev pub invariant-loop-number : goal.invariant-loop-number
invariant-loop-number l = record {
  count : length l.amounts.items ≡ l.number;
  amounts : (k : ℕ) → k < l.number → get_or l.amounts.items k 0 ≡ noncompetitive_of k l.book.lines;
  room : vec_capacity l.amounts ≡ vec_capacity l.initial.amounts;
}
