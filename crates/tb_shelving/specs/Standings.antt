-- What stands of a bidder, as it is counted.
use Rattle.std.specs.Prelude.{ℕ, min, Option}
use Rattle.std.specs.Option.{option_map_or}
use Rattle.tb_rules.specs.BidRule.{Standing}
use Rattle.tb_book.specs.Books.{Bids, competitive_of, noncompetitive_of}

-- accepted bids are counted up to the most there can be, which is where a further one is refused
abbrev pub capped : Standing → Standing
capped standing = record standing { accepted = min 1000 standing.accepted }

-- the par of the lines with a rate of the bidder of a number, which is nothing where there is no book
abbrev pub competitive_there : ℕ → Option Bids → ℕ
competitive_there number found = option_map_or (λ (book : Bids). competitive_of number book.lines) found 0

-- and of those without
abbrev pub noncompetitive_there : ℕ → Option Bids → ℕ
noncompetitive_there number found = option_map_or (λ (book : Bids). noncompetitive_of number book.lines) found 0
