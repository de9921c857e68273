-- The fields of a record, as they are read.
use Rattle.std.specs.Prelude.{[], ◌∷◌}
use Rattle.tb_import.specs.declared.records.Five.{Five}
use Rattle.tb_import.specs.Rows.{Fields}

abbrev pub five_fields : Five → Fields
five_fields five = five.number.now ∷ five.auction.now ∷ five.bidder.now ∷ five.rate.now ∷ five.amount.now ∷ []
