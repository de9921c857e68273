-- Tables of awards and of holdings, as `csv` writes records.
use Rattle.std.specs.Prelude.{ℕ, List, [], ◌∷◌, ◌++◌, map, option_to_list, codes}
use Rattle.std.specs.List.{flat_map}
use Rattle.std.specs.Fmt.{decimal}
use Rattle.csv.specs.Writing.{comma, default_writer, row_text}
use Rattle.tb_units.specs.Bytes.{line_feed}
use Rattle.tb_units.specs.Decimals.{cents_text}
use Rattle.tb_history.specs.declared.readings.AwardLine.{AwardLine}
use Rattle.tb_history.specs.declared.readings.AddOnLine.{AddOnLine}
use Rattle.tb_history.specs.declared.reading.Awards.{Awards}
use Rattle.tb_history.specs.declared.readings.HoldingLine.{HoldingLine}
use Rattle.tb_import.specs.Rows.{Text, Fields}

-- the text of records, one behind the other: `csv` puts a comma between fields, quotes round a field that has a comma,
-- a quote mark or the end of a line in it, and a line feed behind each record
abbrev pub table_text : List Fields → Text
table_text records = flat_map (row_text default_writer) records

-- whose award it is, what is awarded in whole dollars, and what is paid for it in dollars and cents
abbrev pub fields_of_award : Text → ℕ → ℕ → Fields
fields_of_award whose amount payment = whose ∷ decimal amount ∷ cents_text payment ∷ []

-- the award of a bidder
abbrev pub award_fields : AwardLine → Fields
award_fields line = fields_of_award line.bidder line.amount.value line.payment.value

-- that of an add-on, whose place of a bidder has `+`
abbrev pub add_on_fields : AddOnLine → Fields
add_on_fields line = fields_of_award (codes "+") line.amount.value line.payment.value

abbrev pub awards_header : Fields
awards_header = codes "bidder" ∷ codes "amount" ∷ codes "payment" ∷ []

-- its header, and a record for the award of each bidder
abbrev pub bidders_table : List AwardLine → List Fields
bidders_table lines = awards_header ∷ map award_fields lines

-- the table of awards: that of the bidders, and a record for the add-on behind it
abbrev pub awards_table : Awards → List Fields
awards_table awards = bidders_table awards.lines ++ map add_on_fields (option_to_list awards.addon)

-- a bill, what is held of it, what is pledged and what is free, in whole dollars
abbrev pub holding_fields : HoldingLine → Fields
holding_fields line =
    line.cusip.bytes ∷ decimal line.held.value ∷ decimal line.pledged.value ∷ decimal line.free.value ∷ []

abbrev pub holdings_header : Fields
holdings_header = codes "cusip" ∷ codes "held" ∷ codes "pledged" ∷ codes "free" ∷ []

-- the table of holdings: its header, and a record for each
abbrev pub holdings_table : List HoldingLine → List Fields
holdings_table lines = holdings_header ∷ map holding_fields lines

-- fields as they stand, a comma between and a line feed behind
abbrev pub plain_text : Fields → Text
plain_text [] = line_feed ∷ []
plain_text (field ∷ []) = field ++ line_feed ∷ []
plain_text (field ∷ next ∷ fields) = field ++ comma ∷ plain_text (next ∷ fields)
