-- A table or a first bad record: one of them, and one of it.
use Rattle.std.proofs.Common.{◌≡◌, ℕ, ◌*◌, ◌<◌, ◌≤◌, List, [], ◌∷◌, ◌++◌, length, map, Option, Some}
use Rattle.std.proofs.Common.{None, refl, ap, subst, ◌∙◌, sym, inl, inr, arith, length-append}
use Rattle.std.specs.Prelude.{unwrap_or}
use Rattle.std.proofs.lemmas.Bool.{cases_order}
use Rattle.std.proofs.lemmas.Fmt.{decimal_injective}
use Rattle.csv.specs.Machine.{Read, next_record}
use Rattle.csv.specs.Reading.{Reached, default_config, strip_bom}
use Rattle.csv.specs.declared.parser.Config.{Config}
use Rattle.csv.specs.declared.parser.State.{State}
use Rattle.csv.specs.declared.parser.State.TheVariants as st
use Rattle.tb_units.specs.Rates.{thousandths_of}
use Rattle.tb_units.specs.Same.{same_dollars, same_rate}
use Rattle.tb_message.specs.declared.message.Message.{Message}
use Rattle.tb_message.specs.declared.message.Message.TheVariants as message
use Rattle.tb_import.specs.declared.row.Row.{Row}
use Rattle.tb_import.specs.Rows.{Text, Fields, AreRowsOf, IsRateOf, IsRowOf, bid_row, first_seen, row_of}
use Rattle.tb_import.specs.Tables.{HasBadHeader, HasBadRow, IsFirstBad, IsTable, header, most_rows}

-- a reader stands at one place of a text, and reads one record there
one_read : (config : Config) (state : State) (text : Text) (one other : Read)
    → next_record config state [] [] text ≡ Some one
    → next_record config state [] [] text ≡ Some other
    → other ≡ one
one_read config state text one other is_one is_other =
    let same : Some other ≡ Some one = sym is_other ∙ is_one in
    cc (same)

-- a reader that stands at the end reads no record
none_more : (config : Config) (state last : State) (text left : Text) (read : Read)
    → next_record config state [] [] text ≡ Some read
    → (state ≡ last) × (text ≡ left)
    → ¬ (next_record config last [] [] left ≡ None)
none_more config state last text left read is here ended =
    let same : next_record config state [] [] text ≡ next_record config last [] [] left =
    ap (λ (s : State). next_record config s [] [] text) here.0
    ∙ ap (λ (t : Text). next_record config last [] [] t) here.1 in
    let bad : ◌≡◌ {A = Option Read} (Some read) None = sym is ∙ same ∙ ended in
    cc (bad)

-- of two beginnings of one text the longer has the records of the shorter
longer_begins : (config : Config) (state : State) (text : Text) (front longer : List Fields) (last end : Fields)
    (state1 state2 : State) (left1 left2 : Text)
    → Reached config state text (front ++ last ∷ []) state1 left1
    → Reached config state text (longer ++ end ∷ []) state2 left2
    → length front < length longer
    → (rest : List Fields) × (longer ≡ front ++ last ∷ rest)
unfolding Reached
longer_begins config state text [] [] last end state1 state2 left1 left2 one other shorter =
    absurd (omega (arith, shorter))
longer_begins config state text (first ∷ front) [] last end state1 state2 left1 left2 one other shorter =
    absurd (omega (arith, shorter))
longer_begins config state text [] (next ∷ longer) last end state1 state2 left1 left2 one other shorter =
    let same = one_read config state text one.0 other.0 one.1 other.1 in
    let head : next ≡ last = other.2 ∙ ap (λ (r : Read). r.0) same ∙ sym one.2 in
    (longer, ap (λ (r : Fields). r ∷ longer) head)
longer_begins config state text (first ∷ front) (next ∷ longer) last end state1 state2 left1 left2 one other shorter =
    let same = one_read config state text one.0 other.0 one.1 other.1 in
    let head : next ≡ first = other.2 ∙ ap (λ (r : Read). r.0) same ∙ sym one.2 in
    let tail : Reached config one.0.1 one.0.2 (longer ++ end ∷ []) state2 left2 =
    subst (λ (r : Read). Reached config r.1 r.2 (longer ++ end ∷ []) state2 left2) same other.3 in
    let rest = longer_begins config one.0.1 one.0.2 front longer last end state1 state2 left1 left2 one.3 tail
    (omega (arith, shorter)) in
    (rest.0, cc (head, rest.1))

-- all records of a text begin as each beginning of it does
all_begin : (config : Config) (state : State) (text : Text) (front all : List Fields) (last : Fields)
    (state1 state2 : State) (left1 left2 : Text)
    → Reached config state text (front ++ last ∷ []) state1 left1
    → Reached config state text all state2 left2
    → next_record config state2 [] [] left2 ≡ None
    → (rest : List Fields) × (all ≡ front ++ last ∷ rest)
unfolding Reached
all_begin config state text [] [] last state1 state2 left1 left2 one other ended =
    absurd (none_more config state state2 text left2 one.0 one.1 other ended)
all_begin config state text (first ∷ front) [] last state1 state2 left1 left2 one other ended =
    absurd (none_more config state state2 text left2 one.0 one.1 other ended)
all_begin config state text [] (next ∷ all) last state1 state2 left1 left2 one other ended =
    let same = one_read config state text one.0 other.0 one.1 other.1 in
    let head : next ≡ last = other.2 ∙ ap (λ (r : Read). r.0) same ∙ sym one.2 in
    (all, ap (λ (r : Fields). r ∷ all) head)
all_begin config state text (first ∷ front) (next ∷ all) last state1 state2 left1 left2 one other ended =
    let same = one_read config state text one.0 other.0 one.1 other.1 in
    let head : next ≡ first = other.2 ∙ ap (λ (r : Read). r.0) same ∙ sym one.2 in
    let tail : Reached config one.0.1 one.0.2 all state2 left2 =
    subst (λ (r : Read). Reached config r.1 r.2 all state2 left2) same other.3 in
    let rest = all_begin config one.0.1 one.0.2 front all last state1 state2 left1 left2 one.3 tail ended in
    (rest.0, cc (head, rest.1))

-- a text has one list of all its records
one_all : (config : Config) (state : State) (text : Text) (one other : List Fields) (state1 state2 : State)
    (left1 left2 : Text)
    → Reached config state text one state1 left1
    → next_record config state1 [] [] left1 ≡ None
    → Reached config state text other state2 left2
    → next_record config state2 [] [] left2 ≡ None
    → other ≡ one
unfolding Reached
one_all config state text [] [] state1 state2 left1 left2 one ended1 other ended2 = refl
one_all config state text [] (next ∷ others) state1 state2 left1 left2 one ended1 other ended2 =
    absurd (none_more config state state1 text left1 other.0 other.1 one ended1)
one_all config state text (first ∷ ones) [] state1 state2 left1 left2 one ended1 other ended2 =
    absurd (none_more config state state2 text left2 one.0 one.1 other ended2)
one_all config state text (first ∷ ones) (next ∷ others) state1 state2 left1 left2 one ended1 other ended2 =
    let same = one_read config state text one.0 other.0 one.1 other.1 in
    let head : next ≡ first = other.2 ∙ ap (λ (r : Read). r.0) same ∙ sym one.2 in
    let tail : Reached config one.0.1 one.0.2 others state2 left2 =
    subst (λ (r : Read). Reached config r.1 r.2 others state2 left2) same other.3 in
    let rest = one_all config one.0.1 one.0.2 ones others state1 state2 left1 left2 one.3 ended1 tail ended2 in
    cc (head, rest)

-- each record of rows is a row
row_there : (front rest : List Fields) (record_ : Fields) (rows : List Row)
    → AreRowsOf (front ++ record_ ∷ rest) rows
    → (row : Row) × IsRowOf record_ row
row_there [] rest record_ [] are = absurd are
row_there [] rest record_ (row ∷ rows) are = (row, are.0)
row_there (first ∷ front) rest record_ [] are = absurd are
row_there (first ∷ front) rest record_ (row ∷ rows) are = row_there front rest record_ rows are.1

-- a bad row isn't among the records of a longer list of rows
not_among : (bytes : List ℕ) (place : ℕ) (bad : HasBadRow bytes place) (records rest : List Fields) (rows : List Row)
    → records ≡ bad.records ++ bad.bad ∷ rest
    → AreRowsOf records rows
    → ¬ (length records ≤ most_rows)
not_among bytes place bad records rest rows is are few =
    let size = length-append bad.records (bad.bad ∷ rest) in
    let longer : length records ≡ length (bad.records ++ bad.bad ∷ rest) = ap (λ (r : List Fields). length r) is in
    elim bad.cause [
      | inl last ↦ absurd (omega (arith, size, longer, last, few))
      | inr other ↦
          let there = row_there bad.records rest bad.bad rows (subst (λ (r : List Fields). AreRowsOf r rows) is are) in
          other there.0 there.1
    ]

-- a table has no bad row
no_bad_row : (bytes : List ℕ) (sent : List (ℕ × Message)) (place : ℕ) → IsTable bytes sent → ¬ (HasBadRow bytes place)
no_bad_row bytes sent place table bad =
    let rest = all_begin default_config st.StartRecord (strip_bom bytes) (header ∷ bad.records) (header ∷ table.records)
    bad.bad bad.begins.0 table.all.0 bad.begins.1 table.all.1 bad.begins.2 table.all.2 table.all.3 in
    let is : table.records ≡ bad.records ++ bad.bad ∷ rest.0 = cc (rest.1) in
    not_among bytes place bad table.records rest.0 table.rows is table.read table.few_rows

-- nor a bad header
no_bad_header : (bytes : List ℕ) (sent : List (ℕ × Message)) → IsTable bytes sent → ¬ (HasBadHeader bytes)
no_bad_header bytes sent table (inl many) = absurd (omega (arith, many, table.few_bytes))
no_bad_header bytes sent table (inr (inl none)) =
    let same : ◌≡◌ {A = List Fields} [] (header ∷ table.records) =
    one_all default_config st.StartRecord (strip_bom bytes) (header ∷ table.records) [] table.all.0 none.0
    table.all.1 none.1 table.all.2 table.all.3 none.2 none.3 in
    cc (same)
no_bad_header bytes sent table (inr (inr first)) =
    let rest = all_begin default_config st.StartRecord (strip_bom bytes) [] (header ∷ table.records) first.0 first.1.0
    table.all.0 first.1.1 table.all.1 first.1.2 table.all.2 table.all.3 in
    let is : first.0 ≡ header = cc (rest.1) in
    first.2 is

-- a table has no first bad record
pub never_both : (bytes : List ℕ) (sent : List (ℕ × Message)) (place : ℕ)
    → IsTable bytes sent
    → ¬ (IsFirstBad bytes place)
never_both bytes sent place table (inl bad) = no_bad_header bytes sent table bad.0
never_both bytes sent place table (inr bad) = no_bad_row bytes sent place table bad

-- behind a bad header no row is bad
bad_header_alone : (bytes : List ℕ) (place : ℕ) → HasBadHeader bytes → ¬ (HasBadRow bytes place)
bad_header_alone bytes place (inl many) bad = absurd (omega (arith, many, bad.few_bytes))
bad_header_alone bytes place (inr (inl none)) bad =
    let rest = all_begin default_config st.StartRecord (strip_bom bytes) (header ∷ bad.records) [] bad.bad bad.begins.0
    none.0 bad.begins.1 none.1 bad.begins.2 none.2 none.3 in
    let same = rest.1 in
    cc (same)
bad_header_alone bytes place (inr (inr first)) bad =
    let rest = longer_begins default_config st.StartRecord (strip_bom bytes) [] (header ∷ bad.records) first.0 bad.bad
    first.1.0 bad.begins.0 first.1.1 bad.begins.1 first.1.2 bad.begins.2 (omega arith) in
    let is : first.0 ≡ header = cc (rest.1) in
    first.2 is

-- no row behind a bad one is the first bad one
no_later : (bytes : List ℕ) (place later : ℕ) (one : HasBadRow bytes place) (other : HasBadRow bytes later)
    → ¬ (length one.records < length other.records)
no_later bytes place later one other less =
    let rest = longer_begins default_config st.StartRecord (strip_bom bytes) (header ∷ one.records)
    (header ∷ other.records) one.bad other.bad one.begins.0 other.begins.0 one.begins.1 other.begins.1 one.begins.2
    other.begins.2
    (omega (arith, less)) in
    let is : other.records ≡ one.records ++ one.bad ∷ rest.0 = cc (rest.1) in
    not_among bytes place one other.records rest.0 other.rows is other.read other.within

-- one row is the first bad one
one_bad_row : (bytes : List ℕ) (one other : ℕ) → HasBadRow bytes one → HasBadRow bytes other → one ≡ other
one_bad_row bytes one other is_one is_other = elim (cases_order (length is_one.records) (length is_other.records)) [
  | inl same ↦ omega (arith, same, is_one.here, is_other.here)
  | inr (inl less) ↦ absurd (no_later bytes one other is_one is_other less)
  | inr (inr more) ↦ absurd (no_later bytes other one is_other is_one more)
]

-- bytes have one first bad record
pub one_bad_record : (bytes : List ℕ) (one other : ℕ) → IsFirstBad bytes one → IsFirstBad bytes other → one ≡ other
one_bad_record bytes one other (inl is_one) (inl is_other) = is_one.1 ∙ sym is_other.1
one_bad_record bytes one other (inl is_one) (inr is_other) = absurd (bad_header_alone bytes other is_one.0 is_other)
one_bad_record bytes one other (inr is_one) (inl is_other) = absurd (bad_header_alone bytes one is_other.0 is_one)
one_bad_record bytes one other (inr is_one) (inr is_other) = one_bad_row bytes one other is_one is_other

-- an empty field is no rate
no_rate : thousandths_of [] ≡ None
unfolding thousandths_of
no_rate = refl

-- nor one in steps
empty_is_none : (steps : ℕ) (text : Text) → text ≡ [] → ¬ (thousandths_of text ≡ Some (5 * steps))
empty_is_none steps text empty is =
    let bad : ◌≡◌ {A = Option ℕ} None (Some (5 * steps)) =
    sym no_rate ∙ ap (λ (t : Text). thousandths_of t) (sym empty) ∙ is in
    cc (bad)

-- a field has one rate
one_rate : (one other : Option ℕ) (text : Text) → IsRateOf one text → IsRateOf other text → one ≡ other
one_rate None None text is_one is_other = refl
one_rate None (Some steps) text is_one is_other = absurd (empty_is_none steps text is_one is_other.1)
one_rate (Some steps) None text is_one is_other = absurd (empty_is_none steps text is_other is_one.1)
one_rate (Some steps) (Some others) text is_one is_other =
    let same : Some (5 * steps) ≡ Some (5 * others) = sym is_one.1 ∙ is_other.1 in
    let fives : 5 * steps ≡ 5 * others = cc (same) in
    let is : steps ≡ others = omega (arith, fives) in
    ap Some is

-- a record is one row
one_row : (fields : Fields) (one other : Row) → IsRowOf fields one → IsRowOf fields other → one ≡ other
one_row [] one other is_one is_other = absurd is_one
one_row (a ∷ []) one other is_one is_other = absurd is_one
one_row (a ∷ b ∷ []) one other is_one is_other = absurd is_one
one_row (a ∷ b ∷ c ∷ []) one other is_one is_other = absurd is_one
one_row (a ∷ b ∷ c ∷ d ∷ []) one other is_one is_other = absurd is_one
one_row (a ∷ b ∷ c ∷ d ∷ e ∷ f ∷ fields) one other is_one is_other = absurd is_one
one_row (number ∷ auction ∷ bidder ∷ rate ∷ amount ∷ []) one other is_one is_other =
    let numbers : one.number ≡ other.number = decimal_injective one.number other.number (omega (arith, is_one.0.2))
    (omega (arith, is_other.0.2)) (sym is_one.0.0 ∙ is_other.0.0) in
    let auctions : one.auction ≡ other.auction = sym is_one.1.0 ∙ is_other.1.0 in
    let bidders : one.bidder ≡ other.bidder = sym is_one.2.0 ∙ is_other.2.0 in
    let steps : one.steps ≡ other.steps = one_rate one.steps other.steps rate is_one.3 is_other.3 in
    let amounts : one.amount ≡ other.amount = decimal_injective one.amount other.amount (omega (arith, is_one.4.1))
    (omega (arith, is_other.4.1)) (sym is_one.4.0 ∙ is_other.4.0) in
    λ i. record { number = numbers i; auction = auctions i; bidder = bidders i; steps = steps i; amount = amounts i }

-- records are the rows of one list
one_rows : (records : List Fields) (one other : List Row)
    → AreRowsOf records one
    → AreRowsOf records other
    → one ≡ other
one_rows [] [] [] are_one are_other = refl
one_rows [] (row ∷ one) other are_one are_other = absurd are_one
one_rows [] [] (row ∷ other) are_one are_other = absurd are_other
one_rows (fields ∷ records) [] other are_one are_other = absurd are_one
one_rows (fields ∷ records) (row ∷ one) [] are_one are_other = absurd are_other
one_rows (fields ∷ records) (row ∷ one) (next ∷ other) are_one are_other =
    let head = one_row fields row next are_one.0 are_other.0 in
    let tail = one_rows records one other are_one.1 are_other.1 in
    cc (head, tail)

-- a row is of one bid
one_bid : (number place : ℕ) (one other : Message) (row : Row)
    → bid_row number one ≡ Some row
    → bid_row place other ≡ Some row
    → ◌≡◌ {A = ℕ × Message} (number, one) (place, other)
one_bid number place (message.Bid auction bidder None amount) (message.Bid sale buyer None par) row is_one is_other =
    let same = is_one ∙ sym is_other in
    let numbers : number ≡ place = ap (λ (o : Option Row). (unwrap_or o row).number) same in
    let auctions : auction ≡ sale = ap (λ (o : Option Row). (unwrap_or o row).auction) same in
    let bidders : bidder ≡ buyer = ap (λ (o : Option Row). (unwrap_or o row).bidder) same in
    let amounts = same_dollars amount par (ap (λ (o : Option Row). (unwrap_or o row).amount) same) in
    cc (numbers, auctions, bidders, amounts)
one_bid number place (message.Bid auction bidder (Some rate) amount)
    (message.Bid sale buyer (Some price) par) row is_one
    is_other =
    let same = is_one ∙ sym is_other in
    let numbers : number ≡ place = ap (λ (o : Option Row). (unwrap_or o row).number) same in
    let auctions : auction ≡ sale = ap (λ (o : Option Row). (unwrap_or o row).auction) same in
    let bidders : bidder ≡ buyer = ap (λ (o : Option Row). (unwrap_or o row).bidder) same in
    let steps : Some rate.steps ≡ Some price.steps = ap (λ (o : Option Row). (unwrap_or o row).steps) same in
    let rates = same_rate rate price (cc (steps)) in
    let amounts = same_dollars amount par (ap (λ (o : Option Row). (unwrap_or o row).amount) same) in
    cc (numbers, auctions, bidders, rates, amounts)
one_bid number place (message.Bid auction bidder None amount)
    (message.Bid sale buyer (Some price) par) row is_one is_other =
    let bad : ◌≡◌ {A = Option ℕ} None (Some price.steps) =
    ap (λ (o : Option Row). (unwrap_or o row).steps) (is_one ∙ sym is_other) in
    cc (bad)
one_bid number place (message.Bid auction bidder (Some rate) amount)
    (message.Bid sale buyer None par) row is_one is_other =
    let bad : ◌≡◌ {A = Option ℕ} (Some rate.steps) None =
    ap (λ (o : Option Row). (unwrap_or o row).steps) (is_one ∙ sym is_other) in
    cc (bad)
one_bid number place one other row is_one is_other = cc (is_one, is_other)

-- rows are those of one list of bids
one_list : (one other : List (ℕ × Message)) (rows : List Row)
    → map row_of one ≡ map Some rows
    → map row_of other ≡ map Some rows
    → one ≡ other
one_list [] [] [] is_one is_other = refl
one_list [] [] (row ∷ rows) is_one is_other = cc (is_one)
one_list [] (b ∷ other) [] is_one is_other = cc (is_other)
one_list [] (b ∷ other) (row ∷ rows) is_one is_other = cc (is_one)
one_list (a ∷ one) other [] is_one is_other = cc (is_one)
one_list (a ∷ one) [] (row ∷ rows) is_one is_other = cc (is_other)
one_list (a ∷ one) (b ∷ other) (row ∷ rows) is_one is_other =
    let head = one_bid a.0 b.0 a.1 b.1 row (cc (is_one)) (cc (is_other)) in
    let tail = one_list one other rows (cc (is_one)) (cc (is_other)) in
    cc (head, tail)

-- bytes are one table
pub one_table : (bytes : List ℕ) (one other : List (ℕ × Message))
    → IsTable bytes one
    → IsTable bytes other
    → one ≡ other
one_table bytes one other is_one is_other =
    let all : header ∷ is_other.records ≡ header ∷ is_one.records =
    one_all default_config st.StartRecord (strip_bom bytes) (header ∷ is_one.records) (header ∷ is_other.records)
    is_one.all.0 is_other.all.0 is_one.all.1 is_other.all.1 is_one.all.2 is_one.all.3 is_other.all.2
    is_other.all.3 in
    let records : is_other.records ≡ is_one.records = cc (all) in
    let rows = one_rows is_one.records is_one.rows is_other.rows is_one.read
    (subst (λ (r : List Fields). AreRowsOf r is_other.rows) records is_other.read) in
    one_list one other (first_seen is_one.rows) is_one.distinct
    (is_other.distinct ∙ ap (λ (r : List Row). map Some (first_seen r)) (sym rows))
