-- Lines that one text spells are one line.
use Rattle.std.proofs.Common.{◌≡◌, ℕ, ℤ, pos, negsuc, suc, ◌*◌, ◌≤◌, ◌^◌, List, [], ◌∷◌, get_or, length, sym, ap, ◌∙◌, refl, arith}
use Rattle.std.specs.Prelude.{Option, Some, None}
use Rattle.std.specs.Fmt.{decimal, signed_decimal}
use Rattle.tb_units.specs.declared.rate.Rate.{Rate}
use Rattle.tb_units.specs.Rates.{thousandths_of}
use Rattle.tb_units.specs.Same.{same_days, same_dollars, same_rate}
use Rattle.tb_text_book.specs.Fields.{fields}
use Rattle.tb_text_book.specs.Words.{spelling_of}
use Rattle.tb_text_book.specs.declared.word.Word.{Word}
use Rattle.tb_text_book.specs.declared.word.Word.TheVariants as words
use Rattle.tb_text_book.specs.BookLines.{Says, Spells, IsBidLine, IsReportLine, IsPosition, AreBidFields, AreOfferingFields}
use Rattle.tb_text_book.specs.declared.book_line.BookLine.{BookLine}
use Rattle.tb_text_book.specs.declared.book_line.BookLine.TheVariants as kind
use Rattle.tb_text_book.specs.declared.book_line.Offering.{Offering}
use Rattle.tb_text_book.specs.declared.book_line.Bid.{Bid}
use Rattle.tb_text_book.specs.declared.book_line.Report.{Report}
use Rattle.tb_text_book.specs.declared.book_line.Entry.TheVariants as entry
use Rattle.tb_text_book.proofs.DecimalLemmas.{decimal-one, decimal-unsigned}

-- an offering is its amount, its floor and its days
same_offering : (a b : Offering) → a.amount ≡ b.amount → a.floor ≡ b.floor → a.days ≡ b.days → a ≡ b
same_offering a b amount floor days = λ i. record { amount = amount i; floor = floor i; days = days i }

-- a bid is its bidder, its rate and its amount
same_bid : (a b : Bid) → a.bidder ≡ b.bidder → a.rate ≡ b.rate → a.amount ≡ b.amount → a ≡ b
same_bid a b bidder rate amount = λ i. record { bidder = bidder i; rate = rate i; amount = amount i }

-- each word has a spelling of its own
spelling_of-one : (one other : Word) → spelling_of one ≡ spelling_of other → one ≡ other
spelling_of-one words.Offering words.Offering is = refl
spelling_of-one words.Noncompetitive words.Noncompetitive is = refl
spelling_of-one words.Competitive words.Competitive is = refl
spelling_of-one words.Position words.Position is = refl
spelling_of-one words.End words.End is = refl
spelling_of-one one other is = absurd (omega (arith, ap length is, ap (λ (text : List ℕ). get_or text 0 0) is))

-- so one text isn't the spelling of two words
apart : {X : Type 0} (one other : Word) → (one ≡ other → ⊥) → spelling_of one ≡ spelling_of other → X
apart one other differ is = absurd (differ (spelling_of-one one other is))

-- a word of a bid is none of an offering, a report or the end
bid-offering : {X : Type 0} (word : List ℕ) (texts : List (List ℕ)) (bidder : List ℕ) (rate : Option Rate)
    (amount : ℕ)
    → AreBidFields word texts bidder rate amount
    → word ≡ spelling_of words.Offering
    → X
bid-offering word texts bidder None amount written is =
    apart words.Offering words.Noncompetitive (λ same. (cc)) (sym is ∙ written.0)
bid-offering word texts bidder (Some rate) amount written is =
    apart words.Offering words.Competitive (λ same. (cc)) (sym is ∙ written.0)

-- and none of a report
bid-report : {X : Type 0} (word : List ℕ) (texts : List (List ℕ)) (bidder : List ℕ) (rate : Option Rate) (amount : ℕ)
    → AreBidFields word texts bidder rate amount
    → word ≡ spelling_of words.Position
    → X
bid-report word texts bidder None amount written is =
    apart words.Noncompetitive words.Position (λ same. (cc)) (sym written.0 ∙ is)
bid-report word texts bidder (Some rate) amount written is =
    apart words.Competitive words.Position (λ same. (cc)) (sym written.0 ∙ is)

-- and none of the end
bid-end : {X : Type 0} (word : List ℕ) (texts : List (List ℕ)) (bidder : List ℕ) (rate : Option Rate) (amount : ℕ)
    → AreBidFields word texts bidder rate amount
    → word ≡ spelling_of words.End
    → X
bid-end word texts bidder None amount written is =
    apart words.End words.Noncompetitive (λ same. (cc)) (sym is ∙ written.0)
bid-end word texts bidder (Some rate) amount written is =
    apart words.End words.Competitive (λ same. (cc)) (sym is ∙ written.0)

-- one text is one rate
rate-one : (text : List ℕ) (a b : Rate)
    → thousandths_of text ≡ Some (5 * a.steps)
    → thousandths_of text ≡ Some (5 * b.steps)
    → a ≡ b
rate-one text a b is_a is_b = let same : 5 * a.steps ≡ 5 * b.steps = (cc) in same_rate a b (omega arith)

-- the fields of a bid are of one bidder, rate and amount
record SameFields (b b' : List ℕ) (r r' : Option Rate) (a a' : ℕ) : Type 0 where
  bidder : b ≡ b'
  rate : r ≡ r'
  amount : a ≡ a'

-- fields are those of one bid
bid_fields-one : (word : List ℕ) (texts : List (List ℕ)) (bidder bidder' : List ℕ) (rate rate' : Option Rate)
    (amount amount' : ℕ)
    → amount ≤ 10 ^ 12
    → amount' ≤ 10 ^ 12
    → AreBidFields word texts bidder rate amount
    → AreBidFields word texts bidder' rate' amount'
    → SameFields bidder bidder' rate rate' amount amount'
bid_fields-one word texts bidder bidder' None None amount amount' small small' is is' =
    let same : bidder ∷ decimal amount ∷ [] ≡ bidder' ∷ decimal amount' ∷ [] = sym is.1 ∙ is'.1 in
    record { bidder = cc; rate = refl; amount = decimal-one (decimal amount) amount amount' small small' refl (cc) }
bid_fields-one word texts bidder bidder' (Some rate) (Some rate') amount amount' small small' is is' =
    let same : bidder ∷ is.1.0 ∷ decimal amount ∷ [] ≡ bidder' ∷ is'.1.0 ∷ decimal amount' ∷ [] =
    sym is.1.2 ∙ is'.1.2 in
    let spelling : is.1.0 ≡ is'.1.0 = (cc) in
    record {
      bidder = cc;
      rate = ap Some (rate-one is.1.0 rate rate' is.1.1 (rw spelling is'.1.1));
      amount = decimal-one (decimal amount) amount amount' small small' refl (cc);
    }
bid_fields-one word texts bidder bidder' None (Some rate') amount amount' small small' is is' =
    apart words.Noncompetitive words.Competitive (λ same. (cc)) (sym is.0 ∙ is'.0)
bid_fields-one word texts bidder bidder' (Some rate) None amount amount' small small' is is' =
    apart words.Noncompetitive words.Competitive (λ same. (cc)) (sym is'.0 ∙ is.0)

-- fields are those of one offering
offering-one : (texts : List (List ℕ)) (a b : Offering)
    → AreOfferingFields texts a
    → AreOfferingFields texts b
    → a ≡ b
offering-one texts a b is_a is_b =
    let same : decimal a.amount.value ∷ decimal a.floor.value ∷ decimal a.days.count ∷ [] ≡ decimal
    b.amount.value ∷ decimal b.floor.value ∷ decimal b.days.count ∷ [] = sym is_a.written ∙ is_b.written in
    same_offering a b
    (same_dollars a.amount b.amount
    (decimal-one (decimal a.amount.value) _ _ is_a.amount.within is_b.amount.within refl (cc)))
    (same_dollars a.floor b.floor
    (decimal-one (decimal a.floor.value) _ _ (omega (arith, is_a.amount.within, is_a.floor.within))
    (omega (arith, is_b.amount.within, is_b.floor.within)) refl (cc)))
    (same_days a.days b.days
    (decimal-one (decimal a.days.count) _ _ (omega (arith, is_a.days.few)) (omega (arith, is_b.days.few)) refl (cc)))

-- fields say one bid
bid-one : (word : List ℕ) (texts : List (List ℕ)) (a b : Bid)
    → IsBidLine word texts a
    → IsBidLine word texts b
    → a ≡ b
bid-one word texts a b is_a is_b =
    let same = bid_fields-one word texts a.bidder b.bidder a.rate b.rate a.amount.value b.amount.value
    is_a.amount.within is_b.amount.within is_a.written is_b.written in
    same_bid a b same.bidder same.rate (same_dollars a.amount b.amount same.amount)

-- positions are told by their decimals
signed-one : (a b : ℤ) → IsPosition a → IsPosition b → signed_decimal a ≡ signed_decimal b → a ≡ b
signed-one (pos a) (pos b) small small' is = ap pos (decimal-one (decimal a) a b small small' refl is)
signed-one (negsuc a) (negsuc b) small small' is =
    let same : decimal (suc a) ≡ decimal (suc b) = (cc) in
    let one : suc a ≡ suc b = decimal-one (decimal (suc a)) (suc a) (suc b) small small' refl same in
    ap negsuc (omega arith)
signed-one (pos a) (negsuc b) small small' is = absurd (decimal-unsigned a (decimal (suc b)) small is)
signed-one (negsuc a) (pos b) small small' is = absurd (decimal-unsigned b (decimal (suc a)) small' (sym is))

-- a report is its bidder and its position
same_report : (a b : Report) → a.bidder ≡ b.bidder → a.position ≡ b.position → a ≡ b
same_report a b bidder position = λ i. record { bidder = bidder i; position = position i }

-- fields say one report
report-one : (word : List ℕ) (texts : List (List ℕ)) (a b : Report)
    → IsReportLine word texts a
    → IsReportLine word texts b
    → a ≡ b
report-one word texts a b is_a is_b =
    let same : a.bidder ∷ signed_decimal a.position ∷ [] ≡ b.bidder ∷ signed_decimal b.position ∷ [] =
    sym is_a.written ∙ is_b.written in
    same_report a b (cc) (signed-one a.position b.position is_a.position is_b.position (cc))

-- fields say one line
Says-one : (texts : List (List ℕ)) (a b : BookLine) → Says texts a → Says texts b → a ≡ b
Says-one [] a b is_a is_b = absurd is_a
Says-one (word ∷ texts) (kind.Offering a) (kind.Offering b) is_a is_b =
    ap kind.Offering (offering-one texts a b is_a.1 is_b.1)
Says-one (word ∷ texts) (kind.Offering a) (kind.Entry (entry.Bid b)) is_a is_b =
    bid-offering word texts b.bidder b.rate b.amount.value is_b.written is_a.0
Says-one (word ∷ texts) (kind.Offering a) (kind.Entry (entry.Report b)) is_a is_b =
    apart words.Offering words.Position (λ same. (cc)) (sym is_a.0 ∙ is_b.word_is)
Says-one (word ∷ texts) (kind.Offering a) kind.End is_a is_b =
    apart words.Offering words.End (λ same. (cc)) (sym is_a.0 ∙ is_b.0)
Says-one (word ∷ texts) (kind.Entry (entry.Bid a)) (kind.Offering b) is_a is_b =
    bid-offering word texts a.bidder a.rate a.amount.value is_a.written is_b.0
Says-one (word ∷ texts) (kind.Entry (entry.Bid a)) (kind.Entry (entry.Bid b)) is_a is_b =
    ap (λ bid. kind.Entry (entry.Bid bid)) (bid-one word texts a b is_a is_b)
Says-one (word ∷ texts) (kind.Entry (entry.Bid a)) (kind.Entry (entry.Report b)) is_a is_b =
    bid-report word texts a.bidder a.rate a.amount.value is_a.written is_b.word_is
Says-one (word ∷ texts) (kind.Entry (entry.Bid a)) kind.End is_a is_b =
    bid-end word texts a.bidder a.rate a.amount.value is_a.written is_b.0
Says-one (word ∷ texts) (kind.Entry (entry.Report a)) (kind.Offering b) is_a is_b =
    apart words.Offering words.Position (λ same. (cc)) (sym is_b.0 ∙ is_a.word_is)
Says-one (word ∷ texts) (kind.Entry (entry.Report a)) (kind.Entry (entry.Bid b)) is_a is_b =
    bid-report word texts b.bidder b.rate b.amount.value is_b.written is_a.word_is
Says-one (word ∷ texts) (kind.Entry (entry.Report a)) (kind.Entry (entry.Report b)) is_a is_b =
    ap (λ report. kind.Entry (entry.Report report)) (report-one word texts a b is_a is_b)
Says-one (word ∷ texts) (kind.Entry (entry.Report a)) kind.End is_a is_b =
    apart words.End words.Position (λ same. (cc)) (sym is_b.0 ∙ is_a.word_is)
Says-one (word ∷ texts) kind.End (kind.Offering b) is_a is_b =
    apart words.Offering words.End (λ same. (cc)) (sym is_b.0 ∙ is_a.0)
Says-one (word ∷ texts) kind.End (kind.Entry (entry.Bid b)) is_a is_b =
    bid-end word texts b.bidder b.rate b.amount.value is_b.written is_a.0
Says-one (word ∷ texts) kind.End (kind.Entry (entry.Report b)) is_a is_b =
    apart words.End words.Position (λ same. (cc)) (sym is_a.0 ∙ is_b.word_is)
Says-one (word ∷ texts) kind.End kind.End is_a is_b = refl

-- a text spells one line of a book
pub Spells-one : (text : List ℕ) (a b : BookLine) → Spells text a → Spells text b → a ≡ b
Spells-one text a b is_a is_b = Says-one (fields text) a b is_a.says is_b.says
