-- What the lines of a book say.
use Rattle.std.proofs.Common.{◌≡◌, ℕ, ◌≤◌, ◌^◌, List, [], ◌∷◌, true, false, subst, sym, ◌∙◌, arith}
use Rattle.std.specs.Prelude.{Option, Some, None}
use Rattle.std.specs.Fmt.{decimal}
use Rattle.std.proofs.lemmas.Bool.Decides.{nat_tests}
use Rattle.tb_units.specs.Multiples.{is_multiple}
use Rattle.tb_units.specs.declared.rate.Rate.{Rate}
use Rattle.tb_text_book.specs.Words.{spelling_of}
use Rattle.tb_text_book.specs.declared.word.Word.{Word}
use Rattle.tb_text_book.specs.declared.word.Word.TheVariants as word
use Rattle.tb_text_book.specs.declared.book_line.BookLine.{BookLine}
use Rattle.tb_text_book.specs.declared.book_line.BookLine.TheVariants as kind
use Rattle.tb_text_book.specs.declared.book_line.Entry.TheVariants as entry
use Rattle.tb_text_book.specs.declared.book_line.Offering.{Offering}
use Rattle.tb_text_book.specs.BookLines.{Says, AreBidFields, AreOfferingFields, IsMultiple}
use Rattle.tb_text_book.proofs.DecimalLemmas.{decimal-one}

-- a bid begins with one of two words
AreBidFields-word : (text : List ℕ) (texts : List (List ℕ)) (bidder : List ℕ) (rate : Option Rate) (amount : ℕ)
    → AreBidFields text texts bidder rate amount
    → (w : Word) × (text ≡ spelling_of w)
AreBidFields-word text texts bidder None amount written = (word.Noncompetitive, written.0)
AreBidFields-word text texts bidder (Some rate) amount written = (word.Competitive, written.0)

-- every line begins with one of the words
pub Says-word : (text : List ℕ) (texts : List (List ℕ)) (line : BookLine)
    → Says (text ∷ texts) line
    → (w : Word) × (text ≡ spelling_of w)
Says-word text texts (kind.Offering offering) says = (word.Offering, says.0)
Says-word text texts (kind.Entry (entry.Bid bid)) says =
    AreBidFields-word text texts bid.bidder bid.rate bid.amount.value says.written
Says-word text texts (kind.Entry (entry.Report report)) says = (word.Position, says.word_is)
Says-word text texts kind.End says = (word.End, says.0)

-- where the offering is read, its floor is within it
pub AreOfferingFields-floor : (texts : List (List ℕ)) (amount floor days : List ℕ) (n : ℕ)
    → texts ≡ amount ∷ floor ∷ days ∷ []
    → n ≤ 10 ^ 12
    → amount ≡ decimal n
    → (offering : Offering)
    → AreOfferingFields texts offering
    → IsMultiple 100 n offering.floor.value × (floor ≡ decimal offering.floor.value)
AreOfferingFields-floor texts amount floor days n is small read offering fields =
    let same : texts ≡ decimal offering.amount.value ∷ decimal offering.floor.value ∷ decimal
    offering.days.count ∷ [] = fields.written in
    let first : amount ≡ decimal offering.amount.value = cc in
    let second : floor ≡ decimal offering.floor.value = cc in
    let amounts : offering.amount.value ≡ n = decimal-one amount _ _ fields.amount.within small first read in
    (subst (λ (most : ℕ). IsMultiple 100 most offering.floor.value) amounts fields.floor, second)

-- an amount that fails the test of multiples is none
pub IsMultiple-no : (unit most amount : ℕ) → is_multiple unit most amount ≡ false → ¬ (IsMultiple unit most amount)
IsMultiple-no unit most amount fails is =
    let whole = is.whole in
    let some = is.some in
    let within = is.within in
    let passes : is_multiple unit most amount ≡ true = grind (arith, nat_tests) in
    let both : false ≡ true = sym fails ∙ passes in
    absurd (cc)
