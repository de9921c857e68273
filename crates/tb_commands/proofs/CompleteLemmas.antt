-- A text that begins with a book has no line outside the grammar up to its end.
use Rattle.std.proofs.Common.{◌≡◌, ℕ, ◌+◌, ◌<◌, List, [], ◌∷◌, ◌++◌, length, sym, subst, ◌∙◌, refl, arith, inl, inr}
use Rattle.tb_link.specs.Sources.{SourceState}
use Rattle.tb_link.specs.Sinks.{SinkState}
use Rattle.std.specs.Prelude.{Some, Bool}
use Rattle.std.specs.Str.Lines.{lines}
use Rattle.tb_text_book.specs.BookLines.{Spells}
use Rattle.tb_lines.specs.Told.{WhereTold}
use Rattle.tb_text_book.specs.Books.{Adds, AreEntries, Book, IsBadFirst, IsBadNext, IsEntry, HasBadLine, HasBook, IsFront, empty_book}
use Rattle.tb_lines.specs.LineEnds.{most_lines}
use Rattle.tb_lines.specs.Reads.{LeavesOpen}
use Rattle.tb_text_book.specs.BookReading.{IsOpenBook}
use Rattle.tb_commands.specs.AwardRun.{AwardEnds, Printed, PrintedPrefix}
use Rattle.tb_disk.specs.Disks.{DiskState}
use Rattle.tb_words.specs.declared.command.Command.TheVariants as command
use Rattle.tb_commands.specs.Completeness.{Completes}
use Rattle.tb_commands.specs.Endings.{of_text}
use Rattle.tb_text_book.specs.declared.book_line.BookLine.TheVariants as kind
use Rattle.tb_text_book.specs.declared.book_line.Entry.{Entry}
use Rattle.tb_text_book.specs.declared.book_line.Offering.{Offering}
use Rattle.tb_commands.specs.declared.command_endings.TextEnding.{TextEnding}
use Rattle.tb_commands.specs.declared.command_endings.TextEnding.TheVariants as ending
use Rattle.tb_text_book.proofs.NumberingLemmas.{adds-one}
use Rattle.tb_text_book.proofs.SameLemmas.{Spells-one}

-- the line that comes next in a book may stand there
ends_here : (offering : Offering) (book : Book) (count : ℕ) (last : List ℕ) (rest next : List (List ℕ))
    → last ∷ rest ≡ next
    → Spells last kind.End
    → count < most_lines
    → ¬ (IsBadNext offering book count next)
ends_here offering book count last rest [] is ends few bad = absurd (cc)
ends_here offering book count last rest (text ∷ texts) is ends few (inl many) = absurd (omega arith)
ends_here offering book count last rest (text ∷ texts) is ends few (inr other) = let same : last ≡ text = (cc) in
    other (inr (subst (λ (x : List ℕ). Spells x kind.End) same ends))

-- nor is it bad where it is an entry that may stand there
pub goes_on : (offering : Offering) (book new : Book) (count : ℕ) (text : List ℕ) (rest next : List (List ℕ))
    → text ∷ rest ≡ next
    → IsEntry offering book text new
    → count < most_lines
    → ¬ (IsBadNext offering book count next)
goes_on offering book new count text rest [] is more few bad = absurd (cc)
goes_on offering book new count text rest (first ∷ others) is more few (inl many) = absurd (omega arith)
goes_on offering book new count text rest (first ∷ others) is more few (inr other) = let same : text ≡ first = (cc) in
    other (inl (new, subst (λ (x : List ℕ). IsEntry offering book x new) same more))

-- one line brings a book to one
pub entry_one : (offering : Offering) (book a b : Book) (text : List ℕ)
    → IsEntry offering book text a
    → IsEntry offering book text b
    → a ≡ b
entry_one offering book a b text is_a is_b =
    let same : kind.Entry is_b.0 ≡ kind.Entry is_a.0 =
    Spells-one text (kind.Entry is_b.0) (kind.Entry is_a.0) is_b.1 is_a.1 in
    let one : is_b.0 ≡ is_a.0 = (cc) in
    adds-one offering book a b is_a.0 is_a.2 (subst (λ (e : Entry). Adds offering book e b) one is_b.2)

-- entries up to an end, and entries up to a bad line, of one text
clash : (offering : Offering) (old : Book) (count : ℕ) (texts : List (List ℕ)) (book : Book) (last : List ℕ)
    (rest : List (List ℕ)) (texts' : List (List ℕ)) (book' : Book) (rest' : List (List ℕ))
    → AreEntries offering old texts book
    → Spells last kind.End
    → AreEntries offering old texts' book'
    → texts ++ last ∷ rest ≡ texts' ++ rest'
    → IsBadNext offering book' (count + length texts') rest'
    → count + length texts < most_lines
    → ⊥
clash offering old count [] book last rest [] book' rest' are ends are' is bad few =
    ends_here offering book' (count + 0) last rest rest' is ends few bad
clash offering old count [] book last rest (text' ∷ texts') book' rest' are ends are' is bad few =
    let same : last ≡ text' = (cc) in
    let one : kind.End ≡ kind.Entry are'.1.0 =
    Spells-one last kind.End (kind.Entry are'.1.0) ends
    (subst (λ (x : List ℕ). Spells x (kind.Entry are'.1.0)) (sym same) are'.1.1) in
    absurd (cc)
clash offering old count (text ∷ texts) book last rest [] book' rest' are ends are' is bad few =
    goes_on offering old are.0 (count + 0) text (texts ++ last ∷ rest) rest' is are.1 (omega (arith, few))
    (subst (λ (b : Book). IsBadNext offering b (count + 0) rest') are' bad)
clash offering old count (text ∷ texts) book last rest (text' ∷ texts') book' rest' are ends are' is bad few =
    let same : text ≡ text' = (cc) in
    let behind : texts ++ last ∷ rest ≡ texts' ++ rest' = (cc) in
    let one : are'.0 ≡ are.0 =
    entry_one offering old are'.0 are.0 text (subst (λ (x : List ℕ). IsEntry offering old x are'.0) (sym same) are'.1)
    are.1 in
    let next : count + length (text' ∷ texts') ≡ count + 1 + length texts' = omega arith in
    clash offering are.0 (count + 1) texts book last rest texts' book' rest' are.2 ends
    (subst (λ (b : Book). AreEntries offering b texts' book') one are'.2) behind
    (subst (λ (n : ℕ). IsBadNext offering book' n rest') next bad) (omega (arith, few))

-- one line is one offering
pub offering_one : (text : List ℕ) (a b : Offering)
    → Spells text (kind.Offering a)
    → Spells text (kind.Offering b)
    → a ≡ b
offering_one text a b is_a is_b = let same : kind.Offering a ≡ kind.Offering b =
    Spells-one text (kind.Offering a) (kind.Offering b) is_a is_b in (cc)

-- a front up to an end, and a front up to a bad line, of one text
fronts_clash : (front front' : List (List ℕ)) (offering offering' : Offering) (book book' : Book) (last : List ℕ)
    (rest rest' : List (List ℕ))
    → IsFront front offering book
    → Spells last kind.End
    → IsFront front' offering' book'
    → front ++ last ∷ rest ≡ front' ++ rest'
    → IsBadNext offering' book' (length front') rest'
    → length front < most_lines
    → ⊥
fronts_clash [] front' offering offering' book book' last rest rest' is ends is' same bad few = absurd is
fronts_clash (text ∷ texts) [] offering offering' book book' last rest rest' is ends is' same bad few = absurd is'
fronts_clash (text ∷ texts) (text' ∷ texts') offering offering' book book' last rest rest' is ends is' same bad few =
    let first : text ≡ text' = (cc) in
    let behind : texts ++ last ∷ rest ≡ texts' ++ rest' = (cc) in
    let one : offering' ≡ offering =
    offering_one text offering' offering
    (subst (λ (x : List ℕ). Spells x (kind.Offering offering')) (sym first) is'.0)
    is.0 in
    let count : length (text' ∷ texts') ≡ 1 + length texts' = omega arith in
    clash offering empty_book 1 texts book last rest texts' book' rest' is.1 ends
    (subst (λ (x : Offering). AreEntries x empty_book texts' book') one is'.1) behind
    (subst (λ (x : Offering). IsBadNext x book' (1 + length texts') rest') one
    (subst (λ (n : ℕ). IsBadNext offering' book' n rest') count bad)) (omega (arith, few))

-- the first line of a front isn't bad
pub first_good : (front : List (List ℕ)) (offering : Offering) (book : Book) (rest texts : List (List ℕ))
    → IsFront front offering book
    → texts ≡ front ++ rest
    → ¬ (IsBadFirst texts)
first_good [] offering book rest texts is same bad = absurd is
first_good (text ∷ texts) offering book rest [] is same bad = absurd (cc)
first_good (text ∷ texts) offering book rest (first ∷ others) is same bad = let first : text ≡ first = (cc) in
    bad offering (subst (λ (x : List ℕ). Spells x (kind.Offering offering)) first is.0)

-- a text that begins with a book has no bad line
pub HasBook-good : (texts : List (List ℕ)) → HasBook texts → ¬ (HasBadLine texts)
HasBook-good texts has bad = elim bad.1 [
  | inl first ↦ first_good has.2.front has.0 has.1 (has.2.last ∷ has.2.rest) texts has.2.front_is has.2.lines_are
      first.0
  | inr stops ↦ fronts_clash has.2.front stops.front has.0 stops.offering has.1 stops.book has.2.last has.2.rest
      stops.rest has.2.front_is has.2.end stops.front_is (sym has.2.lines_are ∙ stops.lines_are) stops.bad has.2.few
]

-- an input that begins with a book, in the words of the run
printed_book : (full : Bool) (input input' : SourceState) (out out' : SinkState) (text : List ℕ)
    → WhereTold input.left (Printed full input input' out out')
    → input.left ≡ Some text
    → HasBook (lines text)
printed_book full input input' out out' text printed told =
    let p = (printed text told).run in (p.offering, p.book, p.begins)

-- the same where a prefix was printed
prefix_book : (full : Bool) (input input' : SourceState) (out out' : SinkState) (text : List ℕ)
    → WhereTold input.left (PrintedPrefix full input input' out out')
    → input.left ≡ Some text
    → HasBook (lines text)
prefix_book full input input' out out' text printed told =
    let p = (printed text told).run in (p.offering, p.book, p.begins)

-- a book is answered, and an input outside the grammar is refused
pub award-completes : (full : Bool) (own : TextEnding) (input input' : SourceState) (out out' : SinkState)
    (disk : DiskState)
    → AwardEnds full own input input' out out'
    → Completes (command.Award full) input disk (of_text own)
award-completes full ending.Done input input' out out' disk ends = λ text told. record {
  answered = λ book. inr (inl refl);
  refused = λ bad.
      absurd (HasBook-good (lines text) (printed_book full input input' out out' text ends.0.told told) bad);
}
award-completes full (ending.BadInput number) input input' out out' disk ends = λ text told. record {
  answered = λ book. absurd (HasBook-good (lines text) book (number, (ends.1.told text told).bad));
  refused = λ bad. inr (number, refl);
}
award-completes full ending.ReadFault input input' out out' disk ends = λ text told. record {
  answered = λ book. inl (inl refl);
  refused = λ bad. inl (inl refl);
}
award-completes full ending.WriteFault input input' out out' disk ends = λ text told. record {
  answered = λ book. inr (inr (inl refl));
  refused = λ bad.
      absurd (HasBook-good (lines text) (prefix_book full input input' out out' text ends.1.told told) bad);
}
award-completes full ending.OutOfMemory input input' out out' disk ends = λ text told. record {
  answered = λ book. inl (inr refl);
  refused = λ bad. inl (inr refl);
}

-- of a book no line was read
no-line_read : (reads : ℕ) (text : List ℕ) → LeavesOpen IsOpenBook reads reads text
no-line_read reads text = record {
  front = [];
  rest = lines text;
  lines_are = refl;
  is_open = tt;
  reads = record {
    taken = [];
    rest = text;
    text_is = refl;
    reads = inl (omega arith);
    front = [];
    lines_are = refl;
    few = omega arith;
  };
}

-- where there was no memory nothing was read or printed
pub award-untouched : (full : Bool) (input : SourceState) (out : SinkState)
    → AwardEnds full ending.OutOfMemory input input out out
award-untouched full input out = (refl, record { no_fault = refl; told = λ text told. no-line_read input.reads text })
