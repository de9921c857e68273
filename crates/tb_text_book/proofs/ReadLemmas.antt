-- Reading the entries of a book, from line to line.
use Rattle.std.proofs.Common.{◌≡◌, ◌≢◌, ℕ, ◌+◌, ◌^◌, ◌<◌, ◌≤◌, List, [], ◌∷◌, ◌++◌, length, sym, subst, ap, ◌∙◌, refl, arith, append_assoc, Bool, true, false, inl, inr}
use Rattle.std.specs.Prelude.{Option, Some, None, Result, Err, OnErr, position}
use Rattle.std.specs.Str.Lines.{lines}
use Rattle.std.proofs.lemmas.List.{length-append}
use Rattle.tb_link.specs.Sources.{SourceState, before_left}
use Rattle.tb_text_book.specs.BookLines.{Spells, Says}
use Rattle.tb_text_book.specs.Fields.{fields}
use Rattle.tb_text_book.specs.SoundLines.{IsLine, IsSoundOffering}
use Rattle.tb_text_book.specs.Books.{Adds, AreEntries, Book, GetsNumber, GoesOn, IsBadFirst, IsBadLine, IsBadNext, IsFront, BeginsWithBook, IsEntry, empty_book, name_of}
use Rattle.tb_lines.specs.LineEnds.{is_line_feed, most_lines}
use Rattle.tb_lines.specs.Pieces.{still_left}
use Rattle.tb_lines.specs.Lines.{StaysAtEnd, ahead, unread}
use Rattle.tb_text_book.specs.BookReading.{AreSomeEntries, IsOpenBook, ReadsBadLine, ReadsBook, ReadsLine, HasNoLine, HasEntries, EndsEntries, StopsEntries}
use Rattle.tb_lines.specs.Told.{WhereTold}
use Rattle.tb_lines.specs.Reads.{CutsOpen, LeavesOpen, ReadsLines, ReadsNoMore}
use Rattle.tb_text_book.specs.Tallies.{IsTally}
use Rattle.tb_text_book.specs.declared.book_line.BookLine.{BookLine}
use Rattle.tb_text_book.specs.declared.book_line.BookLine.TheVariants as kind
use Rattle.tb_text_book.specs.declared.book_line.Entry.{Entry}
use Rattle.tb_text_book.specs.declared.book_line.Entry.TheVariants as entry
use Rattle.tb_text_book.specs.declared.book_line.Offering.{Offering}
use Rattle.tb_text_book.specs.declared.book_line.Bid.{Bid}
use Rattle.tb_lines.specs.declared.input.LineReader.{LineReader}
use Rattle.tb_text_book.specs.declared.text_book.TextBook.{TextBook}
use Rattle.tb_lines.proofs.ReadsLemmas.{ReadsLines-more, ReadsLines-whole}
use Rattle.tb_text_book.proofs.SameLemmas.{Spells-one}

-- where the lines are read from: the reader with its source
pub record ReadState : Type 0 where
  pub reader : LineReader
  pub source : SourceState

-- the text to come there
abbrev pub to_come : ReadState → Option (List ℕ)
to_come at = ahead at.reader at.source

-- of the text behind the offering, the entries of this book have been read, up to line count, with no read behind them
pub record ReadsEntries (count : ℕ) (offering : Offering) (book : Book) (first now : ReadState) (text : List ℕ) : Type 0
  where
    pub has : HasEntries count offering book (to_come now) text
    pub reads : ReadsNoMore first.source.reads now.source.reads now.reader.pieces.ended (to_come now) text

-- what the loop over the lines keeps
pub record SoFar (line : ℕ) (offering : Offering) (kept : TextBook) (first now : ReadState) : Type 0 where
  pub book : Book
  pub same : kept.offering ≡ offering
  pub tally : IsTally book kept
  pub read : WhereTold (to_come first) (ReadsEntries line offering book first now)
  pub size : length book.entries + 1 ≡ line
  pub few : length book.names ≤ length book.entries
  pub no_fault : now.source.faults ≡ first.source.faults
  pub once : StaysAtEnd first.reader now.reader first.source now.source

-- one entry more
AreEntries-more : (offering : Offering) (old : Book) (texts : List (List ℕ)) (between : Book) (text : List ℕ)
    (new : Book)
    → AreEntries offering old texts between
    → IsEntry offering between text new
    → AreEntries offering old (texts ++ text ∷ []) new
AreEntries-more offering old [] between text new are is =
    (new, subst (λ (b : Book). IsEntry offering b text new) are is, refl)
AreEntries-more offering old (t ∷ texts) between text new are is =
    (are.0, are.1, AreEntries-more offering are.0 texts between text new are.2 is)

-- the line in front of what follows, in the words of the text
front_line : (n : ℕ) (offering : Offering) (book : Book) (ahead : Option (List ℕ)) (text : List ℕ) (line : BookLine)
    (behind : Option (List ℕ)) (has : HasEntries n offering book ahead text) (reads : ReadsLine line behind has.rest)
    → lines text ≡ has.read ++ reads.first ∷ lines reads.rest
front_line n offering book ahead text line behind has reads = has.lines_are ∙ ap (λ ls. has.read ++ ls) reads.lines_are

-- one rest follows
pub same_rest : (behind : Option (List ℕ)) (one other : List ℕ) → behind ≡ Some one → behind ≡ Some other → one ≡ other
same_rest behind one other is_one is_other = let same : Some one ≡ Some other = sym is_one ∙ is_other in cc

-- one entry more was read
pub HasEntries-more : (n : ℕ) (offering : Offering) (book new : Book) (entry : Entry) (ahead behind : Option (List ℕ))
    (text : List ℕ)
    → HasEntries n offering book ahead text
    → WhereTold ahead (ReadsLine (kind.Entry entry) behind)
    → Adds offering book entry new
    → HasEntries (n + 1) offering new behind text
HasEntries-more n offering book new entry ahead behind text has told adds =
    let reads = told has.rest has.behind_is in
    record {
      read = has.read ++ reads.first ∷ [];
      rest = reads.rest;
      behind_is = reads.behind_is;
      lines_are = front_line n offering book ahead text (kind.Entry entry) behind has reads
          ∙ sym (append_assoc has.read (reads.first ∷ []) (lines reads.rest));
      are = AreEntries-more offering empty_book has.read book reads.first new has.are (entry, reads.spells, adds);
      size = omega (arith, length-append has.read (reads.first ∷ []), has.size);
    }

-- the end was read
pub EndsEntries-here : (n : ℕ) (offering : Offering) (book : Book) (ahead behind : Option (List ℕ)) (text : List ℕ)
    → HasEntries n offering book ahead text
    → WhereTold ahead (ReadsLine kind.End behind)
    → n < most_lines
    → EndsEntries offering book behind text
EndsEntries-here n offering book ahead behind text has told few =
    let reads = told has.rest has.behind_is in
    record {
      read = has.read;
      last = reads.first;
      rest = reads.rest;
      behind_is = reads.behind_is;
      lines_are = front_line n offering book ahead text kind.End behind has reads;
      are = has.are;
      end = reads.spells;
      few = omega (arith, has.size);
    }

-- a line that spells none may not come next
bad_next : (offering : Offering) (book : Book) (count : ℕ) (rest : List (List ℕ))
    → HasNoLine rest
    → IsBadNext offering book count rest
bad_next offering book count [] no_line = tt
bad_next offering book count (text ∷ texts) no_line =
    inr (λ goes. elim goes [ inl more ↦ no_line (kind.Entry more.1.0) more.1.1 | inr ends ↦ no_line kind.End ends ])

-- where the end of the input wasn't found, the text to come is what the reader has and what is left of the input
pub cut_parts : (at : ReadState) (text : List ℕ)
    → at.reader.pieces.ended ≡ false
    → to_come at ≡ Some text
    → (rest : List ℕ) × (at.source.left ≡ Some rest) × (text ≡ unread at.reader ++ rest)
cut_parts at text going is =
    parts (unread at.reader) at.source.left text
    (subst (λ (ended : Bool). before_left (unread at.reader) (still_left ended at.source.left) ≡ Some text) going is)
  where
    parts : (front : List ℕ) (left : Option (List ℕ)) (t : List ℕ)
        → before_left front left ≡ Some t
        → (rest : List ℕ) × (left ≡ Some rest) × (t ≡ front ++ rest)
    parts front None t is = absurd (cc)
    parts front (Some rest) t is = (rest, refl, (cc))

-- From the entries read so far, the next line is looked for, with no read behind it.
module _ (count : ℕ) (offering : Offering) (book : Book) (first now next : ReadState) (text : List ℕ)
    (so_far : ReadsEntries count offering book first now text)
    (alone : WhereTold (to_come now) (ReadsLines 1 now.source.reads next.source.reads))
    (once : StaysAtEnd now.reader next.reader now.source next.source)
    (few : count ≤ most_lines) where
  -- so nothing was read behind it
  one_more : ReadsLines (length so_far.has.read + 1) first.source.reads next.source.reads text
  one_more =
      let same : so_far.has.rest ≡ so_far.reads.rest =
      same_rest (to_come now) so_far.has.rest so_far.reads.rest so_far.has.behind_is so_far.reads.behind_is in
      ReadsLines-more first.source.reads now.source.reads next.source.reads now.reader.pieces.ended (to_come now) text
      so_far.reads (λ ended. (once ended).1) so_far.has.read 1
      (so_far.has.lines_are ∙ ap (λ (r : List ℕ). so_far.has.read ++ lines r) same) alone

  -- memory has run out
  pub LeavesOpen-here : LeavesOpen (AreSomeEntries offering) first.source.reads next.source.reads text
  LeavesOpen-here = record {
    front = so_far.has.read;
    rest = lines so_far.has.rest;
    lines_are = so_far.has.lines_are;
    is_open = (book, so_far.has.are);
    reads = one_more;
  }

  -- a read has failed
  pub CutsOpen-here : to_come next ≡ to_come now
      → position is_line_feed (unread next.reader) ≡ None
      → next.reader.pieces.ended ≡ false
      → CutsOpen (AreSomeEntries offering) first.source.reads next.source.reads next.source.left text
  CutsOpen-here still none going =
      let cut = cut_parts next so_far.has.rest going (still ∙ so_far.has.behind_is) in
      let same : so_far.has.rest ≡ so_far.reads.rest =
      same_rest (to_come now) so_far.has.rest so_far.reads.rest so_far.has.behind_is so_far.reads.behind_is in
      record {
        front = so_far.has.read;
        taken = so_far.reads.taken;
        begun = unread next.reader;
        rest = cut.0;
        left_is = cut.1;
        text_is = so_far.reads.text_is
            ∙ ap (λ (r : List ℕ). so_far.reads.taken ++ r) (sym same ∙ cut.2);
        lines_are = so_far.has.lines_are ∙ ap (λ (r : List ℕ). so_far.has.read ++ lines r) cut.2;
        begun_only = none;
        is_open = (book, so_far.has.are);
        reads = one_more;
      }

  -- it spells no line of a book
  pub StopsEntries-unread : WhereTold (to_come now) (λ t. HasNoLine (lines t))
      → StopsEntries (count + 1) first.source.reads next.source.reads offering text
  StopsEntries-unread no_line = record {
    book = book;
    read = so_far.has.read;
    rest = lines so_far.has.rest;
    lines_are = so_far.has.lines_are;
    are = so_far.has.are;
    few = omega (arith, so_far.has.size);
    bad = bad_next offering book (length so_far.has.read + 1) (lines so_far.has.rest)
        (no_line so_far.has.rest so_far.has.behind_is);
    number_is = omega (arith, so_far.has.size);
    reads = one_more;
  }

  -- it may not stand here
  pub StopsEntries-here : (line : BookLine)
      → WhereTold (to_come now) (ReadsLine line (to_come next))
      → ((first : List ℕ) → Spells first line → ¬ (GoesOn offering book first))
      → StopsEntries (count + 1) first.source.reads next.source.reads offering text
  StopsEntries-here line told wrong =
      let reads = told so_far.has.rest so_far.has.behind_is in
      record {
        book = book;
        read = so_far.has.read;
        rest = reads.first ∷ lines reads.rest;
        lines_are = front_line count offering book (to_come now) text line (to_come next) so_far.has reads;
        are = so_far.has.are;
        few = omega (arith, so_far.has.size);
        bad = inr (wrong reads.first reads.spells);
        number_is = omega (arith, so_far.has.size);
        reads = one_more;
      }

-- as many lines as a book may have were read
pub StopsEntries-full : (count : ℕ) (offering : Offering) (book : Book) (first now : ReadState) (text : List ℕ)
    → ReadsEntries count offering book first now text
    → count ≡ most_lines
    → StopsEntries (count + 1) first.source.reads now.source.reads offering text
StopsEntries-full count offering book first now text so_far full =
    let same : so_far.has.rest ≡ so_far.reads.rest =
    same_rest (to_come now) so_far.has.rest so_far.reads.rest so_far.has.behind_is so_far.reads.behind_is in
    record {
      book = book;
      read = so_far.has.read;
      rest = lines so_far.has.rest;
      lines_are = so_far.has.lines_are;
      are = so_far.has.are;
      few = omega (arith, so_far.has.size);
      bad = too_many (length so_far.has.read + 1) (lines so_far.has.rest) (omega (arith, so_far.has.size));
      number_is = omega (arith, so_far.has.size);
      reads = ReadsLines-whole first.source.reads now.source.reads now.reader.pieces.ended (to_come now) text
          so_far.has.read (length so_far.has.read + 1) so_far.reads
          (so_far.has.lines_are ∙ ap (λ (r : List ℕ). so_far.has.read ++ lines r) same) (omega arith);
    }
  where
    too_many : (n : ℕ) (rest : List (List ℕ)) → most_lines ≤ n → IsBadNext offering book n rest
    too_many n [] many = tt
    too_many n (t ∷ ts) many = inl many

-- an entry that may not stand behind the book
pub wrong_entry : (offering : Offering) (book : Book) (entry : Entry)
    → ((new : Book) → ¬ (Adds offering book entry new))
    → (first : List ℕ)
    → Spells first (kind.Entry entry)
    → ¬ (GoesOn offering book first)
wrong_entry offering book entry not first spells goes = elim goes [
  | inl other ↦ (let same : kind.Entry other.1.0 ≡ kind.Entry entry =
      Spells-one first (kind.Entry other.1.0) (kind.Entry entry) other.1.1 spells in
      let one : other.1.0 ≡ entry = (cc) in
      not other.0 (subst (λ (e : Entry). Adds offering book e other.0) one other.1.2))
  | inr ends ↦ absurd (let same : kind.End ≡ kind.Entry entry =
      Spells-one first kind.End (kind.Entry entry) ends spells in cc)
]

-- a second offering may not come next
pub wrong_offering : (offering : Offering) (book : Book) (second : Offering) (first : List ℕ)
    → Spells first (kind.Offering second)
    → ¬ (GoesOn offering book first)
wrong_offering offering book second first spells goes = elim goes [
  | inl other ↦ absurd
      (let same : kind.Entry other.1.0 ≡ kind.Offering second =
      Spells-one first (kind.Entry other.1.0) (kind.Offering second) other.1.1 spells in cc)
  | inr ends ↦ absurd (let same : kind.End ≡ kind.Offering second =
      Spells-one first kind.End (kind.Offering second) ends spells in cc)
]

-- what a result tells where it is an error
pub OnErr-holds : {T E : Type 0} (r : Result T E) (e : E) (P : Type 0) → r ≡ Err e → OnErr r P → P
OnErr-holds {T} {E} r e P is holds = let Q : Result T E → Type 0 = λ x. OnErr x P in subst Q is holds

-- a new reader has nothing before what the source has
pub ahead-start : (reader : LineReader) (source : SourceState) (text : List ℕ)
    → unread reader ≡ []
    → reader.pieces.ended ≡ false
    → source.left ≡ Some text
    → ahead reader source ≡ Some text
ahead-start reader source text empty going is = rw (empty, going, is) refl

-- the first line spells no line of a book
pub IsBadLine-unread : (texts : List (List ℕ)) → HasNoLine texts → IsBadLine 1 texts
IsBadLine-unread [] no_line = inl (tt, refl)
IsBadLine-unread (text ∷ texts) no_line = inl (λ offering. no_line (kind.Offering offering), refl)

-- the first line is no offering
pub IsBadLine-first : (text : List ℕ) (line : BookLine) (behind : Option (List ℕ))
    → ReadsLine line behind text
    → ((offering : Offering) → line ≢ kind.Offering offering)
    → IsBadLine 1 (lines text)
IsBadLine-first text line behind reads other =
    let bad : IsBadFirst (reads.first ∷ lines reads.rest) =
    λ offering spells. other offering (Spells-one reads.first line (kind.Offering offering) reads.spells spells) in
    inl (subst IsBadFirst (sym reads.lines_are) bad, refl)

-- a line behind the offering is bad
pub ReadsBadLine-later : (number : ℕ) (text : List ℕ) (offering : Offering) (before between after : ℕ)
    (middle : ReadState)
    (line : ReadsLine (kind.Offering offering) (to_come middle) text)
    (one : ReadsNoMore before between middle.reader.pieces.ended (to_come middle) text)
    → (middle.reader.pieces.ended ≡ true → after ≡ between)
    → WhereTold (to_come middle) (StopsEntries number between after offering)
    → ReadsBadLine number before after text
ReadsBadLine-later number text offering before between after middle line one once told =
    let stops = told line.rest line.behind_is in
    let count : length stops.read + 1 ≡ length (line.first ∷ stops.read) = omega arith in
    let same = same_rest (to_come middle) line.rest one.rest line.behind_is one.behind_is in
    let here : lines text ≡ (line.first ∷ []) ++ lines one.rest =
    line.lines_are ∙ ap (λ (r : List ℕ). line.first ∷ lines r) same in
    let numbered : length (line.first ∷ []) + (length stops.read + 1) ≡ number =
    omega (arith, stops.number_is) in
    record {
      bad = inr (record {
        front = line.first ∷ stops.read;
        rest = stops.rest;
        offering = offering;
        book = stops.book;
        lines_are = line.lines_are ∙ ap (λ ls. line.first ∷ ls) stops.lines_are;
        front_is = (line.spells, stops.are);
        few = omega (arith, stops.few);
        bad = subst (λ (n : ℕ). IsBadNext offering stops.book n stops.rest) count stops.bad;
        number_is = omega (arith, stops.number_is);
      });
      reads = subst (λ (n : ℕ). ReadsLines n before after text) numbered
          (ReadsLines-more before between after middle.reader.pieces.ended (to_come middle) text one once (line.first ∷ [])
          (length stops.read + 1) here
          (λ t is. subst (ReadsLines (length stops.read + 1) between after)
          (same_rest (to_come middle) line.rest t line.behind_is is) stops.reads));
    }

-- a read has failed before the first line was whole
pub CutsOpen-first : (before after : ℕ) (at : ReadState) (text : List ℕ)
    → to_come at ≡ Some text
    → position is_line_feed (unread at.reader) ≡ None
    → at.reader.pieces.ended ≡ false
    → ReadsLines 1 before after text
    → CutsOpen IsOpenBook before after at.source.left text
CutsOpen-first before after at text is none going reads =
    let cut = cut_parts at text going is in
    record {
      front = [];
      taken = [];
      begun = unread at.reader;
      rest = cut.0;
      left_is = cut.1;
      text_is = cut.2;
      lines_are = ap lines cut.2;
      begun_only = none;
      is_open = tt;
      reads = reads;
    }

-- Behind the offering some entries were read.
module _ (text : List ℕ) (offering : Offering) (before between after : ℕ) (middle : ReadState)
    (line : ReadsLine (kind.Offering offering) (to_come middle) text)
    (one : ReadsNoMore before between middle.reader.pieces.ended (to_come middle) text)
    (once : middle.reader.pieces.ended ≡ true → after ≡ between) where
  -- what follows the offering
  rest-same : line.rest ≡ one.rest
  rest-same = same_rest (to_come middle) line.rest one.rest line.behind_is one.behind_is

  -- no more was read of the whole text than of these lines
  reads-behind : (most : ℕ)
      → ReadsLines most between after line.rest
      → ReadsLines (length (line.first ∷ []) + most) before after text
  reads-behind most reads =
      ReadsLines-more before between after middle.reader.pieces.ended (to_come middle) text one once
      (line.first ∷ []) most
      (line.lines_are ∙ ap (λ (r : List ℕ). line.first ∷ lines r) rest-same)
      (λ t is. subst (ReadsLines most between after) (same_rest (to_come middle) line.rest t line.behind_is is) reads)

  -- memory has run out
  pub LeavesOpen-later : WhereTold (to_come middle) (LeavesOpen (AreSomeEntries offering) between after)
      → LeavesOpen IsOpenBook before after text
  LeavesOpen-later told =
      let leaves = told line.rest line.behind_is in
      let count : length (line.first ∷ []) + (length leaves.front + 1) ≡ length (line.first ∷ leaves.front) + 1 =
      omega arith in
      record {
        front = line.first ∷ leaves.front;
        rest = leaves.rest;
        lines_are = line.lines_are ∙ ap (λ (ls : List (List ℕ)). line.first ∷ ls) leaves.lines_are;
        is_open = (offering, leaves.is_open.0, (line.spells, leaves.is_open.1));
        reads = subst (λ (n : ℕ). ReadsLines n before after text) count
            (reads-behind (length leaves.front + 1) leaves.reads);
      }

  -- a read has failed
  pub CutsOpen-later : (left : Option (List ℕ))
      → WhereTold (to_come middle) (CutsOpen (AreSomeEntries offering) between after left)
      → CutsOpen IsOpenBook before after left text
  CutsOpen-later left told =
      let cuts = told line.rest line.behind_is in
      let count : length (line.first ∷ []) + (length cuts.front + 1) ≡ length (line.first ∷ cuts.front) + 1 =
      omega arith in
      record {
        front = line.first ∷ cuts.front;
        taken = one.taken ++ cuts.taken;
        begun = cuts.begun;
        rest = cuts.rest;
        left_is = cuts.left_is;
        text_is = one.text_is
            ∙ (ap (λ (r : List ℕ). one.taken ++ r) (sym rest-same ∙ cuts.text_is)
            ∙ sym (append_assoc one.taken cuts.taken (cuts.begun ++ cuts.rest)));
        lines_are = line.lines_are ∙ ap (λ (ls : List (List ℕ)). line.first ∷ ls) cuts.lines_are;
        begun_only = cuts.begun_only;
        is_open = (offering, cuts.is_open.0, (line.spells, cuts.is_open.1));
        reads = subst (λ (n : ℕ). ReadsLines n before after text) count
            (reads-behind (length cuts.front + 1) cuts.reads);
      }

-- the offering and the lines up to the end are a book
pub BeginsWithBook-read : (text : List ℕ) (offering : Offering) (book : Book) (behind after : Option (List ℕ))
    → ReadsLine (kind.Offering offering) behind text
    → WhereTold behind (EndsEntries offering book after)
    → BeginsWithBook (lines text) offering book
BeginsWithBook-read text offering book behind after reads told =
    let ends = told reads.rest reads.behind_is in
    record {
      front = reads.first ∷ ends.read;
      last = ends.last;
      rest = lines ends.rest;
      lines_are = reads.lines_are ∙ ap (λ ls. reads.first ∷ ls) ends.lines_are;
      front_is = (reads.spells, ends.are);
      end = ends.end;
      few = omega (arith, ends.few);
    }

-- and no more was read than that
pub ReadsBook-read : (before after : ℕ) (ended : Bool) (text : List ℕ) (offering : Offering) (book : Book)
    (behind rest : Option (List ℕ))
    → ReadsLine (kind.Offering offering) behind text
    → WhereTold behind (EndsEntries offering book rest)
    → ReadsNoMore before after ended rest text
    → ReadsBook before after offering book text
unfolding BeginsWithBook-read
ReadsBook-read before after ended text offering book behind rest line told few =
    let ends = told line.rest line.behind_is in
    let same = same_rest rest ends.rest few.rest ends.behind_is few.behind_is in
    let front = line.first ∷ ends.read in
    let begins = BeginsWithBook-read text offering book behind rest line told in
    record {
      begins = begins;
      reads = ReadsLines-whole before after ended rest text (front ++ ends.last ∷ []) (length front + 1) few
          (begins.lines_are
          ∙ (ap (λ (after : List ℕ). front ++ ends.last ∷ lines after) same
          ∙ sym (append_assoc front (ends.last ∷ []) (lines few.rest))))
          (omega (arith, length-append front (ends.last ∷ [])));
    }

-- the lines before a book's end leave it open
open_front : (front : List (List ℕ)) (offering : Offering) (book : Book) → IsFront front offering book → IsOpenBook front
open_front [] offering book is = absurd is
open_front (first ∷ texts) offering book is = (offering, book, is)

-- a book was read to its end, and no further
pub LeavesOpen-book : (before after : ℕ) (offering : Offering) (book : Book) (text : List ℕ)
    → ReadsBook before after offering book text
    → LeavesOpen IsOpenBook before after text
LeavesOpen-book before after offering book text reads = record {
  front = reads.begins.front;
  rest = reads.begins.last ∷ reads.begins.rest;
  lines_are = reads.begins.lines_are;
  is_open = open_front reads.begins.front offering book reads.begins.front_is;
  reads = reads.reads;
}

-- nothing has been read behind the offering
pub HasEntries-start : (offering : Offering) (ahead : Option (List ℕ))
    → WhereTold ahead (HasEntries 1 offering empty_book ahead)
HasEntries-start offering ahead text is = record {
  read = [];
  rest = text;
  behind_is = is;
  lines_are = refl;
  are = refl;
  size = refl;
}

-- what every line that is spelled has
pub IsSoundOffering-line : (offering : Offering) → IsLine (kind.Offering offering) → IsSoundOffering offering
IsSoundOffering-line offering line = offering_of (fields line.0) offering line.1.says
  where
    offering_of : (texts : List (List ℕ)) (o : Offering) → Says texts (kind.Offering o) → IsSoundOffering o
    offering_of [] o says = absurd says
    offering_of (word ∷ texts) o says = record { amount = says.1.amount; floor = says.1.floor }

-- a bid that was read is of at most 10^12
pub amount-line : (bid : Bid) → IsLine (kind.Entry (entry.Bid bid)) → bid.amount.value ≤ 10 ^ 12
amount-line bid line = amount_of (fields line.0) line.1.says
  where
    amount_of : (texts : List (List ℕ)) → Says texts (kind.Entry (entry.Bid bid)) → bid.amount.value ≤ 10 ^ 12
    amount_of [] says = absurd says
    amount_of (word ∷ texts) says = says.amount.within

-- an entry more brings at most one bidder more
pub Adds-size : (offering : Offering) (old new : Book) (entry : Entry)
    → Adds offering old entry new
    → length new.entries ≡ length old.entries + 1
Adds-size offering old new entry adds = omega (
  arith,
  ap length adds.entries,
  length-append old.entries (record {
    bidder = adds.bidder;
    entry = entry;
  } ∷ []),
)

-- an entry brings at most one name
names_more : (name : List ℕ) (old : List (List ℕ)) (number : ℕ) (new : List (List ℕ))
    → GetsNumber name old number new
    → length new ≤ length old + 1
names_more name old number new gets = elim gets [
  | inl known ↦ omega (arith, ap length known.1)
  | inr added ↦ omega (arith, ap length added.2, length-append old (name ∷ []))
]

-- so does one that is added to a book
pub Adds-names : (offering : Offering) (old new : Book) (entry : Entry)
    → Adds offering old entry new
    → length new.names ≤ length old.names + 1
Adds-names offering old new entry adds = names_more (name_of entry) old.names adds.bidder new.names adds.numbered
