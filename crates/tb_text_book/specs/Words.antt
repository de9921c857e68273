-- The words that lines of a book begin with.
use Rattle.std.specs.Prelude.{ℕ, List, codes}
use Rattle.tb_text_book.specs.declared.word.Word.{Word}
use Rattle.tb_text_book.specs.declared.word.Word.TheVariants as words

-- how the word is spelled
abbrev pub spelling_of : Word → List ℕ
spelling_of words.Offering = codes "offering"
spelling_of words.Noncompetitive = codes "n"
spelling_of words.Competitive = codes "c"
spelling_of words.Position = codes "p"
spelling_of words.End = codes "end"
