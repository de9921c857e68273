-- Words and rows that are put one behind the other make lines.
use Rattle.std.proofs.Common.{◌≡◌, ℕ, List, [], ◌∷◌, ◌++◌, map, append_assoc, sym, ap, ◌∙◌}
use Rattle.std.proofs.lemmas.List.{map-append}
use Rattle.std.specs.Fmt.{decimal}
use Rattle.tb_units.specs.Bytes.{blank, line_feed}
use Rattle.tb_terms.specs.Texts.{day_text}
use Rattle.tb_message.specs.Verdicts.{spaced}
use Rattle.tb_report.specs.Lines.{Words, line, text_of}
use Rattle.tb_report.proofs.Texts.{lines-more}
use Rattle.tb_register.specs.Rows.{Kept, kept}
use Rattle.tb_register.specs.declared.row.Row.{Row}
use Rattle.tb_filing.specs.Texts.{figure_words, row_words}

-- a word and then more of them are the words together
words-together : (text word : List ℕ) (words : Words)
    → (text ++ blank ∷ word) ++ spaced words ≡ text ++ spaced (word ∷ words)
words-together text word words = append_assoc text (blank ∷ word) (spaced words)

-- five words and then more of them, put one behind the other, are a line
words-line : (old named issued matured offered awarded figured : List ℕ)
    (name issue maturity offering total : List ℕ) (figures : Words)
    → named ≡ old ++ name
    → issued ≡ named ++ blank ∷ issue
    → matured ≡ issued ++ blank ∷ maturity
    → offered ≡ matured ++ blank ∷ offering
    → awarded ≡ offered ++ blank ∷ total
    → figured ≡ awarded ++ spaced figures
    → figured ++ line_feed ∷ [] ≡ old ++ line (name ∷ issue ∷ maturity ∷ offering ∷ total ∷ figures)
words-line old named issued matured offered awarded figured name issue maturity offering total figures is_name is_issue
    is_maturity is_offering is_total is_figures =
    let behind_name : Words = issue ∷ maturity ∷ offering ∷ total ∷ figures in
    let all : figured ≡ named ++ spaced behind_name =
    is_figures
    ∙ ap (λ text. text ++ spaced figures) is_total
    ∙ words-together offered total figures
    ∙ ap (λ text. text ++ spaced (total ∷ figures)) is_offering
    ∙ words-together matured offering (total ∷ figures)
    ∙ ap (λ text. text ++ spaced (offering ∷ total ∷ figures)) is_maturity
    ∙ words-together issued maturity (offering ∷ total ∷ figures)
    ∙ ap (λ text. text ++ spaced (maturity ∷ offering ∷ total ∷ figures)) is_issue
    ∙ words-together named issue (maturity ∷ offering ∷ total ∷ figures) in
    ap (λ text. text ++ line_feed ∷ [])
    (all ∙ ap (λ text. text ++ spaced behind_name) is_name ∙ append_assoc old name (spaced behind_name))
    ∙ append_assoc old (name ++ spaced behind_name) (line_feed ∷ [])

-- so are those of a row
pub row-line : (row : Kept) (old named issued matured offered awarded figured : List ℕ)
    → named ≡ old ++ row.auction
    → issued ≡ named ++ blank ∷ day_text row.issue
    → matured ≡ issued ++ blank ∷ day_text row.maturity
    → offered ≡ matured ++ blank ∷ decimal row.offering
    → awarded ≡ offered ++ blank ∷ decimal row.total
    → figured ≡ awarded ++ spaced (figure_words row.figures)
    → figured ++ line_feed ∷ [] ≡ old ++ line (row_words row)
row-line row old named issued matured offered awarded figured =
    words-line old named issued matured offered awarded figured row.auction (day_text row.issue) (day_text row.maturity)
    (decimal row.offering) (decimal row.total) (figure_words row.figures)

-- a row's line behind those of the rows before it
pub rows-more : (old : List ℕ) (rows : List Row) (row : Row)
    → (old ++ text_of (map row_words (map kept rows))) ++ line (row_words (kept row))
    ≡ old ++ text_of (map row_words (map kept (rows ++ row ∷ [])))
rows-more old rows row =
    lines-more row_words old (map kept rows) (kept row)
    ∙ ap (λ all. old ++ text_of (map row_words all)) (sym (map-append kept rows (row ∷ [])))
