-- The register as a text.
use Rattle.std.specs.Prelude.{ℕ, List, [], ◌∷◌, map, codes, Option, Some, None}
use Rattle.std.specs.Fmt.{decimal}
use Rattle.tb_units.specs.Decimals.{rate_text, percent_text, price_text}
use Rattle.tb_terms.specs.Texts.{day_text}
use Rattle.tb_report.specs.Lines.{Words, text_of}
use Rattle.tb_register.specs.Rows.{Kept, KeptFigures}

-- the stop-out rate, what was awarded at it, and the price; a hyphen for each where nobody got an award
abbrev pub figure_words : Option KeptFigures → Words
figure_words None = codes "-" ∷ codes "-" ∷ codes "-" ∷ []
figure_words (Some figures) =
    rate_text figures.high ∷ percent_text figures.percent ∷ price_text figures.price ∷ []

-- a row as a line
abbrev pub row_words : Kept → Words
row_words row =
    row.auction ∷ day_text row.issue ∷ day_text row.maturity ∷ decimal row.offering ∷ decimal row.total
    ∷ figure_words row.figures

-- so many rows were added and so many were there, and these rows
abbrev pub register_lines : ℕ → ℕ → List Kept → List Words
register_lines added present rows =
    (codes "added" ∷ decimal added ∷ []) ∷ (codes "present" ∷ decimal present ∷ []) ∷ map row_words rows

abbrev pub register_text : ℕ → ℕ → List Kept → List ℕ
register_text added present rows = text_of (register_lines added present rows)
