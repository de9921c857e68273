-- The text of an auction's terms.
use Rattle.std.specs.Prelude.{List, [], ◌∷◌, ◌++◌, codes}
use Rattle.std.specs.Fmt.{decimal}
use Rattle.tb_terms.specs.Texts.{day_text, minute_text}
use Rattle.tb_terms.specs.declared.announcement.Announcement.{Announcement}
use Rattle.tb_report.specs.Lines.{Words}

-- what is offered
abbrev pub offer_lines : Announcement → List Words
offer_lines a =
    (codes "auction" ∷ a.auction ∷ [])
    ∷ (codes "cusip" ∷ a.cusip.bytes ∷ [])
    ∷ (codes "offering" ∷ decimal a.offering.value ∷ [])
    ∷ (codes "minimum" ∷ decimal a.minimum.value ∷ [])
    ∷ (codes "ceiling" ∷ decimal a.nc_ceiling.value ∷ [])
    ∷ (codes "floor" ∷ decimal a.competitive_floor.value ∷ [])
    ∷ (codes "threshold" ∷ decimal a.nlp_threshold.value ∷ [])
    ∷ []

-- and when
abbrev pub date_lines : Announcement → List Words
date_lines a =
    (codes "date" ∷ day_text a.auction_date.number ∷ [])
    ∷ (codes "nc_close" ∷ minute_text a.nc_close ∷ [])
    ∷ (codes "c_close" ∷ minute_text a.c_close ∷ [])
    ∷ (codes "issue" ∷ day_text a.issue.number ∷ [])
    ∷ (codes "maturity" ∷ day_text a.maturity.number ∷ [])
    ∷ []

-- the terms, a line each
abbrev pub terms_lines : Announcement → List Words
terms_lines a = offer_lines a ++ date_lines a
