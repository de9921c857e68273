-- The closings of an auction as moments.
use Rattle.std.specs.Prelude.{◌≡◌}
use Rattle.std.proofs.Common.{ap, sym, ◌∙◌}
use Rattle.tb_units.specs.declared.moment.Moment.{Moment}
use Rattle.tb_units.specs.Moments.{moment_of, moment_of-seconds}
use Rattle.tb_terms.specs.declared.announcement.Announcement.{Announcement}
use Rattle.tb_terms.specs.declared.terms.Terms.{Terms}
use Rattle.tb_terms.specs.Eastern.{closing_of}

-- the moment from which on noncompetitive bids are late
abbrev pub nc_closing : Announcement → Moment
nc_closing a = moment_of (closing_of a.auction_date.number a.nc_close)

-- the moment from which on competitive bids and reports of positions are late
abbrev pub c_closing : Announcement → Moment
c_closing a = moment_of (closing_of a.auction_date.number a.c_close)

-- terms have the noncompetitive closing of their announcement
pub nc_closing-terms : (terms : Terms) → nc_closing terms.announcement ≡ terms.nc_moment
nc_closing-terms terms = ap moment_of (sym terms.noncompetitive) ∙ moment_of-seconds terms.nc_moment

-- and its competitive closing
pub c_closing-terms : (terms : Terms) → c_closing terms.announcement ≡ terms.c_moment
c_closing-terms terms = ap moment_of (sym terms.competitive) ∙ moment_of-seconds terms.c_moment
