-- Values are told by their numbers and texts: equal numbers and texts, equal values.
use Rattle.std.specs.Prelude.{◌≡◌}
use Rattle.tb_units.specs.Same.{same_dollars, same_day}
use Rattle.tb_terms.specs.declared.cusip.Cusip.{Cusip}
use Rattle.tb_terms.specs.declared.announcement.Announcement.{Announcement}

-- CUSIPs of the same bytes are one
pub same_cusip : (one other : Cusip) → one.bytes ≡ other.bytes → one ≡ other
same_cusip one other same = λ i. record { bytes = same i }

-- two announcements agree in each of their numbers and texts
pub record AgreeInAll (one other : Announcement) : Type 0 where
  pub auction : one.auction ≡ other.auction
  pub cusip : one.cusip.bytes ≡ other.cusip.bytes
  pub offering : one.offering.value ≡ other.offering.value
  pub minimum : one.minimum.value ≡ other.minimum.value
  pub ceiling : one.nc_ceiling.value ≡ other.nc_ceiling.value
  pub floor : one.competitive_floor.value ≡ other.competitive_floor.value
  pub threshold : one.nlp_threshold.value ≡ other.nlp_threshold.value
  pub date : one.auction_date.number ≡ other.auction_date.number
  pub noncompetitive_close : one.nc_close ≡ other.nc_close
  pub competitive_close : one.c_close ≡ other.c_close
  pub issued : one.issue.number ≡ other.issue.number
  pub matures : one.maturity.number ≡ other.maturity.number

-- then they are one
pub same_announcement : (one other : Announcement) → AgreeInAll one other → one ≡ other
same_announcement one other agree = λ i. record {
  auction = agree.auction i;
  cusip = same_cusip one.cusip other.cusip agree.cusip i;
  offering = same_dollars one.offering other.offering agree.offering i;
  minimum = same_dollars one.minimum other.minimum agree.minimum i;
  nc_ceiling = same_dollars one.nc_ceiling other.nc_ceiling agree.ceiling i;
  competitive_floor = same_dollars one.competitive_floor other.competitive_floor agree.floor i;
  nlp_threshold = same_dollars one.nlp_threshold other.nlp_threshold agree.threshold i;
  auction_date = same_day one.auction_date other.auction_date agree.date i;
  nc_close = agree.noncompetitive_close i;
  c_close = agree.competitive_close i;
  issue = same_day one.issue other.issue agree.issued i;
  maturity = same_day one.maturity other.maturity agree.matures i;
}
