use Rattle.std.proofs.Common.{arith, ◌≡◌, pos, ap, ◌∙◌, ℤ, ◌*ℤ◌, w64, to_z, of_z}
use Rattle.std.specs.Prelude.{IsOk}
use Rattle.jiff.specs.Words.{epoch_day, plain_zone, time_nanos}
use Rattle.jiff_core.specs.declared.civil.date.Date.{Date}
use Rattle.jiff_core.proofs.SignedLemmas.{signed_arith}
use Rattle.tb_terms.specs.Zone.{start_in_zone}
use Rattle.tb_terms.proofs.EasternRule.{instant_is, start_bounds, whole_seconds, comes_back}
use Rattle.tb_terms.proofs.zone.start_of_date.Goals as goal

pub returns-in_err-moment-clause-there : goal.returns-in_err-moment-clause-there
returns-in_err-moment-clause-there c =
    let dt = c.to_datetime.result in
    let at =
    instant_is (plain_zone c.args.zone.now) dt c.requires.eastern
    (ap time_nanos c.to_datetime.ensures.time ∙ c.midnight.ensures) in
    let same = c.to_datetime.ensures.date in
    let bounds = rw (← same) at (start_bounds c.args.date c.requires.year) in
    let ok : IsOk c.to_timestamp.result =
    c.to_timestamp.ensures.succeeds.1
    (omega (arith, signed_arith, at, bounds), omega (arith, signed_arith, at, bounds)) in
    let was = c.in_err-moment.was in
    let bad = rw was at ok in
    cc (bad)

pub returns-clause-start : goal.returns-clause-start
returns-clause-start c =
    let dt = c.to_datetime.result in
    let at =
    instant_is (plain_zone c.args.zone.now) dt c.requires.eastern
    (ap time_nanos c.to_datetime.ensures.time ∙ c.midnight.ensures) in
    let same = c.to_datetime.ensures.date in
    let value =
    c.in_ok-moment.ensures.value
    ∙ at ∙ ap (λ (d : Date). start_in_zone d.year (epoch_day d) *ℤ pos 1_000_000_000) same in
    let bounds = start_bounds c.args.date c.requires.year in
    let whole : c.as_second.result ≡ start_in_zone c.args.date.year (epoch_day c.args.date) =
    c.as_second.ensures ∙ whole_seconds c.in_ok-moment.moment.nanosecond
    (start_in_zone c.args.date.year (epoch_day c.args.date)) value bounds.0 in
    ap (λ (z : ℤ). to_z w64 (of_z w64 z)) whole
    ∙ comes_back (start_in_zone c.args.date.year (epoch_day c.args.date)) bounds.0 bounds.1
