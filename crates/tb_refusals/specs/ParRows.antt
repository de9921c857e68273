-- The rows of a release as the accounts have them.
use Rattle.std.specs.Prelude.{ℕ, ◌==◌, true, not, nat_lt, Option, Some, None, List, [], ◌∷◌}
use Rattle.tb_terms.specs.declared.refusal.Refusal.TheVariants as refusal
use Rattle.tb_terms.specs.Rows.{Row}
use Rattle.tb_rules.specs.BidRule.{is_no_par}
use Rattle.tb_holdings.specs.declared.mark.Mark.{Mark}

-- the mark that is found, the caller's number and the amount
abbrev pub kept_rows : Option Mark → ℕ → ℕ → List Row
kept_rows None caller amount = (refusal.UnknownPledge, true) ∷ []
kept_rows (Some mark) caller amount =
    (refusal.NotPledgee, not (caller == mark.pledgee))
    ∷ (refusal.MoreThanPledged mark.left, nat_lt mark.left.value amount)
    ∷ []

-- behind that of the amount
abbrev pub kept_release_rows : Option Mark → ℕ → ℕ → List Row
kept_release_rows found caller amount = (refusal.NotMultiple, is_no_par amount) ∷ kept_rows found caller amount
